use Rattle.ftd_machine.proofs.Soundness.{reached_sound}
use Rattle.ftd_read_back.proofs.Desks.{agenda_told, owed_told, due_told, payments_told}
use Rattle.ftd_read_back.proofs.DesksKept.{accounts_told, days_told, due_sums_told, holidays_told}
use Rattle.ftd_read_back.proofs.DesksKept.{runs_told, totals_told, unapplied_told, years_told}
use Rattle.ftd_read_back.proofs.DesksExplained.{explained_told, schedule_told}
use Rattle.ftd_read_back.proofs.laws.answered_rows_are_in_range.Goals as goal

pub returns : goal.returns
returns c = record {
  agenda = λ s from to as_of rows next reached step.
      agenda_told s from to as_of rows next (reached_sound s reached) step;
  owed = λ s until as_of rows next reached step.
      owed_told s until as_of rows next (reached_sound s reached) step;
  due = λ s account quarter as_of rows next reached step.
      (let sound = reached_sound s reached in
      let own = due_told s account quarter as_of rows next sound step in
      let sums = due_sums_told s sound next account quarter as_of rows step in
      (own.0, own.1, sums.0, sums.1));
  payments = λ s account quarter listed next reached step.
      payments_told s account quarter listed next (reached_sound s reached) step;
  runs = λ s account quarter listed next reached step.
      runs_told s (reached_sound s reached) next account quarter listed step;
  accounts = λ s listed next reached step.
      accounts_told s (reached_sound s reached) next listed step;
  years = λ s account listed next reached step.
      years_told s (reached_sound s reached) next account listed step;
  reported = λ s account listed next reached step.
      totals_told s (reached_sound s reached) next account listed step;
  holidays = λ s year listed next reached step.
      holidays_told s (reached_sound s reached) next year listed step;
  unapplied = λ s until rows next reached step.
      unapplied_told s (reached_sound s reached) next until rows step;
  by_day = λ s account quarter sums next reached step.
      days_told s (reached_sound s reached) next account quarter sums step;
  schedule = λ s account day kind why next reached step.
      schedule_told s (reached_sound s reached) account day kind why next step;
  explained = λ s account day found next reached step.
      explained_told s (reached_sound s reached) account day found next step;
}
