-- A patch that is right by some holidays is right by all, where each of its obligations has the
-- same due date by both.
use Rattle.std.proofs.Common.{◌≡◌, ℕ, ◌≤◌, List, sym, subst, arith}
use Rattle.ftd_days.specs.Calendar.{last_day}
use Rattle.ftd_rules.specs.declared.Form.{Form}
use Rattle.ftd_rules.specs.declared.Obligation.{Obligation}
use Rattle.ftd_rules.specs.Laws.{EqualHolidays}
use Rattle.ftd_rules.specs.Private.Due.{IsDueBy}
use Rattle.ftd_rules.proofs.Covering.{within_period, line_is}
use Rattle.ftd_rules.proofs.DueDates.{due_some, due_one}
use Rattle.ftd_rules.proofs.Resting.{due_same, from_later}
use Rattle.ftd_rules.proofs.Schedules.{year_facts}
use Rattle.ftd_rules.proofs.Stated.{piece_owed, due_by, due_stated}
use Rattle.ftd_buckets.specs.declared.Patch.{Patch}
use Rattle.ftd_buckets.specs.Histories.{History, IsHistory}
use Rattle.ftd_buckets.specs.Patches.{IsOwed, Replaces}
use Rattle.ftd_posting.proofs.Differing.{BeginsElsewhere}
use Rattle.ftd_entries.proofs.OwedAgain.{owed_again}

-- the last day of an obligation is a day
pub last_is_day : (form : Form) (h : History) (holidays : List ℕ) (o : Obligation) → IsHistory h
    → IsOwed form h holidays o → o.last ≤ last_day
last_is_day form h holidays o are owed =
    let is = piece_owed form h.lines h.sums holidays o owed in
    let y = line_is h.lines h.sums is.line are is.open_year in
    let f = year_facts is.line.year y.0 y.1 in
    let f2 = f.2 in
    let inside = within_period form h.lines h.sums holidays o is in
    let i2 = inside.2 in
    let p2 = is.period.2 in
    omega arith

-- the due date by holidays that are equal up to it
due_too : (some all : List ℕ) (o : Obligation) (due : ℕ) → o.last ≤ last_day
    → EqualHolidays o.last due some all → IsDueBy some o.rule o.last due
    → IsDueBy all o.rule o.last due
due_too some all o due within same is =
    let from = from_later o.rule o.last within in
    due_same some all o.rule o.last due due (λ day a b. same day (omega arith) b) (omega arith) is

-- what stays, stays by whatever holidays
stays_by : (form : Form) (before after : History) (some all : List ℕ) (from to : ℕ)
    → ((o : Obligation) → BeginsElsewhere from to o → IsOwed form before some o
    → IsOwed form after some o)
    → (o : Obligation) → BeginsElsewhere from to o → IsOwed form before all o
    → IsOwed form after all o
stays_by form before after some all from to same o apart owed =
    let due = due_some some o.rule o.last in
    let p : Obligation = record o { due = due.0 } in
    let found : IsOwed form before some p =
    owed_again form before.lines before.sums all some o due.0
    (due_stated some o.rule o.last due.0 due.1) owed in
    owed_again form after.lines after.sums some all p o.due owed.due (same p apart found)

pub replaces_by_all : (form : Form) (before after : History) (some all : List ℕ) (patch : Patch)
    → IsHistory after
    → ((o : Obligation) → patch.from ≤ o.first → IsOwed form after all o
    → EqualHolidays o.last o.due some all)
    → Replaces form before after some patch → Replaces form before after all patch
replaces_by_all form before after some all patch are agree p = record {
  rows = record {
    by_first_day = p.rows.by_first_day;
    all = λ o. (
      (λ has.
          (let k = (p.rows.all o).0 has in
          let due = due_some all o.rule o.last in
          let other : Obligation = record o { due = due.0 } in
          let owed : IsOwed form after all other =
          owed_again form after.lines after.sums some all o due.0
          (due_stated all o.rule o.last due.0 due.1) k.0 in
          let by_some : IsDueBy some o.rule o.last due.0 =
          due_too all some other due.0 (last_is_day form after some o are k.0)
          (λ d a b. sym (agree other k.1 owed d a b)) due.1 in
          let one : due.0 ≡ o.due = due_one some o.rule o.last due.0 o.due by_some
          (due_by some o.rule o.last o.due k.0.due) in
          (subst (λ d. IsOwed form after all (record o { due = d })) one owed, k.1, k.2))),
      (λ k.
          (let is = k.0 in
          let by_some : IsDueBy some o.rule o.last o.due =
          due_too all some o o.due (last_is_day form after all o are is)
          (λ d a b. sym (agree o k.1 is d a b)) (due_by all o.rule o.last o.due is.due) in
          (p.rows.all o).1 (
            owed_again form after.lines after.sums all some o o.due
                (due_stated some o.rule o.last o.due by_some) is,
            k.1,
            k.2,
          ))),
    );
  };
  years = p.years;
  elsewhere = λ o apart. (
    stays_by form before after some all patch.from patch.to (λ q a. (p.elsewhere q a).0) o apart,
    stays_by form after before some all patch.from patch.to (λ q a. (p.elsewhere q a).1) o apart,
  );
}
