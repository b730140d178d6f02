-- In a sound state the amounts of a due list, and those of the days of Schedule B, are together
-- below the end.
use Rattle.std.proofs.Common.{◌≡◌, inl, inr, ap, ℕ, ◌<◌, List, arith}
use Rattle.std.specs.List.{sum_by}
use Rattle.std.proofs.lemmas.Bool.{cases_lt}
use Rattle.ftd_rules.specs.declared.TheConstants.{AMOUNTS_END}
use Rattle.ftd_rules.specs.declared.Obligation.{Obligation}
use Rattle.ftd_rules.specs.declared.verdict.DueRow.{DueRow}
use Rattle.ftd_rules.specs.Lists.{Has}
use Rattle.ftd_rules.specs.Liability.{cents_of}
use Rattle.ftd_rules.specs.Verdicts.{amount_of}
use Rattle.ftd_rules.specs.Private.Obligations.{IsOwedPiece}
use Rattle.ftd_rules.proofs.Stated.{rows_owed}
use Rattle.ftd_rules.proofs.Covering.{within_period, covering_one}
use Rattle.ftd_machine.specs.State.{State, holidays, entries_of}
use Rattle.ftd_machine.specs.History.{form_of, live_sums}
use Rattle.ftd_machine.specs.Asking.{IsDueList, first_of_row, IsScheduleB, day_of_sum}
use Rattle.ftd_machine.specs.Checks.{Answer}
use Rattle.ftd_machine.specs.Sound.{IsSound}
use Rattle.ftd_machine.proofs.Small.{liability_small}
use Rattle.ftd_machine.proofs.Stretches.{LieApart, together_le}

abbrev last_of_row : DueRow → ℕ
last_of_row row = row.obligation.last

module _ (s : State) (name : List ℕ) (sound : IsSound s) where
  -- the obligations of a due list lie apart, each with its liability
  pub due_list_small : (quarter as_of : ℕ) (answer : Answer)
      → (h : IsDueList (holidays s) (entries_of s name) name quarter as_of answer)
      → sum_by amount_of h.listed < AMOUNTS_END
  due_list_small quarter as_of answer h =
      let own = entries_of s name in
      let form = form_of own.account in
      let sums = live_sums own in
      let lines = h.owed.0 in
      let are = h.owed.1.schedules in
      let pieces = rows_owed form lines sums (holidays s) h.rows h.owed.2 in
      let piece : (row : DueRow) → Has h.listed row
      → IsOwedPiece form lines sums (holidays s) row.obligation =
      λ row has. (pieces.all row.obligation).0 ((h.all row).0 has).owed in
      let apart : LieApart first_of_row last_of_row amount_of sums h.listed =
      λ x y has_x has_y earlier. elim (cases_lt x.obligation.last y.obligation.first) [
        | inl less ↦ less
        | inr more ↦
            let w = within_period form lines sums (holidays s) y.obligation (piece y has_y) in
            let w1 = w.1 in
            let one : x.obligation ≡ y.obligation =
            covering_one form lines sums (holidays s) y.obligation.first x.obligation
            y.obligation are (piece x has_x) (piece y has_y) (omega arith, more)
            (omega arith, w1) in
            absurd (let same : first_of_row x ≡ first_of_row y =
            ap (λ (o : Obligation). o.first) one in omega arith)
      ] in
      let sum = together_le first_of_row last_of_row amount_of sums h.listed h.by_first_day apart
      (λ row has.
      (let its = piece row has in
      ((within_period form lines sums (holidays s) row.obligation its).1, its.amount))) in
      let sum1 = sum.1 in
      let small = liability_small s name sound 0 sum.0 in
      omega arith

  -- the days of Schedule B differ, each with its liability
  pub days_small : (quarter : ℕ) (answer : Answer)
      → (h : IsScheduleB (entries_of s name) name quarter answer)
      → sum_by cents_of h.listed < AMOUNTS_END
  days_small quarter answer h =
      let sums = live_sums (entries_of s name) in
      let apart : LieApart day_of_sum day_of_sum cents_of sums h.listed =
      λ x y has_x has_y earlier. earlier in
      let sum = together_le day_of_sum day_of_sum cents_of sums h.listed h.by_day apart
      (λ x has. (omega arith, ((h.all x).0 has).1)) in
      let sum1 = sum.1 in
      let small = liability_small s name sound 0 sum.0 in
      omega arith
