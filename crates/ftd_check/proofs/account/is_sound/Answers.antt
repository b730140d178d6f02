use Rattle.std.proofs.Common.{◌∙◌, ℕ, sym, subst, List, [], map}
use Rattle.std.specs.List.Sorted.{IsPermutation}
use Rattle.std.proofs.lemmas.Bool.{false≢true}
use Rattle.ftd_days.specs.Holidays.{holidays_of}
use Rattle.ftd_rules.specs.declared.Obligation.{Obligation}
use Rattle.ftd_rules.specs.declared.YearLine.{YearLine}
use Rattle.ftd_rules.specs.Lists.{KeysRise}
use Rattle.ftd_rules.specs.Obligations.{ByFirstDay}
use Rattle.ftd_store.specs.declared.year_cells.StoredYear.{StoredYear}
use Rattle.ftd_machine.specs.History.{year_of_line}
use Rattle.ftd_sound.specs.Entered.{entries_in}
use Rattle.ftd_check.specs.Account.{stored_of}
use Rattle.ftd_check.proofs.AccountSound.{lines_rise, found_lines, found_sound, found_owed, if_ok}
use Rattle.ftd_check.proofs.AccountSound.{lines_too, owed_too, none_sound}
use Rattle.ftd_check.proofs.account.is_sound.Goals as goal

pub returns-in_default : goal.returns-in_default
returns-in_default c = λ name. (
  (λ no. absurd (false≢true no)),
  (λ is. absurd (none_sound c.args.given.now c.args.rows.now.own c.in_ok-found.field-0
      c.in_default.is c.in_ok-found.ensures.unsound name is.sound)),
)

pub are_lines-requires : goal.are_lines-requires
are_lines-requires c =
    let own = c.args.rows.now.own in
    let found = c.in-Some.found in
    subst (λ (ls : List YearLine). KeysRise year_of_line ls) (sym c.as_slice.ensures)
    (lines_rise (entries_in [] own) found.years
    (found_lines own c.in_ok-found.field-0 found c.in-Some.is c.in_ok-found.ensures.years []))

pub returns-then-not-branch : goal.returns-then-not-branch
returns-then-not-branch c =
    let rows = c.args.rows.now in
    let holidays : List ℕ = holidays_of c.args.holidays.now in
    let found = c.in-Some.found in
    λ name. (
      (λ no. absurd (false≢true no)),
      (λ is. absurd (
          let are = found_lines rows.own c.in_ok-found.field-0 found c.in-Some.is
          c.in_ok-found.ensures.years name in
          let owed = found_owed holidays rows.own c.in_ok-found.field-0 found c.in-Some.is
          c.in_ok-found.ensures.rows name in
          let there = lines_too name c.args.given.now holidays rows found.years found.rows are owed
          is in
          let there2 = subst
          (λ (ys : List StoredYear). IsPermutation ys (map stored_of found.years))
          (sym c.deref.ensures.value) there in
          let there3 = subst (λ (ls : List YearLine). IsPermutation c.deref.result.now
          (map stored_of ls)) (sym c.as_slice.ensures) there2 in
          false≢true (sym c.if-not-branch.true ∙ c.in_ok-are_lines.ensures.1 there3))),
    )

pub are_owed-requires : goal.are_owed-requires
are_owed-requires c =
    let own = c.args.rows.now.own in
    let found = c.in-Some.found in
    let owed = found_owed (holidays_of c.args.holidays.now) own c.in_ok-found.field-0 found
    c.in-Some.is c.in_ok-found.ensures.rows [] in
    subst (λ (os : List Obligation). ByFirstDay os) (sym c.as_slice-2.ensures) owed.by_first_day

pub returns : goal.returns
returns c =
    let rows = c.args.rows.now in
    let given = c.args.given.now in
    let holidays : List ℕ = holidays_of c.args.holidays.now in
    let found = c.in-Some.found in
    let stored_lines = c.in_ok-are_lines.ensures.0 c.if-not-branch.false in
    let stored_lines2 = subst (λ (ys : List StoredYear). IsPermutation ys
    (map stored_of c.as_slice.result.now)) c.deref.ensures.value stored_lines in
    let stored_lines3 : IsPermutation rows.years.items (map stored_of found.years) =
    subst (λ (ls : List YearLine). IsPermutation rows.years.items (map stored_of ls))
    c.as_slice.ensures stored_lines2 in
    if_ok _ _ c.are_owed.result
    (λ are tells name. (
      (λ is. (
          let there = subst (λ (os : List Obligation). IsPermutation os c.as_slice-2.result.now)
          c.deref-2.ensures.value (tells.0 is) in
          let there2 : IsPermutation rows.obligations.items found.rows =
          subst (λ (os : List Obligation). IsPermutation rows.obligations.items os)
          c.as_slice-2.ensures there in
          record {
            sound = found_sound given rows.own c.in_ok-found.field-0 found c.in-Some.is
                c.in_ok-found.ensures.sound name;
            lines = found.years;
            are_lines = found_lines rows.own c.in_ok-found.field-0 found c.in-Some.is
                c.in_ok-found.ensures.years name;
            owed = found.rows;
            are_owed = found_owed holidays rows.own c.in_ok-found.field-0 found c.in-Some.is
                c.in_ok-found.ensures.rows name;
            stored_lines = stored_lines3;
            stored_owed = there2;
          })),
      (λ is.
          let are_lines = found_lines rows.own c.in_ok-found.field-0 found c.in-Some.is
          c.in_ok-found.ensures.years name in
          let owed = found_owed holidays rows.own c.in_ok-found.field-0 found c.in-Some.is
          c.in_ok-found.ensures.rows name in
          let there = owed_too name given holidays rows found.years found.rows are_lines owed is in
          tells.1 (subst (λ (os : List Obligation). IsPermutation os c.as_slice-2.result.now)
          (sym c.deref-2.ensures.value)
          (subst (λ (os : List Obligation). IsPermutation rows.obligations.items os)
          (sym c.as_slice-2.ensures) there))),
    )) c.are_owed.ensures
