use Rattle.std.proofs.Common.{rules, ◌≡◌, ◌++◌, ◌≤◌, ◌∙◌, ℕ, List, take, length, Ok, sym, subst}
use Rattle.std.proofs.Common.{arith}
use Rattle.std.proofs.Math.Seq.{take-append_seam}
use Rattle.ftd_days.specs.Holidays.{holidays_of}
use Rattle.ftd_rules.specs.declared.DaySum.{DaySum}
use Rattle.ftd_rules.specs.declared.Obligation.{Obligation}
use Rattle.ftd_rules.specs.declared.YearLine.{YearLine}
use Rattle.ftd_sql.specs.Standing.{Tables}
use Rattle.ftd_store.specs.Changes.{with_run}
use Rattle.ftd_store.specs.Frame.{Rewrites}
use Rattle.ftd_store.proofs.Turning.{writes_turn, turns_then}
use Rattle.ftd_machine.specs.Posting.{AreOnOtherSchedules}
use Rattle.ftd_repairs.specs.Repaired.{RepairsBy}
use Rattle.ftd_repairs.specs.Replaced.{AreBetween}
use Rattle.ftd_repairs.specs.Rescheduled.{HasLines}
use Rattle.ftd_repairs.specs.Reposted.{Places}
use Rattle.ftd_repairs.specs.declared.ledgers.Ledger.{Ledger}
use Rattle.ftd_repairs.proofs.ledgers.Ledger.add.Goals as goal

-- what is written back for a vector of as many items
all_of : (n : ℕ) (xs ys : List YearLine) → length xs ≡ n → take n (xs ++ ys) ≡ xs
all_of n xs ys count = rw (← count) (take-append_seam xs ys)

pub returns-clause-call : goal.returns-clause-call
returns-clause-call g c =
    let name = c.args.account.now in
    let form = c.args.form in
    let day = c.args.run.payday in
    let was : Ledger = c.args.self.now in
    let lines : List YearLine = was.years.lines.items in
    let rows : List Obligation = was.rows.items in
    let holidays = holidays_of was.years.holidays in
    let sums : List DaySum = c.patch_with.new.sums.items in
    let after : List YearLine = c.place_patch.new.lines in
    let patch = c.in-Ok.patch in
    let gone : List Obligation = c.in-Ok-place_rows.field-0.gone.items in
    let difference = c.in_ok-difference.difference in
    let change : Tables → Tables = with_run name c.args.number c.args.run in
    let right : RepairsBy form day sums lines holidays patch = c.in-Ok.ensures.right in
    let since : was.since ≤ patch.from = search (rules, c.if-lt.false, c.lt.ensures) in
    let placed : Rewrites g.S.Store c.add_run.new.self c.place_patch.new.tx (Ok difference)
    (λ d t u. AreBetween name patch.from patch.to gone t → HasLines name lines t
    → Places name day lines patch after d t u) =
    rw (c.deref_mut.ensures.value, c.deref-2.ensures.value) at c.in_ok-difference.ensures.call in
    let went = rw c.deref.ensures.value at c.in-Ok-place_rows.ensures.gone in
    let rows_are = rw c.deref.ensures.value at c.in-Ok-place_rows.ensures.rows in
    let same = c.place_patch.auto.lines in
    let long = c.deref_mut.ensures.len in
    let count : length after ≡ was.years.lines.len = omega arith in
    turns_then difference _
    (writes_turn c.in_ok-add_run.ensures.call)
    placed (λ t u v is places had.
    let own : AreBetween name patch.from patch.to gone t =
    subst (λ (os : List Obligation). AreBetween name patch.from patch.to os t) (sym went)
    (had.rows patch.from patch.to since) in
    let between : AreBetween name patch.from patch.to gone (change t) =
    record { by_first_day = own.by_first_day; are = own.are } in
    let put = subst (λ (z : Tables). AreBetween name patch.from patch.to gone z
    → HasLines name lines z → Places name day lines patch after difference z v) is places between
    had.lines in
    record {
      repatches = record {
        patch = patch;
        right = right;
        compared = put.compared;
        put = put.put.0;
        years = subst (λ (ls : List YearLine). AreOnOtherSchedules lines ls difference.years)
            put.put.1 put.years;
      };
      lines_are = all_of was.years.lines.len after _ count ∙ put.put.1;
      rows_are = rows_are;
    })
