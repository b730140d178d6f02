use Rattle.std.proofs.Common.{◌≡◌, ℕ, List, Ok, set, sym, ap, ◌∙◌, subst}
use Rattle.ftd_days.specs.Holidays.{holidays_of}
use Rattle.ftd_rules.specs.declared.YearLine.{YearLine}
use Rattle.ftd_sql.specs.Standing.{Tables}
use Rattle.ftd_store.specs.Changes.{with_year}
use Rattle.ftd_store.specs.Frame.{Writes}
use Rattle.ftd_store.proofs.Turning.{read_then_turn, turns_then, writes_turn}
use Rattle.ftd_machine.specs.declared.replies.Difference.{Difference}
use Rattle.ftd_repairs.specs.Reopened.{IsAt, Retotals}
use Rattle.ftd_repairs.specs.Reopening.{Reopens, with_total}
use Rattle.ftd_repairs.specs.Reposted.{Repatches}
use Rattle.ftd_repairs.specs.Rescheduled.{HasLines}
use Rattle.ftd_repairs.proofs.Reposting.{repatched}
use Rattle.ftd_repairs.proofs.Totaled.{line_at, retotaled, still_at}
use Rattle.ftd_repairs.proofs.retotaling.put_total.Goals as goal

pub reopened-requires-clause-at : goal.reopened-requires-clause-at
reopened-requires-clause-at g c =
    let at : IsAt c.args.year c.args.lines.now c.in-Some.at = c.in-Some.ensures.at in
    still_at c.args.year c.args.lines.now c.in-Some.at at c.args.total c.put_line.new.line
    (c.put_line.ensures.line ∙ (c.with_total-after.ensures ∙ ap (with_total c.args.total)
    (line_at c.args.year c.args.lines.now c.in-Some.at at c.index-lines-at.result)))

pub returns : goal.returns
returns g c =
    let name = c.args.account.now in
    let form = c.args.form in
    let year = c.args.year in
    let total = c.args.total in
    let lines : List YearLine = c.args.lines.now in
    let holidays : List ℕ = holidays_of c.args.holidays.now in
    let i : ℕ = c.in-Some.at in
    let at : IsAt year lines i = c.in-Some.ensures.at in
    let line : YearLine = c.put_line.new.line in
    let line_is : line ≡ with_total total at.0.line = c.put_line.ensures.line
    ∙ (c.with_total-after.ensures ∙ ap (with_total total)
    (line_at year lines i at c.index-lines-at.result)) in
    let now : List YearLine = set lines i line in
    let day = c.args.day in
    let found = c.in_ok-patch.field-0 in
    let d = c.in_ok-difference.difference in
    let after : List YearLine = c.place_patch.new.lines in
    let put = c.in_ok-put_line.ensures.call in
    let placed = c.in_ok-difference.ensures.call in
    let Right : Difference → Tables → Tables → Type 0 = λ e t u. HasLines name now t
    → Repatches name day now (λ p. Reopens name form year now holidays p t) e t u in
    record {
      call = turns_then d
          (λ e t u. HasLines name lines t → Retotals name form day year total lines holidays e t u)
          (writes_turn (subst (λ (l : YearLine). Writes g.S.Store c.args.tx.now c.put_line.new.tx
          (Ok c.in_ok-put_line.field-0) (with_year name l)) (sym c.put_line.ensures.line) put))
          (read_then_turn Right c.in_ok-patch.ensures.call (rw c.deref.ensures.value at placed)
          (λ e t u told places had. (repatched name day now after
          (λ p. Reopens name form year now holidays p t) found.patch e t u told.0
          (places told.1 had)).0))
          (λ t u v made repairs. retotaled year lines i at name form total day holidays line d t u v
          line_is made repairs);
    }
