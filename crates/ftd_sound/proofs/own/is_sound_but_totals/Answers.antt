use Rattle.std.proofs.Common.{refl, sym, subst, ◌∙◌}
use Rattle.std.proofs.lemmas.Bool.{false≢true}
use Rattle.ftd_machine.specs.declared.entries.Account.{Account}
use Rattle.ftd_machine.specs.declared.entries.ReturnPeriod.TheVariants.{Quarter, Year}
use Rattle.ftd_sound.specs.Private.Plain.{AreOfPeriods}
use Rattle.ftd_sound.proofs.NamedLines.{own_decided}
use Rattle.ftd_sound.proofs.own.is_sound_but_totals.Goals as goal

pub returns-then-not-branch : goal.returns-then-not-branch
returns-then-not-branch c = (
  λ e. absurd (false≢true e),
  λ h.
      let decided = rw (c.deref.ensures.value, c.deref-2.ensures.value)
      at c.in_ok-are_quarter_totals.ensures in
      absurd (false≢true (sym c.if-not-branch.true ∙ decided.1 (
        subst (λ (a : Account). AreOfPeriods a Quarter c.args.own.now.reported.items)
            (sym c.requires) h.quarter_periods,
        h.quarters,
      ))),
)

pub returns-then-not-branch-2 : goal.returns-then-not-branch-2
returns-then-not-branch-2 c = (
  λ e. absurd (false≢true e),
  λ h.
      let decided = rw (c.deref-3.ensures.value, c.deref-4.ensures.value)
      at c.in_ok-are_year_totals.ensures in
      absurd (false≢true (sym c.if-not-branch-2.true ∙ decided.1 (
        subst (λ (a : Account). AreOfPeriods a Year c.args.own.now.reported_years.items)
            (sym c.requires) h.year_periods,
        h.years,
      ))),
)

pub returns : goal.returns
returns c =
    let quarters = rw (c.deref.ensures.value, c.deref-2.ensures.value)
    at c.in_ok-are_quarter_totals.ensures in
    let totals = rw (c.deref-3.ensures.value, c.deref-4.ensures.value)
    at c.in_ok-are_year_totals.ensures in
    let years = rw c.deref-5.ensures.value at c.if-not-are_years.ensures in
    let runs = rw (c.deref-6.ensures.value, c.deref-7.ensures.value) at c.in_ok-are_runs.ensures in
    let payments = rw (c.deref-8.ensures.value, c.deref-9.ensures.value)
    at c.are_payments.ensures in
    own_decided c.args.given.now c.args.own.now c.args.account c.requires
    (c.if-not-are_starts.ensures.0 refl) (quarters.0 c.if-not-branch.false)
    (totals.0 c.if-not-branch-2.false) (years.0 refl) (runs.0 c.if-not-branch-3.false)
    c.are_payments.result payments
