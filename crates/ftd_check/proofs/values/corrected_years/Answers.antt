use Rattle.std.proofs.Common.{◌∙◌, sym, subst}
use Rattle.std.proofs.lemmas.Bool.{true≢false}
use Rattle.ftd_check.specs.Numbers.{AreNumbered}
use Rattle.ftd_check.proofs.values.corrected_years.Goals as goal

pub returns-then-not-branch : goal.returns-then-not-branch
returns-then-not-branch c = λ numbered. true≢false (sym (c.in_ok-are_numbered.ensures.1
    (subst AreNumbered (sym (c.deref.ensures.value ∙ c.in_ok-keys.ensures)) numbered))
    ∙ c.if-not-branch.true)

pub returns : goal.returns
returns c = (
  subst AreNumbered (c.deref.ensures.value ∙ c.in_ok-keys.ensures)
      (c.in_ok-are_numbered.ensures.0 c.if-not-branch.false),
  c.in_ok-year_pairs.ensures,
)
