use Rattle.std.proofs.Common.{rules, tests, ℕ, ◌==◌}
use Rattle.std.proofs.lemmas.Iterator.{YieldsList-from_slice}
use Rattle.std.proofs.lemmas.Iterator.Search.{any_from_yields_List}
use Rattle.ftd_days.specs.declared.cents.Cents.{Cents}
use Rattle.ftd_sound.proofs.Deciding.{any_has_key}
use Rattle.ftd_sound.proofs.totals.has_key.Goals as goal

pub returns : goal.returns
returns c = any_has_key c.args.totals.now c.args.key c.any.result
    (any_from_yields_List (λ (e : ℕ × Cents). e.0 == c.args.key) _ _ c.any.result c.any.ensures.ran
    (YieldsList-from_slice c.args.totals.now cc) (λ x b q k. search (rules, tests)))
