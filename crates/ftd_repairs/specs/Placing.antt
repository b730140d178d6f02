-- Where a row begins, seen from some days.
use Rattle.std.specs.Prelude.{ℕ, Bool}
use Rattle.ftd_rules.specs.declared.Obligation.{Obligation}
use Rattle.ftd_rules.specs.Obligations.{begins_on}
use Rattle.ftd_repairs.specs.declared.placing.Place.{Place}
use Rattle.ftd_repairs.specs.declared.placing.Place.TheVariants.{Before, On, After}
use Rattle.ftd_repairs.specs.Replaced.{begins_before, begins_after}

-- the row begins at this place, seen from the days from one to another
abbrev pub begins : Place → ℕ → ℕ → Obligation → Bool
begins Before from to = begins_before from
begins On from to = begins_on from to
begins After from to = begins_after to
