use Rattle.std.proofs.Common.{◌∙◌}
use Rattle.ftd_sql.proofs.Asking.{lists_accounts}
use Rattle.ftd_sql.proofs.Reading.{asking}
use Rattle.ftd_setup.proofs.Made.{given_forms}
use Rattle.ftd_setup.proofs.Stepping.{steps_then}
use Rattle.ftd_setup.proofs.migrating.give_forms.Goals as goal

pub read-requires : goal.read-requires
read-requires g c = record { of_reading = asking _ _ _ _ _ lists_accounts }

pub returns : goal.returns
returns g c = record {
  step = steps_then c.in_ok-names.ensures.step c.add_forms.ensures.step (λ _ read gives t stands.
      given_forms _ _ _ c.in_ok-names.names.items t read stands
      (λ accounts u are there. gives accounts u (c.deref.ensures.value ∙ are) there));
}
