use Rattle.ftd_setup.proofs.Made.{form_added}
use Rattle.ftd_setup.proofs.Stepping.{steps_so}
use Rattle.ftd_setup.proofs.migrating.add_form.Goals as goal

pub returns : goal.returns
returns g c = record {
  step = steps_so c.in_ok-run.ensures.step (λ ran account t names stands. form_added _ _ _ account
      c.args.name.now _ t names c.in_ok-get_ref.ensures.ok.1 stands ran);
}
