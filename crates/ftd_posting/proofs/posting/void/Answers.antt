use Rattle.std.proofs.Common.{false, refl, rules, subst}
use Rattle.ftd_rules.specs.declared.run.PayRun.{PayRun}
use Rattle.ftd_rules.specs.declared.run.Voidable.{Voidable}
use Rattle.ftd_store.specs.Finds.{FindsRun}
use Rattle.ftd_machine.specs.declared.requests.Request.TheVariants.{Void}
use Rattle.ftd_entries.proofs.Serving.{served_looked, served_turned}
use Rattle.ftd_posting.specs.Repaired.{VoidsRun}
use Rattle.ftd_posting.proofs.Becoming.{becomes_none, becomes_turned}
use Rattle.ftd_posting.proofs.PostedRuns.{void_quiet, void_decided, void_done}
use Rattle.ftd_posting.proofs.posting.void.Goals as goal

pub returns-in-Err : goal.returns-in-Err
returns-in-Err g c = record {
  call = served_looked (Void c.args.name.now c.args.number) _ c.in_ok-before.ensures.call
      (void_decided c.args.name.now c.args.number c.in_ok-before.before c.in-Err.answer
      (search rules));
  repairs = becomes_none (VoidsRun c.args.name.now c.args.number) (void_quiet c.args.name.now
      c.args.number c.in_ok-before.before c.in-Err.answer (search rules))
      c.in_ok-before.ensures.call;
}

pub returns : goal.returns
returns g c =
    let name = c.args.name.now in
    let number = c.args.number in
    let account = c.in-Ok.found.0 in
    let kept : Voidable PayRun = record { value = c.in-Ok.found.1; voided = false } in
    record {
      call = served_turned (Void name number) _ c.in_ok-before.ensures.call
          c.in_ok-difference.ensures.call
          (λ t u s stands sound knows turned. void_done name number
          c.in_ok-before.before account kept _ (search rules) c.in-Ok.ensures.1.0
          c.in-Ok.ensures.1.1 t u s stands sound knows turned);
      repairs = becomes_turned (VoidsRun name number) _ c.in_ok-before.ensures.call
          c.in_ok-difference.ensures.call (λ t u knows reposted. (
            kept,
            subst (λ k. FindsRun name number k t) c.in-Ok.ensures.1.1 knows.kept,
            record {
              form = account.form;
              has_form = knows.form account c.in-Ok.ensures.1.0;
              difference = c.in_ok-difference.difference;
              told = refl;
              reposted = reposted;
            },
          ));
    }
