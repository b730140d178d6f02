use Rattle.std.proofs.Common.{refl, rules}
use Rattle.ftd_store.specs.Finds.{CountsRuns}
use Rattle.ftd_machine.specs.declared.requests.Request.TheVariants.{Post}
use Rattle.ftd_entries.proofs.Serving.{served_looked_where, served_turned_where}
use Rattle.ftd_posting.specs.Repaired.{PostsRun}
use Rattle.ftd_posting.proofs.Becoming.{becomes_none, becomes_turned}
use Rattle.ftd_posting.proofs.PostedRuns.{post_quiet, post_decided, post_done}
use Rattle.ftd_posting.proofs.posting.post.Goals as goal

pub returns-in-Err : goal.returns-in-Err
returns-in-Err g c = record {
  call = served_looked_where (CountsRuns c.args.name.now c.args.count)
      (Post c.args.name.now c.args.number c.args.run)
      c.in-Err.answer c.in_ok-before.ensures.call (post_decided c.args.name.now c.args.number
      c.args.run c.args.count c.in_ok-before.before c.in-Err.answer (search rules));
  repairs = becomes_none (PostsRun c.args.name.now c.args.number c.args.run)
      (post_quiet c.args.name.now c.args.number c.args.run c.args.count c.in_ok-before.before
      c.in-Err.answer (search rules)) c.in_ok-before.ensures.call;
}

pub returns : goal.returns
returns g c =
    let name = c.args.name.now in
    let account = c.in-Ok.account in
    record {
      call = served_turned_where (CountsRuns name c.args.count)
          (Post name c.args.number c.args.run) _
          c.in_ok-before.ensures.call
          c.in_ok-difference.ensures.call (λ t u s stands sound counted knows turned.
          post_done name c.args.number c.args.run c.args.count
          c.in_ok-before.before account _ (search rules) c.in-Ok.ensures.1 t u s stands sound
          counted knows turned);
      repairs = becomes_turned (PostsRun name c.args.number c.args.run) _
          c.in_ok-before.ensures.call c.in_ok-difference.ensures.call
          (λ t u knows reposted. record {
            form = account.form;
            has_form = knows.form account c.in-Ok.ensures.1;
            difference = c.in_ok-difference.difference;
            told = refl;
            reposted = reposted;
          });
    }
