use Rattle.std.proofs.Common.{rules, refl}
use Rattle.ftd_store.specs.Finds.{CountsRuns}
use Rattle.ftd_posting.specs.Repaired.{Becoming, PostsRun}
use Rattle.ftd_desk.specs.Kept.{kept_of}
use Rattle.ftd_desk.proofs.Counting.{not_known, known_fails, post_counts}
use Rattle.ftd_desk.proofs.Repairing.{known_repairs}
use Rattle.ftd_desk.proofs.requests.serve_post.Goals as goal

pub returns-in_err-count : goal.returns-in_err-count
returns-in_err-count g c =
    let name = c.args.name.now in
    let known = kept_of c.args.counts.runs name in
    record {
      call = not_known g.S.Store c.args.tx.now c.count_runs.new.tx known
          (CountsRuns name) c.in_err-count.field-0.0 c.from_residual.result _
          (search rules) c.in_err-count.ensures;
      repairs = not_known g.S.Store c.args.tx.now c.count_runs.new.tx known
          (CountsRuns name) c.in_err-count.field-0.0 c.from_residual.result _
          (search rules) c.in_err-count.ensures;
    }

pub returns-in_err-answer : goal.returns-in_err-answer
returns-in_err-answer g c =
    let name = c.args.name.now in
    let known = kept_of c.args.counts.runs name in
    let fault = c.in_err-answer.field-0.0 in
    let frame = c.in_err-answer.ensures.call.frame in
    record {
      call = known_fails g.S.Store c.args.tx.now c.count_runs.new.tx known
          (CountsRuns name) c.post.new.tx c.in_ok-count.count fault
          c.from_residual-in_err-answer.result _ (search rules) c.in_ok-count.ensures frame;
      repairs = known_fails g.S.Store c.args.tx.now c.count_runs.new.tx known
          (CountsRuns name) c.post.new.tx c.in_ok-count.count fault
          c.from_residual-in_err-answer.result _ (search rules) c.in_ok-count.ensures frame;
    }

pub returns : goal.returns
returns g c =
    let name = c.args.name.now in
    let runs = c.args.counts.runs in
    record {
      call = post_counts g.S.Store c.args.tx.now c.count_runs.new.tx c.post.new.tx
          c.in_ok-count.count c.in_ok-answer.answer c.args.counts c.keep.new.self name c.args.number
          c.args.run
          c.keep.ensures c.in_ok-count.ensures c.in_ok-answer.ensures.call;
      repairs = known_repairs g.S.Store c.args.tx.now c.count_runs.new.tx c.post.new.tx
          (kept_of runs name) (CountsRuns name) c.in_ok-count.count c.in_ok-answer.answer _
          (Becoming (PostsRun name c.args.number c.args.run)) refl
          c.in_ok-count.ensures c.in_ok-answer.ensures.repairs;
    }
