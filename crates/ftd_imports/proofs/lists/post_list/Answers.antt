use Rattle.std.proofs.Common.{◌≤◌, length, arith, List}
use Rattle.ftd_desk.specs.Desks.{IsStopped, held}
use Rattle.ftd_machine.specs.declared.requests.Request.{Request}
use Rattle.ftd_imports.specs.Imports.{PostsNone, most_together}
use Rattle.ftd_imports.proofs.Again.{list_again}
use Rattle.ftd_csv.proofs.RecordLists.{places_count}
use Rattle.std.proofs.Common.{subst}
use Rattle.ftd_imports.proofs.lists.post_list.Goals as goal

pub returns-in-Err-clause-posts : goal.returns-in-Err-clause-posts
returns-in-Err-clause-posts g c =
    let failed = IsStopped c.post_together.new.desk in
    let before = held g.S.Store c.args.desk.now in
    let between = held g.S.Store c.post_together.new.desk in
    λ records is.
    let count = places_count records c.args.list.now is in
    let most = c.requires.short in
    let short : length records ≤ most_together = omega arith in
    list_again failed (IsStopped c.post_all.new.desk) before between
    (held g.S.Store c.post_all.new.desk) records
    c.args.done.now c.post_together.new.done c.post_all.new.done c.post_all.result short
    c.post_all.ensures.stopped
    (subst (λ (posts : List Request). PostsNone failed before between posts) is.posts
    c.in-Err.ensures.none) c.in-Err.ensures.same (c.post_all.ensures.posts records is)
