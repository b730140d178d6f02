use Rattle.std.proofs.Common.{◌∙◌, refl, sym, ap, length, List}
use Rattle.std.specs.List.{filter}
use Rattle.ftd_desk.specs.Desks.{IsStopped, held}
use Rattle.ftd_csv.specs.Lists.{has_post}
use Rattle.ftd_csv.specs.declared.lists.Place.{Place}
use Rattle.ftd_imports.specs.declared.summary.Summary.{Summary}
use Rattle.ftd_imports.proofs.Again.{none_posted, posts_together}
use Rattle.ftd_imports.proofs.Outcomes.{on_err, with_room}
use Rattle.ftd_csv.proofs.RecordLists.{posts_count}
use Rattle.ftd_imports.proofs.lists.post_together.Goals as goal

pub returns-in_err-answers-clause-none : goal.returns-in_err-answers-clause-none
returns-in_err-answers-clause-none g c =
    on_err c.from_residual.result
    (none_posted (IsStopped c.together.new.self) (held g.S.Store c.args.desk.now)
    (held g.S.Store c.together.new.self) c.args.list.now.posts.items c.deref.result.now _
    c.deref.ensures.value c.in_err-answers.ensures.together c.in_err-answers.ensures.keeps)

pub count_all-requires-clause-answers : goal.count_all-requires-clause-answers
count_all-requires-clause-answers g c =
    let (records, is) = c.requires.list in
    ap length c.deref-2.ensures.value ∙ c.in_ok-answers.ensures.answers.count
    ∙ ap length (c.deref.ensures.value ∙ is.posts) ∙ posts_count records
    ∙ ap (λ (places : List Place). length (filter has_post places))
    (sym is.places)

pub returns-clause-posts : goal.returns-clause-posts
returns-clause-posts g c =
    let q : Summary = record c.args.done.now { notes = c.reserve.new.self } in
    let room = with_room c.args.done.now q refl refl refl refl refl refl
    c.in-Ok.ensures.items in
    λ records is.
    posts_together (held g.S.Store c.args.desk.now) (held g.S.Store c.together.new.self) records
    c.deref.result.now c.in_ok-answers.answers.items c.args.done.now q c.count_all.new.done
    (c.deref.ensures.value ∙ is.posts)
    c.in_ok-answers.ensures.answers room
    (rw c.deref-2.ensures.value at (c.count_all.ensures.counts records is))
    c.in_ok-answers.ensures.together
