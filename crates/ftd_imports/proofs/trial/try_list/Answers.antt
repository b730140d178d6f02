use Rattle.std.proofs.Common.{◌∙◌, refl, sym, ap, length, List}
use Rattle.std.specs.List.{filter}
use Rattle.ftd_desk.specs.Desks.{held}
use Rattle.ftd_csv.specs.Lists.{has_post}
use Rattle.ftd_csv.specs.declared.lists.Place.{Place}
use Rattle.ftd_imports.specs.declared.summary.Summary.{Summary}
use Rattle.ftd_imports.proofs.Outcomes.{with_room}
use Rattle.ftd_csv.proofs.RecordLists.{posts_count}
use Rattle.ftd_imports.proofs.Again.{tried_together}
use Rattle.ftd_imports.proofs.trial.try_list.Goals as goal

pub count_all-requires-clause-answers : goal.count_all-requires-clause-answers
count_all-requires-clause-answers g c =
    let (records, is) = c.requires.list in
    ap length c.deref-in-Ok-trial.ensures.value ∙ c.in-Ok-trial.ensures.answers.count
    ∙ ap length (c.deref.ensures.value ∙ is.posts) ∙ posts_count records
    ∙ ap (λ (places : List Place). length (filter has_post places))
    (sym is.places)

pub returns-in-Ok-trial-clause-tells : goal.returns-in-Ok-trial-clause-tells
returns-in-Ok-trial-clause-tells g c =
    let q : Summary = record c.args.done.now { notes = c.reserve.new.self } in
    let room = with_room c.args.done.now q refl refl refl refl refl refl
    c.in-Ok.ensures.items in
    λ records is.
    tried_together (held g.S.Store c.args.desk.now) (held g.S.Store c.trial.new.self) records
    c.deref.result.now c.in-Ok-trial.answers.items c.args.done.now q c.count_all.new.done
    (c.deref.ensures.value ∙ is.posts)
    c.in-Ok-trial.ensures.answers room
    (rw c.deref-in-Ok-trial.ensures.value at (c.count_all.ensures.counts records is))
    c.in-Ok-trial.ensures.trial
