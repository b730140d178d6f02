use Rattle.std.proofs.Common.{◌+◌, ◌∷◌, [], ◌∙◌, None, arith, subst, sym, take}
use Rattle.std.proofs.Common.{drop, List, ℕ}
use Rattle.ftd_csv.specs.declared.entries.Content.{Content}
use Rattle.ftd_desk.specs.Desks.{IsStopped, held}
use Rattle.ftd_imports.specs.Imports.{Posts}
use Rattle.ftd_csv.specs.declared.lists.Place.{Place}
use Rattle.ftd_imports.proofs.Outcomes.{posts_none, posts_stop, posts_then}
use Rattle.ftd_csv.proofs.RecordLists.{next_of, next_posts, next_split, post_there}
use Rattle.ftd_imports.proofs.posting.post_all.Goals as goal

pub loop-place-init : goal.loop-place-init
loop-place-init g c = record {
  left = λ records is. c.as_slice-left.ensures.value ∙ is.posts;
  posts = λ records is. posts_none (held g.S.Store c.args.desk.now) c.args.done.now;
  grows = omega arith;
  stopped = λ was. was;
}

pub post_record-requires-clause-there : goal.post_record-requires-clause-there
post_record-requires-clause-there g c =
    let (records, is) = c.requires.list in
    let i = c.loop-place.place-index in
    let d : Place = record { number = 0; malformed = None } in
    let next = next_of records c.as_slice-places.result.now i d
    (c.as_slice-places.ensures.value ∙ is.places) c.loop-place-test.true in
    λ none. post_there records i _ c.loop-place.left.now next
    (c.loop-place.invariant.left records is) none

pub loop-place-preserved : goal.loop-place-preserved
loop-place-preserved g c =
    let ps = c.as_slice-places.result.now in
    let i = c.loop-place.place-index in
    let d : Place = record { number = 0; malformed = None } in
    let before = held g.S.Store c.args.desk.now in
    let between = held g.S.Store c.loop-place.desk in
    let after = held g.S.Store c.post_record.new.desk in
    record {
      left = λ records is.
          let next = next_of records ps i d (c.as_slice-places.ensures.value ∙ is.places)
          c.loop-place-test.true in
          c.in-Ok.ensures.left next.at (drop (i + 1) records) next.kept
          (next_posts records i _ c.loop-place.left.now next
          (c.loop-place.invariant.left records is));
      posts = λ records is.
          let next = next_of records ps i d (c.as_slice-places.ensures.value ∙ is.places)
          c.loop-place-test.true in
          subst (λ (rs : List (ℕ × Content)). Posts before after rs c.args.done.now
          c.post_record.new.done) (sym next.more)
          (posts_then before between after (take i records) (next.at ∷ []) c.args.done.now
          c.loop-place.done c.post_record.new.done (c.loop-place.invariant.posts records is)
          (c.in-Ok.ensures.posts next.at (drop (i + 1) records) next.kept
          (next_posts records i _ c.loop-place.left.now next
          (c.loop-place.invariant.left records is))));
      grows = let so_far = c.loop-place.invariant.grows in let one = c.in-Ok.ensures.grows in
          omega arith;
      stopped = λ was. c.in-Ok.ensures.stopped (c.loop-place.invariant.stopped was);
    }

pub returns-in-Err-clause-posts : goal.returns-in-Err-clause-posts
returns-in-Err-clause-posts g c =
    let i = c.loop-place.place-index in
    let d : Place = record { number = 0; malformed = None } in
    λ records is.
    let next = next_of records c.as_slice-places.result.now i d
    (c.as_slice-places.ensures.value ∙ is.places) c.loop-place-test.true in
    posts_stop (IsStopped c.post_record.new.desk) (held g.S.Store c.args.desk.now)
    (held g.S.Store c.loop-place.desk)
    (held g.S.Store c.post_record.new.desk) (take i records) next.at
    (drop (i + 1) records) records
    c.args.done.now c.loop-place.done c.post_record.new.done c.in-Err.cause
    (next_split records i _ next) (c.loop-place.invariant.posts records is)
    (c.in-Err.ensures.stops next.at (drop (i + 1) records) next.kept
    (next_posts records i _ c.loop-place.left.now next (c.loop-place.invariant.left records is)))
    c.in-Err.ensures.same
