use Rattle.std.proofs.Common.{◌≡◌, ◌++◌, [], refl, ◌∙◌, arith, sym, ap, List}
use Rattle.std.proofs.Common.{append_assoc, length-append, subst, ℕ}
use Rattle.std.proofs.lemmas.List.{append-nil}
use Rattle.ftd_csv.specs.Places.{records_left}
use Rattle.ftd_csv.specs.declared.entries.Content.{Content}
use Rattle.ftd_desk.specs.Desks.{IsStopped, held}
use Rattle.ftd_imports.specs.Imports.{Posts}
use Rattle.ftd_imports.proofs.Again.{stops_later, stops_unread}
use Rattle.ftd_imports.proofs.Counting.{nothing}
use Rattle.ftd_imports.proofs.Outcomes.{posts_none, posts_then}
use Rattle.ftd_csv.proofs.RecordLists.{left_count, length_left, places_count}
use Rattle.ftd_imports.proofs.lists.post_lists.Goals as goal

pub loop-told-init : goal.loop-told-init
loop-told-init g c = record {
  can = c.requires.can;
  passed = ([], refl, posts_none (held g.S.Store c.args.desk.now) c.args.done.now, refl);
  grows = omega arith;
}

pub read_list-requires-clause-there : goal.read_list-requires-clause-there
read_list-requires-clause-there g c =
    let so_far = c.loop-told.invariant.passed in
    let count = left_count c.args.records.now c.loop-told.records so_far.0 so_far.1 in
    let told = so_far.3 in
    omega arith

pub returns-in_default : goal.returns-in_default
returns-in_default g c =
    let so_far = c.loop-told.invariant.passed in
    let count = left_count c.args.records.now c.loop-told.records so_far.0 so_far.1 in
    let left = length_left c.loop-told.records in
    let told = so_far.3 in
    stops_unread (IsStopped c.loop-told.desk) (held g.S.Store c.args.desk.now)
    (held g.S.Store c.loop-told.desk) so_far.0 (records_left c.loop-told.records)
    (records_left c.args.records.now) c.args.done.now c.loop-told.done so_far.1 (omega arith)
    so_far.2

pub returns-in-Err : goal.returns-in-Err
returns-in-Err g c =
    let so_far = c.loop-told.invariant.passed in
    let takes = c.in-Ok.ensures in
    let split = so_far.1 ∙ ap (λ (rs : List (ℕ × Content)). so_far.0 ++ rs) takes.split in
    stops_later (IsStopped c.post_list.new.desk) (held g.S.Store c.args.desk.now)
    (held g.S.Store c.loop-told.desk) (held g.S.Store c.post_list.new.desk) so_far.0
    takes.taken (records_left c.read_list.new.records) (records_left c.args.records.now)
    c.args.done.now c.loop-told.done c.post_list.new.done
    c.in-Err.cause split so_far.2 (c.in-Err.ensures.posts takes.taken takes.is)

pub loop-told-preserved : goal.loop-told-preserved
loop-told-preserved g c =
    let so_far = c.loop-told.invariant.passed in
    let takes = c.in-Ok.ensures in
    let left = records_left c.read_list.new.records in
    let split = so_far.1 ∙ ap (λ (rs : List (ℕ × Content)). so_far.0 ++ rs) takes.split in
    let long = length-append so_far.0 takes.taken in
    let told = so_far.3 in
    let counted = takes.counted in
    record {
      can = takes.can;
      passed = (
        so_far.0 ++ takes.taken,
        split ∙ sym (append_assoc so_far.0 takes.taken left),
        posts_then (held g.S.Store c.args.desk.now) (held g.S.Store c.loop-told.desk)
            (held g.S.Store c.post_list.new.desk) so_far.0 takes.taken c.args.done.now
            c.loop-told.done c.post_list.new.done so_far.2
            (c.in-Ok-post_list.ensures.posts takes.taken takes.is),
        omega arith,
      );
      grows = let places = places_count takes.taken c.in-Ok.list takes.is in
          let before = c.loop-told.invariant.grows in let grows = c.in-Ok-post_list.ensures.grows in
          omega arith;
    }

pub returns : goal.returns
returns g c =
    let so_far = c.loop-told.invariant.passed in
    let count = left_count c.args.records.now c.loop-told.records so_far.0 so_far.1 in
    let left = length_left c.loop-told.records in
    let told = so_far.3 in
    let none : records_left c.loop-told.records ≡ [] =
    nothing (records_left c.loop-told.records) (omega arith) in
    let whole : records_left c.args.records.now ≡ so_far.0 = so_far.1
    ∙ ap (λ (rs : List (ℕ × Content)). so_far.0 ++ rs) none ∙ append-nil so_far.0 in
    subst (λ (rs : List (ℕ × Content)). Posts (held g.S.Store c.args.desk.now)
    (held g.S.Store c.loop-told.desk) rs c.args.done.now c.loop-told.done) (sym whole) so_far.2
