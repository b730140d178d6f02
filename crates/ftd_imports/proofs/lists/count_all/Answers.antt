use Rattle.std.proofs.Common.{◌≡◌, rules, arith, ◌∙◌, ◌+◌, ◌∷◌, ap, drop, length, None}
use Rattle.ftd_csv.specs.declared.lists.Place.{Place}
use Rattle.ftd_imports.proofs.Counting.{left_less, left_same, posted_more, skipped_more}
use Rattle.ftd_csv.proofs.RecordLists.{first_post, is_entry, later_posts, next_of, next_posts}
use Rattle.ftd_csv.proofs.RecordLists.{post_there, posts_passed}
use Rattle.ftd_imports.proofs.lists.count_all.Goals as goal
use Rattle.ftd_imports.proofs.lists.count_all.Goals.{in-Some, in-None}

pub unwrap-requires : goal.unwrap-requires
unwrap-requires c =
    let (records, is) = c.requires.list in
    let i = c.loop-place.place-index in
    let d : Place = record { number = 0; malformed = None } in
    let next = next_of records c.as_slice-places.result.now i d
    (c.as_slice-places.ensures.value ∙ is.places) c.loop-place-test.true in
    let some = post_there records i _ c.loop-place.posts.now next
    (c.loop-place.invariant.posts records is) c.in-None.is in
    search (rules, some)

pub loop-place-preserved : goal.loop-place-preserved
loop-place-preserved c =
    let ps = c.as_slice-places.result.now in
    let are = c.as_slice-places.ensures.value in
    let i = c.loop-place.place-index in
    let d : Place = record { number = 0; malformed = None } in
    let before = c.loop-place.invariant in
    elim c.match-place.branch [
      | in-Some w ↦ rw (w.done-is, w.left-is, w.posts-is) (record {
        some = λ records is. skipped_more records i _
            (next_of records ps i d (are ∙ is.places) c.loop-place-test.true) _ w.in-Some.is _ _
            _ _ _ (before.some records is) w.skip.ensures.counts;
        posts = λ records is. posts_passed records i _ _ _
            (next_of records ps i d (are ∙ is.places) c.loop-place-test.true)
            (before.posts records is) w.in-Some.is;
        left = before.left ∙ left_same ps i d c.loop-place-test.true _
            w.in-Some.is;
        room = let adds = w.skip.ensures.adds in let room = w.skip.ensures.room in
            let was = before.room in omega arith;
        grows = let one = w.skip.ensures.grows in let was = before.grows in omega arith;
      })
      | in-None w ↦
          let post : c.loop-place.posts.now ≡ w.unwrap.result.0.now ∷ w.unwrap.result.1.now =
          search rules in
          let first : c.loop-place.left.now ≡ w.unwrap-in-None.result.0.now ∷ w.unwrap-in-None.result.1.now =
          search rules in
          rw (w.done-is, w.left-is, w.posts-is) (record {
            some = λ records is.
                (let next = next_of records ps i d (are ∙ is.places) c.loop-place-test.true in
                posted_more records i _ next w.in-None.is _ _ _ _ _ _ _ (before.some records is) first
                (λ it at. rw (← first_post _ it next.at (drop (i + 1) records) _ _ _ at
                (next_posts records i _ _ next (before.posts records is)) post)
                w.count.ensures.counts));
            posts = λ records is.
                (let next = next_of records ps i d (are ∙ is.places) c.loop-place-test.true in
                let (it, at) = is_entry next.at _ next.kept w.in-None.is in
                later_posts _ it next.at (drop (i + 1) records) _ _ _ at
                (next_posts records i _ _ next (before.posts records is)) post);
            left = let less = left_less ps i d c.loop-place-test.true
                w.in-None.is in let was = before.left in omega (arith, ap length first);
            room = let adds = w.count.ensures.adds in let room = w.count.ensures.room in
                let was = before.room in omega arith;
            grows = let one = w.count.ensures.grows in let was = before.grows in omega arith;
          })
    ]
