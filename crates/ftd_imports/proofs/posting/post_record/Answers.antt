use Rattle.std.proofs.Common.{◌≡◌, ◌∷◌, [], refl, sym, subst, rules, ℕ}
use Rattle.ftd_csv.specs.declared.entries.Content.{Content}
use Rattle.ftd_desk.specs.Desks.{IsStopped, held}
use Rattle.ftd_imports.specs.Imports.{Posts}
use Rattle.ftd_imports.specs.declared.summary.Summary.{Summary}
use Rattle.ftd_imports.proofs.Outcomes.{counts_then, no_room, posts_same, skips_one, with_room}
use Rattle.ftd_csv.proofs.RecordLists.{first_post, is_malformed, is_entry}
use Rattle.ftd_imports.proofs.posting.post_record.Goals as goal

pub returns-in_default-clause-stops : goal.returns-in_default-clause-stops
returns-in_default-clause-stops g c = λ at later kept posts.
    no_room (IsStopped c.args.desk.now) (held g.S.Store c.args.desk.now) at

pub returns-in-Some-clause-posts : goal.returns-in-Some-clause-posts
returns-in-Some-clause-posts g c =
    let room = with_room c.args.done.now _ refl refl refl refl refl refl
    c.in-Ok.ensures.items in
    let before = held g.S.Store c.args.desk.now in
    λ at later kept posts.
    subst (λ (x : ℕ × Content). Posts before before (x ∷ []) c.args.done.now c.skip.new.self)
    (sym (is_malformed at c.args.place.now c.in-Some.field kept c.in-Some.is))
    (skips_one before c.args.place.now.number c.in-Some.field
    c.args.done.now c.skip.new.self (counts_then _ _ _ _ _ room c.skip.ensures.counts))

pub returns-in-Ok-post_entry-clause-posts : goal.returns-in-Ok-post_entry-clause-posts
returns-in-Ok-post_entry-clause-posts g c =
    let q : Summary = record c.args.done.now { notes = c.reserve.new.self } in
    let room = with_room c.args.done.now q refl refl refl refl refl refl
    c.in-Ok.ensures.items in
    let first : c.args.posts.now ≡ c.unwrap.result.0.now ∷ c.unwrap.result.1.now = search rules in
    λ at later kept posts.
    let (it, is) = is_entry at c.args.place.now kept c.in-None.is in
    rw (is, ← first_post _ it at later _ _ _ is posts first)
    (posts_same (held g.S.Store c.args.desk.now) (held g.S.Store c.post_entry.new.desk) _
    c.args.done.now q c.post_entry.new.done room c.in-Ok-post_entry.ensures.posts)

pub returns-in-Err-clause-stops : goal.returns-in-Err-clause-stops
returns-in-Err-clause-stops g c =
    let first : c.args.posts.now ≡ c.unwrap.result.0.now ∷ c.unwrap.result.1.now = search rules in
    λ at later kept posts.
    let (it, is) = is_entry at c.args.place.now kept c.in-None.is in
    rw (is, ← first_post _ it at later _ _ _ is posts first) c.in-Err.ensures.stops
