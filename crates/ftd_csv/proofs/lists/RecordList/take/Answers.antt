use Rattle.std.proofs.Common.{◌≡◌, ◌∷◌, [], ap, sym, refl, ℕ}
use Rattle.std.proofs.lemmas.List.{append-nil}
use Rattle.ftd_csv.specs.Places.{place_of}
use Rattle.ftd_csv.specs.declared.entries.Content.{Content}
use Rattle.ftd_csv.specs.declared.entries.Content.TheVariants as content
use Rattle.ftd_csv.specs.Lists.{kept_of, posts_of}
use Rattle.ftd_csv.proofs.RecordLists.{list_more}
use Rattle.ftd_csv.proofs.lists.RecordList.take.Goals as goal

pub returns-in_ok-push-in-Entry-2 : goal.returns-in_ok-push-in-Entry-2
returns-in_ok-push-in-Entry-2 c =
    let said = rw c.in-Entry.is at c.in_ok-post.ensures in
    let at : (c.number-number.result, content.Entry c.in-Entry.post)
    ≡ place_of c.args.records.now = rw (c.number-number.ensures, said) refl in
    λ before is.
    list_more before c.args.self.now _ (place_of c.args.records.now) _ _ (ap kept_of at)
    (ap (λ (said : ℕ × Content). posts_of (said ∷ [])) at)
    c.in_ok-push-in-Entry-2.ensures.items c.in_ok-push-in-Entry.ensures.items is

pub returns-in_ok-push-in-Malformed : goal.returns-in_ok-push-in-Malformed
returns-in_ok-push-in-Malformed c =
    let said = rw c.in-Malformed.is at c.in_ok-post.ensures in
    let at : (c.number-number.result, content.Malformed c.in-Malformed.field)
    ≡ place_of c.args.records.now = rw (c.number-number.ensures, said) refl in
    λ before is.
    list_more before c.args.self.now _ (place_of c.args.records.now) _ [] (ap kept_of at)
    (ap (λ (said : ℕ × Content). posts_of (said ∷ [])) at)
    c.in_ok-push-in-Malformed.ensures.items (sym (append-nil c.args.self.now.posts.items)) is
