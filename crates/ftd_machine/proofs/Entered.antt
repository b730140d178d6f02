-- The entries of an account under their keys.
use Rattle.std.proofs.Common.{◌≡◌, ◌∙◌, inl, inr, refl, sym, ap, subst, ℕ, ◌==◌, true}
use Rattle.std.proofs.Common.{List, [], ◌∷◌, Some}
use Rattle.std.specs.Prelude.{filter, bytes_eq, unwrap_or}
use Rattle.std.proofs.lemmas.Bool.{cases_Bool, eqb-true}
use Rattle.ftd_days.proofs.Spelling.{same_text}
use Rattle.ftd_rules.specs.Lists.{Has}
use Rattle.ftd_machine.specs.State.{Entry, is_of, has_key, content_of, kept_at}
use Rattle.ftd_machine.specs.Sound.{AreDistinct, place_of}
use Rattle.ftd_machine.proofs.Adding.{own_name}
use Rattle.ftd_machine.proofs.Keeping.{same_key}
use Rattle.ftd_machine.proofs.Members.{found_some, has_filtered}

pub same_place : {X : Type 0} (x y : Entry X) → x.name ≡ y.name → x.key ≡ y.key
    → place_of x ≡ place_of y
same_place x y names keys = rw (names, keys) refl

module _ {X : Type 0} (name : List ℕ) where
  abbrev own : List (Entry X) → List (Entry X)
  own xs = filter (is_of name) xs

  pub its_own : (e : Entry X) → e.name ≡ name → is_of name e ≡ true
  its_own e named = ap (λ n. bytes_eq n name) named ∙ own_name name

  first_kept : (z : Entry X) (xs : List (Entry X)) → bytes_eq z.name name ≡ true
      → kept_at z.key (own (z ∷ xs)) ≡ Some z.content
  first_kept z xs mine = rw (mine, same_key z.key) refl

  -- where no two have the same name and key, each is what is kept under its key
  pub is_kept : (xs : List (Entry X)) → AreDistinct place_of xs → (e : Entry X) → Has xs e
      → e.name ≡ name → kept_at e.key (own xs) ≡ Some e.content
  is_kept [] distinct e has named = absurd has
  is_kept (z ∷ xs) distinct e (inl is) named =
      subst (λ (d : Entry X). kept_at d.key (own (z ∷ xs)) ≡ Some d.content) (sym is)
      (first_kept z xs (its_own z (ap (λ (d : Entry X). d.name) (sym is) ∙ named)))
  is_kept (z ∷ xs) distinct e (inr has) named =
      let rest = is_kept xs distinct.1 e has named in
      elim (cases_Bool (bytes_eq z.name name)) [
        | inr other ↦ rw other rest
        | inl mine ↦ elim (cases_Bool (z.key == e.key)) [
          | inr apart ↦ rw (mine, apart) rest
          | inl same ↦ absurd (distinct.0 e has
              (same_place e z (named ∙ sym (same_text z.name name mine))
              (sym (eqb-true z.key e.key same))))
        ]
      ]

  -- what is kept under a key is the content of an entry of the account
  pub of_kept : (xs : List (Entry X)) → AreDistinct place_of xs → (key : ℕ) (content : X)
      → kept_at key (own xs) ≡ Some content
      → (e : Entry X) × Has xs e × (e.name ≡ name) × (e.key ≡ key) × (e.content ≡ content)
  of_kept xs distinct key content kept =
      let found = found_some content_of (has_key key) (own xs) content kept in
      let e = found.0 in
      let there = has_filtered (is_of name) xs e found.1 in
      let named : e.name ≡ name = same_text e.name name there.1 in
      let at : e.key ≡ key = eqb-true e.key key found.2 in
      let is : Some e.content ≡ Some content =
      sym (is_kept xs distinct e there.0 named) ∙ (ap (λ k. kept_at k (own xs)) at ∙ kept) in
      (e, there.0, named, at, ap (λ o. unwrap_or o content) is)
