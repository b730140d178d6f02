-- What is kept of accounts, of each one thing at most.
use Rattle.std.proofs.Common.{◌≡◌, ◌∙◌, refl, sym, ap, subst, ℕ, Bool, true, false, cond, List, []}
use Rattle.std.proofs.Common.{◌∷◌, ◌++◌, get_or, set, Option, None, Some, nat_lt, length, bytes_eq}
use Rattle.std.proofs.lemmas.Bool.{true≢false}
use Rattle.std.specs.Prelude.{if◌then◌else◌, find, option_map, IfSome, MatchOption}
use Rattle.std.specs.List.{position, position_or_len}
use Rattle.std.specs.Option.{option_or}
use Rattle.std.specs.List.{slice_get}
use Rattle.std.proofs.lemmas.List.Folds.{find-set, find_at, find_past, find-append}
use Rattle.std.proofs.lemmas.List.Quantifiers.{position-Some}
use Rattle.std.proofs.lemmas.Option.{slice_get-get_or}
use Rattle.ftd_days.proofs.Years.{find_none}
use Rattle.ftd_days.proofs.Spelling.{same_text}
use Rattle.ftd_machine.proofs.Adding.{own_name, other_name}
use Rattle.ftd_desk.specs.Kept.{Takes, TakesFound, EachIs, is_of, content_of}
use Rattle.ftd_desk.specs.declared.kept.OfAccount.{OfAccount}

-- where the first that passes is
place_is : {X : Type 0} (test : X → Bool) (xs : List X) (place : ℕ) → position test xs ≡ Some place
    → place ≡ position_or_len test xs
place_is test xs place found = by (nat_lt (position_or_len test xs) (length xs))
    (position_or_len test xs) found
  where
    by : (b : Bool) (n : ℕ) → cond b (Some n) None ≡ Some place → place ≡ n
    by true n is = cc
    by false n is = absurd cc

-- what was kept, if anything was
as_kept : {X : Type 0} (o p : Option X) → o ≡ p → IfSome o (λ later. p ≡ Some later)
as_kept None p is = tt
as_kept (Some x) p is = sym is

or_none : {X : Type 0} (o : Option X) → option_or o None ≡ o
or_none None = refl
or_none (Some x) = refl

if_more : {X : Type 0} (P Q : X → Type 0) (o : Option X) → ((x : X) → P x → Q x) → IfSome o P
    → IfSome o Q
if_more P Q None more has = tt
if_more P Q (Some x) more has = more x has

-- ---- what is right of each account

-- what is kept of the account
pub kept_is : {X : Type 0} (kept : List ℕ → Option X) (Is : List ℕ → X → Type 0) (account : List ℕ)
    (x : X) → EachIs kept Is → kept account ≡ Some x → Is account x
kept_is kept Is account x right is = subst (λ o. IfSome o (Is account)) is (right account)

-- what is kept stays right
pub right_still : {X : Type 0} (kept : List ℕ → Option X) (Was Is : List ℕ → X → Type 0)
    → ((account : List ℕ) (x : X) → Was account x → Is account x) → EachIs kept Was → EachIs kept Is
right_still kept Was Is still right account = if_more (Was account) (Is account) (kept account)
    (still account) (right account)

-- what is taken is right of its account, and what is kept of the others stays right
pub right_after : {X : Type 0} (old new : List ℕ → Option X) (account : List ℕ) (taken : X)
    (Was Is : List ℕ → X → Type 0) → Takes old new account taken → Is account taken
    → ((other : List ℕ) → (account ≡ other → ⊥) → (x : X) → Was other x → Is other x)
    → EachIs old Was → EachIs new Is
right_after old new account taken Was Is takes own stay right other =
    by (bytes_eq account other) refl
  where
    by : (same : Bool) → bytes_eq account other ≡ same → IfSome (new other) (Is other)
    by true same =
        subst (λ (name : List ℕ). IfSome (new name) (Is name)) (same_text account other same)
        (if_more (λ later. later ≡ taken) (Is account) (new account)
        (λ later so. subst (Is account) (sym so) own) takes.own)
    by false differs =
        let apart : account ≡ other → ⊥ =
        λ same. true≢false
        (sym (subst (λ (name : List ℕ). bytes_eq account name ≡ true) same (own_name account))
        ∙ differs) in
        if_more (λ later. old other ≡ Some later) (Is other) (new other)
        (λ later was. stay other apart later (kept_is old Was other later right was))
        (takes.others other apart)

-- so where a thing was found that is right of the account, or none was
pub right_found : {X : Type 0} (N : Type 0) (old new : List ℕ → Option X) (account : List ℕ)
    (found : Option X) (Is : List ℕ → X → Type 0) → TakesFound old new account found
    → MatchOption found N (Is account) → EachIs old Is → EachIs new Is
right_found N old new account None Is same own right = subst (λ kept. EachIs kept Is)
    (sym same) right
right_found N old new account (Some x) Is takes own right =
    right_after old new account x Is Is takes own (λ other apart y was. was) right

-- ---- a list of what is kept, each with the name of its account

module _ {X : Type 0} where
  abbrev kept_in : List (OfAccount X) → List ℕ → Option X
  kept_in xs account = option_map content_of (find (is_of account) xs)

  -- one of the account, and none of another one
  passes : (x : OfAccount X) (account : List ℕ) → x.account ≡ account → is_of account x ≡ true
  passes x account is = rw is (own_name account)

  fails : (x : OfAccount X) (account other : List ℕ) → x.account ≡ account → (account ≡ other → ⊥)
      → is_of other x ≡ false
  fails x account other is apart = rw is (other_name account other apart)

  module _ (old : List (OfAccount X)) (account : List ℕ) where
    -- what is kept of the account stands at its place
    pub kept_at : (place : ℕ) (x : OfAccount X) → position (is_of account) old ≡ Some place
        → x ≡ get_or old place x → kept_in old account ≡ Some x.content
    kept_at place x found is =
        let at = position-Some (is_of account) old place x found in
        ap (option_map content_of) (find_at (is_of account) old
        ∙ ap (slice_get old) (sym (place_is (is_of account) old place found))
        ∙ slice_get-get_or old place x at.0 ∙ ap Some (sym is))

    -- what was kept of the account is another thing
    pub changed : (new : List (OfAccount X)) (place : ℕ) (x : OfAccount X) (taken : X)
        → position (is_of account) old ≡ Some place → x ≡ get_or old place x
        → new ≡ set old place (record x { content = taken })
        → Takes (kept_in old) (kept_in new) account taken
    changed new place x taken found is changes =
        let at = position-Some (is_of account) old place x found in
        let later : OfAccount X = record x { content = taken } in
        let was : (get_or old place x).account ≡ account = same_text _ account at.1 in
        let named : x.account ≡ account = ap (λ (y : OfAccount X). y.account) is ∙ was in
        let made : find (is_of account) (set old place later) ≡ Some later =
        find-set (is_of account) old place later (place_is (is_of account) old place found) at.0
        (passes later account named)
        in
        record {
          own = rw (changes, made) refl;
          others = λ other apart.
              as_kept (kept_in new other) (kept_in old other)
              (rw changes
              (ap (option_map content_of) (find_past (is_of other) old place later x
              (fails (get_or old place x) account other was apart)
              (fails later account other named apart))));
        }

    -- what is kept where nothing was of the account: what was kept of the others may be forgotten
    pub record Without (room : List (OfAccount X)) : Type 0 where
      pub none : find (is_of account) room ≡ None
      pub others : (other : List ℕ) → IfSome (kept_in room other)
          (λ later. kept_in old other ≡ Some later)

    pub all_left : position (is_of account) old ≡ None → (room : List (OfAccount X)) → room ≡ old
        → Without room
    all_left unknown room is = record {
      none = rw is (find_none (is_of account) old unknown);
      others = λ other. as_kept _ (kept_in old other) (rw is refl);
    }

    pub none_left : (room : List (OfAccount X)) → room ≡ [] → Without room
    none_left room is = record { none = rw is refl; others = λ other. rw is tt }

    -- nothing is added
    pub not_added : (room : List (OfAccount X)) (taken : X) → Without room
        → Takes (kept_in old) (kept_in room) account taken
    not_added room taken without = record {
      own = rw without.none tt;
      others = λ other apart.
          without.others other;
    }

    -- the account's is added, or there is no memory for it
    pub added : (new room : List (OfAccount X)) (x : OfAccount X) (taken : X) (there : Bool)
        → Without room → x.account ≡ account → x.content ≡ taken
        → new ≡ (if there then room ++ x ∷ [] else room)
        → Takes (kept_in old) (kept_in new) account taken
    added new room x taken false without named holds is = rw is (not_added room taken without)
    added new room x taken true without named holds is = record {
      own = rw (is, find-append (is_of account) room (x ∷ []), without.none, passes x account named)
          holds;
      others = λ other apart. rw (
        is,
        find-append (is_of other) room (x ∷ []),
        fails x account other named apart,
        or_none (find (is_of other) room),
      ) (without.others other);
    }
