-- Entries that are added or voided, beside those of one account.
use Rattle.std.proofs.Common.{◌≡◌, refl, sym, ap, ◌∙◌, ℕ, Bool, true, false, cond, List, [], ◌∷◌}
use Rattle.std.proofs.Common.{◌++◌, filter, map, Option, None, Some, bytes_eq}
use Rattle.std.specs.Prelude.{find, option_map, is_some}
use Rattle.std.proofs.lemmas.List.{append-nil, map-append}
use Rattle.std.proofs.lemmas.List.Elements.{filter-append}
use Rattle.std.proofs.lemmas.Slice.Eq.{bytes_eq-Decides}
use Rattle.ftd_machine.specs.declared.entries.Account.{Account}
use Rattle.ftd_machine.specs.declared.entries.Beginning.{Beginning}
use Rattle.ftd_rules.specs.declared.run.Voidable.{Voidable}
use Rattle.std.specs.Option.{option_or}
use Rattle.ftd_days.proofs.Spelling.{same_text}
use Rattle.ftd_machine.specs.State.{Enrolled, Entry, Move, is_named, account_of, is_of, is_move_of}
use Rattle.ftd_machine.specs.State.{account_in_force, beginning_of, moves_of}
use Rattle.ftd_machine.specs.Step.{with_account, with_entry, with_move, with_voided, voided_if}

-- ---- names

pub own_name : (a : List ℕ) → bytes_eq a a ≡ true
own_name a = (bytes_eq-Decides a a).1 refl

other_as : (a b : List ℕ) (same : Bool) → bytes_eq a b ≡ same → (a ≡ b → ⊥) → same ≡ false
other_as a b true e other = absurd (other (same_text a b e))
other_as a b false e other = refl

pub other_name : (a b : List ℕ) → (a ≡ b → ⊥) → bytes_eq a b ≡ false
other_name a b other = other_as a b (bytes_eq a b) refl other

-- ---- one more

pub filter_more : {X : Type 0} (p : X → Bool) (xs : List X) (x : X) (b : Bool) → p x ≡ b
    → filter p (xs ++ x ∷ []) ≡ cond b (filter p xs ++ x ∷ []) (filter p xs)
filter_more p xs x true e = filter-append p xs (x ∷ []) ∙ (rw e refl)
filter_more p xs x false e = filter-append p xs (x ∷ []) ∙ (rw e (append-nil (filter p xs)))

-- an entry more is one of its account
pub entry_own : {X : Type 0} (xs : List (Entry X)) (name : List ℕ) (key : ℕ) (content : X)
    → filter (is_of name) (with_entry xs name key content) ≡ with_entry (filter (is_of name) xs)
    name key content
entry_own xs name key content = filter_more (is_of name) xs _ true (own_name name)

-- and of no other one
pub entry_other : {X : Type 0} (xs : List (Entry X)) (name : List ℕ) (key : ℕ) (content : X)
    (account : List ℕ)
    → (name ≡ account → ⊥) → filter (is_of account) (with_entry xs name key content) ≡ filter
    (is_of account) xs
entry_other xs name key content account other = filter_more (is_of account) xs _ false
    (other_name name account other)

find_more : {X : Type 0} (p : X → Bool) (xs : List X) (x : X) → p x ≡ false
    → find p (xs ++ x ∷ []) ≡ find p xs
find_more p [] x e = rw e refl
find_more p (y ∷ xs) x e = ap (λ o. cond (p y) (Some y) o) (find_more p xs x e)

pub account_other : (xs : List Enrolled) (name : List ℕ) (account : Account) (other : List ℕ)
    → (name ≡ other → ⊥) → find (is_named other) (with_account xs name account) ≡ find
    (is_named other) xs
account_other xs name account other apart = find_more (is_named other) xs _
    (other_name name other apart)

-- ---- one that is voided

voided_head : {X : Type 0} (name : List ℕ) (key : ℕ) (account : List ℕ) (e : Entry (Voidable X))
    → (name ≡ account → ⊥) → bytes_eq e.name account ≡ true → voided_if name key e ≡ e
voided_head name key account e other own =
    let off : bytes_eq e.name name ≡ false =
    other_name e.name name (λ is. other (sym is ∙ same_text e.name account own)) in
    rw off refl

voided_step : {X : Type 0} (name : List ℕ) (key : ℕ) (account : List ℕ) (e : Entry (Voidable X))
    (xs : List (Entry (Voidable X)))
    (b : Bool) → bytes_eq e.name account ≡ b → (name ≡ account → ⊥)
    → filter (is_of account) (with_voided xs name key) ≡ filter (is_of account) xs
    → cond b (voided_if name key e ∷ filter (is_of account) (with_voided xs name key))
    (filter (is_of account) (with_voided xs name key))
    ≡ cond b (e ∷ filter (is_of account) xs) (filter (is_of account) xs)
voided_step name key account e xs true own other same =
    rw (voided_head name key account e other own, same) refl
voided_step name key account e xs false own other same = same

-- what is voided of one account leaves the entries of each other one
pub voided_other : {X : Type 0} (xs : List (Entry (Voidable X))) (name : List ℕ) (key : ℕ)
    (account : List ℕ)
    → (name ≡ account → ⊥) → filter (is_of account) (with_voided xs name key) ≡ filter
    (is_of account) xs
voided_other [] name key account other = refl
voided_other (e ∷ xs) name key account other =
    voided_step name key account e xs (bytes_eq e.name account) refl other
    (voided_other xs name key account other)

-- and those of the account are voided in their places
pub voided_own : {X : Type 0} (xs : List (Entry (Voidable X))) (name : List ℕ) (key : ℕ)
    → filter (is_of name) (with_voided xs name key) ≡ with_voided (filter (is_of name) xs) name key
voided_own [] name key = refl
voided_own (e ∷ xs) name key =
    own_step name key e xs (bytes_eq e.name name) (voided_own xs name key)
  where
    own_step : {X : Type 0} (name : List ℕ) (key : ℕ) (e : Entry (Voidable X))
        (xs : List (Entry (Voidable X))) (b : Bool)
        → filter (is_of name) (with_voided xs name key) ≡ with_voided (filter (is_of name) xs) name
        key
        → cond b (voided_if name key e ∷ filter (is_of name) (with_voided xs name key))
        (filter (is_of name) (with_voided xs name key))
        ≡ with_voided (cond b (e ∷ filter (is_of name) xs) (filter (is_of name) xs)) name key
    own_step name key e xs true same = ap (λ ys. voided_if name key e ∷ ys) same
    own_step name key e xs false same = same

-- an account more is the one of its name, unless there was one
find_own : (p : Enrolled → Bool) (xs : List Enrolled) (x : Enrolled) → p x ≡ true
    → option_map account_of (find p (xs ++ x ∷ [])) ≡ option_or (option_map account_of (find p xs))
    (Some x.account)
find_own p [] x e = rw e refl
find_own p (y ∷ xs) x e = found_own (p y) (find_own p xs x e)
  where
    found_own : (b : Bool) → option_map account_of (find p (xs ++ x ∷ [])) ≡ option_or
        (option_map account_of (find p xs)) (Some x.account)
        → option_map account_of (cond b (Some y) (find p (xs ++ x ∷ []))) ≡ option_or
        (option_map account_of (cond b (Some y) (find p xs))) (Some x.account)
    found_own true same = refl
    found_own false same = same

pub account_own : (xs : List Enrolled) (name : List ℕ) (account : Account)
    → option_map account_of (find (is_named name) (with_account xs name account))
    ≡ option_or (option_map account_of (find (is_named name) xs)) (Some account)
account_own xs name account = find_own (is_named name) xs _ (own_name name)

-- ---- an account that is put right

pub moved_other : (xs : List Move) (name : List ℕ) (beginning : Beginning) (other : List ℕ)
    → (name ≡ other → ⊥) → moves_of other (with_move xs name beginning) ≡ moves_of other xs
moved_other xs name beginning other apart =
    ap (map beginning_of) (filter_more (is_move_of other) xs _ false (other_name name other apart))

pub moved_own : (xs : List Move) (name : List ℕ) (beginning : Beginning)
    → moves_of name (with_move xs name beginning) ≡ moves_of name xs ++ beginning ∷ []
moved_own xs name beginning =
    ap (map beginning_of) (filter_more (is_move_of name) xs _ true (own_name name))
    ∙ map-append beginning_of (filter (is_move_of name) xs) _

-- an account that is in force was enrolled
pub was_enrolled : (enrolled : Option Account) (moves : List Beginning)
    → is_some (account_in_force enrolled moves) ≡ true → is_some enrolled ≡ true
was_enrolled None moves e = absurd cc
was_enrolled (Some account) moves e = refl
