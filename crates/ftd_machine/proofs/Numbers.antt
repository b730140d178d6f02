-- Corrections under their numbers: one more has the next number, and those before keep theirs.
use Rattle.std.proofs.Common.{◌≡◌, ◌∙◌, refl, sym, ap, ℕ, zero, suc, ◌+◌, ◌-◌, ◌==◌, Bool, true}
use Rattle.std.proofs.Common.{List, [], ◌∷◌, ◌++◌, length, filter, map, Option, None, Some, arith}
use Rattle.std.specs.Prelude.{slice_get, option_map, unwrap_or}
use Rattle.std.proofs.lemmas.List.{map-append}
use Rattle.std.proofs.lemmas.Bool.{eqb-true}
use Rattle.std.proofs.lemmas.List.Elements.{filter-append}
use Rattle.ftd_machine.specs.State.{Entry, Move, DayChange, is_of, has_key, content_of, all_at}
use Rattle.ftd_machine.specs.State.{numbered, is_move_of, beginning_of, moves_of, changes_of}
use Rattle.ftd_machine.specs.State.{is_on_day, latest, says_holiday}
use Rattle.ftd_machine.specs.Checks.{first_of}
use Rattle.ftd_machine.specs.Requests.{is_next}
use Rattle.ftd_machine.specs.Step.{with_entry}
use Rattle.ftd_machine.specs.declared.replies.Refusal.TheVariants.{NumberSkipped}
use Rattle.ftd_machine.proofs.Adding.{entry_own}
use Rattle.ftd_machine.proofs.Heads.{gives_needs}
use Rattle.ftd_machine.proofs.Keeping.{same_key}

get_append : {X : Type 0} (xs ys : List X) (i : ℕ) (x : X) → slice_get xs i ≡ Some x
    → slice_get (xs ++ ys) i ≡ Some x
get_append [] ys i x is = absurd cc
get_append (z ∷ xs) ys zero x is = is
get_append (z ∷ xs) ys (suc i) x is = get_append xs ys i x is

get_last : {X : Type 0} (xs : List X) (x : X) → slice_get (xs ++ x ∷ []) (length xs) ≡ Some x
get_last [] x = refl
get_last (z ∷ xs) x = get_last xs x

-- a correction keeps its number where more come after it
pub numbered_append : {X : Type 0} (number : ℕ) (xs ys : List X) (x : X)
    → numbered number xs ≡ Some x → numbered number (xs ++ ys) ≡ Some x
numbered_append number xs ys x is = get_append xs ys _ x is

-- what has the next number stands last
pub numbered_next : {X : Type 0} (number : ℕ) (xs ys : List X) (x : X) → ys ≡ xs ++ x ∷ []
    → first_of (is_next number (length xs) ∷ []) ≡ None → numbered number ys ≡ Some x
numbered_next number xs ys x more passed =
    let next : (number == length xs + 1) ≡ true =
    (gives_needs (number == length xs + 1) (NumberSkipped (length xs)) []).fact passed in
    let is : number ≡ length xs + 1 = eqb-true number (length xs + 1) next in
    let place : number - 1 ≡ length xs = omega arith in
    ap (λ zs. slice_get zs (number - 1)) more
    ∙ ap (slice_get (xs ++ x ∷ [])) place
    ∙ get_last xs x

-- ---- of the entries of an account

pub keyed : {X : Type 0} (key : ℕ) (xs ys : List (Entry X))
    → all_at key (xs ++ ys) ≡ all_at key xs ++ all_at key ys
keyed key xs ys =
    ap (map content_of) (filter-append (has_key key) xs ys)
    ∙ map-append content_of (filter (has_key key) xs) (filter (has_key key) ys)

-- one more stands last under its key
pub all_own : {X : Type 0} (xs : List (Entry X)) (name : List ℕ) (key : ℕ) (content : X)
    → all_at key (filter (is_of name) (with_entry xs name key content))
    ≡ all_at key (filter (is_of name) xs) ++ content ∷ []
all_own xs name key content =
    ap (all_at key) (entry_own xs name key content)
    ∙ keyed key (filter (is_of name) xs) _
    ∙ ap (λ ys. all_at key (filter (is_of name) xs) ++ ys) (rw (same_key key) refl)

-- each keeps its number
abbrev pub KeepsNumbers : {X : Type 0} → List (Entry X) → List (Entry X) → Type 0
KeepsNumbers {X = X} xs ys = (name : List ℕ) (key number : ℕ) (content : X)
    → numbered number (all_at key (filter (is_of name) xs)) ≡ Some content
    → numbered number (all_at key (filter (is_of name) ys)) ≡ Some content

pub keeps_numbers : {X : Type 0} (xs : List (Entry X)) (own : List ℕ) (at : ℕ) (more : X)
    → KeepsNumbers xs (with_entry xs own at more)
keeps_numbers xs own at more name key number content is =
    ap (λ ys. numbered number (all_at key ys)) (filter-append (is_of name) xs _)
    ∙ ap (numbered number) (keyed key (filter (is_of name) xs) _)
    ∙ numbered_append number (all_at key (filter (is_of name) xs)) _ content is

-- ---- of a day

pub changes_append : (day : ℕ) (xs ys : List DayChange)
    → changes_of day (xs ++ ys) ≡ changes_of day xs ++ changes_of day ys
changes_append day xs ys =
    ap (map says_holiday) (filter-append (is_on_day day) xs ys)
    ∙ map-append says_holiday (filter (is_on_day day) xs) (filter (is_on_day day) ys)

pub changes_own : (day : ℕ) (xs : List DayChange) (is_holiday : Bool)
    → changes_of day (xs ++ record { day = day; is_holiday = is_holiday } ∷ [])
    ≡ changes_of day xs ++ is_holiday ∷ []
changes_own day xs is_holiday =
    changes_append day xs _
    ∙ ap (λ ys. changes_of day xs ++ ys) (rw (same_key day) refl)

-- ---- of an account

pub moves_append : (name : List ℕ) (xs ys : List Move)
    → moves_of name (xs ++ ys) ≡ moves_of name xs ++ moves_of name ys
moves_append name xs ys =
    ap (map beginning_of) (filter-append (is_move_of name) xs ys)
    ∙ map-append beginning_of (filter (is_move_of name) xs) (filter (is_move_of name) ys)

-- ---- of what was first given

-- what is in force is the last correction of what was first given
pub first_of_force : {X : Type 0} (o : Option X) (later : List X) (x : X)
    → option_map (λ first. latest first later) o ≡ Some x
    → (first : X) × (o ≡ Some first) × (x ≡ latest first later)
first_of_force None later x e = absurd cc
first_of_force (Some first) later x e = (first, refl, sym (ap (λ o. unwrap_or o x) e))

pub none_in_force : {X : Type 0} (o : Option X) (later : List X)
    → option_map (λ first. latest first later) o ≡ None → o ≡ None
none_in_force None later e = refl
none_in_force (Some first) later e = absurd cc
