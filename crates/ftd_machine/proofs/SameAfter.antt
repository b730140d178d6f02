-- States that have the same entries have the same entries after the same change.
use Rattle.std.proofs.Common.{◌≡◌, ◌∙◌, inl, inr, refl, sym, ap, ℕ, ◌==◌, ◌&&◌, ◌||◌, Bool}
use Rattle.std.proofs.Common.{List, [], ◌∷◌, ◌++◌, map, filter, Option, None, Some, bytes_eq}
use Rattle.std.specs.Prelude.{find, if◌then◌else◌, is_some, option_map}
use Rattle.std.specs.List.{list_any}
use Rattle.std.specs.Option.{option_or}
use Rattle.std.proofs.lemmas.Bool.{cases_Bool, eqb-true}
use Rattle.std.proofs.lemmas.List.{map-append}
use Rattle.std.proofs.lemmas.List.Elements.{filter-append}
use Rattle.std.proofs.lemmas.List.Folds.{find-append, list_any-append}
use Rattle.ftd_days.specs.Business.{is_holiday}
use Rattle.ftd_days.proofs.Spelling.{same_text}
use Rattle.ftd_rules.specs.declared.run.Voidable.{Voidable}
use Rattle.ftd_machine.specs.Journal.{SameEntries}
use Rattle.ftd_machine.specs.declared.entries.ReturnPeriod.TheVariants.{Quarter, Year}
use Rattle.ftd_machine.specs.declared.requests.Correction.TheVariants as correction
use Rattle.ftd_machine.specs.declared.requests.Entry.TheVariants as entry
use Rattle.ftd_machine.specs.declared.requests.Request.{Request}
use Rattle.ftd_machine.specs.declared.requests.Request.TheVariants.{Enter, Post, Void, Pay, VoidPay}
use Rattle.ftd_machine.specs.declared.requests.Request.TheVariants.{Correct, Question}
use Rattle.ftd_machine.specs.State.{State, Entry, account_of, all_at}
use Rattle.ftd_machine.specs.State.{changes_of, content_of, days_of, has_key, is_named, is_of}
use Rattle.ftd_machine.specs.State.{beginning_of, is_move_of, is_on_day, kept_at, moves_of}
use Rattle.ftd_machine.specs.State.{says_holiday}
use Rattle.ftd_machine.specs.Step.{as_voided, with_voided}
use Rattle.ftd_machine.proofs.Keeping.{is_year}
use Rattle.ftd_machine.proofs.SameMembers.{unit_kept}
use Rattle.ftd_machine.proofs.Taken.{state_after}

-- ---- what is found, kept and listed where more stands behind

-- what is made of the first of two, if there is one, and else of the second
map_or : {X Y : Type 0} (f : X → Y) (o p : Option X)
    → option_map f (option_or o p) ≡ option_or (option_map f o) (option_map f p)
map_or f None p = refl
map_or f (Some x) p = refl

-- the same is found where the same stands behind
found_more : {X Y : Type 0} (f : X → Y) (test : X → Bool) (xs ys more : List X)
    → option_map f (find test ys) ≡ option_map f (find test xs)
    → option_map f (find test (ys ++ more)) ≡ option_map f (find test (xs ++ more))
found_more f test xs ys more same =
    ap (option_map f) (find-append test ys more) ∙ map_or f (find test ys) (find test more)
    ∙ ap (λ o. option_or o (option_map f (find test more))) same
    ∙ sym (map_or f (find test xs) (find test more))
    ∙ sym (ap (option_map f) (find-append test xs more))

-- the same pass where the same stands behind
listed_more : {X Y : Type 0} (f : X → Y) (test : X → Bool) (xs ys more : List X)
    → map f (filter test ys) ≡ map f (filter test xs)
    → map f (filter test (ys ++ more)) ≡ map f (filter test (xs ++ more))
listed_more f test xs ys more same =
    ap (map f) (filter-append test ys more)
    ∙ map-append f (filter test ys) (filter test more)
    ∙ ap (λ zs. zs ++ map f (filter test more)) same
    ∙ sym (map-append f (filter test xs) (filter test more))
    ∙ sym (ap (map f) (filter-append test xs more))

-- some pass where some did, or some of what stands behind
any_more : {X : Type 0} (test : X → Bool) (xs ys more : List X)
    → list_any test ys ≡ list_any test xs → list_any test (ys ++ more) ≡ list_any test (xs ++ more)
any_more test xs ys more same =
    list_any-append test ys more ∙ ap (λ b. b || list_any test more) same
    ∙ sym (list_any-append test xs more)

-- ---- entries under each key

-- under each name and key the same is kept, or the same corrections
abbrev SameKept : {X : Type 0} → List (Entry X) → List (Entry X) → Type 0
SameKept xs ys = (name : List ℕ) (key : ℕ)
    → kept_at key (filter (is_of name) ys) ≡ kept_at key (filter (is_of name) xs)

abbrev SameListed : {X : Type 0} → List (Entry X) → List (Entry X) → Type 0
SameListed xs ys = (name : List ℕ) (key : ℕ)
    → all_at key (filter (is_of name) ys) ≡ all_at key (filter (is_of name) xs)

-- the same is kept where the same entries stand behind
kept_more : {X : Type 0} (xs ys more : List (Entry X)) → SameKept xs ys
    → SameKept (xs ++ more) (ys ++ more)
kept_more xs ys more same name key =
    ap (kept_at key) (filter-append (is_of name) ys more)
    ∙ found_more content_of (has_key key) (filter (is_of name) xs) (filter (is_of name) ys)
    (filter (is_of name) more) (same name key)
    ∙ sym (ap (kept_at key) (filter-append (is_of name) xs more))

-- and the same corrections are
all_more : {X : Type 0} (xs ys more : List (Entry X)) → SameListed xs ys
    → SameListed (xs ++ more) (ys ++ more)
all_more xs ys more same name key =
    ap (all_at key) (filter-append (is_of name) ys more)
    ∙ listed_more content_of (has_key key) (filter (is_of name) xs) (filter (is_of name) ys)
    (filter (is_of name) more) (same name key)
    ∙ sym (ap (all_at key) (filter-append (is_of name) xs more))

-- ---- what is voided

-- it is voided, if it stands there
abbrev void_at : {X : Type 0} → Bool → Voidable X → Voidable X
void_at under v = if under then as_voided v else v

-- what is kept is voided, where it stands under the name and the key
void_kept : {X : Type 0} (own : List ℕ) (number : ℕ) (name : List ℕ) (key : ℕ)
    (es : List (Entry (Voidable X)))
    → kept_at key (filter (is_of name) (with_voided es own number))
    ≡ option_map (void_at (bytes_eq name own && (key == number)))
    (kept_at key (filter (is_of name) es))
void_kept own number name key [] = refl
void_kept own number name key (e ∷ es) =
    let rest = void_kept own number name key es in
    elim (cases_Bool (bytes_eq e.name name)) [
      | inr other ↦ rw other rest
      | inl mine ↦ elim (cases_Bool (e.key == key)) [
        | inr apart ↦ rw (mine, apart) rest
        | inl here ↦
            let named = same_text e.name name mine in
            let at = eqb-true e.key key here in
            rw (mine, here)
            (λ i. Some (void_at (bytes_eq (named i) own && (at i == number)) e.content))
      ]
    ]

-- so the same is kept where the same is voided
kept_voided : {X : Type 0} (own : List ℕ) (number : ℕ) (xs ys : List (Entry (Voidable X)))
    → SameKept xs ys → SameKept (with_voided xs own number) (with_voided ys own number)
kept_voided own number xs ys same name key =
    void_kept own number name key ys
    ∙ ap (option_map (void_at (bytes_eq name own && (key == number)))) (same name key)
    ∙ sym (void_kept own number name key xs)

-- ---- a state, list by list

-- the lists of a state
data Part : Type 0 where
  accounts : Part
  calendars : Part
  added_days : Part
  reported : Part
  reported_years : Part
  open_years : Part
  runs : Part
  payments : Part
  corrected : Part
  corrected_years : Part
  changed_days : Part
  moved : Part

-- two states have the same in a list
abbrev SameIn : State → State → Part → Type 0
SameIn s t accounts = (name : List ℕ) → option_map account_of (find (is_named name) t.accounts)
    ≡ option_map account_of (find (is_named name) s.accounts)
SameIn s t calendars = (year : ℕ) → option_map days_of (find (is_year year) t.calendars)
    ≡ option_map days_of (find (is_year year) s.calendars)
SameIn s t added_days = (day : ℕ) → is_holiday t.added_days day ≡ is_holiday s.added_days day
SameIn s t reported = SameKept s.reported t.reported
SameIn s t reported_years = SameKept s.reported_years t.reported_years
SameIn s t open_years = SameKept s.open_years t.open_years
SameIn s t runs = SameKept s.runs t.runs
SameIn s t payments = SameKept s.payments t.payments
SameIn s t corrected = SameListed s.corrected t.corrected
SameIn s t corrected_years = SameListed s.corrected_years t.corrected_years
SameIn s t changed_days = (day : ℕ)
    → changes_of day t.changed_days ≡ changes_of day s.changed_days
SameIn s t moved = (name : List ℕ) → moves_of name t.moved ≡ moves_of name s.moved

-- states that have the same entries have the same in each list
same_in : (s t : State) → SameEntries s t → (part : Part) → SameIn s t part
same_in s t same accounts = λ name. (same.accounts name).enrolled
same_in s t same calendars = same.calendars
same_in s t same added_days = same.added_days
same_in s t same reported = λ name. (same.accounts name).reported
same_in s t same reported_years = λ name. (same.accounts name).reported_years
same_in s t same open_years = λ name year.
    unit_kept (kept_at year (filter (is_of name) s.open_years))
    (kept_at year (filter (is_of name) t.open_years)) ((same.accounts name).open_years year)
same_in s t same runs = λ name. (same.accounts name).runs
same_in s t same payments = λ name. (same.accounts name).payments
same_in s t same corrected = λ name. (same.accounts name).corrected
same_in s t same corrected_years = λ name. (same.accounts name).corrected_years
same_in s t same changed_days = same.changed_days
same_in s t same moved = λ name. (same.accounts name).moves

-- and the other way round
same_of : (s t : State) → ((part : Part) → SameIn s t part) → SameEntries s t
same_of s t same = record {
  calendars = same calendars;
  added_days = same added_days;
  changed_days = same changed_days;
  accounts = λ name. record {
    enrolled = same accounts name;
    moves = same moved name;
    reported = same reported name;
    corrected = same corrected name;
    reported_years = same reported_years name;
    corrected_years = same corrected_years name;
    open_years = λ year. ap is_some (same open_years name year);
    runs = same runs name;
    payments = same payments name;
  };
}

-- ---- the same change of both

-- in each list they have the same after a request that is done
after_in : (request : Request) (s t : State) → SameEntries s t → (part : Part)
    → SameIn (state_after request s) (state_after request t) part
after_in (Enter (entry.Account name account)) s t same accounts = λ own.
    found_more account_of (is_named own) s.accounts t.accounts _ (same_in s t same accounts own)
after_in (Enter (entry.Account name account)) s t same part = same_in s t same part
after_in (Enter (entry.Calendar year days)) s t same calendars = λ asked.
    found_more days_of (is_year asked) s.calendars t.calendars _ (same.calendars asked)
after_in (Enter (entry.Calendar year days)) s t same part = same_in s t same part
after_in (Enter (entry.Holiday day)) s t same added_days = λ asked.
    any_more (λ holiday. holiday == asked) s.added_days t.added_days _ (same.added_days asked)
after_in (Enter (entry.Holiday day)) s t same part = same_in s t same part
after_in (Enter (entry.Total name (Quarter quarter) cents)) s t same reported =
    kept_more s.reported t.reported _ (same_in s t same reported)
after_in (Enter (entry.Total name (Quarter quarter) cents)) s t same part = same_in s t same part
after_in (Enter (entry.Total name (Year year) cents)) s t same reported_years =
    kept_more s.reported_years t.reported_years _ (same_in s t same reported_years)
after_in (Enter (entry.Total name (Year year) cents)) s t same part = same_in s t same part
after_in (Enter (entry.Year name year)) s t same open_years =
    kept_more s.open_years t.open_years _ (same_in s t same open_years)
after_in (Enter (entry.Year name year)) s t same part = same_in s t same part
after_in (Post name number run) s t same runs =
    kept_more s.runs t.runs _ (same_in s t same runs)
after_in (Post name number run) s t same part = same_in s t same part
after_in (Void name number) s t same runs =
    kept_voided name number s.runs t.runs (same_in s t same runs)
after_in (Void name number) s t same part = same_in s t same part
after_in (Pay name number payment) s t same payments =
    kept_more s.payments t.payments _ (same_in s t same payments)
after_in (Pay name number payment) s t same part = same_in s t same part
after_in (VoidPay name number) s t same payments =
    kept_voided name number s.payments t.payments (same_in s t same payments)
after_in (VoidPay name number) s t same part = same_in s t same part
after_in (Correct number (correction.Total name (Quarter quarter) cents)) s t same corrected =
    all_more s.corrected t.corrected _ (same_in s t same corrected)
after_in (Correct number (correction.Total name (Quarter quarter) cents)) s t same part =
    same_in s t same part
after_in (Correct number (correction.Total name (Year year) cents)) s t same corrected_years =
    all_more s.corrected_years t.corrected_years _ (same_in s t same corrected_years)
after_in (Correct number (correction.Total name (Year year) cents)) s t same part =
    same_in s t same part
after_in (Correct number (correction.Holiday day is_one)) s t same changed_days = λ asked.
    listed_more says_holiday (is_on_day asked) s.changed_days t.changed_days _
    (same.changed_days asked)
after_in (Correct number (correction.Holiday day is_one)) s t same part = same_in s t same part
after_in (Correct number (correction.Account name beginning)) s t same moved = λ own.
    listed_more beginning_of (is_move_of own) s.moved t.moved _ (same_in s t same moved own)
after_in (Correct number (correction.Account name beginning)) s t same part =
    same_in s t same part
after_in (Question question) s t same part = same_in s t same part

-- the same request, where it is done, leaves them with the same entries
pub same_after : (request : Request) (s t : State) → SameEntries s t
    → SameEntries (state_after request s) (state_after request t)
same_after request s t same =
    same_of (state_after request s) (state_after request t) (after_in request s t same)
