-- The open years of a journal's account: each is opened, as they follow one another.
use Rattle.std.proofs.Common.{◌≡◌, ◌∙◌, ◌⊎◌, inl, inr, refl, sym, ap, subst, ℕ, ◌+◌, ◌-◌, ◌==◌}
use Rattle.std.proofs.Common.{◌||◌}
use Rattle.std.proofs.Common.{true, false, List, [], ◌∷◌, ◌++◌, map, filter, length, arith}
use Rattle.std.proofs.Common.{append-nil, append_assoc}
use Rattle.std.specs.Prelude.{is_some}
use Rattle.std.proofs.lemmas.Bool.{or_left, or_right}
use Rattle.ftd_days.specs.declared.cents.Cents.{Cents}
use Rattle.ftd_rules.specs.Accounts.{is_account_name}
use Rattle.ftd_rules.specs.Lists.{Has}
use Rattle.ftd_rules.proofs.Members.{has_kept}
use Rattle.ftd_rules.proofs.Owed.{has_append, has_left, has_right}
use Rattle.ftd_machine.specs.Limits.{can_be_opened}
use Rattle.ftd_machine.specs.Checks.{meets}
use Rattle.ftd_machine.specs.Requests.{open_year_checks, has_started_in}
use Rattle.ftd_machine.specs.History.{HasLookback, year_of_entry}
use Rattle.ftd_machine.specs.Sound.{AreDistinct, place_of, Follow, FollowFrom}
use Rattle.ftd_machine.specs.State.{State, Entry, entries_of, is_of, is_open, is_given, has_key}
use Rattle.ftd_machine.specs.State.{content_of}
use Rattle.ftd_machine.specs.Step.{may_open}
use Rattle.ftd_machine.specs.Journal.{year_opened}
use Rattle.ftd_machine.specs.declared.requests.Request.TheVariants.{Enter}
use Rattle.ftd_machine.specs.declared.requests.Entry.TheVariants as entry
use Rattle.ftd_machine.proofs.Found.{IsAbsent, absent_kept, not_before, has_here, find_there}
use Rattle.ftd_machine.proofs.Entered.{its_own, same_place}
use Rattle.ftd_machine.proofs.Keeping.{same_key}
use Rattle.ftd_machine.proofs.Passing.{Pass, pass_end, pass_needs, pass_done, pass_finds}
use Rattle.ftd_machine.proofs.Since.{meets_some, not_of}
use Rattle.ftd_machine.proofs.Taken.{Leads, each_leads}

-- a year that follows is the one after another that stands before it, if any does
from_before : (z : Entry (Unit {0})) (xs : List (Entry (Unit {0}))) (e : Entry (Unit {0}))
    (rest : List (Entry (Unit {0}))) → FollowFrom z.key (map year_of_entry (xs ++ e ∷ rest))
    → (x : Entry (Unit {0})) × Has (z ∷ xs) x × (e.key ≡ x.key + 1)
from_before z [] e rest follow = (z, inl refl, follow.0)
from_before z (y ∷ xs) e rest follow =
    let before = from_before y xs e rest follow.1 in (before.0, inr before.1, before.2)

follows_one : (xs : List (Entry (Unit {0}))) (e : Entry (Unit {0})) (rest : List (Entry (Unit {0})))
    → Follow (map year_of_entry (xs ++ e ∷ rest))
    → (xs ≡ []) ⊎ ((x : Entry (Unit {0})) × Has xs x × (e.key ≡ x.key + 1))
follows_one [] e rest follow = inl refl
follows_one (z ∷ xs) e rest follow = inr (from_before z xs e rest follow)

-- what opening the year asks of the account and of the calendars
pub record MayOpen (t : State) (name : List ℕ) (year : ℕ) : Type 0 where
  pub in_years : can_be_opened year ≡ true
  pub started : meets (has_started_in year) (entries_of t name).account ≡ true
  pub given : is_given t year ≡ true
  pub given_next : is_given t (year + 1) ≡ true

module _ (t : State) (name : List ℕ) (all : List (Entry (Unit {0})))
    (apart : AreDistinct place_of all)
    (own : (e : Entry (Unit {0})) → Has all e → e.name ≡ name)
    (follow : Follow (map year_of_entry all))
    (named : is_account_name name ≡ true)
    (may : (e : Entry (Unit {0})) → Has all e → MayOpen t name e.key)
    (total : (xs : List (Entry (Unit {0}))) (e : Entry (Unit {0})) → Has all e
    → (cents : Cents) × HasLookback (entries_of (record t { open_years = xs }) name) e.key cents)
    (none : filter (is_of name) t.open_years ≡ []) where
  abbrev put : List (Entry (Unit {0})) → State
  put xs = record t { open_years = t.open_years ++ xs }

  -- it is the first, or the year before it is open
  first_or_next : (xs : List (Entry (Unit {0}))) (e : Entry (Unit {0}))
      (rest : List (Entry (Unit {0}))) → all ≡ xs ++ e ∷ rest
      → ((length (entries_of (put xs) name).open_years == 0)
      || is_open (entries_of (put xs) name) (e.key - 1)) ≡ true
  first_or_next xs e rest is =
      elim (follows_one xs e rest (subst (λ ys. Follow (map year_of_entry ys)) is follow)) [
        | inl first ↦ or_left (length (entries_of (put xs) name).open_years == 0)
            (is_open (entries_of (put xs) name) (e.key - 1))
            (ap (λ (ys : List (Entry (Unit {0}))).
            length (filter (is_of name) (t.open_years ++ ys)) == 0) first
            ∙ ap (λ (ys : List (Entry (Unit {0}))). length (filter (is_of name) ys) == 0)
            (append-nil t.open_years)
            ∙ ap (λ (ys : List (Entry (Unit {0}))). length ys == 0) none)
        | inr x ↦ or_right (length (entries_of (put xs) name).open_years == 0)
            (is_open (entries_of (put xs) name) (e.key - 1)) (open_before x.0 x.1 x.2)
      ]
    where
      open_before : (x : Entry (Unit {0})) → Has xs x → e.key ≡ x.key + 1
          → is_open (entries_of (put xs) name) (e.key - 1) ≡ true
      open_before x has next =
          let year : x.key ≡ e.key - 1 = omega arith in
          let mine : x.name ≡ name = own x
          (subst (λ ys. Has ys x) (sym is) (has_left xs (e ∷ rest) x has)) in
          find_there content_of (has_key (e.key - 1))
          (filter (is_of name) (t.open_years ++ xs)) x
          (has_kept (is_of name) (t.open_years ++ xs) x (has_right t.open_years xs x has)
          (its_own name x mine))
          (ap (λ y. y == e.key - 1) year ∙ same_key (e.key - 1))

  one : (xs : List (Entry (Unit {0}))) (e : Entry (Unit {0})) (rest : List (Entry (Unit {0})))
      → all ≡ xs ++ e ∷ rest → Leads (year_opened e ∷ []) (put xs) (put (xs ++ e ∷ []))
  one xs e rest is =
      let mine : Has all e = subst (λ ys. Has ys e) (sym is) (has_here xs e rest) in
      let here : name ≡ e.name = sym (own e mine) in
      let its = may e mine in
      let absent : IsAbsent (t.open_years ++ xs) name e.key =
      λ d has names keys. elim (has_append t.open_years xs d has) [
        | inl before ↦ not_of name t.open_years d none before (sym names)
        | inr there ↦ not_before place_of xs e rest (subst (AreDistinct place_of) is apart) d there
            (same_place d e (names ∙ here) keys)
      ] in
      let shut : is_open (entries_of (put xs) name) e.key ≡ false =
      ap is_some (absent_kept (t.open_years ++ xs) name e.key absent) in
      let pass : Pass (open_year_checks name e.key (entries_of t name).account
      (is_open (entries_of (put xs) name) e.key) (is_given t e.key) (is_given t (e.key + 1))) =
      pass_needs _ _ _ named (pass_needs _ _ _ its.in_years
      (pass_finds _ _ _ (meets_some _ (entries_of t name).account its.started)
      (pass_done _ _ shut (pass_needs _ _ _ its.started (pass_needs _ _ _ its.given
      (pass_needs _ _ _ its.given_next pass_end)))))) in
      let turn : Pass (may_open (entries_of (put xs) name) e.key) =
      pass_needs _ _ _ (first_or_next xs e rest is) pass_end in
      let lead : Leads (Enter (entry.Year name e.key) ∷ []) (put xs)
      (record t {
        open_years = (t.open_years ++ xs)
            ++ record { name = name; key = e.key; content = tt } ∷ [];
      }) =
      record {
        pass = ((pass.ok, total (t.open_years ++ xs) e mine, turn.ok), tt);
        ends = refl;
      } in
      subst (Leads (year_opened e ∷ []) (put xs))
      (ap (λ ys. record t { open_years = ys }) (append_assoc t.open_years xs (e ∷ [])))
      (subst (λ n. Leads (Enter (entry.Year n e.key) ∷ []) (put xs)
      (record t {
        open_years = (t.open_years ++ xs)
            ++ record { name = n; key = e.key; content = tt } ∷ [];
      })) here lead)

  pub years_lead : Leads (map year_opened all) t (put all)
  years_lead =
      subst (λ ys. Leads (map year_opened all) (record t { open_years = ys }) (put all))
      (append-nil t.open_years) (each_leads year_opened put all one)
