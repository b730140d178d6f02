-- Sound states that have the same entries: each list of an account has the same entries, in
-- whatever order they were accepted, and the same days are holidays.
use Rattle.std.proofs.Common.{◌≡◌, ◌∙◌, inl, inr, refl, sym, ap, subst, ℕ, ◌==◌, Bool}
use Rattle.std.proofs.Common.{true, false, List, [], ◌∷◌, map, filter, Option, None}
use Rattle.std.proofs.Common.{Some, arith}
use Rattle.std.specs.Prelude.{find, if◌then◌else◌, is_some, option_map}
use Rattle.std.specs.List.Sorted.{IsPermutation}
use Rattle.std.proofs.lemmas.Bool.{eqb-true, true≢false}
use Rattle.std.proofs.lemmas.List.Sorted.{IsPermutation-sym, IsPermutation-trans}
use Rattle.ftd_days.specs.Business.{is_holiday}
use Rattle.ftd_days.specs.Holidays.{YearDays, holidays_of}
use Rattle.ftd_days.proofs.Spelling.{same_text}
use Rattle.ftd_rules.specs.Lists.{Has, KeysRise}
use Rattle.ftd_rules.proofs.Members.{any_has, has_kept, some_pass}
use Rattle.ftd_rules.proofs.Owed.{has_append, has_left, has_right}
use Rattle.ftd_machine.specs.History.{year_of_entry}
use Rattle.ftd_machine.specs.Journal.{SameEntries, in_order}
use Rattle.ftd_machine.specs.Sound.{AreDistinct, Follow, FollowFrom, IsSound, place_of}
use Rattle.ftd_machine.specs.Sound.{year_of_calendar}
use Rattle.ftd_machine.specs.State.{State, Entry, all_days, calendar_at}
use Rattle.ftd_machine.specs.State.{days_of, holidays, is_in_force, is_of, kept_at, latest}
use Rattle.ftd_machine.proofs.DaysOnce.{calendar_with}
use Rattle.ftd_machine.proofs.Entered.{is_kept, of_kept, its_own, same_place}
use Rattle.ftd_machine.proofs.Found.{filter_apart, find_one}
use Rattle.ftd_machine.proofs.InOrder.{ordered_is}
use Rattle.ftd_machine.proofs.Keeping.{is_year, same_key}
use Rattle.ftd_machine.proofs.Members.{has_filtered}
use Rattle.ftd_machine.proofs.Orders.{is_before, ordered_same_by}
use Rattle.ftd_machine.proofs.Single.{members_one}

-- ---- the same in both directions

-- if one state has the entries of another, the other has those of the one
pub same_back : (s t : State) → SameEntries s t → SameEntries t s
same_back s t same = record {
  calendars = λ year. sym (same.calendars year);
  added_days = λ day. sym (same.added_days day);
  changed_days = λ day. sym (same.changed_days day);
  accounts = λ name.
      let its = same.accounts name in
      record {
        enrolled = sym its.enrolled;
        moves = sym its.moves;
        reported = λ key. sym (its.reported key);
        corrected = λ key. sym (its.corrected key);
        reported_years = λ key. sym (its.reported_years key);
        corrected_years = λ key. sym (its.corrected_years key);
        open_years = λ key. sym (its.open_years key);
        runs = λ key. sym (its.runs key);
        payments = λ key. sym (its.payments key);
      };
}

-- ---- lists with the same members

-- lists whose keys differ, and that have the same members, are each other in another order
pub moved_by : {X : Type 0} (key : X → ℕ) (xs ys : List X) → AreDistinct key xs
    → AreDistinct key ys → ((x : X) → Has xs x → Has ys x) → ((x : X) → Has ys x → Has xs x)
    → IsPermutation xs ys
moved_by key xs ys apart also there back =
    let before = is_before key in
    IsPermutation-trans xs (in_order before xs) ys (ordered_is before xs)
    (subst (λ zs. IsPermutation zs ys) (sym (ordered_same_by key xs ys apart also there back))
    (IsPermutation-sym ys (in_order before ys) (ordered_is before ys)))

-- ---- the entries of one account

-- the key of an entry
abbrev pub key_of_entry : {X : Type 0} → Entry X → ℕ
key_of_entry e = e.key

-- entries of one name that differ in name or key differ in key
named_apart : {X : Type 0} (name : List ℕ) (xs : List (Entry X))
    → ((e : Entry X) → Has xs e → e.name ≡ name) → AreDistinct place_of xs
    → AreDistinct key_of_entry xs
named_apart name [] named apart = tt
named_apart name (x ∷ xs) named apart = (
  (λ later has is. apart.0 later has
      (same_place later x (named later (inr has) ∙ sym (named x (inl refl))) is)),
  named_apart name xs (λ e has. named e (inr has)) apart.1,
)

-- their keys differ
pub own_apart : {X : Type 0} (name : List ℕ) (xs : List (Entry X)) → AreDistinct place_of xs
    → AreDistinct key_of_entry (filter (is_of name) xs)
own_apart name xs apart =
    named_apart name (filter (is_of name) xs)
    (λ e has. same_text e.name name (has_filtered (is_of name) xs e has).1)
    (filter_apart place_of (is_of name) xs apart)

-- entries with one name, key and content are one
pub same_entry : {X : Type 0} (a b : Entry X) → a.name ≡ b.name → a.key ≡ b.key
    → a.content ≡ b.content → a ≡ b
same_entry a b name key content =
    λ i. record { name = name i; key = key i; content = content i }

-- where the same is kept under each key, the members are the same
pub entry_has : {X : Type 0} (name : List ℕ) (xs ys : List (Entry X)) → AreDistinct place_of xs
    → AreDistinct place_of ys
    → ((key : ℕ) → kept_at key (filter (is_of name) ys) ≡ kept_at key (filter (is_of name) xs))
    → (e : Entry X) → Has (filter (is_of name) xs) e → Has (filter (is_of name) ys) e
entry_has name xs ys apart also same e has =
    let here = has_filtered (is_of name) xs e has in
    let named : e.name ≡ name = same_text e.name name here.1 in
    let there = of_kept name ys also e.key e.content
    (same e.key ∙ is_kept name xs apart e here.0 named) in
    let d = there.0 in
    has_kept (is_of name) ys e
    (subst (Has ys) (same_entry d e (there.2 ∙ sym named) there.3 there.4) there.1)
    (its_own name e named)

-- so the one list is the other in another order
pub entries_moved : {X : Type 0} (name : List ℕ) (xs ys : List (Entry X)) → AreDistinct place_of xs
    → AreDistinct place_of ys
    → ((key : ℕ) → kept_at key (filter (is_of name) ys) ≡ kept_at key (filter (is_of name) xs))
    → IsPermutation (filter (is_of name) xs) (filter (is_of name) ys)
entries_moved name xs ys apart also same =
    moved_by key_of_entry (filter (is_of name) xs) (filter (is_of name) ys)
    (own_apart name xs apart) (own_apart name ys also) (entry_has name xs ys apart also same)
    (entry_has name ys xs also apart (λ key. sym (same key)))

-- ---- open years

-- they rise, as they follow one another
follow_rise : (e : Entry (Unit {0})) (es : List (Entry (Unit {0})))
    → FollowFrom e.key (map year_of_entry es) → KeysRise key_of_entry (e ∷ es)
follow_rise e [] follow = ((λ later has. absurd has), tt)
follow_rise e (f ∷ es) follow =
    let rest = follow_rise f es follow.1 in
    let next = follow.0 in (
      (λ later has. elim has [
        | inl is ↦ (let its : later.key ≡ f.key = ap key_of_entry is in omega arith)
        | inr there ↦ (let more = rest.0 later there in omega arith)
      ]),
      rest,
    )

-- so do open years of which each follows the one before it
years_rise : (es : List (Entry (Unit {0}))) → Follow (map year_of_entry es)
    → KeysRise key_of_entry es
years_rise [] follow = tt
years_rise (e ∷ es) follow = follow_rise e es follow

-- whether a year is open says what is kept there
pub unit_kept : (o p : Option (Unit {0})) → is_some p ≡ is_some o → p ≡ o
unit_kept None None same = refl
unit_kept None (Some there) same = absurd (true≢false same)
unit_kept (Some here) None same = absurd (true≢false (sym same))
unit_kept (Some here) (Some there) same = refl

-- the open years of an account are the same list
pub years_same : (s t : State) → IsSound s → IsSound t → SameEntries s t → (name : List ℕ)
    → filter (is_of name) t.open_years ≡ filter (is_of name) s.open_years
years_same s t s_sound t_sound same name =
    let xs = filter (is_of name) s.open_years in
    let ys = filter (is_of name) t.open_years in
    let kept : (year : ℕ) → kept_at year ys ≡ kept_at year xs =
    λ year. unit_kept (kept_at year xs) (kept_at year ys) ((same.accounts name).open_years year) in
    members_one key_of_entry ys xs (years_rise ys (t_sound.in_turn name))
    (years_rise xs (s_sound.in_turn name))
    (entry_has name t.open_years s.open_years t_sound.open_years s_sound.open_years
    (λ year. sym (kept year)))
    (entry_has name s.open_years t.open_years s_sound.open_years t_sound.open_years kept)

-- ---- days

-- a day that is found in a list stands in it
pub has_day : (days : List ℕ) (day : ℕ) → is_holiday days day ≡ true → Has days day
has_day days day is =
    let found = some_pass (λ holiday. holiday == day) days is in
    subst (Has days) (eqb-true found.0 day found.2) found.1

-- and one that stands in it is found
pub day_found : (days : List ℕ) (day : ℕ) → Has days day → is_holiday days day ≡ true
day_found days day has = any_has (λ holiday. holiday == day) days day has (same_key day)

-- two tests that pass together are the same
days_as : (b c : Bool) → (b ≡ true → c ≡ true) → (c ≡ true → b ≡ true) → c ≡ b
days_as true true there back = refl
days_as true false there back = there refl
days_as false true there back = sym (back refl)
days_as false false there back = refl

-- so lists with the same members have the same days
pub same_days : (xs ys : List ℕ) → ((day : ℕ) → Has xs day → Has ys day)
    → ((day : ℕ) → Has ys day → Has xs day) → (day : ℕ) → is_holiday ys day ≡ is_holiday xs day
same_days xs ys there back day =
    days_as (is_holiday xs day) (is_holiday ys day)
    (λ is. day_found ys day (there day (has_day xs day is)))
    (λ is. day_found xs day (back day (has_day ys day is)))

-- a day of a calendar is one of all the days that were given
given_has : (cs : List YearDays) (c : YearDays) (day : ℕ) → Has cs c → Has c.days day
    → Has (holidays_of cs) day
given_has [] c day has of_it = absurd has
given_has (x ∷ cs) c day (inl is) of_it =
    has_left x.days (holidays_of cs) day (subst (λ (y : YearDays). Has y.days day) is of_it)
given_has (x ∷ cs) c day (inr there) of_it =
    has_right x.days (holidays_of cs) day (given_has cs c day there of_it)

-- the calendar that is found of a year has its days
calendar_found : (cs : List YearDays) (year : ℕ) (days : List ℕ)
    → option_map days_of (find (is_year year) cs) ≡ Some days
    → (c : YearDays) × Has cs c × (c.days ≡ days)
calendar_found [] year days found = absurd cc
calendar_found (c ∷ cs) year days found =
    go (is_year year c) found (λ e. calendar_found cs year days e)
  where
    go : (b : Bool) → option_map days_of (if b then Some c else find (is_year year) cs) ≡ Some days
        → (option_map days_of (find (is_year year) cs) ≡ Some days
        → (d : YearDays) × Has cs d × (d.days ≡ days))
        → (d : YearDays) × Has (c ∷ cs) d × (d.days ≡ days)
    go true is later = (c, inl refl, cc)
    go false is later = let rest = later is in (rest.0, inr rest.1, rest.2)

module _ (s t : State) (sound : IsSound s) (same : SameEntries s t) where
  -- each day that was given to the one was given to the other
  given_day : (day : ℕ) → Has (holidays_of s.calendars) day → Has (holidays_of t.calendars) day
  given_day day has =
      let c = calendar_with s.calendars day has in
      let here : calendar_at s c.0.year ≡ Some c.0.days =
      ap (option_map days_of) (find_one (is_year c.0.year) year_of_calendar s.calendars c.0
      sound.calendars c.1 (same_key c.0.year)
      (λ x x_has is. sym (eqb-true x.year c.0.year is))) in
      let d = calendar_found t.calendars c.0.year c.0.days (same.calendars c.0.year ∙ here) in
      given_has t.calendars d.0 day d.1 (subst (λ days. Has days day) (sym d.2) c.2)

  -- and so is each that was added
  pub added_day : (day : ℕ) → Has s.added_days day → Has t.added_days day
  added_day day has =
      has_day t.added_days day (same.added_days day ∙ day_found s.added_days day has)

  -- so is each that was given or added
  pub all_day : (day : ℕ) → Has (all_days s) day → Has (all_days t) day
  all_day day has = elim (has_append (holidays_of s.calendars) s.added_days day has) [
    | inl given ↦ has_left (holidays_of t.calendars) t.added_days day (given_day day given)
    | inr added ↦ has_right (holidays_of t.calendars) t.added_days day (added_day day added)
  ]

  -- and each of them that is in force
  holiday_day : (day : ℕ) → Has (holidays s) day → Has (holidays t) day
  holiday_day day has =
      let here = has_filtered (is_in_force s.changed_days) (all_days s) day has in
      has_kept (is_in_force t.changed_days) (all_days t) day (all_day day here.0)
      (ap (latest true) (same.changed_days day) ∙ here.1)

-- the same days are holidays
pub same_holidays : (s t : State) → IsSound s → IsSound t → SameEntries s t → (day : ℕ)
    → is_holiday (holidays t) day ≡ is_holiday (holidays s) day
same_holidays s t s_sound t_sound same =
    let back = same_back s t same in
    same_days (holidays s) (holidays t) (holiday_day s t s_sound same)
    (holiday_day t s t_sound back)
