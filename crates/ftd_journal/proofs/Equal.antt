-- Two desks have the same journal exactly where they have the same entries.
use Rattle.std.proofs.Common.{◌≡◌, ◌∙◌, inl, inr, refl, sym, ap, subst, ℕ, Bool, true}
use Rattle.std.proofs.Common.{false, List, [], ◌∷◌, ◌++◌, map, filter, Option, None, Some, arith}
use Rattle.std.specs.Prelude.{◌==◌, find, flat_map, is_some, nat_lt, option_map}
use Rattle.std.proofs.lemmas.Bool.{cases_Bool, eq-eqb, eqb-true, true≢false}
use Rattle.ftd_days.specs.Business.{is_holiday}
use Rattle.ftd_days.specs.Holidays.{YearDays, holidays_of}
use Rattle.ftd_days.proofs.Spelling.{same_text}
use Rattle.ftd_rules.specs.Lists.{Has, KeysRise}
use Rattle.ftd_rules.proofs.Owed.{has_append, has_left, has_right}
use Rattle.ftd_machine.specs.Checks.{Answer}
use Rattle.ftd_machine.specs.History.{year_of_entry}
use Rattle.ftd_machine.specs.Journal.{AreChanges, SameEntries, account_journal}
use Rattle.ftd_machine.specs.Journal.{calendar_given, corrections, day_changes}
use Rattle.ftd_machine.specs.Journal.{holiday_added, in_order, is_account_before}
use Rattle.ftd_machine.specs.Journal.{is_calendar_before, journal, own_by_key, total_reported}
use Rattle.ftd_machine.specs.Journal.{payment_made, run_posted, year_opened}
use Rattle.ftd_machine.specs.Runs.{Goes, IsFault, IsRun}
use Rattle.ftd_machine.specs.Laws.{is_change}
use Rattle.ftd_machine.specs.Step.{Step}
use Rattle.ftd_machine.specs.Sound.{AreDistinct, Follow, FollowFrom, IsSound, place_of}
use Rattle.ftd_machine.specs.Sound.{year_of_calendar}
use Rattle.ftd_machine.specs.State.{State, Enrolled, Entry, account_of, all_at, all_days}
use Rattle.ftd_machine.specs.State.{calendar_at, content_of, days_of, enrolled_in}
use Rattle.ftd_machine.specs.State.{has_key, is_named, is_of, kept_at, nothing}
use Rattle.ftd_machine.specs.declared.entries.ReturnPeriod.{ReturnPeriod}
use Rattle.ftd_machine.specs.declared.entries.ReturnPeriod.TheVariants.{Quarter, Year}
use Rattle.ftd_machine.specs.declared.requests.Correction.TheVariants as correction
use Rattle.ftd_machine.specs.declared.requests.Entry.TheVariants as entry
use Rattle.ftd_machine.specs.declared.requests.Request.{Request}
use Rattle.ftd_machine.specs.declared.requests.Request.TheVariants.{Enter}
use Rattle.ftd_days.specs.declared.cents.Cents.{Cents}
use Rattle.ftd_machine.proofs.Alike.{answers_once}
use Rattle.ftd_machine.proofs.DaysOnce.{calendar_with, once_right}
use Rattle.ftd_machine.proofs.Found.{find_one}
use Rattle.ftd_machine.proofs.JournalAccount.{enrolled_is}
use Rattle.ftd_machine.proofs.JournalMakes.{journal_makes}
use Rattle.ftd_machine.proofs.Members.{has_filtered}
use Rattle.ftd_machine.proofs.Single.{members_one}
use Rattle.ftd_machine.proofs.Soundness.{nothing_sound, step_sound}
use Rattle.ftd_journal.proofs.ByName.{accounts_same}
use Rattle.ftd_machine.proofs.Keeping.{same_key}
use Rattle.ftd_machine.proofs.Orders.{ordered_same_by}
use Rattle.ftd_machine.proofs.SameMembers.{added_day, all_day, entry_has, key_of_entry, own_apart}
use Rattle.ftd_machine.proofs.SameMembers.{same_back, years_same}

-- ---- what is found

-- one that is found passes, and has what was found
found_as : {X Y : Type 0} (f : X → Y) (test : X → Bool) (xs : List X) (y : Y)
    → option_map f (find test xs) ≡ Some y → (x : X) × Has xs x × (test x ≡ true) × (f x ≡ y)
found_as f test [] y found = absurd cc
found_as {X} {Y} f test (z ∷ xs) y found =
    go (test z) refl found (λ e. found_as f test xs y e)
  where
    go : (b : Bool) → test z ≡ b → option_map f (find test (z ∷ xs)) ≡ Some y
        → (option_map f (find test xs) ≡ Some y
        → (x : X) × Has xs x × (test x ≡ true) × (f x ≡ y))
        → (x : X) × Has (z ∷ xs) x × (test x ≡ true) × (f x ≡ y)
    go true is found later =
        let here = rw is at found in
        let same : f z ≡ y = cc in
        (z, inl refl, is, same)
    go false is found later =
        let rest = later (rw is at found) in
        (rest.0, inr rest.1, rest.2, rest.3)

-- ---- days

module _ (s t : State) (sound : IsSound s)
    (same : (year : ℕ) → calendar_at t year ≡ calendar_at s year) where
  calendar_has : (c : YearDays) → Has s.calendars c → Has t.calendars c
  calendar_has c has =
      let there : calendar_at s c.year ≡ Some c.days =
      ap (option_map days_of) (find_one (λ g. g.year == c.year) year_of_calendar s.calendars c
      sound.calendars has (same_key c.year)
      (λ x x_has is. sym (eqb-true x.year c.year is))) in
      let d = found_as days_of (λ g. g.year == c.year) t.calendars c.days (same c.year ∙ there) in
      let is : d.0 ≡ c =
      λ i. record { year = eqb-true d.0.year c.year d.2 i; days = d.3 i } in
      subst (Has t.calendars) is d.1

-- ---- entries

entries_same : {X : Type 0} (name : List ℕ) (xs ys : List (Entry X)) → AreDistinct place_of xs
    → AreDistinct place_of ys
    → ((key : ℕ) → kept_at key (filter (is_of name) ys) ≡ kept_at key (filter (is_of name) xs))
    → own_by_key name xs ≡ own_by_key name ys
entries_same name xs ys apart also same =
    ordered_same_by key_of_entry (filter (is_of name) xs) (filter (is_of name) ys)
    (own_apart name xs apart) (own_apart name ys also) (entry_has name xs ys apart also same)
    (entry_has name ys xs also apart (λ key. sym (same key)))

-- ---- the journal of an account

module _ (s t : State) (s_sound : IsSound s) (t_sound : IsSound t) (same : SameEntries s t) where
  total_same : (period : ℕ → ReturnPeriod) (xs ys : List (Entry Cents))
      → ((name : List ℕ) (key : ℕ) → all_at key (filter (is_of name) ys)
      ≡ all_at key (filter (is_of name) xs))
      → (e : Entry Cents) → total_reported period xs e ≡ total_reported period ys e
  total_same period xs ys alike e =
      ap (λ later. Enter (entry.Total e.name (period e.key) e.content)
      ∷ corrections (λ cents. correction.Total e.name (period e.key) cents) later)
      (sym (alike e.name e.key))

  own_same : (e : Enrolled) → account_journal s e ≡ account_journal t e
  own_same e =
      let its = same.accounts e.name in
      let moves = sym its.moves in
      let quarter = total_same Quarter s.corrected t.corrected
      (λ name key. (same.accounts name).corrected key) in
      let year = total_same Year s.corrected_years t.corrected_years
      (λ name key. (same.accounts name).corrected_years key) in
      let quarters = entries_same e.name s.reported t.reported s_sound.reported t_sound.reported
      its.reported in
      let totals = entries_same e.name s.reported_years t.reported_years s_sound.reported_years
      t_sound.reported_years its.reported_years in
      let opened = sym (years_same s t s_sound t_sound same e.name) in
      let runs = entries_same e.name s.runs t.runs s_sound.runs t_sound.runs its.runs in
      let payments = entries_same e.name s.payments t.payments s_sound.payments t_sound.payments
      its.payments in
      λ i. (Enter (entry.Account e.name e.account)
      ∷ corrections (λ beginning. correction.Account e.name beginning) (moves i))
      ++ flat_map (λ x. quarter x i) (quarters i)
      ++ flat_map (λ x. year x i) (totals i)
      ++ map year_opened (opened i)
      ++ flat_map run_posted (runs i)
      ++ flat_map payment_made (payments i)

  -- ---- the whole

  account_has : (a b : State) → IsSound a
      → ((name : List ℕ) → enrolled_in b name ≡ enrolled_in a name)
      → (e : Enrolled) → Has a.accounts e → Has b.accounts e
  account_has a b sound alike e has =
      let there = enrolled_is a.accounts e sound.accounts has in
      let d = found_as account_of (is_named e.name) b.accounts e.account (alike e.name ∙ there) in
      let name = same_text d.0.name e.name d.2 in
      let is : d.0 ≡ e = λ i. record { name = name i; account = d.3 i } in
      subst (Has b.accounts) is d.1

  pub journals_equal : journal s ≡ journal t
  journals_equal =
      let turned = same_back s t same in
      let calendars : in_order is_calendar_before s.calendars
      ≡ in_order is_calendar_before t.calendars =
      ordered_same_by year_of_calendar s.calendars t.calendars s_sound.calendars
      t_sound.calendars (calendar_has s t s_sound same.calendars)
      (calendar_has t s t_sound turned.calendars) in
      let added : in_order nat_lt s.added_days ≡ in_order nat_lt t.added_days =
      ordered_same_by (λ (day : ℕ). day) s.added_days t.added_days
      (once_right (holidays_of s.calendars) s.added_days s_sound.days_once)
      (once_right (holidays_of t.calendars) t.added_days t_sound.days_once)
      (added_day s t s_sound same) (added_day t s t_sound turned) in
      let days : in_order nat_lt (all_days s) ≡ in_order nat_lt (all_days t) =
      ordered_same_by (λ (day : ℕ). day) (all_days s) (all_days t) s_sound.days_once
      t_sound.days_once (all_day s t s_sound same) (all_day t s t_sound turned) in
      let changes : (day : ℕ) → day_changes s day ≡ day_changes t day =
      λ day. ap (corrections (λ is_holiday. correction.Holiday day is_holiday))
      (sym (same.changed_days day)) in
      let accounts : in_order is_account_before s.accounts
      ≡ in_order is_account_before t.accounts =
      accounts_same s.accounts t.accounts s_sound.accounts t_sound.accounts
      (account_has s t s_sound (λ name. (same.accounts name).enrolled))
      (account_has t s t_sound (λ name. (turned.accounts name).enrolled)) in
      λ i. (map calendar_given (calendars i)
      ++ map holiday_added (added i)
      ++ flat_map (λ day. changes day i) (days i))
      ++ flat_map (λ e. own_same e i) (accounts i)

-- ---- and back

no_fault : (a : Answer) → is_change a ≡ true → IsFault a → ⊥
no_fault a change (inl is) = true≢false (sym change ∙ ap is_change is)
no_fault a change (inr is) = true≢false (sym change ∙ ap is_change is)

stepped : (s : State) (r : Request) (a : Answer) (next : State) → is_change a ≡ true
    → Goes s r a next → Step s r a next
stepped s r a next change (inl step) = step
stepped s r a next change (inr fault) = absurd (no_fault a change fault.0)

-- where each answer is a change, requests lead to one state
ends_one : (s : State) (requests : List Request) (answers others : List Answer) (end other : State)
    → IsSound s → AreChanges answers → AreChanges others → IsRun s requests answers end
    → IsRun s requests others other → end ≡ other
ends_one s [] [] [] end other sound changes also run then = run ∙ sym then
ends_one s [] [] (b ∷ others) end other sound changes also run then = absurd then
ends_one s [] (a ∷ answers) others end other sound changes also run then = absurd run
ends_one s (r ∷ requests) [] others end other sound changes also run then = absurd run
ends_one s (r ∷ requests) (a ∷ answers) [] end other sound changes also run then = absurd then
ends_one s (r ∷ requests) (a ∷ answers) (b ∷ others) end other sound changes also run then =
    let first = stepped s r a run.0 (changes a (inl refl)) run.1 in
    let second = stepped s r b then.0 (also b (inl refl)) then.1 in
    let one = answers_once s r a b run.0 then.0 sound first second in
    ends_one run.0 requests answers others end other (step_sound s r a run.0 first sound)
    (λ x has. changes x (inr has)) (λ x has. also x (inr has)) run.2
    (subst (λ n. IsRun n requests others other) (sym one.1) then.2)

pub entries_equal : (s t : State) → IsSound s → IsSound t → journal s ≡ journal t → SameEntries s t
entries_equal s t s_sound t_sound is =
    let first = journal_makes s s_sound in
    let second = journal_makes t t_sound in
    let run = subst (λ rs. IsRun nothing rs second.0 second.1) (sym is) second.2 in
    let one : first.1 ≡ second.1 =
    ends_one nothing (journal s) first.0 second.0 first.1 second.1 nothing_sound first.3 second.3
    first.2 run in
    let its : SameEntries t first.1 = subst (SameEntries t) (sym one) second.4 in
    let own : SameEntries s first.1 = first.4 in
    record {
      calendars = λ year. sym (its.calendars year) ∙ own.calendars year;
      added_days = λ day. sym (its.added_days day) ∙ own.added_days day;
      changed_days = λ day. sym (its.changed_days day) ∙ own.changed_days day;
      accounts = λ name.
          let a = own.accounts name in
          let b = its.accounts name in
          record {
            enrolled = sym b.enrolled ∙ a.enrolled;
            moves = sym b.moves ∙ a.moves;
            reported = λ key. sym (b.reported key) ∙ a.reported key;
            corrected = λ key. sym (b.corrected key) ∙ a.corrected key;
            reported_years = λ key. sym (b.reported_years key) ∙ a.reported_years key;
            corrected_years = λ key. sym (b.corrected_years key) ∙ a.corrected_years key;
            open_years = λ key. sym (b.open_years key) ∙ a.open_years key;
            runs = λ key. sym (b.runs key) ∙ a.runs key;
            payments = λ key. sym (b.payments key) ∙ a.payments key;
          };
    }
