-- A journal makes the same desk: each of its requests is done, account by account, and what is kept
-- at the end has the same entries.
use Rattle.std.proofs.Common.{◌≡◌, ◌∙◌, inl, inr, refl, sym, ap, subst, ℕ, List, [], ◌∷◌, ◌++◌}
use Rattle.std.proofs.Common.{true}
use Rattle.std.proofs.Common.{Option, None, Some, filter, map, append-nil}
use Rattle.std.specs.Prelude.{flat_map, option_map, find, is_some}
use Rattle.std.proofs.lemmas.List.Elements.{filter-append}
use Rattle.ftd_days.specs.Business.{is_holiday}
use Rattle.ftd_days.specs.declared.cents.Cents.{Cents}
use Rattle.ftd_days.proofs.Spelling.{same_text}
use Rattle.ftd_rules.specs.Lists.{Has}
use Rattle.ftd_rules.proofs.Members.{has_kept, has_mapped}
use Rattle.ftd_rules.proofs.Owed.{has_append}
use Rattle.ftd_machine.specs.declared.entries.Account.{Account}
use Rattle.ftd_machine.specs.declared.entries.Beginning.{Beginning}
use Rattle.ftd_machine.specs.Checks.{Answer}
use Rattle.ftd_machine.specs.Runs.{IsRun}
use Rattle.ftd_machine.specs.Sound.{AreDistinct, name_of, place_of, IsSound}
use Rattle.ftd_machine.specs.State.{State, Entry, Move, Enrolled, Entries, nothing, entries_of}
use Rattle.ftd_machine.specs.State.{is_of}
use Rattle.ftd_machine.specs.State.{enrolled_in, moves_in, moves_of, is_named, account_of, kept_at}
use Rattle.ftd_machine.specs.State.{all_at, is_open, is_move_of, beginning_of, days_of, changes_of}
use Rattle.ftd_machine.specs.State.{has_key, content_of}
use Rattle.ftd_machine.specs.Step.{with_account}
use Rattle.ftd_machine.specs.Journal.{own_by_key, journal, account_journal, days_journal, in_order}
use Rattle.ftd_machine.specs.Journal.{is_account_before, is_key_before, AreChanges, HasSameOf}
use Rattle.ftd_machine.specs.Journal.{SameEntries}
use Rattle.ftd_machine.proofs.Adding.{own_name, other_name, account_other, was_enrolled}
use Rattle.ftd_machine.proofs.Entered.{of_kept, is_kept, its_own, same_place}
use Rattle.ftd_machine.proofs.Found.{IsAbsent, absent_kept, absent_all, filter_all, filter_none}
use Rattle.ftd_machine.proofs.Found.{filter_apart, find_same}
use Rattle.ftd_machine.proofs.InOrder.{has_ordered, ordered_has, ordered_apart}
use Rattle.ftd_machine.proofs.JournalAccount.{IsFree, account_lead, of_account, own_apart}
use Rattle.ftd_machine.proofs.JournalAccount.{enrolled_is, moves_at, moves_same}
use Rattle.ftd_machine.proofs.JournalDays.{days_made, days_lead, given_still, same_days}
use Rattle.ftd_machine.proofs.JournalTotals.{corrections_for, none_for, same_for, all_append}
use Rattle.ftd_machine.proofs.JournalTotals.{entry_under, entries_at}
use Rattle.ftd_machine.proofs.Keeping.{found_last, is_year}
use Rattle.ftd_machine.proofs.Members.{found_some, has_filtered}
use Rattle.ftd_machine.proofs.Numbers.{moves_append}
use Rattle.ftd_machine.proofs.Since.{meets_some}
use Rattle.ftd_machine.proofs.Soundness.{nothing_sound}
use Rattle.ftd_machine.proofs.Taken.{Leads, leads_append, is_run}
use Rattle.std.proofs.lemmas.Bool.{eqb-true, true≢false}

-- what is kept with an account more
abbrev with_account_of : State → Enrolled → State → State
with_account_of s e t = record t {
  accounts = with_account t.accounts e.name e.account;
  moved = t.moved ++ moves_at e.name (moves_in s e.name);
  reported = t.reported ++ own_by_key e.name s.reported;
  corrected = t.corrected ++ corrections_for s.corrected (own_by_key e.name s.reported);
  reported_years = t.reported_years ++ own_by_key e.name s.reported_years;
  corrected_years = t.corrected_years
      ++ corrections_for s.corrected_years (own_by_key e.name s.reported_years);
  open_years = t.open_years ++ filter (is_of e.name) s.open_years;
  runs = t.runs ++ own_by_key e.name s.runs;
  payments = t.payments ++ own_by_key e.name s.payments;
}

abbrev after_accounts : State → List Enrolled → State → State
after_accounts s [] t = t
after_accounts s (e ∷ es) t = after_accounts s es (with_account_of s e t)

-- ---- the entries of other accounts stay

-- what is all of one account is none of another
abbrev AreOf : {X : Type 0} → List ℕ → List (Entry X) → Type 0
AreOf {X = X} name xs = (x : Entry X) → Has xs x → x.name ≡ name

other_none : {X : Type 0} (name other : List ℕ) (xs : List (Entry X)) → AreOf name xs
    → (name ≡ other → ⊥) → filter (is_of other) xs ≡ []
other_none name other xs own apart =
    filter_none (is_of other) xs (λ x has is. apart (sym (own x has) ∙ same_text x.name other is))

behind : {X : Type 0} (name other : List ℕ) (xs ys : List (Entry X)) → AreOf name ys
    → (name ≡ other → ⊥) → filter (is_of other) (xs ++ ys) ≡ filter (is_of other) xs
behind name other xs ys own apart =
    filter-append (is_of other) xs ys
    ∙ ap (λ zs. filter (is_of other) xs ++ zs) (other_none name other ys own apart)
    ∙ append-nil (filter (is_of other) xs)

own_of : {X : Type 0} (name : List ℕ) (xs : List (Entry X)) → AreOf name (own_by_key name xs)
own_of name xs x has = (of_account name xs x has).1

filter_of : {X : Type 0} (name : List ℕ) (xs : List (Entry X)) → AreOf name (filter (is_of name) xs)
filter_of name xs x has = same_text x.name name (has_filtered (is_of name) xs x has).1

corrections_of : (corrected totals : List (Entry Cents)) (name : List ℕ) → AreOf name totals
    → AreOf name (corrections_for corrected totals)
corrections_of corrected [] name own x has = absurd has
corrections_of corrected (e ∷ totals) name own x has =
    elim (has_append (entries_at e.name e.key (all_at e.key (filter (is_of e.name) corrected)))
    (corrections_for corrected totals) x has) [
      | inl here ↦ (let c = has_mapped (entry_under e.name e.key)
          (all_at e.key (filter (is_of e.name) corrected)) x here in
          ap (λ (y : Entry Cents). y.name) c.2 ∙ own e (inl refl))
      | inr there ↦ corrections_of corrected totals name (λ y y_has. own y (inr y_has)) x there
    ]

moves_other : (name other : List ℕ) (bs : List Beginning) → (name ≡ other → ⊥)
    → moves_of other (moves_at name bs) ≡ []
moves_other name other [] apart = refl
moves_other name other (b ∷ bs) apart =
    rw (other_name name other apart) (moves_other name other bs apart)

module _ (s : State) (e : Enrolled) (t : State) (other : List ℕ) (apart : e.name ≡ other → ⊥) where
  abbrev next : State
  next = with_account_of s e t

  moves_still : moves_of other next.moved ≡ moves_of other t.moved
  moves_still =
      moves_append other t.moved (moves_at e.name (moves_in s e.name))
      ∙ ap (λ xs. moves_of other t.moved ++ xs) (moves_other e.name other _ apart)
      ∙ append-nil (moves_of other t.moved)

  entries_still : entries_of next other ≡ entries_of t other
  entries_still =
      let enrolled : enrolled_in next other ≡ enrolled_in t other =
      ap (option_map account_of) (account_other t.accounts e.name e.account other apart) in
      let reported : filter (is_of other) next.reported ≡ filter (is_of other) t.reported =
      behind e.name other t.reported _ (own_of e.name s.reported) apart in
      let years : filter (is_of other) next.reported_years
      ≡ filter (is_of other) t.reported_years =
      behind e.name other t.reported_years _ (own_of e.name s.reported_years) apart in
      let corrected : filter (is_of other) next.corrected ≡ filter (is_of other) t.corrected =
      behind e.name other t.corrected _ (corrections_of s.corrected
      (own_by_key e.name s.reported) e.name (own_of e.name s.reported)) apart in
      let corrected_years : filter (is_of other) next.corrected_years
      ≡ filter (is_of other) t.corrected_years =
      behind e.name other t.corrected_years _ (corrections_of s.corrected_years
      (own_by_key e.name s.reported_years) e.name (own_of e.name s.reported_years)) apart in
      let opened : filter (is_of other) next.open_years ≡ filter (is_of other) t.open_years =
      behind e.name other t.open_years _ (filter_of e.name s.open_years) apart in
      let runs : filter (is_of other) next.runs ≡ filter (is_of other) t.runs =
      behind e.name other t.runs _ (own_of e.name s.runs) apart in
      let payments : filter (is_of other) next.payments ≡ filter (is_of other) t.payments =
      behind e.name other t.payments _ (own_of e.name s.payments) apart in
      rw (
        enrolled,
        moves_still,
        reported,
        years,
        corrected,
        corrected_years,
        opened,
        runs,
        payments,
      ) refl

  free_still : IsFree s t other → IsFree s next other
  free_still free =
      let same = entries_still in
      record {
        given = free.given;
        enrolled = ap (λ (o : Entries). o.enrolled) same ∙ free.enrolled;
        moved = ap (λ (o : Entries). o.moves) same ∙ free.moved;
        reported = ap (λ (o : Entries). o.reported) same ∙ free.reported;
        reported_years = ap (λ (o : Entries). o.reported_years) same ∙ free.reported_years;
        corrected = ap (λ (o : Entries). o.corrected) same ∙ free.corrected;
        corrected_years = ap (λ (o : Entries). o.corrected_years) same ∙ free.corrected_years;
        open_years = ap (λ (o : Entries). o.open_years) same ∙ free.open_years;
        runs = ap (λ (o : Entries). o.runs) same ∙ free.runs;
        payments = ap (λ (o : Entries). o.payments) same ∙ free.payments;
      }

-- ---- the entries of one account are the same

-- what is kept under a key, behind what is of other accounts
kept_behind : {X : Type 0} (name : List ℕ) (before own xs : List (Entry X))
    → AreDistinct place_of xs → AreDistinct place_of own
    → ((e : Entry X) → Has (filter (is_of name) xs) e → Has own e)
    → ((e : Entry X) → Has own e → Has (filter (is_of name) xs) e)
    → filter (is_of name) before ≡ [] → (key : ℕ)
    → kept_at key (filter (is_of name) (before ++ own)) ≡ kept_at key (filter (is_of name) xs)
kept_behind name before own xs apart others to from none key =
    ap (kept_at key) (filter-append (is_of name) before own
    ∙ ap (λ ys. ys ++ filter (is_of name) own) none
    ∙ filter_all (is_of name) own (λ x has. (has_filtered (is_of name) xs x (from x has)).1))
    ∙ ap (option_map content_of)
    (find_same (has_key key) place_of (filter (is_of name) xs) own
    (filter_apart place_of (is_of name) xs apart) others
    (λ x y has_x has_y a b. same_place x y
    (filter_of name xs x has_x ∙ sym (filter_of name xs y has_y))
    (eqb-true x.key key a ∙ sym (eqb-true y.key key b))) to from)

own_kept : {X : Type 0} (name : List ℕ) (before xs : List (Entry X)) → AreDistinct place_of xs
    → filter (is_of name) before ≡ [] → (key : ℕ)
    → kept_at key (filter (is_of name) (before ++ own_by_key name xs))
    ≡ kept_at key (filter (is_of name) xs)
own_kept name before xs apart none key =
    kept_behind name before (own_by_key name xs) xs apart (own_apart name xs apart)
    (ordered_has is_key_before (filter (is_of name) xs))
    (has_ordered is_key_before (filter (is_of name) xs)) none key

-- corrections of the totals are all corrections, since no other ones are corrected
module _ (corrected totals : List (Entry Cents)) (apart : AreDistinct place_of totals)
    (reported : (c : Entry Cents) → Has corrected c
    → is_some (kept_at c.key (filter (is_of c.name) totals)) ≡ true)
    (name : List ℕ) (key : ℕ) where
  corrected_as : (o : Option Cents) → kept_at key (filter (is_of name) totals) ≡ o
      → all_at key (filter (is_of name) (corrections_for corrected (own_by_key name totals)))
      ≡ all_at key (filter (is_of name) corrected)
  corrected_as (Some cents) kept =
      let d = of_kept name totals apart key cents kept in
      let mine : Has (own_by_key name totals) d.0 =
      ordered_has is_key_before (filter (is_of name) totals) d.0
      (has_kept (is_of name) totals d.0 d.1 (its_own name d.0 d.2)) in
      subst (λ n. all_at key (filter (is_of n) (corrections_for corrected
      (own_by_key name totals))) ≡ all_at key (filter (is_of n) corrected)) d.2
      (subst (λ k. all_at k (filter (is_of d.0.name) (corrections_for corrected
      (own_by_key name totals))) ≡ all_at k (filter (is_of d.0.name) corrected)) d.3
      (same_for corrected (own_by_key name totals) (own_apart name totals apart) d.0 mine))
  corrected_as None kept =
      none_for corrected (own_by_key name totals) name key
      (λ x has names keys. not_kept x (of_account name totals x has).0 names keys)
      ∙ sym (absent_all corrected name key (λ c has names keys. true≢false
      (sym (subst (λ n. is_some (kept_at key (filter (is_of n) totals)) ≡ true) names
      (subst (λ k. is_some (kept_at k (filter (is_of c.name) totals)) ≡ true) keys
      (reported c has))) ∙ ap is_some kept)))
    where
      not_kept : (x : Entry Cents) → Has totals x → x.name ≡ name → x.key ≡ key → ⊥
      not_kept x has names keys =
          true≢false (sym (ap is_some (is_kept name totals apart x has names))
          ∙ ap (λ k. is_some (kept_at k (filter (is_of name) totals))) keys ∙ ap is_some kept)

  -- behind what is of other accounts
  corrected_behind : (before : List (Entry Cents)) → filter (is_of name) before ≡ []
      → all_at key (filter (is_of name)
      (before ++ corrections_for corrected (own_by_key name totals)))
      ≡ all_at key (filter (is_of name) corrected)
  corrected_behind before none =
      all_append key name before (corrections_for corrected (own_by_key name totals))
      ∙ ap (λ (ys : List (Entry Cents)). all_at key ys ++ all_at key (filter (is_of name)
      (corrections_for corrected (own_by_key name totals)))) none
      ∙ corrected_as (kept_at key (filter (is_of name) totals)) refl

module _ (s : State) (sound : IsSound s) where
  own_same : (e : Enrolled) → Has s.accounts e → (t : State) → IsFree s t e.name
      → HasSameOf s (with_account_of s e t) e.name
  own_same e has t free =
      let name = e.name in
      let here : enrolled_in (with_account_of s e t) name ≡ Some e.account =
      found_last account_of (is_named name) t.accounts _ (own_name name) free.enrolled in
      record {
        enrolled = here ∙ sym (enrolled_is s.accounts e sound.accounts has);
        moves = moves_append name t.moved (moves_at name (moves_in s name))
            ∙ ap (λ xs. xs ++ moves_of name (moves_at name (moves_in s name))) free.moved
            ∙ moves_same name (moves_in s name);
        reported = own_kept name t.reported s.reported sound.reported free.reported;
        corrected = λ key. corrected_behind s.corrected s.reported sound.reported
            sound.corrected_quarters name key t.corrected free.corrected;
        reported_years = own_kept name t.reported_years s.reported_years sound.reported_years
            free.reported_years;
        corrected_years = λ key. corrected_behind s.corrected_years s.reported_years
            sound.reported_years sound.corrected_years name key t.corrected_years
            free.corrected_years;
        open_years = λ year. ap is_some (kept_behind name t.open_years
            (filter (is_of name) s.open_years) s.open_years sound.open_years
            (filter_apart place_of (is_of name) s.open_years sound.open_years)
            (λ x there. there) (λ x there. there) free.open_years year);
        runs = own_kept name t.runs s.runs sound.runs free.runs;
        payments = own_kept name t.payments s.payments sound.payments free.payments;
      }

  -- what has the same entries of the account as a desk with the same
  carried_on : (t u : State) (name : List ℕ) → entries_of u name ≡ entries_of t name
      → HasSameOf s t name → HasSameOf s u name
  carried_on t u name is same = record {
    enrolled = ap (λ (o : Entries). o.enrolled) is ∙ same.enrolled;
    moves = ap (λ (o : Entries). o.moves) is ∙ same.moves;
    reported = λ key. ap (λ (o : Entries). kept_at key o.reported) is ∙ same.reported key;
    corrected = λ key. ap (λ (o : Entries). all_at key o.corrected) is ∙ same.corrected key;
    reported_years = λ key. ap (λ (o : Entries). kept_at key o.reported_years) is
        ∙ same.reported_years key;
    corrected_years = λ key. ap (λ (o : Entries). all_at key o.corrected_years) is
        ∙ same.corrected_years key;
    open_years = λ year. ap (λ (o : Entries). is_open o year) is ∙ same.open_years year;
    runs = λ key. ap (λ (o : Entries). kept_at key o.runs) is ∙ same.runs key;
    payments = λ key. ap (λ (o : Entries). kept_at key o.payments) is ∙ same.payments key;
  }

  -- ---- one account after the other

  accounts_lead : (es : List Enrolled) (t : State) → AreDistinct name_of es
      → ((e : Enrolled) → Has es e → Has s.accounts e)
      → ((e : Enrolled) → Has es e → IsFree s t e.name)
      → Leads (flat_map (account_journal s) es) t (after_accounts s es t)
  accounts_lead [] t apart from free = record { pass = tt; ends = refl }
  accounts_lead (e ∷ es) t apart from free =
      let next = with_account_of s e t in
      leads_append (account_journal s e) (flat_map (account_journal s) es) t next
      (after_accounts s es next)
      (account_lead s sound e (from e (inl refl)) t (free e (inl refl)))
      (accounts_lead es next apart.1 (λ d has. from d (inr has))
      (λ d has. free_still s e t d.name (λ is. apart.0 d has (sym is)) (free d (inr has))))

  others_stay : (es : List Enrolled) (t : State) (name : List ℕ)
      → ((e : Enrolled) → Has es e → e.name ≡ name → ⊥)
      → entries_of (after_accounts s es t) name ≡ entries_of t name
  others_stay [] t name none = refl
  others_stay (e ∷ es) t name none =
      others_stay es (with_account_of s e t) name (λ d has. none d (inr has))
      ∙ entries_still s e t name (none e (inl refl))

  each_same : (es : List Enrolled) (t : State) → AreDistinct name_of es
      → ((e : Enrolled) → Has es e → Has s.accounts e)
      → ((e : Enrolled) → Has es e → IsFree s t e.name)
      → (d : Enrolled) → Has es d → HasSameOf s (after_accounts s es t) d.name
  each_same [] t apart from free d has = absurd has
  each_same (e ∷ es) t apart from free d (inl is) =
      let next = with_account_of s e t in
      subst (λ (x : Enrolled). HasSameOf s (after_accounts s es next) x.name) (sym is)
      (carried_on next (after_accounts s es next) e.name
      (others_stay es next e.name (λ x has. apart.0 x has))
      (own_same e (from e (inl refl)) t (free e (inl refl))))
  each_same (e ∷ es) t apart from free d (inr has) =
      each_same es (with_account_of s e t) apart.1 (λ x h. from x (inr h))
      (λ x h. free_still s e t x.name (λ is. apart.0 x h (sym is)) (free x (inr h))) d has

  -- the days stay as accounts come
  days_stay : (es : List Enrolled) (t : State)
      → ((after_accounts s es t).calendars ≡ t.calendars)
      × ((after_accounts s es t).added_days ≡ t.added_days)
      × ((after_accounts s es t).changed_days ≡ t.changed_days)
  days_stay [] t = (refl, refl, refl)
  days_stay (e ∷ es) t = days_stay es (with_account_of s e t)

  -- ---- the whole desk

  abbrev by_name : List Enrolled
  by_name = in_order is_account_before s.accounts

  abbrev first : State
  first = days_made s sound

  abbrev made : State
  made = after_accounts s by_name first

  by_name_apart : AreDistinct name_of by_name
  by_name_apart = ordered_apart is_account_before name_of s.accounts sound.accounts

  first_free : (name : List ℕ) → IsFree s first name
  first_free name = record {
    given = given_still s sound;
    enrolled = refl;
    moved = refl;
    reported = refl;
    reported_years = refl;
    corrected = refl;
    corrected_years = refl;
    open_years = refl;
    runs = refl;
    payments = refl;
  }

  journal_lead : Leads (journal s) nothing made
  journal_lead =
      leads_append (days_journal s) (flat_map (account_journal s) by_name) nothing first made
      (days_lead s sound)
      (accounts_lead by_name first by_name_apart (has_ordered is_account_before s.accounts)
      (λ e has. first_free e.name))

  -- ---- an account that is not enrolled has no entries

  module _ (name : List ℕ) (unknown : enrolled_in s name ≡ None) where
    not_enrolled : (other : List ℕ) → other ≡ name → is_some (enrolled_in s other) ≡ true → ⊥
    not_enrolled other is e =
        true≢false (sym e ∙ ap (λ n. is_some (enrolled_in s n)) is ∙ ap is_some unknown)

    no_account : (other : List ℕ) → other ≡ name → is_some (entries_of s other).account ≡ true → ⊥
    no_account other is e =
        not_enrolled other is (was_enrolled (enrolled_in s other) (moves_in s other) e)

    no_moves : moves_in s name ≡ []
    no_moves =
        ap (λ (ms : List Move). map beginning_of ms)
        (filter_none (is_move_of name) s.moved (λ m has is.
        not_enrolled m.name (same_text m.name name is) (sound.moved_accounts m has)))

    -- nothing is reported of it, so nothing is corrected
    no_quarter : (key : ℕ) → IsAbsent s.reported name key
    no_quarter key d has is at = no_account d.name is
        (meets_some _ (entries_of s d.name).account (sound.quarters d has).on_form)

    no_year : (key : ℕ) → IsAbsent s.reported_years name key
    no_year key d has is at = no_account d.name is
        (meets_some _ (entries_of s d.name).account (sound.years d has).on_form)

    no_correction : (corrected totals : List (Entry Cents)) → ((key : ℕ) → IsAbsent totals name key)
        → ((c : Entry Cents) → Has corrected c
        → is_some (kept_at c.key (filter (is_of c.name) totals)) ≡ true)
        → (key : ℕ) → IsAbsent corrected name key
    no_correction corrected totals none reported key c has is at =
        true≢false (sym (subst (λ n. is_some (kept_at c.key (filter (is_of n) totals)) ≡ true) is
        (reported c has)) ∙ ap is_some (absent_kept totals name c.key (none c.key)))

    same_nothing : HasSameOf s first name
    same_nothing = record {
      enrolled = sym unknown;
      moves = sym no_moves;
      reported = λ key. sym (absent_kept s.reported name key (no_quarter key));
      corrected = λ key. sym (absent_all s.corrected name key
          (no_correction s.corrected s.reported no_quarter sound.corrected_quarters key));
      reported_years = λ key. sym (absent_kept s.reported_years name key (no_year key));
      corrected_years = λ key. sym (absent_all s.corrected_years name key
          (no_correction s.corrected_years s.reported_years no_year sound.corrected_years key));
      open_years = λ year. ap is_some (sym (absent_kept s.open_years name year
          (λ d has is at. no_account d.name is (sound.enrolled d has))));
      runs = λ key. sym (absent_kept s.runs name key (λ d has is at. no_account d.name is
          (meets_some _ (entries_of s d.name).account (sound.posted_since d has))));
      payments = λ key. sym (absent_kept s.payments name key (λ d has is at. no_account d.name is
          (meets_some _ (entries_of s d.name).account (sound.paid_since d has))));
    }

  same_of : (name : List ℕ) (o : Option Account) → enrolled_in s name ≡ o → HasSameOf s made name
  same_of name (Some account) is =
      let e = found_some account_of (is_named name) s.accounts account is in
      subst (HasSameOf s made) (same_text e.0.name name e.2)
      (each_same by_name first by_name_apart (has_ordered is_account_before s.accounts)
      (λ x has. first_free x.name) e.0 (ordered_has is_account_before s.accounts e.0 e.1))
  same_of name None is =
      carried_on first made name
      (others_stay by_name first name (λ x has named. true≢false
      (sym (ap is_some (enrolled_is s.accounts x sound.accounts
      (has_ordered is_account_before s.accounts x has)))
      ∙ ap (λ n. is_some (enrolled_in s n)) named ∙ ap is_some is)))
      (same_nothing name is)

  same_entries : SameEntries s made
  same_entries =
      let stay = days_stay by_name first in
      let days = same_days s sound in
      record {
        calendars = λ year. ap (λ cs. option_map days_of (find (is_year year) cs)) stay.0
            ∙ days.0 year;
        added_days = λ day. ap (λ ds. is_holiday ds day) stay.1 ∙ days.1 day;
        changed_days = λ day. ap (changes_of day) stay.2 ∙ days.2 day;
        accounts = λ name. same_of name (enrolled_in s name) refl;
      }

-- a journal makes the same desk
pub journal_makes : (s : State) → IsSound s
    → (answers : List Answer) × (end : State) × IsRun nothing (journal s) answers end
    × AreChanges answers × SameEntries s end
journal_makes s sound =
    let run = is_run (journal s) nothing (made s sound) nothing_sound (journal_lead s sound) in
    (run.0, made s sound, run.1, run.2, same_entries s sound)
