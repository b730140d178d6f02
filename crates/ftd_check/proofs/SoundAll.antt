-- Whether the tables stand for a sound state, from what was found of their days and accounts.
use Rattle.std.proofs.Common.{◌≡◌, ◌∙◌, ℕ, inl, inr, refl, sym, ap, subst, List, [], ◌∷◌, map}
use Rattle.std.proofs.Common.{None, Some, Ok}
use Rattle.ftd_days.specs.Holidays.{AreFew}
use Rattle.ftd_rules.specs.Lists.{Has}
use Rattle.ftd_sql.specs.Beginnings.{HasVersion}
use Rattle.ftd_sql.specs.Standing.{Tables}
use Rattle.ftd_sql.specs.declared.TableName.TheVariants.{Accounts, Metas}
use Rattle.ftd_machine.specs.State.{State, Enrolled}
use Rattle.ftd_machine.specs.Sound.{IsSound, AreDistinct, name_of, year_of_calendar}
use Rattle.ftd_entries.specs.Standing.{StandsFor, enrolled_row}
use Rattle.ftd_sound.specs.Days.{calendar_in, change_in}
use Rattle.ftd_sound.specs.Parts.{given_years}
use Rattle.ftd_sound.proofs.Parted.{sound_by_parts}
use Rattle.ftd_check.specs.Accounts.{ChecksAccounts, AreAllSound, ShowsBad}
use Rattle.ftd_check.specs.Days.{ReadsDays}
use Rattle.ftd_check.specs.Holidays.{KnowsAll}
use Rattle.ftd_check.specs.Private.Compared.{Compares}
use Rattle.ftd_check.specs.Sizes.{AreAllSizes, AreSizesTogether}
use Rattle.ftd_check.specs.Soundness.{AreInForce, Finds, ShowsUnsound, StandForSound, row_name}
use Rattle.ftd_check.specs.Whole.{IsSoundAccount, SoundAccount, account_in, name_in, AreOfAccounts}
use Rattle.ftd_check.specs.declared.days.KeptDays.{KeptDays}
use Rattle.ftd_check.specs.declared.soundness.Soundness.{Soundness}
use Rattle.ftd_check.specs.declared.soundness.Soundness.TheVariants as soundness
use Rattle.ftd_check.specs.declared.soundness.Part.{Part}
use Rattle.ftd_check.specs.declared.soundness.Part.TheVariants as part
use Rattle.ftd_check.specs.declared.sizes.Sizes.{Sizes}
use Rattle.ftd_check.proofs.AllCounted.{of_accounts, all_counted, same_sizes}
use Rattle.ftd_check.proofs.Covered.{text_itself}
use Rattle.ftd_check.proofs.OneDays.{not_none, kept_are}
use Rattle.ftd_check.proofs.PartsOf.{account_sound, rows_covered}
use Rattle.ftd_check.proofs.SizesTogether.{together_all}
use Rattle.ftd_check.proofs.Whole.{the_state, state_sound, state_stands, names_once}
use Rattle.ftd_check.proofs.AccountsChecked.{apart_too, not_all_sound}

-- ---- lists

-- each with what holds of it
each_with : {X : Type 0} (P : X → Type 0) (xs : List X) → ((x : X) → Has xs x → P x)
    → List ((x : X) × P x)
each_with P [] each = []
each_with P (x ∷ xs) each = (x, each x (inl refl)) ∷ each_with P xs (λ y has. each y (inr has))

without : {X : Type 0} (P : X → Type 0) (xs : List X) (each : (x : X) → Has xs x → P x)
    → map (λ (p : (x : X) × P x). p.0) (each_with P xs each) ≡ xs
unfolding each_with
without P [] each = refl
without {X = X} P (x ∷ xs) each =
    ap (λ (ys : List X). x ∷ ys) (without P xs (λ y has. each y (inr has)))

names_of : (es : List Enrolled) → map row_name (map enrolled_row es) ≡ map name_of es
names_of [] = refl
names_of (e ∷ es) = ap (λ (ns : List (List ℕ)). e.name ∷ ns) (names_of es)

names_in : {t : Tables} {given holidays : List ℕ} (ps : List (SoundAccount t given holidays))
    → map name_of (map account_in ps) ≡ map name_in ps
names_in [] = refl
names_in (p ∷ ps) = ap (λ (ns : List (List ℕ)). name_in p ∷ ns) (names_in ps)

pub days_unsound : (t : Tables) → ReadsDays None t → Finds (soundness.Unsound part.Holidays) t
days_unsound t none = (
  (λ found. not_none t found.0 found.2.entries.days (sound_by_parts found.0 found.1).days none),
  none,
)

module _ (t : Tables) (kept : KeptDays) (days : ReadsDays (Some kept) t) (read : List ℕ)
    (few : AreFew read) (knows : KnowsAll read t) where
  abbrev given : List ℕ
  given = map year_of_calendar (map calendar_in kept.calendars.items)

  module _ (s : State) (sound : IsSound s) (stands : StandsFor t s) where
    same_given : given_years s ≡ given
    same_given =
        let same = kept_are t s stands.entries.days (sound_by_parts s sound).days kept days in
        sym (ap (map year_of_calendar) same.0)

    sound_account : (e : Enrolled) → Has s.accounts e → IsSoundAccount t given read e
    sound_account e has =
        subst (λ (years : List ℕ). IsSoundAccount t years read e) same_given
        (account_sound t s stands sound read few knows e has)

    its_accounts : List (SoundAccount t given read)
    its_accounts = each_with (IsSoundAccount t given read) s.accounts sound_account

    its_names : map account_in its_accounts ≡ s.accounts
    unfolding its_accounts
    its_names = without (IsSoundAccount t given read) s.accounts sound_account

    are_its : AreAllSound t given read its_accounts
    are_its = record {
      rows = stands.entries.enrolled.accounts ∙ sym (ap (map enrolled_row) its_names);
      once = apart_too name_of name_in s.accounts its_accounts
          (ap (map name_of) (sym its_names) ∙ names_in its_accounts) sound.accounts;
    }

  in_force : AreInForce t given read
  in_force = record {
    calendars = map calendar_in kept.calendars.items;
    added = kept.added.items;
    changes = map change_in kept.changes.items;
    days = days;
    years = refl;
    few = few;
    known = knows;
  }

  shown : (p : Part) → ShowsBad given read p t → ShowsUnsound p t
  shown part.Holidays bad = absurd bad
  shown part.Accounts bad = bad
  shown (part.Account name) bad = (given, read, in_force, bad)
  shown part.Rows bad = absurd bad

  pub accounts_unsound : (p : Part) → ShowsBad given read p t → Finds (soundness.Unsound p) t
  accounts_unsound p bad = (
    (λ found. not_all_sound t given read p bad few (its_accounts found.0 found.1 found.2)
        (are_its found.0 found.1 found.2)),
    shown p bad,
  )

  module _ (sizes all : Sizes) (found : ChecksAccounts given read (Ok sizes) t)
      (counted : AreAllSizes all t) where
    abbrev accounts : List (SoundAccount t given read)
    accounts = found.0

    abbrev names : List (List ℕ)
    names = map name_of (map account_in accounts)

    accounts_once : AreDistinct name_of (map account_in accounts)
    accounts_once = apart_too name_in name_of accounts (map account_in accounts)
        (sym (names_in accounts)) found.1.once

    once : AreDistinct text_itself names
    once = names_once (map account_in accounts) accounts_once

    together : AreSizesTogether t names sizes
    together = subst (λ (ns : List (List ℕ)). AreSizesTogether t ns sizes) (sym (names_in accounts))
        found.2

    -- the names of the list
    listed : map row_name (t Accounts) ≡ names
    listed = ap (map row_name) found.1.rows ∙ names_of (map account_in accounts)

    sound_if : (covered : AreOfAccounts t names) → HasVersion (t Metas) 3 → StandForSound t
    sound_if covered mark = (
      the_state t (map calendar_in kept.calendars.items) kept.added.items
          (map change_in kept.changes.items) days.rows read accounts found.1.rows
          found.1.once covered,
      state_sound t (map calendar_in kept.calendars.items) kept.added.items
          (map change_in kept.changes.items) days.rows read accounts found.1.rows
          found.1.once covered days.sound,
      state_stands t (map calendar_in kept.calendars.items) kept.added.items
          (map change_in kept.changes.items) days.rows read accounts found.1.rows
          found.1.once covered days.sound mark knows,
    )

    of_all : sizes ≡ all → AreOfAccounts t names
    of_all same = of_accounts t names once (together_all t names sizes together
        (subst (λ (z : Sizes). AreAllSizes z t) (sym same) counted))

    -- each row is an account's
    same_by : AreOfAccounts t names → sizes ≡ all
    same_by covered =
        same_sizes t names sizes all together (all_counted t names once covered) counted

    same_for : StandForSound t → sizes ≡ all
    same_for there =
        let s = there.0 in let sound = there.1 in let stands = there.2 in
        let same : map name_of s.accounts ≡ names =
        sym (names_of s.accounts) ∙ ap (map row_name) (sym stands.entries.enrolled.accounts)
        ∙ listed in
        same_by (subst (AreOfAccounts t) same (rows_covered t s stands sound))

    pub accounts_found : (told : Soundness) → Compares sizes all told → Finds told t
    accounts_found (soundness.Sound told) compared = λ mark. (
      sound_if (of_all compared.1) mark,
      subst (λ (z : Sizes). AreAllSizes z t) (sym compared.0) counted,
    )
    accounts_found (soundness.Unsound p) compared = (
      (λ there. compared.1 (same_for there)),
      subst (λ (q : Part). ShowsUnsound q t) (sym compared.0)
          (λ covered. compared.1 (same_by (subst (AreOfAccounts t) listed covered))),
    )
