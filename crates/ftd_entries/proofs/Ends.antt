-- New tables stand for nothing, and migrated ones for what those of version 1 stood for.
use Rattle.std.proofs.Common.{◌≡◌, ◌∙◌, ℕ, refl, sym, ap, subst, inl, inr, List, [], ◌∷◌, map}
use Rattle.std.proofs.Common.{arith, false, rules}
use Rattle.std.specs.Prelude.{IsPermutation}
use Rattle.std.proofs.lemmas.List.Sorted.{IsPermutation-refl, IsPermutation-sym}
use Rattle.sqlite.specs.Effect.{Database}
use Rattle.sqlite.specs.Does.{lacks_sequence}
use Rattle.ftd_rules.specs.declared.Form.TheVariants.{F941}
use Rattle.ftd_rules.specs.Lists.{Has}
use Rattle.ftd_sql.specs.declared.TableName.TheVariants.{Accounts, ReportedQuarters}
use Rattle.ftd_sql.specs.declared.TableName.TheVariants.{CalendarYears, Holidays, Years, Runs}
use Rattle.ftd_sql.specs.declared.TableName.{TableName}
use Rattle.ftd_sql.specs.declared.TableName.TheVariants.{Metas, Payments, Obligations, Forms}
use Rattle.ftd_sql.specs.declared.TableName.TheVariants.{ReportedYears, AddedHolidays}
use Rattle.ftd_sql.specs.declared.TableName.TheVariants.{CorrectedQuarters, CorrectedYears}
use Rattle.ftd_sql.specs.declared.TableName.TheVariants.{ChangedHolidays, CorrectedAccounts}
use Rattle.ftd_sql.specs.Rows.{FormRow, RowOf}
use Rattle.ftd_sql.specs.Names.{since}
use Rattle.ftd_sql.specs.Standing.{Tables, StandsAs}
use Rattle.ftd_sql.specs.Beginnings.{new_tables, on_form_941, IsMade, IsMigration, IsMigrated}
use Rattle.ftd_sql.specs.Beginnings.{IsEarlier}
use Rattle.ftd_machine.specs.State.{State, nothing, Enrolled}
use Rattle.ftd_machine.specs.Sound.{IsSound}
use Rattle.ftd_machine.proofs.Soundness.{nothing_sound}
use Rattle.ftd_entries.specs.Standing.{StandsFor, StandsForEarlier, enrolled_row}
use Rattle.ftd_entries.specs.Standing.{enrolled_form, year_entry, added_entry, with_earlier}
use Rattle.ftd_entries.specs.Standing.{correction_entry, year_correction_entry, change_entry}
use Rattle.ftd_entries.specs.Standing.{account_correction_entry}
use Rattle.ftd_entries.specs.Words.{IsKept}
use Rattle.ftd_entries.proofs.Entered.{entered}

-- ---- new tables

nothing_stands : StandsFor new_tables nothing
nothing_stands = record {
  entries = entered refl (record { accounts = refl; forms = IsPermutation-refl []; moved = refl })
      (search rules) (search rules) (search rules);
  settled = λ name. record {
    lines = [];
    are_lines = record {
      years = refl;
      lookbacks = λ line has. absurd has;
      carried = tt;
      schedules = record {
        years = (2001, omega arith, omega arith);
        schedules = λ line has. absurd has;
      };
    };
    owed = [];
    are_owed = record {
      by_first_day = tt;
      all = λ o. (λ has. absurd has, λ is. absurd is.open_year);
    };
    line_rows = IsPermutation-refl [];
    owed_rows = IsPermutation-refl [];
  };
}

pub made_stands : (old new : Database) → IsMade old new → IsKept new nothing
made_stands old new made = record {
  tables = new_tables;
  stands = made.0;
  stands_for = nothing_stands;
  sound = nothing_sound;
}

-- ---- migrated tables

forms_are : (es : List Enrolled) → ((e : Enrolled) → Has es e → e.account.form ≡ F941)
    → map on_form_941 (map enrolled_row es) ≡ map enrolled_form es
forms_are [] on = refl
forms_are (e ∷ es) on =
    let form : e.account.form ≡ F941 = on e (inl refl) in
    let row : on_form_941 (enrolled_row e) ≡ enrolled_form e = rw form refl in
    rw (row, forms_are es (λ x has. on x (inr has))) refl

-- rows that came after the version
module _ (version : ℕ) (before after : Tables) (moved : IsMigration version before after)
    (earlier : IsEarlier version) where
  was : (n : TableName) → since n ≡ 1 → (n ≡ Metas → ⊥) → after n ≡ before n
  was n old other = moved.others n
      (elim earlier [ inl is ↦ omega arith | inr is ↦ omega arith ]) other

  -- those of version 3 have the rows of no correction
  none : {X : Type 0} (n : TableName) → since n ≡ 3 → (n ≡ Forms → ⊥) → (entry : List X × X
      → RowOf n) → {xs : List X} → xs ≡ [] → after n ≡ map entry (with_earlier [] xs)
  none n new other entry is = moved.later n
      (elim earlier [ inl is ↦ omega arith | inr is ↦ omega arith ]) other
      ∙ sym (ap (λ xs. map entry (with_earlier [] xs)) is)

  second : (n : TableName) → since n ≡ 2 → (n ≡ Forms → ⊥) → (n ≡ Metas → ⊥)
      → {rows : List (RowOf n)} → (version ≡ 1 → [] ≡ rows) → (version ≡ 2 → before n ≡ rows)
      → after n ≡ rows
  second n new none other first later = elim earlier [
    | inl is ↦ moved.later n (omega arith) none ∙ first is
    | inr is ↦ moved.others n (omega arith) other ∙ later is
  ]

  pub migrated_stands : (s : State) → StandsForEarlier version before s → StandsFor after s
  migrated_stands s stands = record {
    entries = record {
      meta = moved.mark;
      enrolled = record {
        accounts = was Accounts refl (λ e. absurd cc) ∙ stands.accounts;
        forms = elim earlier [
          | inl is ↦
              (let rows : map on_form_941 (before Accounts) ≡ map enrolled_form s.accounts =
              ap (map on_form_941) stands.accounts
              ∙ forms_are s.accounts (stands.first is).on_form_941 in
              IsPermutation-sym (map enrolled_form s.accounts) (after Forms)
              (subst (λ (fs : List FormRow). IsPermutation fs (after Forms)) rows (moved.forms is)))
          | inr is ↦
              (let same : after Forms ≡ before Forms = moved.others Forms (omega arith)
              (λ e. absurd cc) in
              rw same (stands.second is).forms)
        ];
        moved = none CorrectedAccounts refl (λ e. absurd cc) account_correction_entry
            stands.no_moved;
      };
      figures = record {
        reported = was ReportedQuarters refl (λ e. absurd cc) ∙ stands.reported;
        reported_years = second ReportedYears refl (λ e. absurd cc) (λ e. absurd cc)
            (λ is. sym (ap (map year_entry) (stands.first is).no_years))
            (λ is. (stands.second is).reported_years);
        corrected = none CorrectedQuarters refl (λ e. absurd cc) correction_entry
            stands.no_corrected;
        corrected_years = none CorrectedYears refl (λ e. absurd cc) year_correction_entry
            stands.no_corrected_years;
      };
      days = record {
        calendars = was CalendarYears refl (λ e. absurd cc) ∙ stands.calendars;
        calendar_days = was Holidays refl (λ e. absurd cc) ∙ stands.calendar_days;
        added_days = second AddedHolidays refl (λ e. absurd cc) (λ e. absurd cc)
            (λ is. sym (ap (map added_entry) (stands.first is).no_added))
            (λ is. (stands.second is).added_days);
        changed_days = none ChangedHolidays refl (λ e. absurd cc) change_entry stands.no_changed;
      };
      paid = record {
        runs = was Runs refl (λ e. absurd cc) ∙ stands.runs;
        payments = was Payments refl (λ e. absurd cc) ∙ stands.payments;
      };
    };
    settled = λ name.
        let years : after Years ≡ before Years = was Years refl (λ e. absurd cc) in
        let owed : after Obligations ≡ before Obligations =
        was Obligations refl (λ e. absurd cc) in
        let settled = stands.settled name in
        record {
          lines = settled.lines;
          are_lines = settled.are_lines;
          owed = settled.owed;
          are_owed = settled.are_owed;
          line_rows = rw years settled.line_rows;
          owed_rows = rw owed settled.owed_rows;
        };
  }

pub migrated_kept : (old new : Database) (version : ℕ) (before : Tables) (s : State)
    → IsMigrated old new → IsEarlier version
    → StandsAs version old before → StandsForEarlier version before s → IsSound s
    → lacks_sequence old.schema ≡ false → IsKept new s
migrated_kept old new version before s migrated earlier stands_as stands sound lacks =
    let after = (migrated version earlier before stands_as stands.meta lacks).0 in record {
      tables = after.0;
      stands = after.1;
      stands_for = migrated_stands version before after.0 after.2 earlier s stands;
      sound = sound;
    }
