-- What the rows of an account tell of the parts of what is kept of it.
use Rattle.std.proofs.Common.{◌≡◌, ◌∙◌, ℕ, inl, inr, refl, sym, ap, List, [], ◌∷◌, map}
use Rattle.std.proofs.Common.{Option, None, Some, Vec, Global}
use Rattle.ftd_days.specs.declared.cents.Cents.{Cents}
use Rattle.ftd_rules.specs.declared.Form.{Form}
use Rattle.ftd_rules.specs.declared.run.PayRun.{PayRun}
use Rattle.ftd_rules.specs.declared.run.Voidable.{Voidable}
use Rattle.ftd_rules.specs.declared.payment.Payment.{Payment}
use Rattle.ftd_rules.proofs.Members.{has_mapped}
use Rattle.ftd_sql.specs.Standing.{Tables}
use Rattle.ftd_store.specs.Added.{FormsByRow, AccountCorrectionsByRow, ReportedByRow}
use Rattle.ftd_store.specs.Added.{ReportedYearsByRow, CorrectionsByRow, YearCorrectionsByRow}
use Rattle.ftd_store.specs.Added.{YearsByRow, RunsByRow, PaymentsByRow, ObligationsByRow}
use Rattle.ftd_store.specs.Rows.{form_row}
use Rattle.ftd_store.specs.declared.account_cells.Account.{Account}
use Rattle.ftd_store.specs.declared.added_cells.QuarterCorrection.{QuarterCorrection}
use Rattle.ftd_store.specs.declared.added_cells.YearCorrection.{YearCorrection}
use Rattle.ftd_store.specs.declared.correction_cells.AccountCorrection.{AccountCorrection}
use Rattle.ftd_store.specs.declared.kept_cells.NumberedPayment.{NumberedPayment}
use Rattle.ftd_store.specs.declared.kept_cells.NumberedRun.{NumberedRun}
use Rattle.ftd_store.specs.declared.kept_cells.QuarterTotal.{QuarterTotal}
use Rattle.ftd_store.specs.declared.kept_cells.YearTotal.{YearTotal}
use Rattle.ftd_machine.specs.declared.entries.Beginning.{Beginning}
use Rattle.ftd_machine.specs.State.{Entry}
use Rattle.ftd_entries.specs.Standing.{quarter_entry, year_entry, run_entry, payment_entry}
use Rattle.ftd_entries.specs.Standing.{with_earlier, correction_entry, year_correction_entry}
use Rattle.ftd_entries.specs.Standing.{account_correction_entry}
use Rattle.ftd_sound.specs.Entered.{entry_of, year_opened}
use Rattle.ftd_check.specs.OwnRows.{AreUnsoundRows}
use Rattle.ftd_check.specs.Parts.{AreNamed, move_to}
use Rattle.ftd_check.specs.Private.Groups.{ReadsBegun, ReadsQuarters, ReadsYears}
use Rattle.ftd_check.specs.Private.Groups.{HasBegun, HasQuarters, HasYears, HasPosted, HasOwn}
use Rattle.ftd_check.specs.Private.Groups.{own_of}
use Rattle.ftd_check.specs.Private.Parts.{AreBegun, AreQuarters, AreYears, ArePosted}
use Rattle.ftd_check.specs.Private.Values.{quarter_total_pair, year_total_pair, run_pair}
use Rattle.ftd_check.specs.Private.Values.{payment_pair}
use Rattle.ftd_check.specs.declared.parts.Begun.{Begun}
use Rattle.ftd_check.specs.declared.parts.Posted.{Posted}
use Rattle.ftd_check.specs.declared.parts.Quarters.{Quarters}
use Rattle.ftd_check.specs.declared.parts.Years.{Years}
use Rattle.ftd_check.proofs.NumberedRows.{moves_numbered, moves_entered, quarters_numbered}
use Rattle.ftd_check.proofs.NumberedRows.{quarters_entered, years_numbered, years_entered}
use Rattle.ftd_check.proofs.NumberedRows.{map_twice}
use Rattle.ftd_check.proofs.ReadableRows.{forms_read, moves_read, reported_read}
use Rattle.ftd_check.proofs.ReadableRows.{reported_years_read, corrected_read}
use Rattle.ftd_check.proofs.ReadableRows.{corrected_years_read, runs_read, payments_read}
use Rattle.ftd_check.proofs.ReadableRows.{years_read, obligations_read}

-- rows by what is kept
thrice : {X Y Z R : Type 0} (row : Z → R) (make : Y → Z) (pair : X → Y) (xs : List X)
    → map (λ x. row (make (pair x))) xs ≡ map row (map make (map pair xs))
thrice row make pair xs =
    map_twice (λ y. row (make y)) pair xs ∙ map_twice row make (map pair xs)

module _ (name : List ℕ) (t : Tables) where
  -- ---- where a row shows no value

  pub no_forms : FormsByRow {A = Global} name None t → AreUnsoundRows name t
  no_forms bad own given holidays are = bad (forms_read t name own given holidays are)

  pub no_moves : AccountCorrectionsByRow {A = Global} name None t → AreUnsoundRows name t
  no_moves bad own given holidays are = bad (moves_read t name own given holidays are)

  pub no_reported : ReportedByRow {A = Global} name None t → AreUnsoundRows name t
  no_reported bad own given holidays are = bad (reported_read t name own given holidays are)

  pub no_reported_years : ReportedYearsByRow {A = Global} name None t → AreUnsoundRows name t
  no_reported_years bad own given holidays are =
      bad (reported_years_read t name own given holidays are)

  pub no_corrected : CorrectionsByRow {A = Global} name None t → AreUnsoundRows name t
  no_corrected bad own given holidays are = bad (corrected_read t name own given holidays are)

  pub no_corrected_years : YearCorrectionsByRow {A = Global} name None t → AreUnsoundRows name t
  no_corrected_years bad own given holidays are =
      bad (corrected_years_read t name own given holidays are)

  pub no_runs : RunsByRow {A = Global} name None t → AreUnsoundRows name t
  no_runs bad own given holidays are = bad (runs_read t name own given holidays are)

  pub no_payments : PaymentsByRow {A = Global} name None t → AreUnsoundRows name t
  no_payments bad own given holidays are = bad (payments_read t name own given holidays are)

  pub no_years : YearsByRow {A = Global} name None t → AreUnsoundRows name t
  no_years bad own given holidays are = bad (years_read t name own given holidays are)

  pub no_obligations : ObligationsByRow {A = Global} name None t → AreUnsoundRows name t
  no_obligations bad own given holidays are =
      bad (obligations_read t name own given holidays are)

  -- ---- the account

  one_form : (forms : List Form) (form : Form) → map (form_row name) forms ≡ form_row name form ∷ []
      → ((f : Form) → forms ≡ f ∷ [] → ⊥) → ⊥
  one_form [] form are none = cc
  one_form (f ∷ []) form are none = none f refl
  one_form (f ∷ g ∷ forms) form are none = cc

  pub begun_read : (account : Account) (forms : Vec Form Global)
      (corrections : Vec AccountCorrection Global)
      (found : Option Begun) → AreBegun account forms.items corrections.items found
      → FormsByRow name (Some forms) t → AccountCorrectionsByRow name (Some corrections) t
      → ReadsBegun name account found t
  begun_read account forms corrections None (inl none) on right =
      λ own given holidays are. one_form forms.items are.entered.first.form
      (on ∙ are.entered.form) none
  begun_read account forms corrections None (inr none) on right =
      λ own given holidays are. none (moves_numbered name own.moves corrections.items
      (right ∙ are.entered.moves))
  begun_read account forms corrections (Some begun) its on right = record {
    start = its.start;
    carried = its.carried;
    form = sym on ∙ ap (map (form_row name)) its.form;
    moves =
        sym right ∙ moves_entered name corrections.items its.numbered
        ∙ ap (λ (ms : List Beginning). map account_correction_entry
        (with_earlier [] (map (move_to name) ms))) (sym its.moves);
  }

  -- ---- totals

  pub quarters_read : (reported : Vec QuarterTotal Global)
      (corrected : Vec QuarterCorrection Global)
      (found : Option Quarters) → AreQuarters reported.items corrected.items found
      → ReportedByRow name (Some reported) t → CorrectionsByRow name (Some corrected) t
      → ReadsQuarters name found t
  quarters_read reported corrected None none first later =
      λ own given holidays are. none (quarters_numbered name own.corrected corrected.items
      are.entered.named.corrected (later ∙ are.entered.corrected))
  quarters_read reported corrected (Some quarters) its first later = record {
    reported =
        sym first ∙ thrice quarter_entry (entry_of name) quarter_total_pair reported.items
        ∙ ap (λ (ps : List (ℕ × Cents)). map quarter_entry (map (entry_of name) ps)) (sym its.0);
    corrected =
        sym later ∙ quarters_entered name corrected.items its.1
        ∙ ap (λ (ps : List (ℕ × Cents)). map correction_entry
        (with_earlier [] (map (entry_of name) ps))) (sym its.2);
  }

  pub totals_read : (reported : Vec YearTotal Global)
      (corrected : Vec YearCorrection Global)
      (found : Option Years) → AreYears reported.items corrected.items found
      → ReportedYearsByRow name (Some reported) t → YearCorrectionsByRow name (Some corrected) t
      → ReadsYears name found t
  totals_read reported corrected None none first later =
      λ own given holidays are. none (years_numbered name own.corrected_years corrected.items
      are.entered.named.corrected_years (later ∙ are.entered.corrected_years))
  totals_read reported corrected (Some years) its first later = record {
    reported =
        sym first ∙ thrice year_entry (entry_of name) year_total_pair reported.items
        ∙ ap (λ (ps : List (ℕ × Cents)). map year_entry (map (entry_of name) ps)) (sym its.0);
    corrected =
        sym later ∙ years_entered name corrected.items its.1
        ∙ ap (λ (ps : List (ℕ × Cents)). map year_correction_entry
        (with_earlier [] (map (entry_of name) ps))) (sym its.2);
  }

  -- ---- runs and payments

  pub posted_read : (runs : Vec NumberedRun Global) (payments : Vec NumberedPayment Global)
      (posted : Posted)
      → ArePosted runs.items payments.items posted → RunsByRow name (Some runs) t
      → PaymentsByRow name (Some payments) t → HasPosted t name posted
  posted_read runs payments posted its ran paid = record {
    runs =
        sym ran ∙ thrice run_entry (entry_of name) run_pair runs.items
        ∙ ap (λ (ps : List (ℕ × Voidable PayRun)). map run_entry (map (entry_of name) ps))
        (sym its.0);
    payments =
        sym paid ∙ thrice payment_entry (entry_of name) payment_pair payments.items
        ∙ ap (λ (ps : List (ℕ × Voidable Payment)). map payment_entry (map (entry_of name) ps))
        (sym its.1);
  }

-- ---- taken together

are_named : {X : Type 0} (name : List ℕ) (ps : List (ℕ × X))
    → AreNamed name (map (entry_of name) ps)
are_named {X = X} name ps e has =
    ap (λ (d : Entry X). d.name) (has_mapped (entry_of name) ps e has).2

years_named : (name : List ℕ) (years : List ℕ) → AreNamed name (map (year_opened name) years)
years_named name years e has =
    ap (λ (d : Entry (Unit {0})). d.name) (has_mapped (year_opened name) years e has).2

module _ (name : List ℕ) (t : Tables) (account : Account) (open_years : Vec ℕ Global)
    (begun : Begun) (quarters : Quarters) (years : Years) (posted : Posted) where
  pub entered_read : HasBegun t name account begun → HasQuarters t name quarters
      → HasYears t name years → HasPosted t name posted
      → HasOwn t name account open_years.items (own_of open_years begun quarters years posted)
  entered_read first figures totals paid = record {
    entered = record {
      named = record {
        reported = are_named name quarters.reported.items;
        reported_years = are_named name years.reported.items;
        open_years = years_named name open_years.items;
        runs = are_named name posted.runs.items;
        payments = are_named name posted.payments.items;
        corrected = are_named name quarters.corrected.items;
        corrected_years = are_named name years.corrected.items;
      };
      first = begun.account;
      enrolled = refl;
      form = first.form;
      moves = first.moves;
      reported = figures.reported;
      reported_years = totals.reported;
      corrected = figures.corrected;
      corrected_years = totals.corrected;
      runs = paid.runs;
      payments = paid.payments;
    };
    start = first.start;
    carried = first.carried;
    open_years_are = refl;
  }
