-- How many rows were read of an account is how many it has.
use Rattle.std.proofs.Common.{◌≡◌, ◌∙◌, ◌++◌, refl, sym, ap, suc, ℕ, List, [], ◌∷◌, map, length}
use Rattle.std.proofs.lemmas.List.{length-map}
use Rattle.ftd_sql.specs.Standing.{Tables}
use Rattle.ftd_store.specs.Added.{stored_year_row}
use Rattle.ftd_store.specs.Rows.{obligation_row}
use Rattle.ftd_store.specs.declared.account_cells.Account.{Account}
use Rattle.ftd_entries.specs.Standing.{quarter_entry, year_entry, run_entry, payment_entry}
use Rattle.ftd_entries.specs.Standing.{with_earlier, correction_entry, year_correction_entry}
use Rattle.ftd_entries.specs.Standing.{account_correction_entry}
use Rattle.ftd_sound.specs.Entered.{entry_of}
use Rattle.ftd_check.specs.OwnRows.{AreRowsOf}
use Rattle.ftd_check.specs.Parts.{move_to}
use Rattle.ftd_check.specs.Sizes.{AreSizesOf, sizes_of}
use Rattle.ftd_check.specs.declared.own_rows.OwnRows.{OwnRows}

long_earlier : {X : Type 0} (before xs : List X) → length (with_earlier before xs) ≡ length xs
long_earlier before [] = refl
long_earlier before (x ∷ xs) = ap suc (long_earlier (before ++ x ∷ []) xs)

-- as many rows as entries, and as many rows of corrections
entered_long : {Y E R : Type 0} (row : E → R) (make : Y → E) (ys : List Y) (rows : List R)
    → rows ≡ map row (map make ys) → length ys ≡ length rows
entered_long row make ys rows are =
    sym (ap length are ∙ length-map (map make ys) row ∙ length-map ys make)

corrected_long : {Y E R : Type 0} (row : List E × E → R) (make : Y → E) (ys : List Y)
    (rows : List R) → rows ≡ map row (with_earlier [] (map make ys)) → length ys ≡ length rows
corrected_long row make ys rows are =
    sym (ap length are ∙ length-map (with_earlier [] (map make ys)) row
    ∙ long_earlier [] (map make ys) ∙ length-map ys make)

stored_long : {Y R : Type 0} (row : Y → R) (ys : List Y) (rows : List R) → map row ys ≡ rows
    → length ys ≡ length rows
stored_long row ys rows are = sym (length-map ys row) ∙ ap length are

pub sizes_are : (t : Tables) (name : List ℕ) (account : Account) (rows : OwnRows)
    → AreRowsOf t name account rows → AreSizesOf t name (sizes_of rows)
sizes_are t name account rows are =
    let own = rows.own in
    let entered = are.entered in
    record {
      forms = sym (ap length entered.form);
      account_corrections = corrected_long account_correction_entry (move_to name)
          own.moves.items _ entered.moves;
      reported = entered_long quarter_entry (entry_of name) own.reported.items _ entered.reported;
      reported_years = entered_long year_entry (entry_of name) own.reported_years.items _
          entered.reported_years;
      corrections = corrected_long correction_entry (entry_of name) own.corrected.items _
          entered.corrected;
      year_corrections = corrected_long year_correction_entry (entry_of name)
          own.corrected_years.items _ entered.corrected_years;
      years = stored_long (stored_year_row name) rows.years.items _ are.years;
      runs = entered_long run_entry (entry_of name) own.runs.items _ entered.runs;
      payments = entered_long payment_entry (entry_of name) own.payments.items _ entered.payments;
      obligations = stored_long (obligation_row name) rows.obligations.items _ are.obligations;
    }
