-- What is in force of an account and of its totals, by their rows and those of their corrections.
use Rattle.std.proofs.Common.{◌≡◌, ◌∙◌, refl, sym, ap, subst, ℕ, ◌&&◌, pos, Bool, true, false, List}
use Rattle.std.proofs.Common.{[], ◌∷◌, map, filter, Option, None, Some, Vec, bytes_eq}
use Rattle.std.specs.Prelude.{option_map}
use Rattle.std.proofs.lemmas.Bool.{eqb-true, and_parts}
use Rattle.ftd_days.specs.Calendar.{quarter_year, quarter_number}
use Rattle.ftd_days.specs.declared.cents.Cents.{Cents}
use Rattle.ftd_days.proofs.Spelling.{same_text}
use Rattle.ftd_sql.specs.declared.TableName.TheVariants.{CorrectedAccounts}
use Rattle.ftd_sql.specs.Orders.{CorrectionsRise, YearCorrectionsRise, AccountCorrectionsRise}
use Rattle.ftd_sql.specs.Rows.{CorrectedQuarterRow, CorrectedYearRow, CorrectedAccountRow}
use Rattle.ftd_sql.specs.Standing.{Tables}
use Rattle.ftd_sql.specs.Tests.{is_correction, is_year_correction, is_account_correction_of}
use Rattle.ftd_sql.specs.Tests.{is_account}
use Rattle.ftd_rules.specs.declared.Form.{Form}
use Rattle.ftd_store.specs.Lists.{Lists}
use Rattle.ftd_store.specs.Rows.{correction_row, year_correction_row, account_correction_row}
use Rattle.ftd_store.specs.CorrectionRows.{as_corrected, last_account}
use Rattle.ftd_store.specs.Years.{is_carried as is_carried_in}
use Rattle.ftd_store.specs.declared.account_cells.Account.{Account as StoredAccount}
use Rattle.ftd_store.specs.declared.correction_cells.AccountCorrection.{AccountCorrection}
use Rattle.ftd_store.specs.declared.correction_cells.Correction.{Correction}
use Rattle.ftd_store.specs.Corrections.{IsCorrection, IsCorrectionOfYear, IsAccountCorrection}
use Rattle.ftd_store.specs.Corrections.{ListsCorrections, ListsYearCorrections}
use Rattle.ftd_store.specs.Finds.{FindsReported, FindsReportedYear, FindsInForce, FindsForm}
use Rattle.ftd_machine.specs.declared.entries.Account.{Account}
use Rattle.ftd_machine.specs.declared.entries.Beginning.{Beginning}
use Rattle.ftd_machine.specs.declared.entries.ReturnPeriod.TheVariants.{Quarter, Year}
use Rattle.ftd_machine.specs.State.{State, Entry, Move, entries_of, is_of, has_key, content_of}
use Rattle.ftd_machine.specs.State.{all_at, latest, moves_of, moves_in, is_move_of, beginning_of}
use Rattle.ftd_machine.specs.State.{account_in_force, enrolled_in}
use Rattle.ftd_machine.specs.History.{is_carried}
use Rattle.ftd_machine.specs.Step.{is_under}
use Rattle.ftd_entries.specs.Standing.{StandsFor, with_earlier, correction_entry}
use Rattle.ftd_entries.specs.Standing.{year_correction_entry, account_correction_entry}
use Rattle.ftd_entries.specs.Known.{KnowsAccount, KnowsCorrections, joined}
use Rattle.ftd_entries.specs.Known.{KnowsYearCorrections, KnowsFigure}
use Rattle.ftd_entries.specs.Known.{cents_of, amounts_of, begins_at, beginnings_of}
use Rattle.ftd_entries.proofs.CalendarRows.{whole, whole_rises, year_cell}
use Rattle.ftd_entries.proofs.Corrections.{Picks, rows_are, numbered_rows, numbered_listed}
use Rattle.ftd_entries.proofs.Found.{day_is, flag_is, knows_enrolled, stored_of, stored_is}
use Rattle.ftd_entries.proofs.Kept.{same_quarter, cents_is, first_kept, first_year_kept}

-- ---- under a name and a key

abbrev own_at : {X : Type 0} → List ℕ → ℕ → List (Entry X) → List X
own_at name key xs = all_at key (filter (is_of name) xs)

picks_at : {X : Type 0} (name : List ℕ) (key : ℕ)
    → Picks (own_at {X = X} name key) (is_under name key) content_of
picks_at name key = record {
  none = refl;
  one = λ x xs is. (let parts = and_parts (is_of name x) (has_key key x) is in
      rw (parts.0, parts.1) refl);
  other = λ x xs off. other x xs (is_of name x) (has_key key x) refl refl off;
}
  where
    other : {X : Type 0} (x : Entry X) (xs : List (Entry X)) (a b : Bool) → is_of name x ≡ a
        → has_key key x ≡ b → (a && b) ≡ false
        → own_at name key (x ∷ xs) ≡ own_at name key xs
    other x xs false b e f off = rw e refl
    other x xs true false e f off = rw (e, f) refl
    other x xs true true e f off = absurd cc

-- ---- of a quarter

module _ (name : List ℕ) (quarter : ℕ) where
  abbrev quarter_as_row : ℕ → Cents → CorrectedQuarterRow
  quarter_as_row n cents = correction_row name quarter (record { number = n; cents = cents })

  abbrev quarter_test : CorrectedQuarterRow → Bool
  quarter_test = is_correction name (pos (quarter_year quarter)) (pos (quarter_number quarter))

  quarter_rows : (xs : List (Entry Cents))
      → filter quarter_test (map correction_entry (with_earlier [] xs))
      ≡ numbered_rows quarter_as_row 0 (own_at name quarter xs)
  quarter_rows xs =
      rows_are (own_at name quarter) (is_under name quarter) content_of (picks_at name quarter)
      quarter_test correction_entry quarter_as_row
      (λ b x. ap (λ z. bytes_eq x.name name && z) (same_quarter x.key quarter))
      (λ b x is. (let parts = and_parts (is_of name x) (has_key quarter x) is in
      let who = same_text x.name name parts.0 in
      let key = eqb-true x.key quarter parts.1 in
      rw (who, key) refl)) [] xs

  pub corrections_known : {A : Type 0} (found : Vec Correction A) (t : Tables)
      → ListsCorrections name quarter found t → KnowsCorrections name quarter found.items t
  corrections_known found t lists s keeps =
      numbered_listed quarter_as_row (λ (r : CorrectedQuarterRow). whole r.number)
      (IsCorrection name quarter) cents_of (λ n v. refl)
      (λ n v l is. cents_is l.cents v (sym (ap (λ (r : CorrectedQuarterRow). r.cents) is)))
      0 (own_at name quarter s.corrected) found.items CorrectionsRise
      (λ a b rise. whole_rises a.number b.number rise)
      (subst (λ rows. Lists CorrectionsRise (IsCorrection name quarter) rows found.items)
      (ap (filter quarter_test) keeps.corrected ∙ quarter_rows s.corrected) lists)

  pub figure_known : {A : Type 0} (reported : Option Cents) (found : Vec Correction A) (t : Tables)
      → FindsReported name quarter reported t → ListsCorrections name quarter found t
      → KnowsFigure name (Quarter quarter)
      (option_map (λ first. latest first (amounts_of found.items)) reported) t
  figure_known reported found t finds lists s keeps =
      ap (λ o. option_map (λ first. latest first (own_at name quarter s.corrected)) o)
      (first_kept name t s keeps quarter reported finds)
      ∙ ap (λ later. option_map (λ first. latest first later) reported)
      (sym (corrections_known found t lists s keeps))

-- ---- of a year

module _ (name : List ℕ) (year : ℕ) where
  abbrev year_as_row : ℕ → Cents → CorrectedYearRow
  year_as_row n cents = year_correction_row name year (record { number = n; cents = cents })

  abbrev year_test : CorrectedYearRow → Bool
  year_test = is_year_correction name (pos year)

  year_rows : (xs : List (Entry Cents))
      → filter year_test (map year_correction_entry (with_earlier [] xs))
      ≡ numbered_rows year_as_row 0 (own_at name year xs)
  year_rows xs =
      rows_are (own_at name year) (is_under name year) content_of (picks_at name year)
      year_test year_correction_entry year_as_row
      (λ b x. ap (λ z. bytes_eq x.name name && z) (year_cell x.key year))
      (λ b x is. (let parts = and_parts (is_of name x) (has_key year x) is in
      let who = same_text x.name name parts.0 in
      let key = eqb-true x.key year parts.1 in
      rw (who, key) refl)) [] xs

  pub year_corrections_known : {A : Type 0} (found : Vec Correction A) (t : Tables)
      → ListsYearCorrections name year found t → KnowsYearCorrections name year found.items t
  year_corrections_known found t lists s keeps =
      numbered_listed year_as_row (λ (r : CorrectedYearRow). whole r.number)
      (IsCorrectionOfYear name year) cents_of (λ n v. refl)
      (λ n v l is. cents_is l.cents v (sym (ap (λ (r : CorrectedYearRow). r.cents) is)))
      0 (own_at name year s.corrected_years) found.items YearCorrectionsRise
      (λ a b rise. whole_rises a.number b.number rise)
      (subst (λ rows. Lists YearCorrectionsRise (IsCorrectionOfYear name year) rows found.items)
      (ap (filter year_test) keeps.corrected_years ∙ year_rows s.corrected_years) lists)

  pub year_figure_known : {A : Type 0} (reported : Option Cents) (found : Vec Correction A)
      (t : Tables)
      → FindsReportedYear name year reported t → ListsYearCorrections name year found t
      → KnowsFigure name (Year year)
      (option_map (λ first. latest first (amounts_of found.items)) reported) t
  year_figure_known reported found t finds lists s keeps =
      ap (λ o. option_map (λ first. latest first (own_at name year s.corrected_years)) o)
      (first_year_kept name t s keeps year reported finds)
      ∙ ap (λ later. option_map (λ first. latest first later) reported)
      (sym (year_corrections_known found t lists s keeps))

-- ---- of an account

abbrev begins_as_stored : StoredAccount → Beginning
begins_as_stored a = record { start = a.start; carried = a.carried }

-- the last beginning is that of the last account
last_begins : (a : StoredAccount) (cs : List AccountCorrection)
    → latest (begins_as_stored a) (beginnings_of cs) ≡ begins_as_stored (last_account a cs)
last_begins a [] = refl
last_begins a (c ∷ cs) = last_begins c.account cs

joined_force : (enrolled : Option StoredAccount) (form : Option Form) (cs : List AccountCorrection)
    → joined (as_corrected enrolled cs) form
    ≡ account_in_force (joined enrolled form) (beginnings_of cs)
joined_force None form cs = refl
joined_force (Some a) None cs = refl
joined_force (Some a) (Some form) cs =
    ap (λ (b : Beginning). Some (record { start = b.start; carried = b.carried; form = form }))
    (sym (last_begins a cs))

carried_force : (enrolled : Option Account) (cs : List AccountCorrection)
    → is_carried (account_in_force enrolled (beginnings_of cs))
    ≡ is_carried_in (as_corrected (option_map stored_of enrolled) cs)
carried_force None cs = refl
carried_force (Some a) cs =
    ap (λ (b : Beginning). b.carried) (last_begins (stored_of a) cs)

module _ (name : List ℕ) where
  abbrev account_as_row : ℕ → Beginning → CorrectedAccountRow
  account_as_row n b = account_correction_row name (record {
    number = n;
    account = record { start = b.start; carried = b.carried };
  })

  picks_moves : Picks (moves_of name) (is_move_of name) beginning_of
  picks_moves = record {
    none = refl;
    one = λ x xs is. rw is refl;
    other = λ x xs off. rw off refl;
  }

  account_rows : (xs : List Move)
      → filter (is_account_correction_of name) (map account_correction_entry (with_earlier [] xs))
      ≡ numbered_rows account_as_row 0 (moves_of name xs)
  account_rows xs =
      rows_are (moves_of name) (is_move_of name) beginning_of picks_moves
      (is_account_correction_of name) account_correction_entry account_as_row
      (λ b x. refl)
      (λ b x is. (let who = same_text x.name name is in rw who refl)) [] xs

  begins : (n : ℕ) (v : Beginning) (l : AccountCorrection)
      → IsAccountCorrection name (account_as_row n v) l → begins_at l ≡ v
  begins n v l is =
      let start = day_is l.account.start v.start
      (sym (ap (λ (r : CorrectedAccountRow). r.start) is)) in
      let carried = flag_is l.account.carried v.carried
      (sym (ap (λ (r : CorrectedAccountRow). r.carried) is)) in
      rw (start, carried) refl

  pub moves_listed : (found : List AccountCorrection) (t : Tables) (s : State)
      → Lists AccountCorrectionsRise (IsAccountCorrection name)
      (filter (is_account_correction_of name) (t CorrectedAccounts)) found
      → StandsFor t s → beginnings_of found ≡ moves_in s name
  moves_listed found t s lists stands =
      numbered_listed account_as_row (λ (r : CorrectedAccountRow). whole r.number)
      (IsAccountCorrection name) begins_at (λ n v. refl) begins
      0 (moves_in s name) found AccountCorrectionsRise
      (λ a b rise. whole_rises a.number b.number rise)
      (subst (λ rows. Lists AccountCorrectionsRise (IsAccountCorrection name) rows found)
      (ap (filter (is_account_correction_of name)) stands.entries.enrolled.moved
      ∙ account_rows s.moved) lists)

  -- the account that was found, with its form, is that in force
  pub in_force_known : (found : Option StoredAccount) (form : Option Form) (t : Tables)
      → FindsInForce name found t → FindsForm name form t → KnowsAccount name (joined found form) t
  in_force_known found form t finds has s stands =
      let enrolled : enrolled_in s name ≡ joined finds.enrolled form =
      knows_enrolled name finds.enrolled form t finds.is_enrolled has s stands in
      let moves : beginnings_of finds.corrections ≡ moves_in s name =
      moves_listed finds.corrections t s finds.are_all stands in
      ap (λ o. account_in_force o (moves_in s name)) enrolled
      ∙ ap (account_in_force (joined finds.enrolled form)) (sym moves)
      ∙ sym (joined_force finds.enrolled form finds.corrections)
      ∙ ap (λ o. joined o form) (sym finds.is_last)

  -- and it came in as semiweekly as the one in force did
  pub carried_known : (found : Option StoredAccount) (t : Tables) (s : State)
      → FindsInForce name found t → StandsFor t s
      → is_carried (entries_of s name).account ≡ is_carried_in found
  carried_known found t s finds stands =
      let enrolled : option_map stored_of (enrolled_in s name) ≡ finds.enrolled =
      stored_is name finds.enrolled s.accounts
      (ap (filter (is_account name)) (sym stands.entries.enrolled.accounts) ∙ finds.is_enrolled) in
      let moves : beginnings_of finds.corrections ≡ moves_in s name =
      moves_listed finds.corrections t s finds.are_all stands in
      ap (λ ms. is_carried (account_in_force (enrolled_in s name) ms)) (sym moves)
      ∙ carried_force (enrolled_in s name) finds.corrections
      ∙ ap (λ o. is_carried_in (as_corrected o finds.corrections)) enrolled
      ∙ ap is_carried_in (sym finds.is_last)
