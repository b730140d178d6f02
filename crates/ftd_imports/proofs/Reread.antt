-- The CSV of runs is read as those that were not voided.
use Rattle.std.proofs.Common.{◌≡◌, ◌∙◌, refl, sym, ap, ℕ, ◌<◌, ◌≤◌, ◌&&◌, true}
use Rattle.std.proofs.Common.{inl, inr, List, [], ◌∷◌, ◌++◌, map, length, Some, arith}
use Rattle.std.specs.Prelude.{filter, codes, nat_le, ◌^◌, if◌then◌else◌}
use Rattle.std.specs.Str.{all_ascii_digits}
use Rattle.std.specs.Fmt.{decimal}
use Rattle.std.specs.List.{flat_map}
use Rattle.std.proofs.lemmas.Bool.{cases_Bool, leb-true, le-leb, lt-ltb, and_parts}
use Rattle.std.proofs.lemmas.Fmt.{digits_decimal, digits_value-decimal, length-decimal-le}
use Rattle.std.proofs.lemmas.Fmt.{decimal_nonempty}
use Rattle.csv.specs.Reading.{default_config, records, strip_bom}
use Rattle.csv.specs.Writing.{default_writer, row_text}
use Rattle.csv.proofs.RoundTrip.{rows_text}
use Rattle.ftd_days.specs.Digits.{number_of}
use Rattle.ftd_days.specs.Spelling.{cents_of}
use Rattle.ftd_days.specs.Text.{day_text, cents_text}
use Rattle.ftd_days.proofs.Numerals.{own}
use Rattle.ftd_days.proofs.Spelled.{printed_spells}
use Rattle.ftd_days.proofs.Spelling.{spelled_cents}
use Rattle.ftd_rules.specs.Accounts.{is_account_name}
use Rattle.ftd_rules.specs.Lists.{Has}
use Rattle.csv.specs.Records.{field_at}
use Rattle.ftd_csv.specs.Fields.{name_of, run_number_of}
use Rattle.ftd_csv.specs.Records.{HasHeader, entry_in, records_of, rows_of}
use Rattle.ftd_csv.specs.Sheets.{column_of, header_row}
use Rattle.ftd_csv.specs.declared.sheets.Sheet.TheVariants.{Runs}
use Rattle.ftd_verbs.specs.Asked.{post}
use Rattle.ftd_answers.specs.Fields.{record_told}
use Rattle.ftd_answers.specs.KeptForms.{live_record, run_record, runs_csv, records_head}
use Rattle.ftd_machine.specs.Limits.{is_amount}
use Rattle.ftd_machine.specs.declared.kept.KeptRun.{KeptRun}
use Rattle.ftd_imports.specs.Exports.{IsPosted, is_live, said_as}
use Rattle.ftd_imports.proofs.PlainFields.{own_name, own_decimal, own_day, own_cents}
use Rattle.ftd_imports.proofs.RecordText.{AreOwn, row_is}
use Rattle.ftd_imports.proofs.PrintedDays.{day_reread}
use Rattle.ftd_imports.proofs.ReadBack.{AreRows, read_written}

-- ---- one run

abbrev pub fields_of : List ℕ → KeptRun → List (List ℕ)
fields_of account x =
    account ∷ decimal x.number ∷ day_text x.run.payday ∷ cents_text x.run.fit.0
    ∷ cents_text x.run.ss.0 ∷ cents_text x.run.medicare.0 ∷ []

module _ (account : List ℕ) (name : is_account_name account ≡ true) (x : KeptRun)
    (fits : IsPosted x) where
  number_fits : (1 ≤ x.number) × (x.number ≤ 999_999_999)
  number_fits =
      let parts = and_parts (nat_le 1 x.number) (nat_le x.number 999_999_999) fits.number in
      (leb-true 1 x.number parts.0, leb-true x.number 999_999_999 parts.1)

  amounts_fit : (x.run.fit.0 ≤ 99_999_999_999) × (x.run.ss.0 ≤ 99_999_999_999)
      × (x.run.medicare.0 ≤ 99_999_999_999)
  amounts_fit =
      let parts = and_parts (is_amount x.run.fit) (is_amount x.run.ss && is_amount x.run.medicare)
      fits.amounts in
      let rest = and_parts (is_amount x.run.ss) (is_amount x.run.medicare) parts.1 in (
        leb-true x.run.fit.0 99_999_999_999 parts.0,
        leb-true x.run.ss.0 99_999_999_999 rest.0,
        leb-true x.run.medicare.0 99_999_999_999 rest.1,
      )

  small : x.number < 2 ^ 64
  small = let fits_so = number_fits.1 in omega (arith, fits_so)

  own_fields : AreOwn (fields_of account x)
  own_fields =
      let a = amounts_fit.0 in
      let b = amounts_fit.1 in
      let c = amounts_fit.2 in (
        own_name account name,
        (
          own_decimal x.number small,
          (
            own_day x.run.payday,
            (
              own_cents x.run.fit.0 (omega (arith, a)),
              (
                own_cents x.run.ss.0 (omega (arith, b)),
                (own_cents x.run.medicare.0 (omega (arith, c)), tt),
              ),
            ),
          ),
        ),
      )

  -- its record is what a writer of CSV writes of its fields
  pub record_is : row_text default_writer (fields_of account x) ≡ run_record account x
  unfolding record_told
  record_is = row_is account (decimal x.number) _ own_fields

  number_reread : run_number_of (decimal x.number) ≡ Some x.number
  unfolding run_number_of
  number_reread =
      let is : number_of (decimal x.number) ≡ x.number = digits_value-decimal own x.number small in
      let digits : all_ascii_digits (decimal x.number) ≡ true = digits_decimal own x.number small in
      let some = decimal_nonempty x.number small in
      let fit = number_fits in
      let few = length-decimal-le 9 x.number (omega arith) (omega (arith, fit.1)) small in
      rw (
        lt-ltb 0 (length (decimal x.number)) some,
        le-leb (length (decimal x.number)) 9 few,
        digits,
        is,
        lt-ltb 0 x.number (omega (arith, fit.0)),
      ) refl

  cents_reread : (amount : ℕ) → amount ≤ 99_999_999_999 → cents_of (cents_text amount) ≡ Some amount
  cents_reread amount fit =
      spelled_cents (cents_text amount) amount (printed_spells amount (omega arith))

  -- and is read as the run
  pub said : entry_in Runs (fields_of account x) ≡ said_as account x
  unfolding entry_in post column_of name_of field_at
  said =
      let a = amounts_fit.0 in
      let b = amounts_fit.1 in
      let c = amounts_fit.2 in
      rw (
        name,
        number_reread,
        day_reread x.run.payday fits.payday,
        cents_reread x.run.fit.0 a,
        cents_reread x.run.ss.0 b,
        cents_reread x.run.medicare.0 c,
      ) refl

-- ---- all of them

abbrev pub live_rows : List ℕ → List KeptRun → List (List (List ℕ))
live_rows account [] = []
live_rows account (x ∷ listed) =
    if x.voided then live_rows account listed else fields_of account x ∷ live_rows account listed

module _ (account : List ℕ) (name : is_account_name account ≡ true) where
  abbrev pub Fit : List KeptRun → Type 0
  Fit listed = (x : KeptRun) → Has listed x → IsPosted x

  are_rows : (listed : List KeptRun) → AreRows (live_rows account listed)
  are_rows [] = tt
  are_rows (x ∷ listed) = elim (cases_Bool x.voided) [
    | inl void ↦ rw void (are_rows listed)
    | inr lives ↦ rw lives (are_rows listed)
  ]

  -- the text of those that live, and what it says
  written : (listed : List KeptRun) → Fit listed
      → (rows_text (live_rows account listed) ≡ flat_map (live_record account) listed)
      × (map (entry_in Runs) (live_rows account listed)
      ≡ map (said_as account) (filter is_live listed))
  unfolding rows_text record_told
  written [] fit = (refl, refl)
  written (x ∷ listed) fit =
      let rest = written listed (λ y has. fit y (inr has)) in
      let text = record_is account name x (fit x (inl refl)) in
      let entry = said account name x (fit x (inl refl)) in
      elim (cases_Bool x.voided) [
        | inl void ↦ (rw (void, rest.0) refl, rw (void, rest.1) refl)
        | inr lives ↦ (rw (lives, rest.0, text) refl, rw (lives, rest.1, entry) refl)
      ]

  header_text : row_text default_writer (header_row Runs) ≡ records_head
  header_text =
      let own : AreOwn (header_row Runs) = (refl, (refl, (refl, (refl, (refl, (refl, tt)))))) in
      row_is (codes "employer") (codes "run")
      (codes "payday" ∷ codes "fit" ∷ codes "ss" ∷ codes "medicare" ∷ []) own

  whole : (listed : List KeptRun) → Fit listed
      → rows_text ((header_row Runs) ∷ live_rows account listed) ≡ runs_csv account listed
  unfolding rows_text runs_csv
  whole listed fit =
      ap (λ (text : List ℕ). text ++ rows_text (live_rows account listed)) header_text
      ∙ ap (λ (text : List ℕ). records_head ++ text) (written listed fit).0

  no_mark : (listed : List KeptRun) → strip_bom (runs_csv account listed) ≡ runs_csv account listed
  unfolding strip_bom runs_csv
  no_mark listed = refl

  pub reread : (listed : List KeptRun) → Fit listed
      → rows_of (runs_csv account listed) ≡ (header_row Runs) ∷ live_rows account listed
  unfolding rows_of
  reread listed fit =
      ap (records default_config) (no_mark listed)
      ∙ ap (records default_config) (sym (whole listed fit))
      ∙ read_written ((header_row Runs) ∷ live_rows account listed) (are_rows listed)

  pub has_header : (listed : List KeptRun) → Fit listed → HasHeader Runs (runs_csv account listed)
  has_header listed fit = rw (reread listed fit) refl

  pub records_are : (listed : List KeptRun) → Fit listed
      → records_of Runs (runs_csv account listed) ≡ map (said_as account) (filter is_live listed)
  records_are listed fit = rw (reread listed fit) (written listed fit).1
