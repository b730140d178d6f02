-- The totals that were read of an account are its own, by quarter and by year, each with its
-- corrections.
use Rattle.std.proofs.Common.{◌≡◌, ◌∙◌, inl, inr, refl, ap, ℕ, ◌+◌, ◌*◌, ◌-◌, ◌≤◌, List, ◌++◌}
use Rattle.std.proofs.Common.{map, Vec, arith}
use Rattle.std.specs.Prelude.{filter}
use Rattle.std.proofs.lemmas.Int.{ints}
use Rattle.ftd_days.specs.Calendar.{quarter_year, quarter_number}
use Rattle.ftd_days.specs.declared.cents.Cents.{Cents}
use Rattle.ftd_sql.specs.Orders.{QuartersRise, ReportedYearsRise}
use Rattle.ftd_sql.specs.Rows.{ReportedQuarterRow, ReportedYearRow}
use Rattle.ftd_sql.specs.Standing.{Tables}
use Rattle.ftd_sql.specs.Tests.{is_reported_of, is_reported_year_of}
use Rattle.ftd_sql.specs.declared.TableName.TheVariants.{ReportedQuarters, ReportedYears}
use Rattle.ftd_store.specs.Corrections.{ListsCorrections, ListsYearCorrections}
use Rattle.ftd_store.specs.Kept.{IsQuarterTotal, IsYearTotal}
use Rattle.ftd_store.specs.Lists.{Lists}
use Rattle.ftd_store.specs.declared.correction_cells.Correction.{Correction}
use Rattle.ftd_store.specs.declared.kept_cells.QuarterTotal.{QuarterTotal}
use Rattle.ftd_store.specs.declared.kept_cells.YearTotal.{YearTotal}
use Rattle.ftd_machine.specs.Journal.{own_by_key, total_reported}
use Rattle.ftd_machine.specs.Sound.{IsSound}
use Rattle.ftd_machine.specs.State.{State, Entry, is_of}
use Rattle.ftd_machine.specs.declared.entries.ReturnPeriod.TheVariants.{Quarter, Year}
use Rattle.ftd_machine.specs.declared.requests.Request.{Request}
use Rattle.ftd_entries.specs.Known.{amounts_of}
use Rattle.ftd_entries.specs.Standing.{StandsFor, quarter_entry, year_entry}
use Rattle.ftd_entries.proofs.CalendarRows.{whole, whole_rises}
use Rattle.ftd_entries.proofs.Corrected.{corrections_known, year_corrections_known}
use Rattle.ftd_entries.proofs.Kept.{same_nat, cents_is, quarter_is}
use Rattle.ftd_journal.specs.Parts.{AddsPart, quarter_of, total_requests, year_total_of}
use Rattle.ftd_journal.proofs.ByKey.{listed_as, rows_that_pass}
use Rattle.ftd_machine.proofs.SameMembers.{key_of_entry, own_apart, same_entry}

-- ---- of quarters

same_quarter : (a b : Entry Cents) → quarter_entry a ≡ quarter_entry b → a ≡ b
same_quarter a b is =
    same_entry a b (ap (λ (r : ReportedQuarterRow). r.account) is)
    (quarter_is a.key b.key
    (same_nat (quarter_year a.key) (quarter_year b.key)
    (ap (λ (r : ReportedQuarterRow). r.year) is))
    (same_nat (quarter_number a.key) (quarter_number b.key)
    (ap (λ (r : ReportedQuarterRow). r.quarter) is)))
    (cents_is a.content b.content (ap (λ (r : ReportedQuarterRow). r.cents) is))

abbrev quarter_key : ReportedQuarterRow → ℕ
quarter_key r = 4 * (whole r.year - 1900) + (whole r.quarter - 1)

quarter_keyed : (e : Entry Cents) → quarter_key (quarter_entry e) ≡ e.key
quarter_keyed e = omega arith

quarters_rise : (a b : Entry Cents) → QuartersRise (quarter_entry a) (quarter_entry b)
    → a.key ≤ b.key
quarters_rise a b (inl less) = omega (arith, ints, less)
quarters_rise a b (inr same) =
    let year : quarter_year a.key ≡ quarter_year b.key =
    same_nat (quarter_year a.key) (quarter_year b.key) same.0 in
    let number = same.1 in
    omega (arith, ints, year, number)

-- what is known of the totals that were read
abbrev pub ListsQuarters : List ℕ → List QuarterTotal → Tables → Type 0
ListsQuarters name totals t =
    Lists QuartersRise (IsQuarterTotal name) (filter (is_reported_of name) (t ReportedQuarters))
    totals

pub quarters_known : (name : List ℕ) (totals : List QuarterTotal) (t : Tables)
    → ListsQuarters name totals t
    → (s : State) → StandsFor t s → IsSound s
    → map (quarter_of name) totals ≡ own_by_key name s.reported
quarters_known name totals t lists s stands sound =
    listed_as quarter_entry same_quarter key_of_entry quarter_key quarter_keyed (quarter_of name)
    QuartersRise (filter (is_of name) s.reported) (own_apart name s.reported sound.reported)
    (ap (filter (is_reported_of name)) stands.entries.figures.reported
    ∙ rows_that_pass quarter_entry (is_reported_of name) (is_of name) s.reported (λ e has. refl))
    totals lists quarters_rise

-- the part of a total, with its corrections
abbrev pub quarter_part : List ℕ → QuarterTotal → State → List Request
quarter_part name total s = total_reported Quarter s.corrected (quarter_of name total)

pub quarter_added : {A : Type 0} (name : List ℕ) (total : QuarterTotal) (rows : Vec Correction A)
    (before after : List Request) (t : Tables) → ListsCorrections name total.quarter rows t
    → after ≡ before
    ++ total_requests name (Quarter total.quarter) total.cents (amounts_of rows.items)
    → AddsPart (quarter_part name total) before after t
quarter_added name total rows before after t lists is s stands sound =
    is ∙ ap (λ later. before ++ total_requests name (Quarter total.quarter) total.cents later)
    (corrections_known name total.quarter rows t lists s stands.entries.figures)

-- ---- of years

same_year : (a b : Entry Cents) → year_entry a ≡ year_entry b → a ≡ b
same_year a b is =
    same_entry a b (ap (λ (r : ReportedYearRow). r.account) is)
    (same_nat a.key b.key (ap (λ (r : ReportedYearRow). r.year) is))
    (cents_is a.content b.content (ap (λ (r : ReportedYearRow). r.cents) is))

abbrev pub ListsYearTotals : List ℕ → List YearTotal → Tables → Type 0
ListsYearTotals name totals t =
    Lists ReportedYearsRise (IsYearTotal name)
    (filter (is_reported_year_of name) (t ReportedYears)) totals

pub year_totals_known : (name : List ℕ) (totals : List YearTotal) (t : Tables)
    → ListsYearTotals name totals t
    → (s : State) → StandsFor t s → IsSound s
    → map (year_total_of name) totals ≡ own_by_key name s.reported_years
year_totals_known name totals t lists s stands sound =
    listed_as year_entry same_year key_of_entry (λ (r : ReportedYearRow). whole r.year)
    (λ e. refl) (year_total_of name) ReportedYearsRise (filter (is_of name) s.reported_years)
    (own_apart name s.reported_years sound.reported_years)
    (ap (filter (is_reported_year_of name)) stands.entries.figures.reported_years
    ∙ rows_that_pass year_entry (is_reported_year_of name) (is_of name) s.reported_years
    (λ e has. refl)) totals lists (λ a b rise. whole_rises _ _ rise)

abbrev pub year_part : List ℕ → YearTotal → State → List Request
year_part name total s = total_reported Year s.corrected_years (year_total_of name total)

pub year_added : {A : Type 0} (name : List ℕ) (total : YearTotal) (rows : Vec Correction A)
    (before after : List Request) (t : Tables) → ListsYearCorrections name total.year rows t
    → after ≡ before
    ++ total_requests name (Year total.year) total.cents (amounts_of rows.items)
    → AddsPart (year_part name total) before after t
year_added name total rows before after t lists is s stands sound =
    is ∙ ap (λ later. before ++ total_requests name (Year total.year) total.cents later)
    (year_corrections_known name total.year rows t lists s stands.entries.figures)
