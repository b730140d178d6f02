-- The parts of an account's journal that were read are those of its journal.
use Rattle.std.proofs.Common.{◌≡◌, ◌∙◌, inl, inr, refl, sym, ap, ℕ, List, [], ◌∷◌, ◌++◌, map}
use Rattle.std.proofs.Common.{None, Some, Vec, append_assoc}
use Rattle.std.specs.Prelude.{filter, option_map}
use Rattle.ftd_days.proofs.Spelling.{same_text}
use Rattle.ftd_rules.specs.Lists.{Has}
use Rattle.ftd_rules.specs.declared.YearLine.{YearLine}
use Rattle.ftd_sql.specs.Standing.{Tables}
use Rattle.ftd_store.specs.Corrections.{ListsAccountCorrections}
use Rattle.ftd_store.specs.Finds.{ListsYears}
use Rattle.ftd_store.specs.declared.correction_cells.AccountCorrection.{AccountCorrection}
use Rattle.ftd_machine.specs.History.{year_of_entry, year_of_line}
use Rattle.ftd_machine.specs.Journal.{account_journal, corrections, year_opened}
use Rattle.ftd_machine.specs.State.{Entry, is_of}
use Rattle.ftd_machine.specs.declared.entries.Account.{Account}
use Rattle.ftd_machine.specs.declared.requests.Correction.TheVariants as correction
use Rattle.ftd_machine.specs.declared.requests.Entry.TheVariants as entry
use Rattle.ftd_machine.specs.declared.requests.Request.{Request}
use Rattle.ftd_machine.specs.declared.requests.Request.TheVariants.{Enter}
use Rattle.ftd_machine.proofs.Members.{has_filtered}
use Rattle.ftd_entries.specs.Known.{KnowsEnrolled, beginnings_of}
use Rattle.ftd_entries.proofs.Corrected.{moves_listed}
use Rattle.ftd_entries.proofs.Lines.{lines_known}
use Rattle.ftd_journal.specs.Parts.{AddsPart, KnowsJournal, enrolled_as, enrolment_part}
use Rattle.ftd_journal.specs.Parts.{line_opened}
use Rattle.ftd_journal.specs.Parts.{years_part, figures_part, entries_part, own_part}
use Rattle.ftd_journal.specs.Parts.{payments_part, quarters_part, runs_part, year_totals_part}

-- ---- as it was enrolled

pub enrolment_added : {A : Type 0} (name : List ℕ) (account : Account)
    (rows : Vec AccountCorrection A) (before after : List Request) (t : Tables)
    → ListsAccountCorrections name rows t
    → after ≡ before ++ Enter (entry.Account name account)
    ∷ corrections (λ beginning. correction.Account name beginning) (beginnings_of rows.items)
    → AddsPart (enrolment_part name account) before after t
enrolment_added name account rows before after t lists is s stands sound =
    is ∙ ap (λ moves. before ++ Enter (entry.Account name account)
    ∷ corrections (λ beginning. correction.Account name beginning) moves)
    (moves_listed name rows.items t s lists stands)

-- ---- its open years

abbrev opened : List ℕ → ℕ → Request
opened name year = Enter (entry.Year name year)

lines_as : (name : List ℕ) (lines : List YearLine)
    → map (line_opened name) lines ≡ map (opened name) (map year_of_line lines)
lines_as name [] = refl
lines_as name (line ∷ lines) = ap (λ rs. opened name line.year ∷ rs) (lines_as name lines)

entries_as : (name : List ℕ) (xs : List (Entry (Unit {0})))
    → ((e : Entry (Unit {0})) → Has xs e → e.name ≡ name)
    → map (opened name) (map year_of_entry xs) ≡ map year_opened xs
entries_as name [] named = refl
entries_as name (e ∷ xs) named =
    ap (λ n. opened n e.key ∷ map (opened name) (map year_of_entry xs))
    (sym (named e (inl refl)))
    ∙ ap (λ rs. year_opened e ∷ rs) (entries_as name xs (λ d has. named d (inr has)))

pub years_added : {A : Type 0} (name : List ℕ) (lines : Vec YearLine A)
    (before after : List Request) (t : Tables) → ListsYears name lines t
    → after ≡ before ++ map (line_opened name) lines.items
    → AddsPart (years_part name) before after t
years_added name lines before after t lists is s stands sound =
    let settled = stands.settled name in
    is ∙ ap (λ rs. before ++ rs)
    (lines_as name lines.items
    ∙ ap (λ (ls : List YearLine). map (opened name) (map year_of_line ls))
    (lines_known name lines t s stands lists settled)
    ∙ ap (map (opened name)) settled.are_lines.years
    ∙ entries_as name (filter (is_of name) s.open_years)
    (λ e has. same_text e.name name (has_filtered (is_of name) s.open_years e has).1))

-- ---- the whole

six : {X : Type 0} (a b c d e f : List X)
    → a ++ (b ++ c) ++ (d ++ e ++ f) ≡ a ++ b ++ c ++ d ++ e ++ f
six a b c d e f = simp append_assoc refl

pub parts_whole : (name : List ℕ) (account : Account) (after : List Request) (t : Tables)
    → AddsPart (λ s. enrolment_part name account s ++ figures_part name s ++ entries_part name s)
    [] after t
    → AddsPart (own_part name account) [] after t
parts_whole name account after t adds s stands sound =
    adds s stands sound
    ∙ six (enrolment_part name account s) (quarters_part name s) (year_totals_part name s)
    (years_part name s) (runs_part name s) (payments_part name s)

pub journal_none : (A : Type 0) (name : List ℕ) (t : Tables) → KnowsEnrolled name None t
    → KnowsJournal {A = A} name None t
journal_none A name t knows s stands sound =
    sym (ap (option_map (λ account. account_journal s (enrolled_as name account)))
    (knows s stands))

pub journal_some : {A : Type 0} (name : List ℕ) (account : Account) (requests : Vec Request A)
    (t : Tables) → KnowsEnrolled name (Some account) t
    → AddsPart (own_part name account) [] requests.items t
    → KnowsJournal name (Some requests) t
journal_some name account requests t knows adds s stands sound =
    ap Some (adds s stands sound)
    ∙ sym (ap (option_map (λ account. account_journal s (enrolled_as name account)))
    (knows s stands))
