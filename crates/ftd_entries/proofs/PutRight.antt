-- How an account begins is put right: what is answered, and the tables stand for the machine's next
-- state.
use Rattle.std.proofs.Common.{◌≡◌, ◌∙◌, refl, sym, ap, ℕ, ◌+◌, ◌==◌, ◌&&◌, Bool, true}
use Rattle.std.proofs.Common.{false, List, [], ◌∷◌, map, length}
use Rattle.std.proofs.Common.{Option, None, Some, Ok, Vec, arith}
use Rattle.std.specs.Prelude.{filter}
use Rattle.std.proofs.lemmas.Bool.{eqb-true, and_parts}
use Rattle.std.proofs.lemmas.List.{length-map}
use Rattle.std.proofs.lemmas.List.Sorted.{length_permutation}
use Rattle.ftd_rules.specs.declared.YearLine.{YearLine}
use Rattle.ftd_sql.specs.Standing.{Tables}
use Rattle.ftd_store.specs.declared.kept_cells.QuarterTotal.{QuarterTotal}
use Rattle.ftd_store.specs.declared.kept_cells.YearTotal.{YearTotal}
use Rattle.ftd_store.specs.Changes.{with_account_correction}
use Rattle.ftd_machine.specs.declared.entries.Account.{Account}
use Rattle.ftd_machine.specs.declared.entries.Beginning.{Beginning}
use Rattle.ftd_machine.specs.declared.requests.Request.{Request}
use Rattle.ftd_machine.specs.declared.requests.Request.TheVariants.{Correct}
use Rattle.ftd_machine.specs.declared.requests.Correction.TheVariants as correction
use Rattle.ftd_machine.specs.declared.replies.Reply.TheVariants.{Done}
use Rattle.ftd_machine.specs.State.{State, Move, entries_of, is_of, moves_in, moves_of, numbered}
use Rattle.ftd_machine.specs.Checks.{Answer, first_of}
use Rattle.ftd_machine.specs.Requests.{correct_account_checks, is_unused}
use Rattle.ftd_machine.specs.Step.{Step, with_move}
use Rattle.ftd_machine.specs.Sound.{IsSound}
use Rattle.ftd_machine.proofs.Deciding.{decided, passed}
use Rattle.ftd_machine.proofs.Others.{others}
use Rattle.ftd_entries.specs.Correcting.{KnowsForCorrection}
use Rattle.ftd_entries.specs.Standing.{StandsFor, IsSettled, account_correction_entry}
use Rattle.std.specs.Prelude.{if◌then◌else◌}
use Rattle.ftd_sql.specs.Orders.{QuartersRise, ReportedYearsRise}
use Rattle.ftd_sql.specs.Tests.{is_reported_of, is_reported_year_of}
use Rattle.ftd_store.specs.Lists.{Lists}
use Rattle.ftd_store.specs.Rows.{account_correction_row}
use Rattle.ftd_store.specs.Finds.{ListsYears}
use Rattle.ftd_store.specs.Kept.{IsQuarterTotal, IsYearTotal, ListsReported, ListsReportedYears}
use Rattle.ftd_store.proofs.Items.{pairs_length}
use Rattle.ftd_machine.specs.History.{year_of_line, year_of_entry}
use Rattle.ftd_machine.proofs.Heads.{Gives, gives_needs, skip_needs, skip_finds, skip_new}
use Rattle.ftd_machine.proofs.Soundness.{empty_of}
use Rattle.ftd_entries.specs.Correcting.{KnowsUnused, correction_of}
use Rattle.ftd_entries.specs.Standing.{quarter_entry, year_entry}
use Rattle.ftd_entries.proofs.Entered.{entered, corrected_more}
use Rattle.ftd_entries.proofs.Settling.{each_name, names_apart, same_rows, settled_as}
use Rattle.ftd_entries.proofs.Settling.{settled_unopened}
use Rattle.ftd_entries.proofs.Lines.{lines_known}
use Rattle.ftd_entries.specs.declared.beginnings.KnownForCorrection.{KnownForCorrection}

-- ---- whether nothing rests on the account

filtered_rows : {X R : Type 0} (test : R → Bool) (mine : X → Bool) (row : X → R)
    → ((x : X) → test (row x) ≡ mine x) → (xs : List X)
    → filter test (map row xs) ≡ map row (filter mine xs)
filtered_rows test mine row same [] = refl
filtered_rows {X = X} test mine row same (x ∷ xs) =
    ap (λ b. if b then row x ∷ filter test (map row xs) else filter test (map row xs)) (same x)
    ∙ step (mine x) (filtered_rows test mine row same xs)
  where
    step : (b : Bool) → filter test (map row xs) ≡ map row (filter mine xs)
        → (if b then row x ∷ filter test (map row xs) else filter test (map row xs))
        ≡ map row (if b then x ∷ filter mine xs else filter mine xs)
    step true more = ap (λ rows. row x ∷ rows) more
    step false more = more

-- as many are listed as there are
as_many : {X Y : Type 0} (Rise : X → X → Type 0) (R : X → Y → Type 0) (rows : List X)
    (listed : List Y) → Lists Rise R rows listed → length rows ≡ length listed
as_many Rise R rows listed l =
    sym (length_permutation rows l.ordered l.same) ∙ pairs_length R l.ordered listed l.pairs

-- so of the rows of an account's entries
entries_counted : {X R Y : Type 0} (test : R → Bool) (mine : X → Bool) (row : X → R)
    → ((x : X) → test (row x) ≡ mine x) → (Rise : R → R → Type 0) (Is : R → Y → Type 0)
    (xs : List X) (listed : List Y) {rows : List R} → rows ≡ map row xs
    → Lists Rise Is (filter test rows) listed → length (filter mine xs) ≡ length listed
entries_counted test mine row same Rise Is xs listed are lists =
    sym (length-map (filter mine xs) row) ∙ ap length (sym (filtered_rows test mine row same xs))
    ∙ ap (λ rows. length (filter test rows)) (sym are) ∙ as_many Rise Is _ listed lists

module _ (name : List ℕ) (t : Tables) (s : State) (stands : StandsFor t s) where
  quarters_counted : {A : Type 0} (listed : Vec QuarterTotal A) → ListsReported name listed t
      → length (entries_of s name).reported ≡ length listed.items
  quarters_counted listed lists =
      entries_counted (is_reported_of name) (is_of name) quarter_entry (λ e. refl) QuartersRise
      (IsQuarterTotal name) s.reported listed.items stands.entries.figures.reported lists

  years_counted : {A : Type 0} (listed : Vec YearTotal A) → ListsReportedYears name listed t
      → length (entries_of s name).reported_years ≡ length listed.items
  years_counted listed lists =
      entries_counted (is_reported_year_of name) (is_of name) year_entry (λ e. refl)
      ReportedYearsRise (IsYearTotal name) s.reported_years listed.items
      stands.entries.figures.reported_years lists

  lines_counted : {A : Type 0} (listed : Vec YearLine A) → ListsYears name listed t
      → length (entries_of s name).open_years ≡ length listed.items
  lines_counted listed lists =
      let settled = stands.settled name in
      sym (length-map (entries_of s name).open_years year_of_entry)
      ∙ ap length (sym settled.are_lines.years)
      ∙ length-map settled.lines year_of_line
      ∙ ap length (sym (lines_known name listed t s stands lists settled))

pub unused_known : {A B C : Type 0} (name : List ℕ) (quarters : Vec QuarterTotal A)
    (years : Vec YearTotal B) (lines : Vec YearLine C) (t : Tables)
    → ListsReported name quarters t → ListsReportedYears name years t → ListsYears name lines t
    → KnowsUnused name ((length quarters.items == 0)
    && ((length years.items == 0) && (length lines.items == 0))) t
unused_known name quarters years lines t of_quarters of_years of_lines s stands =
    ap (λ n. (n == 0) && ((length (entries_of s name).reported_years == 0)
    && (length (entries_of s name).open_years == 0)))
    (quarters_counted name t s stands quarters of_quarters)
    ∙ ap (λ n. (length quarters.items == 0) && ((n == 0)
    && (length (entries_of s name).open_years == 0)))
    (years_counted name t s stands years of_years)
    ∙ ap (λ n. (length quarters.items == 0) && ((length years.items == 0) && (n == 0)))
    (lines_counted name t s stands lines of_lines)

-- ---- put right

-- where all checks pass nothing rests on the account, and the number is the next one
put_right_facts : (name : List ℕ) (number : ℕ) (beginning : Beginning) (account : Option Account)
    (known : Option Beginning) (unused : Bool) (count : ℕ)
    → first_of (correct_account_checks name number beginning account known unused count) ≡ None
    → (unused ≡ true) × (number ≡ count + 1)
put_right_facts name number beginning account known unused count is =
    let P = correct_account_checks name number beginning account known unused count in
    let rests : Gives P (unused ≡ true) =
    skip_needs _ _ _ _
    (skip_needs _ _ _ _
    (skip_needs _ _ _ _ (skip_finds _ _ _ _ (skip_new _ _ _ _ _ (gives_needs _ _ _))))) in
    let next : Gives P ((number == count + 1) ≡ true) =
    skip_needs _ _ _ _
    (skip_needs _ _ _ _
    (skip_needs _ _ _ _ (skip_finds _ _ _ _ (skip_new _ _ _ _ _ (skip_needs _ _ _ _
    (gives_needs _ _ _)))))) in
    (rests.fact is, eqb-true number (count + 1) (next.fact is))

module _ (name : List ℕ) (number : ℕ) (beginning : Beginning) where
  abbrev Asked : Request
  Asked = Correct number (correction.Account name beginning)

  abbrev Next : State → State
  Next s = record s { moved = with_move s.moved name beginning }

  checks_are : (known : KnownForCorrection) (t : Tables) (s : State) → StandsFor t s
      → KnowsForCorrection name number known t
      → first_of (correct_account_checks name number beginning (entries_of s name).account
      (numbered number (moves_in s name)) (is_unused (entries_of s name))
      (length (moves_in s name)))
      ≡ first_of (correct_account_checks name number beginning known.account known.known
      known.is_unused known.count)
  checks_are known t s stands knows =
      rw (
        knows.account s stands,
        knows.known s stands,
        knows.is_unused s stands,
        knows.count s stands,
      ) refl

  pub put_right_decided : (known : KnownForCorrection) (answer : Answer)
      → first_of (correct_account_checks name number beginning known.account known.known
      known.is_unused known.count) ≡ Some answer
      → (t : Tables) (s : State) → StandsFor t s → IsSound s
      → KnowsForCorrection name number known t
      → Step s Asked answer s
  put_right_decided known answer is t s stands sound knows =
      decided _ s answer _ (checks_are known t s stands knows ∙ is)

  abbrev After : Tables → Tables
  After = with_account_correction name (correction_of number beginning)

  unopened : (s : State) → is_unused (entries_of s name) ≡ true
      → (entries_of s name).open_years ≡ []
  unopened s unused =
      let own = entries_of s name in
      let parts = and_parts (length own.reported == 0)
      ((length own.reported_years == 0) && (length own.open_years == 0)) unused in
      empty_of own.open_years (and_parts (length own.reported_years == 0)
      (length own.open_years == 0) parts.1).1

  -- all checks pass
  pub put_right_done : (known : KnownForCorrection)
      → first_of (correct_account_checks name number beginning known.account known.known
      known.is_unused known.count) ≡ None
      → (t : Tables) (s : State) → StandsFor t s → IsSound s
      → KnowsForCorrection name number known t
      → (next : State) × Step s Asked (Ok Done) next
      × StandsFor (After t) next
  put_right_done known is t s stands sound knows =
      let new_one : Move = record { name = name; beginning = beginning } in
      let step : Step s Asked (Ok Done) (Next s) =
      passed _ s (Ok Done) (Next s) _ (checks_are known t s stands knows ∙ is) (refl, refl) in
      let facts = put_right_facts name number beginning known.account known.known known.is_unused
      known.count is in
      let count : number ≡ length (moves_of name s.moved) + 1 =
      (let n = facts.1 in let m = knows.count s stands in omega (arith, n, m)) in
      let unused : is_unused (entries_of s name) ≡ true =
      knows.is_unused s stands ∙ facts.0 in
      let row : account_correction_entry (s.moved, new_one)
      ≡ account_correction_row name (correction_of number beginning) =
      ap (λ n. account_correction_row name (correction_of n beginning)) (sym count) in (
        Next s,
        step,
        record {
          entries = (let e = stands.entries in entered e.meta (record {
            accounts = e.enrolled.accounts;
            forms = e.enrolled.forms;
            moved = corrected_more account_correction_entry s.moved new_one
                (account_correction_row name (correction_of number beginning)) row
                e.enrolled.moved;
          }) e.figures e.days e.paid);
          settled = each_name (IsSettled (After t) (Next s)) name
              (settled_unopened t (After t) s (Next s) name (unopened s unused)
              (unopened s unused) refl (same_rows name t (After t) refl refl)
              (stands.settled name))
              (λ other apart. settled_as t (After t) s (Next s) other (others s Asked (Ok Done)
              (Next s) other step (names_apart name other apart)) refl
              (same_rows other t (After t) refl refl) (stands.settled other));
        },
      )
