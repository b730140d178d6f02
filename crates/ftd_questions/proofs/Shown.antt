-- The rows of a due list beside those of the tables, whatever else these hold.
use Rattle.std.proofs.Common.{◌≡◌, ℕ, ◌+◌, ◌-◌, ◌*◌, ◌/◌, ◌≤◌, ◌<◌, inl, inr, List, [], ◌∷◌, map}
use Rattle.std.proofs.Common.{Bool, true, false, Option, Some, None, Ok, Err}
use Rattle.std.proofs.Common.{◌&&◌, refl, sym, ap, ◌∙◌, subst, arith}
use Rattle.std.specs.Prelude.{filter, nat_le, int_le, bytes_eq}
use Rattle.std.proofs.lemmas.Int.{ints}
use Rattle.std.specs.List.Sorted.{IsPermutation}
use Rattle.std.proofs.lemmas.Bool.{cases_Bool, true≢false, leb-true, le-leb, and_parts}
use Rattle.std.proofs.lemmas.Bool.Decides.{eqb_tells}
use Rattle.ftd_days.specs.Calendar.{last_day, month_of, month_start, quarter_of, quarter_start}
use Rattle.ftd_days.specs.Calendar.{quarter_year, year_of}
use Rattle.ftd_days.proofs.Months.{month_start-end, month_start-mono, month_start_grows}
use Rattle.ftd_rules.specs.declared.Obligation.{Obligation}
use Rattle.ftd_rules.specs.declared.verdict.DueRow.{DueRow}
use Rattle.ftd_rules.specs.declared.Form.{Form}
use Rattle.ftd_rules.specs.declared.Form.TheVariants.{F941, F943}
use Rattle.ftd_rules.specs.Lists.{Has, KeysDoNotFall}
use Rattle.ftd_rules.specs.Periods.{return_period_first, return_period_last, return_period_end}
use Rattle.ftd_rules.proofs.Rising.{has_permuted, next_do_not_fall}
use Rattle.ftd_rules.proofs.Status.{quarter_is, quarter_only}
use Rattle.ftd_sql.specs.Rows.{ObligationRow}
use Rattle.ftd_sql.specs.Orders.{ObligationsRise}
use Rattle.ftd_sql.specs.Standing.{Tables}
use Rattle.ftd_sql.specs.declared.TableName.TheVariants.{Obligations}
use Rattle.ftd_store.specs.Cells.{day_number}
use Rattle.ftd_store.specs.Lists.{Pairs, Lists}
use Rattle.ftd_store.specs.Rows.{obligation_row}
use Rattle.ftd_store.specs.Finds.{IsObligation}
use Rattle.ftd_store.proofs.Sifted.{sifted}
use Rattle.ftd_machine.specs.Asking.{return_period, first_of_row}
use Rattle.ftd_machine.specs.Checks.{Answer, first_of, needs, finds}
use Rattle.ftd_machine.specs.Requests.{due_list_checks}
use Rattle.ftd_machine.specs.declared.replies.Refusal.{Refusal}
use Rattle.ftd_machine.specs.declared.replies.Refusal.TheVariants.{BadName, BadYear, BadDay}
use Rattle.ftd_machine.specs.declared.replies.Refusal.TheVariants.{UnknownAccount, YearNotOpen}
use Rattle.ftd_machine.specs.Limits.{is_between}
use Rattle.ftd_rules.specs.Accounts.{is_account_name}
use Rattle.ftd_rules.proofs.Members.{filter_in, filter_out}
use Rattle.ftd_rules.specs.Obligations.{begins_on}
use Rattle.ftd_machine.specs.declared.facts.DueList.{DueList}
use Rattle.ftd_machine.specs.declared.facts.Facts.TheVariants.{Due}
use Rattle.ftd_machine.specs.declared.replies.Reply.TheVariants.{Told}
use Rattle.ftd_machine.proofs.Members.{has_filtered}
use Rattle.ftd_machine.proofs.Refusing.{Refuses, refuses_none, refuses_needs, refuses_finds}
use Rattle.ftd_entries.proofs.CalendarRows.{key_rises}
use Rattle.ftd_entries.proofs.DayCells.{le_from, le_into}
use Rattle.ftd_questions.specs.DueRows.{begins_in, IsRowBy}
use Rattle.ftd_questions.specs.Shown.{row_shown, ShowsRows}
use Rattle.ftd_questions.specs.declared.due.KnownForDue.{KnownForDue}
use Rattle.ftd_questions.specs.declared.due_rows.QuarterReturn.{QuarterReturn}
use Rattle.ftd_questions.proofs.OwedDays.{filter_same, quarter_begins}
use Rattle.ftd_entries.proofs.OwedRows.{begins, begins_is, first_key, key_is, paired, rows_begin}

abbrev due_of : DueList → Answer
due_of list = Ok (Told (Due list))

-- ---- lists whose keys do not fall

-- what a test keeps of them
kept_do_not_fall : {X : Type 0} (key : X → ℕ) (p : X → Bool) (xs : List X) → KeysDoNotFall key xs
    → KeysDoNotFall key (filter p xs)
kept_do_not_fall key p [] h = tt
kept_do_not_fall {X = X} key p (x ∷ xs) h =
    elim (cases_Bool (p x)) [
      | inl kept ↦ subst (KeysDoNotFall key) (sym (filter_in p x xs kept)) (
        (λ later has. h.0 later (has_filter xs later has)),
        kept_do_not_fall key p xs h.1,
      )
      | inr left ↦ subst (KeysDoNotFall key) (sym (filter_out p x xs left))
          (kept_do_not_fall key p xs h.1)
    ]
  where
    has_filter : (ys : List X) (y : X) → Has (filter p ys) y → Has ys y
    has_filter [] y has = absurd has
    has_filter (z ∷ ys) y has =
        elim (cases_Bool (p z)) [
          | inl kept ↦ (elim (subst (λ (l : List X). Has l y) (filter_in p z ys kept) has) [
            | inl is ↦ inl is
            | inr more ↦ inr (has_filter ys y more)
          ])
          | inr left ↦ inr (has_filter ys y
              (subst (λ (l : List X). Has l y) (filter_out p z ys left) has))
        ]

-- ---- tests

-- where nothing passes the narrower test that fails the wider one, the wider one can go first
narrower : {X : Type 0} (g f : X → Bool) → ((x : X) → f x ≡ false → g x ≡ false) → (xs : List X)
    → filter g (filter f xs) ≡ filter g xs
narrower g f out [] = refl
narrower {X = X} g f out (x ∷ xs) =
    elim (cases_Bool (f x)) [
      | inl kept ↦ ap (filter g) (filter_in f x xs kept)
          ∙ (elim (cases_Bool (g x)) [
            | inl also ↦ filter_in g x (filter f xs) also
                ∙ (ap (λ (l : List X). x ∷ l) (narrower g f out xs) ∙ sym (filter_in g x xs also))
            | inr not ↦ filter_out g x (filter f xs) not
                ∙ (narrower g f out xs ∙ sym (filter_out g x xs not))
          ])
      | inr left ↦ ap (filter g) (filter_out f x xs left)
          ∙ (narrower g f out xs ∙ sym (filter_out g x xs (out x left)))
    ]

-- what is seen of a list whose keys do not fall
seen_do_not_fall : {X Y : Type 0} (key : Y → ℕ) (see : X → Y) (own : X → ℕ)
    → ((x : X) → key (see x) ≡ own x) → (xs : List X) → KeysDoNotFall key (map see xs)
    → KeysDoNotFall own xs
seen_do_not_fall key see own same [] h = tt
seen_do_not_fall {X = X} {Y = Y} key see own same (x ∷ xs) h = (
  (λ later has.
      (let less : key (see x) ≤ key (see later) = h.0 (see later) (in_map xs later has) in
      let a = same x in let b = same later in omega arith)),
  seen_do_not_fall key see own same xs h.1,
)
  where
    in_map : (ys : List X) (y : X) → Has ys y → Has (map see ys) (see y)
    in_map [] y has = absurd has
    in_map (z ∷ ys) y (inl is) = inl (ap see is)
    in_map (z ∷ ys) y (inr more) = inr (in_map ys y more)

-- ---- the quarter in its return period

-- the return period of a quarter has all of its days
covers : (form : Form) (quarter : ℕ) → quarter_year quarter ≤ 2098
    → (return_period_first form (return_period form quarter) ≤ quarter_start quarter)
    × (quarter_start (quarter + 1) ≤ return_period_end form (return_period form quarter))
    × (return_period_end form (return_period form quarter) ≤ last_day + 1)
covers F941 quarter early =
    let its = quarter_begins quarter early in
    let its_quarter = quarter_of (quarter_start quarter) in
    let low = month_start-mono (3 * its_quarter) (3 * quarter) (omega arith) in
    let high = month_start-mono (3 * (quarter + 1)) (3 * its_quarter + 3) (omega arith) in
    let top = month_start-mono (3 * its_quarter + 3) 3600 (omega arith) in
    let end = month_start-end in
    (low, high, omega arith)
covers F943 quarter early =
    let its = quarter_begins quarter early in
    let year = month_of (quarter_start quarter) / 12 in
    let low = month_start-mono (12 * year) (3 * quarter) (omega arith) in
    let high = month_start-mono (3 * (quarter + 1)) (12 * year + 12) (omega arith) in
    let top = month_start-mono (12 * year + 12) 3600 (omega arith) in
    let end = month_start-end in
    (low, high, omega arith)

-- ---- rows

module _ (name : List ℕ) (quarter : ℕ) where
  -- the first and the last day of the quarter
  abbrev starts : ℕ
  starts = quarter_start quarter

  abbrev ends : ℕ
  ends = quarter_start (quarter + 1) - 1

  -- a row that begins in the quarter begins in each run of days round it
  wider : (first last : ℕ) → first ≤ starts → ends ≤ last → (r : ObligationRow)
      → begins name first last r ≡ false → begins name starts ends r ≡ false
  wider first last low high r fails =
      elim (cases_Bool (begins name starts ends r)) [
        | inr off ↦ off
        | inl on ↦ absurd (
            let own = (and_parts (bytes_eq r.account name)
            (int_le (day_number starts) r.first && int_le r.first (day_number ends)) on).0 in
            let days = (and_parts (bytes_eq r.account name)
            (int_le (day_number starts) r.first && int_le r.first (day_number ends)) on).1 in
            let from = le_from (day_number starts) r.first
            (and_parts (int_le (day_number starts) r.first) _ days).0 in
            let to = le_from r.first (day_number ends)
            (and_parts (int_le (day_number starts) r.first) _ days).1 in
            let a : int_le (day_number first) r.first ≡ true =
            le_into (day_number first) r.first (omega (arith, ints)) in
            let b : int_le r.first (day_number last) ≡ true =
            le_into r.first (day_number last) (omega (arith, ints)) in
            let passes : begins name first last r ≡ true = rw (own, a, b) refl in
            true≢false (sym passes ∙ fails))
      ]

  -- an obligation of the calendar's days begins in the quarter where it begins on one of its days
  begins_so : (o : Obligation) → o.first ≤ last_day
      → starts < quarter_start (quarter + 1)
      → begins_on starts ends o ≡ begins_in quarter o
  begins_so o within grows =
      let is = quarter_is o.first within in
      let from = is.0 in
      let to = is.1 in
      elim (eqb_tells (quarter_of o.first) quarter) [
        | inl same ↦
            (let e : 3 * (quarter + 1) ≡ 3 * quarter + 3 = omega arith in
            let q : quarter_of o.first ≡ quarter = same.1 in
            let low : starts ≤ o.first = rw q at from in
            let high : o.first < month_start (3 * quarter + 3) = rw q at to in
            let top : o.first < quarter_start (quarter + 1) = rw e high in
            rw (le-leb starts o.first low, le-leb o.first ends (omega arith)) refl ∙ sym same.0)
        | inr apart ↦
            (elim (cases_Bool (begins_on starts ends o)) [
              | inr off ↦ off ∙ sym apart.0
              | inl on ↦ absurd (
                  let low = leb-true starts o.first
                  (and_parts (nat_le starts o.first) (nat_le o.first ends) on).0 in
                  let high = leb-true o.first ends
                  (and_parts (nat_le starts o.first) (nat_le o.first ends) on).1 in
                  let e : 3 * (quarter + 1) ≡ 3 * quarter + 3 = omega arith in
                  let end : month_start (3 * (quarter + 1)) ≡ month_start (3 * quarter + 3) =
                  ap month_start e in
                  apart.1 (quarter_only o.first quarter within low (omega arith)))
            ])
      ]

  -- the rows go with the obligations
  rows_are : (of_return : QuarterReturn) (as_of : ℕ) (os : List Obligation) (rows : List DueRow)
      → Pairs (IsRowBy of_return as_of) os rows
      → map (obligation_row name) os ≡ map (row_shown name) rows
  rows_are of_return as_of [] [] pairs = refl
  rows_are of_return as_of [] (r ∷ rows) pairs = absurd pairs
  rows_are of_return as_of (o ∷ os) [] pairs = absurd pairs
  rows_are of_return as_of (o ∷ os) (r ∷ rows) pairs =
      ap (λ p. obligation_row name p ∷ map (obligation_row name) os) (sym pairs.0.obligation)
      ∙ ap (λ rs. row_shown name r ∷ rs) (rows_are of_return as_of os rows pairs.1)

  -- the rows that were listed are those of what was found, and do not fall
  read_in_order : (from to : ℕ) (found : List Obligation) (t : Tables)
      (lists : Lists ObligationsRise (IsObligation name)
      (filter (begins name from to) (t Obligations)) found)
      → (lists.ordered ≡ map (obligation_row name) found)
      × KeysDoNotFall first_key (map (obligation_row name) found)
  read_in_order from to found t lists =
      let ordered = paired name from to lists.ordered found lists.pairs in (
        ordered,
        subst (KeysDoNotFall first_key) ordered (next_do_not_fall first_key lists.ordered
            (λ k d less. key_rises _ _ (lists.rise k d less))),
      )

  -- over any tables, the rows that go with the obligations of the quarter that were walked over are
  -- exactly the tables' rows of the quarter, by first day
  pub walk_shown : (of_return : QuarterReturn) (as_of : ℕ) (found : List Obligation)
      (rows : List DueRow) (t : Tables)
      → Lists ObligationsRise (IsObligation name) (filter (begins name starts ends) (t Obligations))
      found
      → Pairs (IsRowBy of_return as_of) found rows → ShowsRows name quarter rows t
  walk_shown of_return as_of found rows t lists pairs =
      let read : List ObligationRow = map (obligation_row name) found in
      let ordered = read_in_order starts ends found t lists in
      let same : read ≡ map (row_shown name) rows = rows_are of_return as_of found rows pairs in
      record {
        all =
            subst (λ l. IsPermutation (filter (begins name starts ends) (t Obligations)) l)
            (ordered.0 ∙ same) lists.same;
        by_first_day =
            seen_do_not_fall first_key (row_shown name) first_of_row
            (λ r. key_is name starts ends r.obligation) rows
            (subst (KeysDoNotFall first_key) same ordered.1);
      }

  -- over any tables, the rows that go with the obligations that were listed of the return period
  -- and begin in the quarter are exactly the tables' rows of the quarter, by first day
  pub rows_shown : (form : Form) (first last as_of : ℕ) (found : List Obligation)
      (of_return : QuarterReturn) (rows : List DueRow) (t : Tables) → 2001 ≤ quarter_year quarter
      → quarter_year quarter ≤ 2098
      → first ≡ return_period_first form (return_period form quarter)
      → last ≡ return_period_last form (return_period form quarter)
      → Lists ObligationsRise (IsObligation name) (filter (begins name first last) (t Obligations))
      found
      → Pairs (IsRowBy of_return as_of) (filter (begins_in quarter) found) rows
      → ShowsRows name quarter rows t
  rows_shown form first last as_of found of_return rows t from to first_is last_is lists pairs =
      let its = covers form quarter to in
      let low = its.0 in
      let high = its.1 in
      let top = its.2 in
      let grows = month_start_grows (3 * quarter) 3 in
      let begun = month_start_grows 0 (3 * quarter) in
      let e : month_start (3 * (quarter + 1)) ≡ month_start (3 * quarter + 3) =
      ap month_start (omega arith) in
      let all : List ObligationRow = t Obligations in
      let F : ObligationRow → Bool = begins name first last in
      let G : ObligationRow → Bool = begins name starts ends in
      let read : List ObligationRow = map (obligation_row name) found in
      let ordered = read_in_order first last found t lists in
      let moved : IsPermutation (filter F all) read =
      subst (λ l. IsPermutation (filter F all) l) ordered.0 lists.same in
      let within : (o : Obligation) → Has found o → o.first ≤ last_day = λ o has.
      (let there : Has (filter F all) (obligation_row name o) =
      has_permuted (filter F all) read moved (obligation_row name o)
      (in_rows found o has) in
      let passes = sym (begins_is name first last o)
      ∙ (has_filtered F all (obligation_row name o) there).1 in
      let before = leb-true o.first last
      (and_parts (nat_le first o.first) (nat_le o.first last) passes).1 in
      omega arith) in
      let same : filter G read ≡ map (row_shown name) rows =
      rows_begin name starts ends found
      ∙ ap (map (obligation_row name))
      (filter_same (begins_on starts ends) (begins_in quarter) found
      (λ o has. begins_so o (within o has) (omega arith)))
      ∙ rows_are of_return as_of (filter (begins_in quarter) found) rows pairs in
      record {
        all =
            subst (λ l. IsPermutation (filter G all) l) same
            (subst (λ l. IsPermutation l (filter G read))
            (narrower G F (wider first last (omega arith) (omega arith)) all)
            (sifted G (filter F all) read moved));
        by_first_day =
            seen_do_not_fall first_key (row_shown name) first_of_row
            (λ r. key_is name starts ends r.obligation) rows
            (subst (KeysDoNotFall first_key) same (kept_do_not_fall first_key G read ordered.1));
      }
    where
      in_rows : (os : List Obligation) (o : Obligation) → Has os o
          → Has (map (obligation_row name) os) (obligation_row name o)
      in_rows [] o has = absurd has
      in_rows (p ∷ os) o (inl is) = inl (ap (obligation_row name) is)
      in_rows (p ∷ os) o (inr more) = inr (in_rows os o more)

-- ---- checks that never answer with a reply

pub due_list_refuses : (name : List ℕ) (quarter as_of : ℕ) (known : KnownForDue)
    → Refuses (due_list_checks name quarter as_of known.account known.is_open)
due_list_refuses name quarter as_of known =
    refuses_needs _ _ _
    (refuses_needs _ _ _
    (refuses_needs _ _ _ (refuses_finds _ _ _ (refuses_needs _ _ [] refuses_none))))

-- where no refusal decides, no check does
pub due_list_passed : (name : List ℕ) (quarter as_of : ℕ) (known : KnownForDue)
    → ((refusal : Refusal) → first_of (due_list_checks name quarter as_of known.account
    known.is_open) ≡ Some (Err refusal) → ⊥)
    → first_of (due_list_checks name quarter as_of known.account known.is_open) ≡ None
due_list_passed name quarter as_of known none =
    by (first_of (due_list_checks name quarter as_of known.account known.is_open)) refl
  where
    by : (o : Option Answer)
        → first_of (due_list_checks name quarter as_of known.account known.is_open) ≡ o
        → first_of (due_list_checks name quarter as_of known.account known.is_open) ≡ None
    by None e = e
    by (Some (Err refusal)) e = absurd (none refusal e)
    by (Some (Ok reply)) e = absurd ((due_list_refuses name quarter as_of known).never reply e)

-- an account that is not known is refused
needs_refused : (b : Bool) (refusal : Refusal) (checks : List (Option Answer))
    → (r : Refusal) × (first_of checks ≡ Some (Err r))
    → (r : Refusal) × (first_of (needs b refusal ∷ checks) ≡ Some (Err r))
needs_refused true refusal checks rest = rest
needs_refused false refusal checks rest = (refusal, refl)

pub unknown_refused : (name : List ℕ) (quarter as_of : ℕ) (known : KnownForDue)
    → known.account ≡ None
    → ((refusal : Refusal) → first_of (due_list_checks name quarter as_of known.account
    known.is_open) ≡ Some (Err refusal) → ⊥) → ⊥
unknown_refused name quarter as_of known unknown none =
    let rest : (r : Refusal) × (first_of (finds known.account UnknownAccount
    ∷ needs known.is_open (YearNotOpen (quarter_year quarter)) ∷ []) ≡ Some (Err r)) =
    (UnknownAccount, rw unknown refl) in
    let is = needs_refused (is_account_name name) BadName _
    (needs_refused (is_between 2001 2098 (quarter_year quarter)) BadYear _
    (needs_refused (is_between 2001 2099 (year_of as_of)) BadDay _ rest)) in
    none is.0 is.1

-- ---- answers

-- the list that was told
pub told_list : (list other : DueList) → due_of list ≡ due_of other → list ≡ other
told_list list other e = cc
