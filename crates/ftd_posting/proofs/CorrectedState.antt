-- A figure was corrected: the tables stand for the state with the correction, and it is told how
-- the account's obligations differ.
use Rattle.std.proofs.Common.{◌≡◌, ◌≢◌, ◌∙◌, ◌≤◌, ◌⊎◌, refl, sym, ap, subst, inl, inr, ℕ, ◌+◌, Bool}
use Rattle.std.proofs.Common.{false, List, [], ◌∷◌, ◌++◌, map, Ok, Vec, Global, arith}
use Rattle.std.specs.Prelude.{◌↔◌, filter}
use Rattle.std.specs.List.Sorted.{IsPermutation}
use Rattle.ftd_days.specs.Calendar.{year_of, year_start}
use Rattle.ftd_days.specs.declared.cents.Cents.{Cents}
use Rattle.ftd_rules.specs.declared.DaySum.{DaySum}
use Rattle.ftd_rules.specs.declared.Form.{Form}
use Rattle.ftd_rules.specs.declared.Obligation.{Obligation}
use Rattle.ftd_rules.specs.declared.YearLine.{YearLine}
use Rattle.ftd_rules.specs.Lists.{Has}
use Rattle.ftd_rules.specs.Obligations.{IsObligation}
use Rattle.ftd_rules.specs.Years.{AreLines, AreOpenYears, YearsFrom, basis_of, year_last}
use Rattle.ftd_rules.proofs.Covering.{line_is}
use Rattle.ftd_rules.proofs.Earlier.{counterpart}
use Rattle.ftd_rules.proofs.Opened.{lines_some}
use Rattle.ftd_rules.proofs.Owed.{has_append, has_left, has_right}
use Rattle.ftd_rules.proofs.Schedules.{years_within}
use Rattle.ftd_sql.specs.declared.TableName.{TableName}
use Rattle.ftd_sql.specs.declared.TableName.TheVariants.{Years, Runs, Obligations}
use Rattle.ftd_sql.specs.Orders.{RunsRise}
use Rattle.ftd_sql.specs.Rows.{YearRow, ObligationRow, RunRow}
use Rattle.ftd_sql.specs.Standing.{Tables, with_rows}
use Rattle.ftd_sql.specs.Tests.{is_year_of, is_live_run_between}
use Rattle.ftd_store.specs.Cells.{day_number}
use Rattle.ftd_store.specs.DaySums.{ListsDaySums}
use Rattle.ftd_store.specs.Rows.{year_row, obligation_row}
use Rattle.ftd_buckets.specs.declared.Patch.{Patch}
use Rattle.ftd_buckets.specs.Histories.{History}
use Rattle.ftd_buckets.specs.Patches.{IsOwed}
use Rattle.ftd_machine.specs.State.{State, Entry, Entries, entries_of, holidays}
use Rattle.ftd_machine.specs.History.{form_of, live_sums, is_carried, year_of_line, AreCarried}
use Rattle.ftd_machine.specs.History.{AreLinesOf, HasLookback}
use Rattle.ftd_machine.specs.Posting.{AreOnlyIn, IsOnOtherSchedule, IsPosted}
use Rattle.ftd_machine.proofs.Those.{HaveSameSchedules, none_those}
use Rattle.ftd_machine.specs.Sound.{IsSound}
use Rattle.ftd_machine.specs.declared.replies.Reply.TheVariants.{Posted}
use Rattle.ftd_machine.proofs.Lined.{years_same}
use Rattle.ftd_store.specs.Changes.{with_year}
use Rattle.ftd_store.specs.Finds.{ListsYears}
use Rattle.ftd_store.specs.Holidays.{HasHolidays}
use Rattle.ftd_entries.specs.Standing.{StandsFor, KeepsEntries, KeepsDays, IsSettled}
use Rattle.ftd_entries.specs.Standing.{is_obligation_of, run_entry}
use Rattle.ftd_entries.proofs.Lines.{lines_known}
use Rattle.ftd_entries.proofs.YearHolidays.{holiday_kept}
use Rattle.ftd_machine.specs.declared.replies.Difference.{Difference}
use Rattle.ftd_repairs.specs.Reopened.{IsRetotaled, lines_with}
use Rattle.ftd_repairs.specs.Reopening.{IsReopened, Reopens, YearRunsAre, with_total}
use Rattle.ftd_repairs.specs.Rescheduled.{PutsLines}
use Rattle.ftd_repairs.proofs.Putting.{puts_one, years_put}
use Rattle.ftd_repairs.proofs.SameSchedules.{owed_with, owed_without, reopening_of}
use Rattle.ftd_repairs.proofs.SameSchedules.{schedules_with}
use Rattle.ftd_posting.specs.Books.{AreHolidaysIn}
use Rattle.ftd_posting.specs.Correcting.{unchanged}
use Rattle.ftd_posting.proofs.Booking.{first_of_year}
use Rattle.ftd_posting.proofs.LinesAfter.{carried_same}
use Rattle.ftd_posting.proofs.LiveRuns.{sums_listed}
use Rattle.ftd_posting.proofs.Placed.{IsPlaced, placed_stands, placed_told}
use Rattle.ftd_entries.proofs.Settling.{each_name, names_apart, same_rows, settled_as}

-- ---- the line of one year, among those of other years

-- a line of the list is one of the others, or that one
one_or_other : (xs ys : List YearLine) (line x : YearLine) → Has (xs ++ line ∷ ys) x
    → (Has xs x ⊎ Has ys x) ⊎ (x ≡ line)
one_or_other xs ys line x has =
    elim (has_append xs (line ∷ ys) x has) [
      | inl before ↦ inl (inl before)
      | inr (inl is) ↦ inr is
      | inr (inr after) ↦ inl (inr after)
    ]

module _ (later : List YearLine) (line : YearLine) where
  other_has : (xs : List YearLine) (x : YearLine) → Has xs x ⊎ Has later x
      → Has (xs ++ line ∷ later) x
  other_has xs x (inl before) = has_left xs (line ∷ later) x before
  other_has xs x (inr after) = has_right xs (line ∷ later) x (inr after)

  -- the others are of other years
  years_apart : (y : ℕ) (xs : List YearLine) → YearsFrom y (xs ++ line ∷ later) → (x : YearLine)
      → Has xs x ⊎ Has later x → x.year ≢ line.year
  years_apart y [] years x (inl none) e = absurd none
  years_apart y [] years x (inr after) e =
      let within = years_within (y + 1) later x years.1 after in
      let low = within.0 in
      let first = years.0 in
      absurd (omega (arith, low, first, e))
  years_apart y (z ∷ xs) years x (inl (inl is)) e =
      let within = years_within (y + 1) (xs ++ line ∷ later) line years.1
      (has_right xs (line ∷ later) line (inl refl)) in
      let low = within.0 in
      let first = years.0 in
      let same : x.year ≡ z.year = ap (λ (l : YearLine). l.year) is in
      absurd (omega (arith, low, first, same, e))
  years_apart y (z ∷ xs) years x (inl (inr before)) e =
      years_apart (y + 1) xs years.1 x (inl before) e
  years_apart y (z ∷ xs) years x (inr after) e = years_apart (y + 1) xs years.1 x (inr after) e

-- a table of one list of rows stays
only_years : (t : Tables) (n : TableName) → t n ≡ with_rows Years (t Years) t n
only_years t Years = refl
only_years t n = refl

-- what a correction that was entered leaves, of an account whose year counts the figure: t has the
-- rows before, and v those with the correction
module _ (t v : Tables) (s : State) (corrected corrected_years : List (Entry Cents)) (name : List ℕ)
    (year : ℕ) where
  abbrev pub Next : State
  Next = record s { runs = s.runs; corrected = corrected; corrected_years = corrected_years }

  abbrev own : Entries
  own = entries_of s name

  abbrev pub own_after : Entries
  own_after = entries_of Next name

  pub record Entered : Type 0 where
    pub others : (other : List ℕ) → other ≢ name → entries_of Next other ≡ entries_of s other
    pub lookbacks : (other : ℕ) (total : Cents) → 2001 ≤ other → other ≢ year
        → HasLookback own other total → HasLookback own_after other total
    pub kept : KeepsEntries v Next
    pub same_lines : (lines : Vec YearLine Global) → ListsYears name lines v
        → ListsYears name lines t
    pub obligations : v Obligations ≡ t Obligations
    pub years : v Years ≡ t Years

  module _ (stands : StandsFor t s) (entered : Entered) where
    abbrev was : IsSettled t s name
    was = stands.settled name

    -- ---- the year is not open

    module _ (apart : (line : YearLine) → Has was.lines line → line.year ≢ year) where
      lines_stay : AreLinesOf own_after was.lines
      lines_stay = record {
        years = was.are_lines.years;
        lookbacks = λ line has.
            (let its = line_is was.lines (live_sums own) line was.are_lines.schedules has in
            entered.lookbacks line.year line.lookback its.0 (apart line has)
            (was.are_lines.lookbacks line has));
        carried = was.are_lines.carried;
        schedules = was.are_lines.schedules;
      }

      settled_own : IsSettled v Next name
      settled_own = record {
        lines = was.lines;
        are_lines = lines_stay;
        owed = was.owed;
        are_owed = was.are_owed;
        line_rows = subst (λ (rows : List YearRow). IsPermutation (filter (is_year_of name) rows)
            (map (year_row name) was.lines)) (sym entered.years) was.line_rows;
        owed_rows = subst (λ (rows : List ObligationRow). IsPermutation
            (filter (is_obligation_of name) rows) (map (obligation_row name) was.owed))
            (sym entered.obligations) was.owed_rows;
      }

      settled_other : (other : List ℕ) → other ≢ name → IsSettled v Next other
      settled_other other apart = settled_as t v s Next other (entered.others other apart) refl
          (same_rows other t v entered.years entered.obligations) (stands.settled other)

      settled_each : (other : List ℕ) → IsSettled v Next other
      settled_each = each_name (IsSettled v Next) name settled_own
          (λ other is. settled_other other (λ same. names_apart name other is (sym same)))

      pub entered_stands : StandsFor v Next
      entered_stands = record { entries = entered.kept; settled = settled_each }

      none_apart : AreOnlyIn was.owed was.owed []
      none_apart = none_those (λ (o : Obligation). o.first) (λ o. Has was.owed o → ⊥) was.owed
          (λ o has none. none has)

      pub entered_told : (first : ℕ) → IsPosted (holidays s) own own_after first
          (Ok (Posted (unchanged first)))
      entered_told first = record {
        rows = was.owed;
        owed = (was.lines, was.are_lines, was.are_owed);
        rows_after = was.owed;
        owed_after = (was.lines, lines_stay, was.are_owed);
        difference = unchanged first;
        differ = record { are_removed = none_apart; are_added = none_apart; days = inr (refl, refl, refl) };
        years = none_those year_of_line (IsOnOtherSchedule was.lines) was.lines
            (λ line has other. other line has (refl, refl, refl));
        told = refl;
      }

    -- ---- the year is open

    module _ (sound : IsSound s) (u : Tables) (first : ℕ)
        (total : Cents) (difference : Difference) (low : 2001 ≤ year) (high : year ≤ 2098)
        (has_total : HasLookback own_after year total)
        (retotals : IsRetotaled name (form_of own.account) first year total v u difference) where
      abbrev form : Form
      form = form_of own.account

      abbrev sums : List DaySum
      sums = live_sums own

      abbrev listed : List YearLine
      listed = retotals.lines.items

      abbrev earlier : List YearLine
      earlier = retotals.retotals.among.earlier

      abbrev line : YearLine
      line = retotals.retotals.among.line

      abbrev later : List YearLine
      later = retotals.retotals.among.later

      of_year : line.year ≡ year
      of_year = retotals.retotals.among.of_year

      lines_listed : listed ≡ was.lines
      lines_listed = lines_known name retotals.lines t s stands
          (entered.same_lines retotals.lines retotals.listed) was

      cut : was.lines ≡ earlier ++ line ∷ later
      cut = sym lines_listed ∙ retotals.retotals.among.cut

      are : AreLines sums listed
      are = subst (AreLines sums) (sym lines_listed) was.are_lines.schedules

      years_cut : YearsFrom are.years.0 (earlier ++ line ∷ later)
      years_cut = subst (YearsFrom are.years.0) retotals.retotals.among.cut are.years.2

      -- the lines with the lookback total, and those of the same years with their schedules
      abbrev now : List YearLine
      now = lines_with year listed retotals.retotals.among total

      years_now : AreOpenYears now
      years_now = (
        are.years.0,
        are.years.1,
        years_put are.years.0 earlier line
            (with_total total line) later refl years_cut,
      )

      found : (others : List YearLine) × (map basis_of others ≡ map basis_of now)
          × AreLines sums others
      found = lines_some sums now years_now

      abbrev then : List YearLine
      then = found.0

      abbrev Before : History
      Before = record { lines = now; sums = sums }

      abbrev After : History
      After = record { lines = then; sums = sums }

      -- a line of the history after is one of the others, or of the year
      lookback_then : (x : YearLine) → Has then x → HasLookback own_after x.year x.lookback
      lookback_then x has =
          let c = counterpart then now x found.1 has in
          let basis = c.2 in
          let same_year : x.year ≡ c.0.year = ap (λ (z : ℕ × ℕ × Bool). z.0) basis in
          let amount : x.lookback.0 ≡ c.0.lookback.0 = ap (λ (z : ℕ × ℕ × Bool). z.1) basis in
          let cents : ℕ → Cents = λ n. record { 0 = n } in
          let its : HasLookback own_after c.0.year c.0.lookback =
          elim (one_or_other earlier later (with_total total line) c.0 c.1) [
            | inl other ↦
                (let in_was : Has was.lines c.0 = subst (λ ls. Has ls c.0) (sym cut)
                (other_has later line earlier c.0 other) in
                let is = line_is was.lines sums c.0 was.are_lines.schedules in_was in
                entered.lookbacks c.0.year c.0.lookback is.0
                (λ same. years_apart later line are.years.0 earlier years_cut c.0 other
                (same ∙ sym of_year))
                (was.are_lines.lookbacks c.0 in_was))
            | inr is ↦
                subst (λ (l : YearLine). HasLookback own_after l.year l.lookback) (sym is)
                (subst (λ y. HasLookback own_after y total) (sym of_year) has_total)
          ] in
          subst (λ y. HasLookback own_after y x.lookback) (sym same_year)
          (subst (λ n. HasLookback own_after c.0.year (cents n)) (sym amount) its)

      carried_now : (carried : Bool) (xs : List YearLine) → AreCarried carried (xs ++ line ∷ later)
          → AreCarried carried (xs ++ with_total total line ∷ later)
      carried_now carried [] are = are
      carried_now carried (x ∷ xs) are = (are.0, carried_now false xs are.1)

      same_years : (xs : List YearLine) → map year_of_line (xs ++ with_total total line ∷ later)
          ≡ map year_of_line (xs ++ line ∷ later)
      same_years [] = refl
      same_years (x ∷ xs) = ap (λ ys. x.year ∷ ys) (same_years xs)

      lines_after : AreLinesOf own_after then
      lines_after = record {
        years = years_same then now found.1
            ∙ (same_years earlier ∙ (ap (map year_of_line) (sym cut) ∙ was.are_lines.years));
        lookbacks = lookback_then;
        carried = carried_same (is_carried own.account) then now found.1
            (carried_now (is_carried own.account) earlier
            (subst (AreCarried (is_carried own.account)) cut was.are_lines.carried));
        schedules = found.2;
      }

      runs_are : YearRunsAre name v year Before After
      runs_are old new opens xs live a b l m =
          let rows : v Runs ≡ map run_entry s.runs = entered.kept.paid.runs in
          sums_listed name (year_start old.year) (year_last old.year) s.runs xs
          (subst (λ (rs : List RunRow). ListsDaySums RunsRise name
          (filter (is_live_run_between name (day_number (year_start old.year))
          (day_number (year_last old.year))) rs) xs) rows live) a b l m

      right : IsReopened form year Before After retotals.holidays retotals.retotals.repatches.patch
      right = retotals.retotals.repatches.right Before After
          (reopening_of year listed retotals.retotals.among total sums then are found.2
          (sym found.1)) refl runs_are

      -- the rows with the lookback total, before they are patched
      abbrev changed : Tables
      changed = with_year name (with_total total line) v

      puts : PutsLines name (earlier ++ with_total total line ∷ later) v changed
      puts = puts_one name earlier line (with_total total line) later are.years.0 v v years_cut
          refl (record {
            has = subst (λ (rows : List YearRow). IsPermutation (filter (is_year_of name) rows)
                (map (year_row name) (earlier ++ line ∷ later))) (sym entered.years)
                (subst (λ ls. IsPermutation (filter (is_year_of name) (t Years))
                (map (year_row name) ls)) cut was.line_rows);
            others = λ other apart. refl;
            only = only_years v;
          })

      days : KeepsDays v s
      days = entered.kept.days

      read_now : (x : YearLine) → Has then x → year ≤ x.year
          → AreHolidaysIn s retotals.holidays x.year × AreHolidaysIn s retotals.holidays
          (x.year + 1)
      read_now x has from =
          let c = counterpart then now x found.1 has in
          let same_year : x.year ≡ c.0.year = ap (λ (z : ℕ × ℕ × Bool). z.0) c.2 in
          let first_is : year_of (year_start year) ≡ year =
          first_of_year year (year_start year) (omega arith) (omega arith) refl in
          let Read : ℕ → Type 0 = λ y. HasHolidays v retotals.holidays y
          × HasHolidays v retotals.holidays (y + 1) in
          let read : Read c.0.year =
          elim (one_or_other earlier later (with_total total line) c.0 c.1) [
            | inl other ↦ retotals.read c.0
                (subst (λ ls. Has ls c.0) (sym retotals.retotals.among.cut)
                (other_has later line earlier c.0 other))
                (subst (λ n. n ≤ c.0.year) (sym first_is) (subst (λ n. year ≤ n) same_year from))
            | inr is ↦
                subst (λ (l : YearLine). Read l.year) (sym is)
                (retotals.read line (subst (λ ls. Has ls line) (sym retotals.retotals.among.cut)
                (has_right earlier (line ∷ later) line (inl refl)))
                (subst (λ n. n ≤ line.year) (sym first_is)
                (subst (λ n. year ≤ n) (sym of_year) (omega arith))))
          ] in
          subst (λ n. AreHolidaysIn s retotals.holidays n × AreHolidaysIn s retotals.holidays
          (n + 1)) (sym same_year) (
            (λ d is. holiday_kept v s days sound retotals.holidays c.0.year d read.0 is),
            (λ d is. holiday_kept v s days sound retotals.holidays (c.0.year + 1) d read.1
                is),
          )

      owed_before : (o : Obligation) → Has was.owed o ↔ IsOwed form Before (holidays s) o
      owed_before o =
          let all = was.are_owed.all o in
          let among = retotals.retotals.among in (
            (λ has. owed_with year listed among total form sums (holidays s) o
                (subst (λ ls. IsObligation form ls sums (holidays s) o) (sym lines_listed)
                (all.0 has))),
            (λ owed. all.1 (subst (λ ls. IsObligation form ls sums (holidays s) o) lines_listed
                (owed_without year listed among total form sums (holidays s) o owed))),
          )

      abbrev IsRight : Patch → Type 0
      IsRight patch = Reopens name form year now retotals.holidays patch v

      placed : IsPlaced t changed u s s.runs corrected corrected_years name first year Before After
          now retotals.holidays IsRight difference stands sound retotals.retotals.repatches
      placed = record {
        lines_are = refl;
        same_schedules = subst (HaveSameSchedules now) lines_listed
            (schedules_with year listed retotals.retotals.among total);
        years = years_now;
        same_years = sym found.1;
        owed = owed_before;
        are_lines = lines_after;
        sums_are = refl;
        others = entered.others;
        replaces = right.replaces;
        from = subst (λ n. year_start year ≤ n) (sym right.from) (omega arith);
        some = right.some;
        read = read_now;
        obligations = entered.obligations;
        year_rows = λ other apart. puts.others other apart
            ∙ ap (filter (is_year_of other)) entered.years;
        entered = record {
          meta = entered.kept.meta;
          enrolled = entered.kept.enrolled;
          figures = entered.kept.figures;
          days = entered.kept.days;
          paid = entered.kept.paid;
        };
      }

      pub retotaled_stands : StandsFor u Next
      retotaled_stands = placed_stands t changed u s s.runs corrected corrected_years name first
          year Before After now retotals.holidays IsRight difference stands sound
          retotals.retotals.repatches placed

      pub retotaled_told : IsPosted (holidays s) own own_after first
          (Ok (Posted difference))
      retotaled_told = placed_told t changed u s s.runs corrected corrected_years name first
          year Before After now retotals.holidays IsRight difference stands sound
          retotals.retotals.repatches placed
