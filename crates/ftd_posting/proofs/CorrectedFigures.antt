-- Figures that are corrected: what is answered, and the tables stand for the machine's next state.
use Rattle.std.proofs.Common.{◌≡◌, ◌≢◌, ◌∙◌, ◌==◌, ◌≤◌, refl, sym, ap, subst, inl, inr, ℕ, ◌+◌, ◌-◌}
use Rattle.std.proofs.Common.{Bool, true, false, List, [], ◌∷◌, ◌++◌, map, length, Option, Some}
use Rattle.std.proofs.Common.{None, Vec, arith}
use Rattle.std.specs.Prelude.{◌||◌, filter, nat_le, if◌then◌else◌}
use Rattle.std.specs.List.{list_any}
use Rattle.std.proofs.lemmas.Bool.{and_parts, eqb-true, leb-true}
use Rattle.std.proofs.lemmas.List.{append-nil, length-map}
use Rattle.std.proofs.lemmas.List.Elements.{filter-append}
use Rattle.ftd_days.specs.Calendar.{quarter_start, year_start}
use Rattle.ftd_days.specs.declared.cents.Cents.{Cents}
use Rattle.ftd_days.proofs.Years.{eq_same, eq_not}
use Rattle.ftd_rules.specs.declared.Form.{Form}
use Rattle.ftd_rules.specs.declared.Form.TheVariants.{F941, F943}
use Rattle.ftd_rules.specs.declared.YearLine.{YearLine}
use Rattle.ftd_rules.specs.Lists.{Has}
use Rattle.ftd_rules.specs.Lookback.{lookback_quarters, IsLookback}
use Rattle.ftd_rules.proofs.Covering.{line_is}
use Rattle.ftd_rules.proofs.Members.{has_mapped, mapped_has}
use Rattle.ftd_sql.specs.declared.TableName.TheVariants.{Accounts, CorrectedAccounts}
use Rattle.ftd_sql.specs.Orders.{AccountCorrectionsRise}
use Rattle.ftd_sql.specs.Rows.{AccountRow, CorrectedAccountRow}
use Rattle.ftd_sql.specs.Tests.{is_account, is_account_correction_of}
use Rattle.ftd_sql.specs.Standing.{Tables}
use Rattle.ftd_store.specs.declared.correction_cells.Correction.{Correction}
use Rattle.ftd_store.specs.Lists.{Lists}
use Rattle.ftd_store.specs.Reading.{rows_of}
use Rattle.ftd_store.specs.Rows.{account_row, correction_row, year_correction_row}
use Rattle.ftd_store.specs.declared.account_cells.Account.{Account as StoredAccount}
use Rattle.ftd_store.specs.Changes.{with_correction, with_year_correction}
use Rattle.ftd_store.specs.Corrections.{IsAccountCorrection}
use Rattle.ftd_store.specs.Finds.{FindsInForce}
use Rattle.ftd_machine.specs.declared.entries.Account.{Account}
use Rattle.ftd_machine.specs.declared.requests.Request.{Request}
use Rattle.ftd_machine.specs.declared.requests.Request.TheVariants.{Correct}
use Rattle.ftd_machine.specs.declared.requests.Correction.TheVariants as correction
use Rattle.ftd_machine.specs.declared.entries.ReturnPeriod.{ReturnPeriod}
use Rattle.ftd_machine.specs.declared.entries.ReturnPeriod.TheVariants.{Quarter, Year}
use Rattle.ftd_machine.specs.State.{State, Entry, entries_of, is_open, has_key}
use Rattle.ftd_machine.specs.State.{content_of, kept_at, numbered, all_at, latest}
use Rattle.ftd_machine.specs.State.{corrections_at, reported_at}
use Rattle.ftd_machine.specs.History.{figure_of, figures, form_of, start_of, IsLookbackOn}
use Rattle.ftd_machine.specs.History.{HasLookback}
use Rattle.ftd_machine.specs.Checks.{Answer, first_of}
use Rattle.ftd_machine.specs.Requests.{correct_total_checks, year_of_period}
use Rattle.ftd_machine.specs.Limits.{can_be_reported}
use Rattle.ftd_machine.specs.Step.{Step, first_day_of, with_entry}
use Rattle.ftd_machine.specs.Sound.{IsSound}
use Rattle.ftd_machine.proofs.Adding.{entry_own, entry_other}
use Rattle.ftd_machine.proofs.Deciding.{decided, passed}
use Rattle.ftd_machine.proofs.Heads.{Gives, gives_needs, skip_needs, skip_finds}
use Rattle.ftd_machine.proofs.Heads.{skip_new}
use Rattle.ftd_machine.proofs.Soundness.{sound_once}
use Rattle.ftd_entries.specs.Known.{FindsTotal, amounts_of, cents_of}
use Rattle.ftd_entries.specs.Opening.{is_line_of}
use Rattle.ftd_entries.specs.Standing.{StandsFor, KeepsFigures, correction_entry}
use Rattle.ftd_entries.specs.Standing.{year_correction_entry}
use Rattle.ftd_entries.proofs.Corrected.{corrections_known, year_corrections_known}
use Rattle.ftd_entries.proofs.Kept.{kept_reported, kept_reported_year}
use Rattle.ftd_entries.proofs.KnownYears.{open_lines}
use Rattle.ftd_entries.proofs.Entered.{entered, corrected_more}
use Rattle.ftd_entries.proofs.Totals.{SameAt, lookback_same}
use Rattle.ftd_machine.specs.declared.replies.Difference.{Difference}
use Rattle.ftd_repairs.specs.Reopened.{IsRetotaled}
use Rattle.ftd_posting.specs.Correcting.{EntersTotal, IsCountedIn, IsFollowed, IsOnlyYearOf}
use Rattle.ftd_posting.specs.Correcting.{KnowsCorrected, KnowsForTotal, ListsCorrectionsOf}
use Rattle.ftd_posting.specs.Correcting.{unchanged, with_corrected}
use Rattle.ftd_posting.specs.declared.correcting.KnownForTotal.{KnownForTotal}
use Rattle.ftd_posting.proofs.CorrectedState.{Entered, entered_stands, entered_told}
use Rattle.ftd_posting.proofs.CorrectedState.{retotaled_stands, retotaled_told}
use Rattle.ftd_posting.proofs.PostedRuns.{told, form_is}

-- the corrections that were listed, as they are known
pub corrected_as_listed : {A : Type 0} (number : ℕ) (before : KnownForTotal)
    (kept : State → List Cents) (found : Vec Correction A) (t : Tables)
    → ((s : State) → StandsFor t s → amounts_of found.items ≡ kept s)
    → before.known ≡ numbered number (amounts_of found.items)
    → length found.items ≡ before.count → KnowsCorrected number before kept t
corrected_as_listed number before kept found t listed known count = record {
  known = λ s stands. ap (numbered number) (sym (listed s stands)) ∙ sym known;
  count = λ s stands. ap length (sym (listed s stands)) ∙ length-map found.items cents_of ∙ count;
}

-- ---- figures

abbrev entry_of : List ℕ → ℕ → Cents → Entry Cents
entry_of name key cents = record { name = name; key = key; content = cents }

-- a correction of another key
all_apart : (key : ℕ) (corrected : List (Entry Cents)) (e : Entry Cents) → e.key ≢ key
    → all_at key (corrected ++ e ∷ []) ≡ all_at key corrected
all_apart key corrected e apart =
    ap (map content_of) (filter-append (has_key key) corrected (e ∷ [])
    ∙ ap (λ b. filter (has_key key) corrected ++ (if b then e ∷ [] else []))
    (eq_not e.key key apart)
    ∙ append-nil (filter (has_key key) corrected))

-- a correction changes no figure of another key
figures_apart : (reported corrected : List (Entry Cents)) (e : Entry Cents) (key : ℕ)
    → e.key ≢ key
    → SameAt (figures reported corrected) (figures reported (corrected ++ e ∷ [])) key
figures_apart reported corrected e key apart amount = (
  (λ has.
      (let from = has_mapped (figure_of corrected) reported (key, amount) has in
      let x = from.0 in
      let same : figure_of (corrected ++ e ∷ []) x ≡ (key, amount) =
      ap (λ cs. (x.key, latest x.content cs)) (all_apart x.key corrected e
      (λ is. apart (is ∙ sym (ap (λ (p : ℕ × Cents). p.0) from.2)))) ∙ sym from.2 in
      subst (Has (figures reported (corrected ++ e ∷ []))) same
      (mapped_has (figure_of (corrected ++ e ∷ [])) reported x from.1))),
  (λ has.
      (let from = has_mapped (figure_of (corrected ++ e ∷ [])) reported (key, amount) has in
      let x = from.0 in
      let same : figure_of corrected x ≡ (key, amount) =
      ap (λ cs. (x.key, latest x.content cs)) (sym (all_apart x.key corrected e
      (λ is. apart (is ∙ sym (ap (λ (p : ℕ × Cents). p.0) from.2))))) ∙ sym from.2 in
      subst (Has (figures reported corrected)) same
      (mapped_has (figure_of corrected) reported x from.1))),
)

-- ---- whether the year is open

any_line : (year : ℕ) (lines : List YearLine) (line : YearLine) → Has lines line
    → line.year ≡ year → list_any (is_line_of year) lines ≡ true
any_line year [] line has is = absurd has
any_line year (x ∷ lines) line (inl same) is =
    let first : is_line_of year x ≡ true =
    eq_same x.year year (sym (ap (λ (l : YearLine). l.year) same) ∙ is) in
    rw first refl
any_line year (x ∷ lines) line (inr later) is =
    either (is_line_of year x) (any_line year lines line later is)
  where
    either : (b : Bool) → list_any (is_line_of year) lines ≡ true
        → (b || list_any (is_line_of year) lines) ≡ true
    either true rest = refl
    either false rest = rest

-- where a year is not followed, no line is of it
none_followed : (name : List ℕ) (year : ℕ) (there : Bool) (t : Tables) (s : State)
    (stands : StandsFor t s) → is_open (entries_of s name) year ≡ there
    → (IsFollowed there year → ⊥) → (line : YearLine) → Has (stands.settled name).lines line
    → line.year ≢ year
none_followed name year there t s stands is not line has same =
    let was = stands.settled name in
    let its = line_is was.lines _ line was.are_lines.schedules has in
    let opened : there ≡ true = sym is
    ∙ (open_lines year was.lines (entries_of s name).open_years was.are_lines.years
    ∙ any_line year was.lines line has same) in
    let low = its.0 in let high = its.1 in
    not (opened, subst (λ y. 2001 ≤ y) same low, subst (λ y. y ≤ 2098) same high)

-- the account in force is the same, where its rows and those of its corrections are
in_force_as : (name : List ℕ) (found : Option StoredAccount) (t v : Tables)
    → v Accounts ≡ t Accounts → v CorrectedAccounts ≡ t CorrectedAccounts
    → FindsInForce name found v → FindsInForce name found t
in_force_as name found t v accounts corrections f = record {
  enrolled = f.enrolled;
  is_enrolled = subst (λ (rows : List AccountRow). filter (is_account name) rows
      ≡ rows_of (account_row name) f.enrolled) accounts f.is_enrolled;
  corrections = f.corrections;
  are_all = subst (λ (rows : List CorrectedAccountRow). Lists AccountCorrectionsRise
      (IsAccountCorrection name) (filter (is_account_correction_of name) rows) f.corrections)
      corrections f.are_all;
  is_last = f.is_last;
}

-- ---- the checks

-- the total that was first reported, as each state keeps it
kept_total : (name : List ℕ) (period : ReturnPeriod) (found : Option Cents) (t : Tables) (s : State)
    → StandsFor t s → FindsTotal name period found t
    → reported_at (entries_of s name) period ≡ found
kept_total name (Quarter quarter) found t s stands finds =
    kept_reported name t s stands quarter found finds
kept_total name (Year year) found t s stands finds =
    kept_reported_year name t s stands year found finds

module _ (name : List ℕ) (period : ReturnPeriod) (number : ℕ) (cents : Cents) (year : ℕ) where
  abbrev pub total_checks : KnownForTotal → Option Answer
  total_checks known = first_of (correct_total_checks name period number cents known.account
      known.reported known.known known.count)

  total_checks_are : (known : KnownForTotal) (t : Tables) (s : State) → StandsFor t s
      → KnowsForTotal name period number year known t
      → first_of (correct_total_checks name period number cents (entries_of s name).account
      (reported_at (entries_of s name) period)
      (numbered number (corrections_at (entries_of s name) period))
      (length (corrections_at (entries_of s name) period))) ≡ total_checks known
  total_checks_are known t s stands knows =
      rw (
        knows.account s stands,
        kept_total name period known.reported t s stands knows.reported,
        knows.corrected.known s stands,
        knows.corrected.count s stands,
      ) refl

  pub total_decided : (known : KnownForTotal) (answer : Answer)
      → total_checks known ≡ Some answer → (t : Tables) (s : State) → StandsFor t s → IsSound s
      → KnowsForTotal name period number year known t
      → Step s (Correct number (correction.Total name period cents)) answer s
  total_decided known answer is t s stands sound knows = decided _ s answer _
      (total_checks_are known t s stands knows ∙ is)

next_number : (name : List ℕ) (period : ReturnPeriod) (number : ℕ) (cents : Cents)
    (account : Option Account) (reported known : Option Cents) (count : ℕ)
    → first_of (correct_total_checks name period number cents account reported known count)
    ≡ None → number ≡ count + 1
next_number name period number cents account reported known count is =
    let P = correct_total_checks name period number cents account reported known count in
    let next : Gives P ((number == count + 1) ≡ true) =
    skip_needs _ _ _ _ (skip_needs _ _ _ _ (skip_needs _ _ _ _ (skip_needs _ _ _ _
    (skip_finds _ _ _ _ (skip_needs _ _ _ _ (skip_finds _ _ _ _ (skip_new _ _ _ _ _
    (gives_needs _ _ _)))))))) in
    eqb-true number (count + 1) (next.fact is)

-- a total of a year in range is reported where all checks pass
pub total_in_range : (name : List ℕ) (period : ReturnPeriod) (number : ℕ) (cents : Cents)
    (account : Option Account) (reported known : Option Cents) (count : ℕ)
    → first_of (correct_total_checks name period number cents account reported known count)
    ≡ None → year_of_period period ≤ 2098
total_in_range name period number cents account reported known count is =
    let P = correct_total_checks name period number cents account reported known count in
    let between : Gives P (can_be_reported (year_of_period period) ≡ true) =
    skip_needs _ _ _ _ (gives_needs _ _ _) in
    leb-true (year_of_period period) 2098
    (and_parts (nat_le 1999 (year_of_period period)) (nat_le (year_of_period period) 2098)
    (between.fact is)).1

-- ---- of a quarter

module _ (name : List ℕ) (quarter number : ℕ) (cents : Cents) (year : ℕ)
    (only : IsOnlyYearOf quarter year) where
  abbrev QuarterAsked : Request
  QuarterAsked = Correct number (correction.Total name (Quarter quarter) cents)

  abbrev quarter_correction : Correction
  quarter_correction = record { number = number; cents = cents }

  abbrev WithQuarter : Tables → Tables
  WithQuarter = with_correction name quarter quarter_correction

  abbrev quarter_next : State → State
  quarter_next s = record s { corrected = with_entry s.corrected name quarter cents }

  quarter_kept_on : (s : State) (form : Form) (other : ℕ) (total : Cents) → 2001 ≤ other
      → other ≢ year → IsLookbackOn form (entries_of s name) other total
      → IsLookbackOn form (entries_of (quarter_next s) name) other total
  quarter_kept_on s F943 other total low apart is = is
  quarter_kept_on s F941 other total low apart is =
      let own = entries_of s name in
      let start = start_of own.account in
      subst (λ cs. IsLookback (figures own.reported cs) start other total.0)
      (sym (entry_own s.corrected name quarter cents))
      (lookback_same (figures own.reported own.corrected)
      (figures own.reported (own.corrected ++ entry_of name quarter cents ∷ [])) start other
      (λ q among. figures_apart own.reported own.corrected (entry_of name quarter cents) q
      (λ same. apart (only other low (subst (Has (lookback_quarters other)) (sym same) among))))
      total.0 is)

  quarter_entered : (t : Tables) (s : State) → StandsFor t s
      → number ≡ length (all_at quarter (entries_of s name).corrected) + 1
      → Entered t (WithQuarter t) s (with_entry s.corrected name quarter cents) s.corrected_years
      name year
  quarter_entered t s stands is =
      let e = entry_of name quarter cents in
      let row : correction_entry (s.corrected, e)
      ≡ correction_row name quarter quarter_correction =
      ap (λ n. correction_row name quarter (record { number = n; cents = cents })) (sym is) in
      record {
        others = λ other apart. ap (λ cs. record (entries_of s other) { corrected = cs })
            (entry_other s.corrected name quarter cents other (λ same. apart (sym same)));
        lookbacks = λ other total low apart has.
            quarter_kept_on s (form_of (entries_of s name).account) other total low apart has;
        same_lines = λ lines l. record {
          listed = l.listed;
          whole = l.whole;
          turns = l.turns;
          first = (
            l.first.0,
            in_force_as name l.first.0 t (WithQuarter t) refl refl l.first.1,
            l.first.2,
          );
          others = l.others;
        };
        obligations = refl;
        years = refl;
        kept = (let were = stands.entries in entered were.meta were.enrolled (record {
          reported = were.figures.reported;
          reported_years = were.figures.reported_years;
          corrected = corrected_more correction_entry s.corrected e _ row were.figures.corrected;
          corrected_years = were.figures.corrected_years;
        }) were.days were.paid);
      }

  -- all checks pass
  quarter_done : (known : KnownForTotal) (account : Account) (difference : Difference)
      → total_checks name (Quarter quarter) number cents year known ≡ None
      → known.account ≡ Some account
      → (t u : Tables) (s : State) → StandsFor t s → IsSound s
      → KnowsForTotal name (Quarter quarter) number year known t
      → EntersTotal name account known.is_open (quarter_start quarter) year WithQuarter difference t
      u
      → (next : State) × Step s QuarterAsked (told difference) next × StandsFor u next
  quarter_done known account difference is account_is t u s stands sound knows enters =
      let own = entries_of s name in
      let next = quarter_next s in
      let pass = total_checks_are name (Quarter quarter) number cents year known t s stands knows
      ∙ is in
      let count = next_number name (Quarter quarter) number cents own.account
      (kept_at quarter own.reported)
      (numbered number (all_at quarter own.corrected)) (length (all_at quarter own.corrected))
      pass in
      let entered = quarter_entered t s stands count in
      let first = quarter_start quarter in
      let cs = with_entry s.corrected name quarter cents in
      elim enters [
        | inl k ↦
            (let apart = none_followed name year known.is_open t s stands
            (knows.is_open s stands) k.0 in
            let told_now = entered_told t (WithQuarter t) s cs s.corrected_years name year stands
            entered apart first in (
              next,
              subst (λ (d : Difference). Step s QuarterAsked (told d) next) (sym k.2)
                  (passed _ s (told (unchanged first)) next _ pass (refl, told_now)),
              subst (λ (v : Tables). StandsFor v next) (sym k.1)
                  (entered_stands t (WithQuarter t) s cs s.corrected_years name year stands
                  entered apart),
            ))
        | inr k ↦
            (let total = k.1.0 in
            let keeps : KeepsFigures (WithQuarter t) next = entered.kept.figures in
            let once = sound_once s sound name in
            let has : HasLookback (entries_of next name) year total =
            k.1.1 next keeps
            (once.quarters (entries_of next name).corrected, once.years own.corrected_years)
            (knows.account s stands ∙ account_is) in
            let form = form_is known.account account name t s stands knows.account account_is in
            let retotals = subst (λ f. IsRetotaled name f first year total (WithQuarter t) u
            difference) (sym form) k.1.2 in (
              next,
              passed _ s (told difference) next _ pass (
                refl,
                retotaled_told t (WithQuarter t) s cs s.corrected_years name year stands entered
                    sound u first total difference k.0.1 k.0.2 has retotals,
              ),
              retotaled_stands t (WithQuarter t) s cs s.corrected_years name year stands entered
                  sound u first total difference k.0.1 k.0.2 has retotals,
            ))
      ]

-- ---- of a year

module _ (name : List ℕ) (reported_year number : ℕ) (cents : Cents) (counting : ℕ) where
  abbrev YearAsked : Request
  YearAsked = Correct number (correction.Total name (Year reported_year) cents)

  abbrev year_correction : Correction
  year_correction = record { number = number; cents = cents }

  abbrev WithYear : Tables → Tables
  WithYear = with_year_correction name reported_year year_correction

  abbrev year_next : State → State
  year_next s = record s {
    corrected_years = with_entry s.corrected_years name reported_year cents;
  }

  year_kept_on : counting ≡ reported_year + 2 → (s : State) (form : Form) (other : ℕ)
      (total : Cents) → 2001 ≤ other
      → other ≢ counting → IsLookbackOn form (entries_of s name) other total
      → IsLookbackOn form (entries_of (year_next s) name) other total
  year_kept_on second s F941 other total low apart is = is
  year_kept_on second s F943 other total low apart (inl before) = inl before
  year_kept_on second s F943 other total low apart (inr counts) =
      let own = entries_of s name in
      let e = entry_of name reported_year cents in
      let same : figures own.reported_years (own.corrected_years ++ e ∷ [])
      ≡ figures own.reported_years (entries_of (year_next s) name).corrected_years =
      ap (figures own.reported_years) (sym (entry_own s.corrected_years name reported_year cents))
      in
      inr (
        counts.0,
        subst (λ fs. Has fs (other - 2, total)) same
            ((figures_apart own.reported_years own.corrected_years e (other - 2)
            (λ is. apart (omega (arith, low, is, second))) total).0 counts.1),
      )

  year_entered : counting ≡ reported_year + 2 → (t : Tables) (s : State) → StandsFor t s
      → number ≡ length (all_at reported_year (entries_of s name).corrected_years) + 1
      → Entered t (WithYear t) s s.corrected
      (with_entry s.corrected_years name reported_year cents) name counting
  year_entered second t s stands is =
      let e = entry_of name reported_year cents in
      let row : year_correction_entry (s.corrected_years, e)
      ≡ year_correction_row name reported_year year_correction =
      ap (λ n. year_correction_row name reported_year (record { number = n; cents = cents }))
      (sym is) in
      record {
        others = λ other apart. ap (λ cs. record (entries_of s other) { corrected_years = cs })
            (entry_other s.corrected_years name reported_year cents other
            (λ same. apart (sym same)));
        lookbacks = λ other total low apart has.
            year_kept_on second s (form_of (entries_of s name).account) other total low apart has;
        same_lines = λ lines l. record {
          listed = l.listed;
          whole = l.whole;
          turns = l.turns;
          first = (
            l.first.0,
            in_force_as name l.first.0 t (WithYear t) refl refl l.first.1,
            l.first.2,
          );
          others = l.others;
        };
        obligations = refl;
        years = refl;
        kept = (let were = stands.entries in entered were.meta were.enrolled (record {
          reported = were.figures.reported;
          reported_years = were.figures.reported_years;
          corrected = were.figures.corrected;
          corrected_years = corrected_more year_correction_entry s.corrected_years e _ row
              were.figures.corrected_years;
        }) were.days were.paid);
      }

  -- all checks pass
  year_done : counting ≡ reported_year + 2
      → (known : KnownForTotal) (account : Account) (difference : Difference)
      → total_checks name (Year reported_year) number cents counting known ≡ None
      → known.account ≡ Some account
      → (t u : Tables) (s : State) → StandsFor t s → IsSound s
      → KnowsForTotal name (Year reported_year) number counting known t
      → EntersTotal name account known.is_open (year_start reported_year) counting WithYear
      difference t u
      → (next : State) × Step s YearAsked (told difference) next × StandsFor u next
  year_done second known account difference is account_is t u s stands sound knows enters =
      let own = entries_of s name in
      let next = year_next s in
      let pass = total_checks_are name (Year reported_year) number cents counting known t s stands
      knows ∙ is in
      let count = next_number name (Year reported_year) number cents own.account
      (kept_at reported_year own.reported_years)
      (numbered number (all_at reported_year own.corrected_years))
      (length (all_at reported_year own.corrected_years))
      pass in
      let entered = year_entered second t s stands count in
      let first = year_start reported_year in
      let cs = with_entry s.corrected_years name reported_year cents in
      elim enters [
        | inl k ↦
            (let apart = none_followed name counting known.is_open t s stands
            (knows.is_open s stands) k.0 in
            let told_now = entered_told t (WithYear t) s s.corrected cs name counting stands
            entered apart first in (
              next,
              subst (λ (d : Difference). Step s YearAsked (told d) next) (sym k.2)
                  (passed _ s (told (unchanged first)) next _ pass (refl, told_now)),
              subst (λ (v : Tables). StandsFor v next) (sym k.1)
                  (entered_stands t (WithYear t) s s.corrected cs name counting stands
                  entered apart),
            ))
        | inr k ↦
            (let total = k.1.0 in
            let keeps : KeepsFigures (WithYear t) next = entered.kept.figures in
            let once = sound_once s sound name in
            let has : HasLookback (entries_of next name) counting total =
            k.1.1 next keeps
            (once.quarters own.corrected, once.years (entries_of next name).corrected_years)
            (knows.account s stands ∙ account_is) in
            let form = form_is known.account account name t s stands knows.account account_is in
            let retotals = subst (λ f. IsRetotaled name f first counting total (WithYear t) u
            difference) (sym form) k.1.2 in (
              next,
              passed _ s (told difference) next _ pass (
                refl,
                retotaled_told t (WithYear t) s s.corrected cs name counting stands entered
                    sound u first total difference k.0.1 k.0.2 has retotals,
              ),
              retotaled_stands t (WithYear t) s s.corrected cs name counting stands entered
                  sound u first total difference k.0.1 k.0.2 has retotals,
            ))
      ]

-- ---- of a quarter or a year

-- all checks pass
pub total_done : (name : List ℕ) (period : ReturnPeriod) (number : ℕ) (cents : Cents) (year : ℕ)
    → IsCountedIn period year → (known : KnownForTotal) (account : Account)
    (difference : Difference) → total_checks name period number cents year known ≡ None
    → known.account ≡ Some account → (t u : Tables) (s : State) → StandsFor t s → IsSound s
    → KnowsForTotal name period number year known t
    → EntersTotal name account known.is_open (first_day_of period) year
    (with_corrected name period (record { number = number; cents = cents })) difference t u
    → (next : State) × Step s (Correct number (correction.Total name period cents))
    (told difference) next × StandsFor u next
total_done name (Quarter quarter) number cents year only =
    quarter_done name quarter number cents year only
total_done name (Year reported) number cents year second =
    year_done name reported number cents year second

-- the corrections that were listed, as each state keeps them
pub total_corrections_known : {A : Type 0} (name : List ℕ) (period : ReturnPeriod)
    (found : Vec Correction A) (t : Tables) → ListsCorrectionsOf name period found t → (s : State)
    → StandsFor t s → amounts_of found.items ≡ corrections_at (entries_of s name) period
total_corrections_known name (Quarter quarter) found t listed s stands =
    corrections_known name quarter found t listed s stands.entries.figures
total_corrections_known name (Year year) found t listed s stands =
    year_corrections_known name year found t listed s stands.entries.figures
