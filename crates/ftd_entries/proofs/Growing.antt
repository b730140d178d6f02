-- What is settled stays so where an account's open years and runs stay, and no figure is taken
-- back.
use Rattle.std.proofs.Common.{◌≡◌, ◌∙◌, inl, inr, sym, ap, subst, ℕ, Bool, List, ◌++◌, map}
use Rattle.std.specs.Prelude.{filter}
use Rattle.std.proofs.lemmas.List.{map-append}
use Rattle.std.proofs.lemmas.List.Elements.{filter-append}
use Rattle.ftd_days.specs.declared.cents.Cents.{Cents}
use Rattle.ftd_rules.specs.declared.Form.{Form}
use Rattle.ftd_rules.specs.declared.Form.TheVariants.{F941, F943}
use Rattle.ftd_rules.specs.declared.YearLine.{YearLine}
use Rattle.ftd_rules.specs.Lists.{Has}
use Rattle.ftd_rules.specs.Lookback.{Counts, IsLookback, IsYearLookback}
use Rattle.ftd_rules.specs.Years.{AreLines}
use Rattle.ftd_rules.specs.Obligations.{AreObligations}
use Rattle.ftd_rules.proofs.Owed.{has_left}
use Rattle.ftd_sql.specs.declared.TableName.TheVariants.{Years, Obligations}
use Rattle.ftd_sql.specs.Standing.{Tables}
use Rattle.ftd_machine.specs.State.{State, Entry, Entries, entries_of, holidays}
use Rattle.ftd_machine.specs.History.{start_of, form_of, is_carried, figure_of, figures, live}
use Rattle.ftd_machine.specs.History.{quarter_figures, year_figures}
use Rattle.ftd_machine.specs.History.{liability_of, live_sums, year_of_entry, IsLookbackOn}
use Rattle.ftd_machine.specs.History.{AreCarried, AreLinesOf}
use Rattle.ftd_entries.specs.Standing.{IsSettled}

-- each figure of the first list is in the second
abbrev pub AreAmong : List (ℕ × Cents) → List (ℕ × Cents) → Type 0
AreAmong few many = (figure : ℕ × Cents) → Has few figure → Has many figure

-- the account, its open years and its runs are the same, and each of its figures stays
pub record Grows (own more : Entries) : Type 0 where
  pub account : more.account ≡ own.account
  pub open_years : more.open_years ≡ own.open_years
  pub runs : more.runs ≡ own.runs
  pub reported : AreAmong (quarter_figures own) (quarter_figures more)
  pub reported_years : AreAmong (year_figures own) (year_figures more)

-- the figures of an account stay where entries are added
pub figures_more : (test : Entry Cents → Bool) (xs ys corrected : List (Entry Cents))
    → AreAmong (figures (filter test xs) corrected) (figures (filter test (xs ++ ys)) corrected)
figures_more test xs ys corrected figure has =
    subst (λ all. Has all figure)
    (sym (ap (λ es. figures es corrected) (filter-append test xs ys)
    ∙ map-append (figure_of corrected) (filter test xs) (filter test ys)))
    (has_left (figures (filter test xs) corrected) (figures (filter test ys) corrected) figure has)

-- ---- the lookback total of a year

counts_more : (few many : List (ℕ × Cents)) (start quarter : ℕ) (amount : Cents) → AreAmong few many
    → Counts few start quarter amount → Counts many start quarter amount
counts_more few many start quarter amount among (inl before) = inl before
counts_more few many start quarter amount among (inr has) =
    inr (has.0, among (quarter, amount) has.1)

lookback_more : (few many : List (ℕ × Cents)) (start year total : ℕ) → AreAmong few many
    → IsLookback few start year total → IsLookback many start year total
lookback_more few many start year total among is = record {
  first = is.first;
  second = is.second;
  third = is.third;
  fourth = is.fourth;
  count = (
    counts_more few many start _ is.first among is.count.0,
    counts_more few many start _ is.second among is.count.1,
    counts_more few many start _ is.third among is.count.2,
    counts_more few many start _ is.fourth among is.count.3,
  );
  adds_up = is.adds_up;
}

year_more : (few many : List (ℕ × Cents)) (start year : ℕ) (total : Cents) → AreAmong few many
    → IsYearLookback few start year total → IsYearLookback many start year total
year_more few many start year total among (inl before) = inl before
year_more few many start year total among (inr has) = inr (has.0, among _ has.1)

module _ (own more : Entries) (grows : Grows own more) where
  lookback_on : (form : Form) (year : ℕ) (total : Cents) → IsLookbackOn form own year total
      → IsLookbackOn form more year total
  lookback_on F941 year total is =
      subst (λ a. IsLookback (quarter_figures more) (start_of a) year total.0) (sym grows.account)
      (lookback_more (quarter_figures own) (quarter_figures more) (start_of own.account) year
      total.0 grows.reported is)
  lookback_on F943 year total is =
      subst (λ a. IsYearLookback (year_figures more) (start_of a) year total)
      (sym grows.account)
      (year_more (year_figures own) (year_figures more) (start_of own.account)
      year total grows.reported_years is)

  pub lines_grow : (lines : List YearLine) → AreLinesOf own lines → AreLinesOf more lines
  lines_grow lines are = record {
    years = are.years ∙ ap (map year_of_entry) (sym grows.open_years);
    lookbacks = λ line has.
        subst (λ a. IsLookbackOn (form_of a) more line.year line.lookback) (sym grows.account)
        (lookback_on (form_of own.account) line.year line.lookback (are.lookbacks line has));
    carried = subst (λ a. AreCarried (is_carried a) lines) (sym grows.account) are.carried;
    schedules = subst (λ runs. AreLines (map liability_of (live runs)) lines)
        (sym grows.runs) are.schedules;
  }

pub settled_grows : (t after : Tables) (s next : State) (name : List ℕ) → after Years ≡ t Years
    → after Obligations ≡ t Obligations → holidays next ≡ holidays s
    → Grows (entries_of s name) (entries_of next name) → IsSettled t s name
    → IsSettled after next name
settled_grows t after s next name years obligations same grows was =
    let own = entries_of s name in
    let more = entries_of next name in
    record {
      lines = was.lines;
      are_lines = lines_grow own more grows was.lines was.are_lines;
      owed = was.owed;
      are_owed =
          subst (λ days. AreObligations (form_of more.account) was.lines (live_sums more) days
          was.owed) (sym same)
          (subst (λ a. AreObligations (form_of a) was.lines (live_sums more) (holidays s) was.owed)
          (sym grows.account)
          (subst (λ runs. AreObligations (form_of own.account) was.lines
          (map liability_of (live runs)) (holidays s) was.owed) (sym grows.runs) was.are_owed));
      line_rows = rw years was.line_rows;
      owed_rows = rw obligations was.owed_rows;
    }
