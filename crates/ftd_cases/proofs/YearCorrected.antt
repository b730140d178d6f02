-- A worked case: the total of a reported year is corrected, twice. `fig`, on Form 943 since 1
-- January 2020, reported 50,000.00 for 2022, and is a monthly schedule depositor in 2024. Corrected
-- to a cent more, the total makes 2024 semiweekly; corrected back, it makes the year monthly again,
-- since the last correction is in force. A day is the number of days after 1 January 1900, an
-- amount its cents.
use Rattle.std.proofs.Common.{◌≡◌, ◌∙◌, inl, inr, refl, sym, ap, ℕ, arith}
use Rattle.std.proofs.Common.{false, List, [], ◌∷◌, Ok}
use Rattle.std.specs.Prelude.{codes}
use Rattle.std.proofs.lemmas.Bool.{ltb-true}
use Rattle.ftd_days.specs.Calendar.{month_of, month_from, month_start}
use Rattle.ftd_days.specs.declared.cents.Cents.{Cents}
use Rattle.ftd_rules.specs.Accounts.{is_account_name}
use Rattle.ftd_rules.specs.declared.Form.TheVariants.{F943}
use Rattle.ftd_rules.specs.declared.Kind.{Kind}
use Rattle.ftd_rules.specs.declared.Kind.TheVariants as kind
use Rattle.ftd_rules.specs.declared.Obligation.{Obligation}
use Rattle.ftd_rules.specs.declared.YearLine.{YearLine}
use Rattle.ftd_rules.specs.Lists.{Has}
use Rattle.ftd_rules.specs.Obligations.{AreObligations}
use Rattle.ftd_rules.specs.Years.{AreLines}
use Rattle.ftd_machine.specs.State.{State, Entry, nothing, entries_of}
use Rattle.ftd_machine.specs.History.{HasLookback, AreLinesOf, year_of_line}
use Rattle.ftd_machine.specs.Posting.{AreOnlyIn, IsOnOtherSchedule, AreOnOtherSchedules}
use Rattle.ftd_machine.specs.Runs.{IsRun}
use Rattle.ftd_machine.specs.Step.{Step}
use Rattle.ftd_machine.specs.declared.entries.ReturnPeriod.TheVariants.{Year}
use Rattle.ftd_machine.specs.declared.replies.Difference.{Difference}
use Rattle.ftd_machine.specs.declared.replies.Reply.TheVariants as reply
use Rattle.ftd_machine.specs.declared.requests.Correction.TheVariants as correction
use Rattle.ftd_machine.specs.declared.requests.Request.{Request}
use Rattle.ftd_machine.specs.declared.requests.Request.TheVariants as request
use Rattle.ftd_machine.proofs.PostedSome.{tells_difference}
use Rattle.ftd_machine.proofs.Those.{all_those, none_those}
use Rattle.ftd_cases.proofs.January.{cents, year_2024, monthly_lines, semiweekly_lines}
use Rattle.ftd_cases.proofs.Listing.{only}

-- ---- what is kept

abbrev fig : List ℕ
fig = codes "fig"

abbrev figure : ℕ → Entry Cents
figure amount = record { name = fig; key = 2022; content = cents amount }

-- with these corrections
abbrev kept : List (Entry Cents) → State
kept corrected = record nothing {
  accounts = record {
    name = fig;
    account = record { start = 43_829; carried = false; form = F943 };
  } ∷ [];
  calendars = record { year = 2024; days = [] } ∷ record { year = 2025; days = [] } ∷ [];
  reported_years = figure 5_000_000 ∷ [];
  open_years = record { name = fig; key = 2024; content = tt } ∷ [];
  corrected_years = corrected;
}

abbrev first : List (Entry Cents)
first = figure 5_000_001 ∷ []

abbrev second : List (Entry Cents)
second = figure 5_000_001 ∷ figure 5_000_000 ∷ []

-- ---- the year

abbrev line : ℕ → Kind → YearLine
line lookback opening = year_2024 lookback false opening

lookback_at_first : HasLookback (entries_of (kept []) fig) 2024 (cents 5_000_000)
unfolding month_start
lookback_at_first = inr (ltb-true _ _ refl, inl refl)

lookback_corrected : HasLookback (entries_of (kept first) fig) 2024 (cents 5_000_001)
unfolding month_start
lookback_corrected = inr (ltb-true _ _ refl, inl refl)

lookback_again : HasLookback (entries_of (kept second) fig) 2024 (cents 5_000_000)
unfolding month_start
lookback_again = inr (ltb-true _ _ refl, inl refl)

-- with the line of the one open year nothing is owed
none_owed : (corrected : List (Entry Cents)) (lookback : ℕ) (opening : Kind)
    → HasLookback (entries_of (kept corrected) fig) 2024 (cents lookback)
    → AreLines [] (line lookback opening ∷ [])
    → AreLinesOf (entries_of (kept corrected) fig) (line lookback opening ∷ [])
    × AreObligations F943 (line lookback opening ∷ []) [] [] []
none_owed corrected lookback opening total schedules = (
  record {
    years = refl;
    lookbacks = only
        (λ (l : YearLine). HasLookback (entries_of (kept corrected) fig) l.year l.lookback)
        (line lookback opening) total;
    carried = (refl, tt);
    schedules = schedules;
  },
  record {
    by_first_day = tt;
    all = λ o. (
      (λ has. absurd has),
      (λ h. absurd (let amount : o.cents.0 ≡ 0 = h.amount in let some = h.positive in omega arith)),
    );
  },
)

monthly_year : AreLines [] (line 5_000_000 kind.Monthly ∷ [])
monthly_year = monthly_lines 5_000_000 (omega arith) [] (λ a b. omega arith)

semiweekly_year : AreLines [] (line 5_000_001 kind.Semiweekly ∷ [])
semiweekly_year = semiweekly_lines 5_000_001 false (inl (omega arith)) []

-- ---- what is answered: no obligation differs, and the year is on another schedule; 1 January 2022
-- stands for the days

abbrev now_on : YearLine → Difference
now_on x = record { from = 44_560; to = 44_560; removed = []; added = []; years = x ∷ [] }

no_rows : AreOnlyIn [] [] []
no_rows = none_those (λ (o : Obligation). o.first) (λ o. Has [] o → ⊥) [] (λ o has none. has)

other_year : (a b : ℕ) (was is : Kind) → (was ≡ is → ⊥)
    → AreOnOtherSchedules (line a was ∷ []) (line b is ∷ []) (line b is ∷ [])
other_year a b was is apart =
    all_those year_of_line (IsOnOtherSchedule (line a was ∷ [])) (line b is ∷ [])
    ((λ later has. absurd has), tt)
    (λ x has old old_has same. elim has [
      | inl new ↦ elim old_has [
        | inl earlier ↦ apart (ap (λ (l : YearLine). l.opening) (sym earlier)
            ∙ same.1 ∙ ap (λ (l : YearLine). l.opening) new)
        | inr none ↦ none
      ]
      | inr none ↦ none
    ])

abbrev correct : ℕ → ℕ → Request
correct number amount = request.Correct number (correction.Total fig (Year 2022) (cents amount))

a_cent_more : Step (kept []) (correct 1 5_000_001)
    (Ok (reply.Posted (now_on (line 5_000_001 kind.Semiweekly)))) (kept first)
unfolding is_account_name month_of month_from month_start
a_cent_more =
    let was = none_owed [] 5_000_000 kind.Monthly lookback_at_first monthly_year in
    let is = none_owed first 5_000_001 kind.Semiweekly lookback_corrected semiweekly_year in (
      refl,
      tells_difference [] (entries_of (kept []) fig) (entries_of (kept first) fig) 44_560
          (now_on (line 5_000_001 kind.Semiweekly)) [] []
          (line 5_000_000 kind.Monthly ∷ [], was.0, was.1)
          (line 5_000_001 kind.Semiweekly ∷ [], is.0, is.1) no_rows no_rows
          (inr (refl, refl, refl))
          (other_year 5_000_000 5_000_001 kind.Monthly kind.Semiweekly (λ e. absurd cc)),
    )

and_back : Step (kept first) (correct 2 5_000_000)
    (Ok (reply.Posted (now_on (line 5_000_000 kind.Monthly)))) (kept second)
unfolding is_account_name month_of month_from month_start
and_back =
    let was = none_owed first 5_000_001 kind.Semiweekly lookback_corrected semiweekly_year in
    let is = none_owed second 5_000_000 kind.Monthly lookback_again monthly_year in (
      refl,
      tells_difference [] (entries_of (kept first) fig) (entries_of (kept second) fig) 44_560
          (now_on (line 5_000_000 kind.Monthly)) [] []
          (line 5_000_001 kind.Semiweekly ∷ [], was.0, was.1)
          (line 5_000_000 kind.Monthly ∷ [], is.0, is.1) no_rows no_rows
          (inr (refl, refl, refl))
          (other_year 5_000_001 5_000_000 kind.Semiweekly kind.Monthly (λ e. absurd cc)),
    )

-- one after the other
year_corrected : IsRun (kept []) (correct 1 5_000_001 ∷ correct 2 5_000_000 ∷ [])
    (Ok (reply.Posted (now_on (line 5_000_001 kind.Semiweekly)))
    ∷ Ok (reply.Posted (now_on (line 5_000_000 kind.Monthly))) ∷ []) (kept second)
year_corrected = (kept first, inl a_cent_more, (kept second, inl and_back, refl))
