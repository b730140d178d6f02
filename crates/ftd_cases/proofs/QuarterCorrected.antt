-- A worked case: the total of a reported quarter is corrected. `elm`, on Form 941 since 1 January
-- 2020, reported 12,500.00 for each quarter from 2022Q3 to 2023Q2, together 50,000.00, and is a
-- monthly schedule depositor in 2024; 882.50 of Friday 5 January 2024 is due on Thursday 15
-- February. The total of 2023Q2 was a cent more. So the lookback total is 50,000.01, the year is
-- semiweekly, and the same liability was due on Wednesday 10 January. A day is the number of days
-- after 1 January 1900, a quarter that of quarters after the first of 1900, an amount its cents.
use Rattle.std.proofs.Common.{◌≡◌, ◌∙◌, inl, inr, refl, sym, ap, ℕ, arith}
use Rattle.std.proofs.Common.{false, List, [], ◌∷◌, Ok}
use Rattle.std.specs.Prelude.{codes}
use Rattle.std.proofs.lemmas.Bool.{ltb-true}
use Rattle.ftd_days.specs.Calendar.{month_of, month_from, month_start}
use Rattle.ftd_days.specs.declared.cents.Cents.{Cents}
use Rattle.ftd_rules.specs.Accounts.{is_account_name}
use Rattle.ftd_rules.specs.declared.Form.TheVariants.{F941}
use Rattle.ftd_rules.specs.declared.Kind.TheVariants as kind
use Rattle.ftd_rules.specs.declared.Obligation.{Obligation}
use Rattle.ftd_rules.specs.declared.Rule.TheVariants as rule
use Rattle.ftd_rules.specs.declared.YearLine.{YearLine}
use Rattle.ftd_rules.specs.Due.{IsDue}
use Rattle.ftd_rules.specs.Lists.{Has}
use Rattle.ftd_rules.specs.Years.{AreLines}
use Rattle.ftd_rules.proofs.Looking.{nth_after_at}
use Rattle.ftd_rules.proofs.Stated.{due_stated}
use Rattle.ftd_machine.specs.State.{State, Entry, nothing, entries_of}
use Rattle.ftd_machine.specs.History.{HasLookback, AreLinesOf, AreOwed, year_of_line}
use Rattle.ftd_machine.specs.Posting.{AreOnlyIn, Spans, IsOnOtherSchedule, AreOnOtherSchedules}
use Rattle.ftd_machine.specs.Step.{Step}
use Rattle.ftd_machine.specs.declared.entries.ReturnPeriod.TheVariants.{Quarter}
use Rattle.ftd_machine.specs.declared.replies.Difference.{Difference}
use Rattle.ftd_machine.specs.declared.replies.Reply.TheVariants as reply
use Rattle.ftd_machine.specs.declared.requests.Correction.TheVariants as correction
use Rattle.ftd_machine.specs.declared.requests.Request.TheVariants as request
use Rattle.ftd_machine.proofs.PostedSome.{tells_difference}
use Rattle.ftd_machine.proofs.Those.{all_those}
use Rattle.ftd_cases.proofs.January.{cents, closed_days, run, year_2024, due_by_the_15th}
use Rattle.ftd_cases.proofs.January.{monthly_lines, semiweekly_lines}
use Rattle.ftd_cases.proofs.January.{on_5_january, few_on_5_january, january, early_january}
use Rattle.ftd_cases.proofs.January.{january_owed, early_january_owed}
use Rattle.ftd_cases.proofs.Listing.{only}

-- ---- what is kept

abbrev pub elm : List ℕ
elm = codes "elm"

abbrev figure : ℕ → ℕ → Entry Cents
figure quarter amount = record { name = elm; key = quarter; content = cents amount }

-- with these corrections
abbrev pub kept : List (Entry Cents) → State
kept corrected = record nothing {
  accounts = record {
    name = elm;
    account = record { start = 43_829; carried = false; form = F941 };
  } ∷ [];
  calendars = record { year = 2024; days = closed_days } ∷ record { year = 2025; days = [] } ∷ [];
  reported = figure 490 1_250_000 ∷ figure 491 1_250_000 ∷ figure 492 1_250_000
      ∷ figure 493 1_250_000 ∷ [];
  open_years = record { name = elm; key = 2024; content = tt } ∷ [];
  runs = record { name = elm; key = 1; content = record { value = run; voided = false } } ∷ [];
  corrected = corrected;
}

abbrev pub before : State
before = kept []

abbrev pub after : State
after = kept (figure 493 1_250_001 ∷ [])

-- ---- the year, before and after

abbrev pub monthly_year : YearLine
monthly_year = year_2024 5_000_000 false kind.Monthly

abbrev pub semiweekly_year : YearLine
semiweekly_year = year_2024 5_000_001 false kind.Semiweekly

pub lookback_before : HasLookback (entries_of before elm) 2024 (cents 5_000_000)
unfolding month_start
lookback_before = record {
  first = cents 1_250_000;
  second = cents 1_250_000;
  third = cents 1_250_000;
  fourth = cents 1_250_000;
  count = (
    inr (ltb-true _ _ refl, inl refl),
    inr (ltb-true _ _ refl, inr (inl refl)),
    inr (ltb-true _ _ refl, inr (inr (inl refl))),
    inr (ltb-true _ _ refl, inr (inr (inr (inl refl)))),
  );
  adds_up = refl;
}

pub lookback_after : HasLookback (entries_of after elm) 2024 (cents 5_000_001)
unfolding month_start
lookback_after = record {
  first = cents 1_250_000;
  second = cents 1_250_000;
  third = cents 1_250_000;
  fourth = cents 1_250_001;
  count = (
    inr (ltb-true _ _ refl, inl refl),
    inr (ltb-true _ _ refl, inr (inl refl)),
    inr (ltb-true _ _ refl, inr (inr (inl refl))),
    inr (ltb-true _ _ refl, inr (inr (inr (inl refl)))),
  );
  adds_up = refl;
}

-- the line of the one open year
lines_of : (corrected : List (Entry Cents)) (line : YearLine) → line.year ≡ 2024
    → line.carried ≡ false → HasLookback (entries_of (kept corrected) elm) line.year line.lookback
    → AreLines (on_5_january 88_250 ∷ []) (line ∷ [])
    → AreLinesOf (entries_of (kept corrected) elm) (line ∷ [])
lines_of corrected line year carried lookback schedules = record {
  years = ap (λ y. y ∷ []) year;
  lookbacks = only
      (λ (l : YearLine). HasLookback (entries_of (kept corrected) elm) l.year l.lookback) line
      lookback;
  carried = (carried, tt);
  schedules = schedules;
}

lines_before : AreLinesOf (entries_of before elm) (monthly_year ∷ [])
lines_before = lines_of [] monthly_year refl refl lookback_before
    (monthly_lines 5_000_000 (omega arith) (on_5_january 88_250 ∷ [])
    (few_on_5_january 88_250 (omega arith)))

pub lines_after : AreLinesOf (entries_of after elm) (semiweekly_year ∷ [])
lines_after = lines_of (figure 493 1_250_001 ∷ []) semiweekly_year refl refl lookback_after
    (semiweekly_lines 5_000_001 false (inl (omega arith)) (on_5_january 88_250 ∷ []))

-- ---- what is owed, before and after: by Thursday 15 February, and by Wednesday 10 January

due_on_wednesday : IsDue closed_days rule.Semiweekly 45_294 45_299
due_on_wednesday = due_stated closed_days rule.Semiweekly 45_294 45_299
    (nth_after_at closed_days 45_294 3 4 45_299 refl refl refl)

pub owed_before : AreOwed closed_days (entries_of before elm) (january 45_335 88_250 ∷ [])
owed_before = (
  monthly_year ∷ [],
  lines_before,
  january_owed closed_days 45_335 88_250 (omega arith) (omega arith) 5_000_000 (omega arith)
      due_by_the_15th,
)

pub owed_after : AreOwed closed_days (entries_of after elm) (early_january 45_299 88_250 ∷ [])
owed_after = (
  semiweekly_year ∷ [],
  lines_after,
  early_january_owed closed_days 45_299 88_250 (omega arith) (omega arith) 5_000_001 false
      (inl (omega arith)) due_on_wednesday,
)

-- ---- what is answered

-- one that is not another is the only one
only_there : (o p : Obligation) → (o.first ≡ p.first → ⊥) → AreOnlyIn (o ∷ []) (p ∷ []) (o ∷ [])
only_there o p apart = all_those (λ (x : Obligation). x.first) (λ x. Has (p ∷ []) x → ⊥) (o ∷ [])
    ((λ later has. absurd has), tt)
    (λ x has other. elim has [
      | inl is ↦ elim other [
        | inl also ↦ apart (ap (λ (q : Obligation). q.first) (sym is ∙ also))
        | inr none ↦ none
      ]
      | inr none ↦ none
    ])

abbrev moved : Difference
moved = record {
  from = 45_290;
  to = 45_320;
  removed = january 45_335 88_250 ∷ [];
  added = early_january 45_299 88_250 ∷ [];
  years = semiweekly_year ∷ [];
}

-- both lie in January
spans_january : Spans (january 45_335 88_250 ∷ early_january 45_299 88_250 ∷ []) 45_290 45_320
spans_january = record {
  first = january 45_335 88_250;
  has_first = inl refl;
  from_is = refl;
  last = january 45_335 88_250;
  has_last = inl refl;
  to_is = refl;
  within = λ o has. elim has [
    | inl is ↦ (let a : o.first ≡ 45_290 = ap (λ (q : Obligation). q.first) is in
        let b : o.last ≡ 45_320 = ap (λ (q : Obligation). q.last) is in
        (omega arith, omega arith))
    | inr rest ↦ elim rest [
      | inl is ↦ (let a : o.first ≡ 45_292 = ap (λ (q : Obligation). q.first) is in
          let b : o.last ≡ 45_294 = ap (λ (q : Obligation). q.last) is in
          (omega arith, omega arith))
      | inr none ↦ absurd none
    ]
  ];
}

-- the year was monthly, and is semiweekly
year_differs : AreOnOtherSchedules (monthly_year ∷ []) (semiweekly_year ∷ []) (semiweekly_year ∷ [])
year_differs = all_those year_of_line (IsOnOtherSchedule (monthly_year ∷ [])) (semiweekly_year ∷ [])
    ((λ later has. absurd has), tt)
    (λ line has old was same. elim has [
      | inl is ↦ elim was [
        | inl monthly ↦ not_both (ap (λ (l : YearLine). l.opening) (sym monthly)
            ∙ same.1 ∙ ap (λ (l : YearLine). l.opening) is)
        | inr none ↦ none
      ]
      | inr none ↦ none
    ])
  where
    not_both : kind.Monthly ≡ kind.Semiweekly → ⊥
    not_both e = absurd cc

pub quarter_corrected : Step before
    (request.Correct 1 (correction.Total elm (Quarter 493) (cents 1_250_001)))
    (Ok (reply.Posted moved)) after
unfolding owed_before owed_after is_account_name month_of month_from month_start
quarter_corrected = (
  refl,
  tells_difference closed_days (entries_of before elm) (entries_of after elm) 45_015 moved
      (january 45_335 88_250 ∷ []) (early_january 45_299 88_250 ∷ []) owed_before owed_after
      (only_there (january 45_335 88_250) (early_january 45_299 88_250) (λ e. omega arith))
      (only_there (early_january 45_299 88_250) (january 45_335 88_250) (λ e. omega arith))
      (inl spans_january) year_differs,
)
