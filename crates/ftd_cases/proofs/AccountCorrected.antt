-- A worked case: an account is corrected. `ash`, on Form 941, was enrolled with 1 January 2024 as
-- its first day. It began on Friday 30 June 2023: so the quarter 2023Q2, which does not end before
-- that day, counts for the lookback period of 2024, and has to be reported before the year is
-- opened. A day is the number of days after 1 January 1900, a quarter that of quarters after the
-- first of 1900, an amount its cents.
use Rattle.std.proofs.Common.{◌≡◌, ◌∙◌, inl, inr, refl, sym, ap, subst, ℕ, ◌+◌, ◌<◌, arith}
use Rattle.std.proofs.Common.{false, List, [], ◌∷◌, Ok, Err}
use Rattle.std.specs.Prelude.{codes}
use Rattle.std.proofs.lemmas.Bool.{leb-true, ltb-true}
use Rattle.ftd_days.specs.Calendar.{month_of, month_from, month_start, quarter_start}
use Rattle.ftd_rules.specs.Accounts.{is_account_name}
use Rattle.ftd_rules.specs.declared.Form.TheVariants.{F941}
use Rattle.ftd_rules.specs.Lists.{Has}
use Rattle.ftd_rules.specs.Lookback.{lookback_quarters, IsMissing, IsFirstMissing}
use Rattle.ftd_machine.specs.State.{State, Enrolled, nothing, entries_of}
use Rattle.ftd_machine.specs.History.{HasLookback}
use Rattle.ftd_machine.specs.Kept.{IsEnrolled}
use Rattle.ftd_machine.specs.Runs.{IsRun}
use Rattle.ftd_machine.specs.Step.{Step}
use Rattle.ftd_machine.specs.Told.{kept_answer}
use Rattle.ftd_machine.specs.declared.entries.Account.{Account}
use Rattle.ftd_machine.specs.declared.entries.ReturnPeriod.TheVariants.{Quarter}
use Rattle.ftd_machine.specs.declared.kept.KeptAccount.{KeptAccount}
use Rattle.ftd_machine.specs.declared.kept.KeptRows.TheVariants as rows
use Rattle.ftd_machine.specs.declared.replies.Reply.TheVariants.{Done, Already}
use Rattle.ftd_machine.specs.declared.replies.Refusal.TheVariants.{CorrectionDiffers, NumberSkipped}
use Rattle.ftd_machine.specs.declared.replies.Refusal.TheVariants.{QuarterMissing, AccountInUse}
use Rattle.ftd_machine.specs.declared.requests.Correction.TheVariants as correction
use Rattle.ftd_machine.specs.declared.requests.Entry.TheVariants as entry
use Rattle.ftd_machine.specs.declared.requests.KeptList.TheVariants as list
use Rattle.ftd_machine.specs.declared.requests.Question.TheVariants as question
use Rattle.ftd_machine.specs.declared.requests.Request.{Request}
use Rattle.ftd_machine.specs.declared.requests.Request.TheVariants as request
use Rattle.ftd_machine.proofs.KeptOne.{account_one}
use Rattle.ftd_cases.proofs.January.{cents}
use Rattle.ftd_cases.proofs.Listing.{only}
use Rattle.ftd_cases.proofs.Named.{enrolled_under}

-- ---- what is kept

abbrev ash : List ℕ
ash = codes "ash"

abbrev begins : ℕ → Account
begins start = record { start = start; carried = false; form = F941 }

abbrev enrolled : State
enrolled = record nothing {
  accounts = record { name = ash; account = begins 45_290 } ∷ [];
  calendars = record { year = 2024; days = [] } ∷ record { year = 2025; days = [] } ∷ [];
}

abbrev moved : State
moved = record enrolled {
  moved = record { name = ash; beginning = record { start = 45_105; carried = false } } ∷ [];
}

abbrev reported : State
reported = record moved {
  reported = record { name = ash; key = 493; content = cents 100 } ∷ [];
}

abbrev opened : State
opened = record reported { open_years = record { name = ash; key = 2024; content = tt } ∷ [] }

-- ---- the requests

abbrev correct : ℕ → ℕ → Request
correct number start =
    request.Correct number
    (correction.Account ash (record { start = start; carried = false }))

abbrev open_2024 : Request
open_2024 = request.Enter (entry.Year ash 2024)

-- ---- what is answered

-- the list of accounts has the first day that is in force
abbrev in_force : KeptAccount
in_force = record { name = ash; account = begins 45_105 }

only_ash : (x : KeptAccount) → IsEnrolled moved x → x ≡ in_force
only_ash x is =
    let found = enrolled_under moved x.name x.account is in
    elim found.1 [
      | inl same ↦
          (let named : x.name ≡ ash = sym found.2 ∙ ap (λ (e : Enrolled). e.name) same in
          account_one moved x in_force named is refl)
      | inr none ↦ absurd none
    ]

accounts_listed : Step moved (request.Question (question.Kept list.Accounts))
    (kept_answer (rows.Accounts (in_force ∷ []))) moved
accounts_listed = (
  refl,
  record {
    listed = in_force ∷ [];
    by_name = ((λ later has. absurd has), tt);
    all = λ x. (
      only (IsEnrolled moved) in_force refl x,
      (λ is. inl (only_ash x is)),
    );
    told = refl;
  },
)

-- 2023Q2 is the only quarter of the lookback period that does not end before 30 June 2023
ends_before : (earlier : ℕ) → Has (lookback_quarters 2024) earlier → earlier < 493
    → IsMissing [] 45_105 earlier → ⊥
unfolding month_start
ends_before earlier (inl is) less missing =
    let m : 45_105 < 44_833 = subst (λ q. 45_105 < quarter_start (q + 1)) is missing.0 in
    omega arith
ends_before earlier (inr (inl is)) less missing =
    let m : 45_105 < 44_925 = subst (λ q. 45_105 < quarter_start (q + 1)) is missing.0 in
    omega arith
ends_before earlier (inr (inr (inl is))) less missing =
    let m : 45_105 < 45_015 = subst (λ q. 45_105 < quarter_start (q + 1)) is missing.0 in
    omega arith
ends_before earlier (inr (inr (inr (inl is)))) less missing =
    let e : earlier ≡ 493 = is in omega arith
ends_before earlier (inr (inr (inr (inr none)))) less missing = none

second_quarter_missing : IsFirstMissing [] 45_105 2024 493
unfolding month_start
second_quarter_missing = (
  inr (inr (inr (inl refl))),
  (ltb-true _ _ refl, (λ amount has. has)),
  ends_before,
)

not_opened : Step moved open_2024 (Err (QuarterMissing 493)) moved
unfolding is_account_name month_of month_from month_start
not_opened = inl (QuarterMissing 493, (493, second_quarter_missing, refl), (refl, refl))

-- with 1.00 reported for 2023Q2
lookback_of_a_dollar : HasLookback (entries_of reported ash) 2024 (cents 100)
unfolding month_start
lookback_of_a_dollar = record {
  first = cents 0;
  second = cents 0;
  third = cents 0;
  fourth = cents 100;
  count = (
    inl (leb-true _ _ refl, refl),
    inl (leb-true _ _ refl, refl),
    inl (leb-true _ _ refl, refl),
    inr (ltb-true _ _ refl, inl refl),
  );
  adds_up = refl;
}

year_opened : Step reported open_2024 (Ok Done) opened
unfolding is_account_name month_of month_from month_start
year_opened = inr (cents 100, lookback_of_a_dollar, (refl, refl))

-- corrected once; the same again, another day and another number are told apart; the account is
-- listed as it is in force; the year is not opened before 2023Q2 is reported, and from then on the
-- account is not corrected
account_corrected : IsRun enrolled
    (correct 1 45_105 ∷ correct 1 45_105 ∷ correct 1 45_106 ∷ correct 3 45_106
    ∷ request.Question (question.Kept list.Accounts) ∷ open_2024
    ∷ request.Enter (entry.Total ash (Quarter 493) (cents 100)) ∷ correct 2 45_106 ∷ open_2024 ∷ [])
    (Ok Done ∷ Ok Already ∷ Err CorrectionDiffers ∷ Err (NumberSkipped 1)
    ∷ kept_answer (rows.Accounts (in_force ∷ [])) ∷ Err (QuarterMissing 493) ∷ Ok Done
    ∷ Err AccountInUse ∷ Ok Done ∷ []) opened
unfolding is_account_name month_of month_from month_start
account_corrected =
    step moved (inl (refl, refl)) (step moved (inl (refl, refl)) (step moved (inl (refl, refl))
    (step moved (inl (refl, refl)) (step moved (inl accounts_listed)
    (step moved (inl not_opened) (step reported (inl (refl, refl))
    (step reported (inl (refl, refl)) (step opened (inl year_opened) refl))))))))
  where
    -- one more request, after which the state is `next`
    step : {Goes Rest : State → Type 0} (next : State) → Goes next → Rest next
        → (after : State) × Goes after × Rest after
    step next goes rest = (next, goes, rest)
