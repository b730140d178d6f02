-- What is kept can be listed.
use Rattle.std.proofs.Common.{◌≡◌, ◌∙◌, ◌⊎◌, inl, inr, refl, sym, ap, subst, ℕ, true}
use Rattle.std.proofs.Common.{List, [], ◌∷◌, Option, None, Some, arith, rules, ◌≤◌}
use Rattle.std.specs.Prelude.{◌↔◌}
use Rattle.std.proofs.lemmas.Bool.Decides.{eqb_tells}
use Rattle.std.specs.Prelude.{option_map, map}
use Rattle.std.proofs.lemmas.Option.{same_Some}
use Rattle.std.proofs.lemmas.Bool.{cases_lt}
use Rattle.ftd_days.specs.Calendar.{year_of, quarter_of}
use Rattle.ftd_days.specs.declared.cents.Cents.{Cents}
use Rattle.ftd_days.proofs.Spelling.{same_text}
use Rattle.ftd_rules.specs.declared.Form.{Form}
use Rattle.ftd_rules.specs.declared.Form.TheVariants.{F941, F943}
use Rattle.ftd_rules.specs.declared.Obligation.{Obligation}
use Rattle.ftd_rules.specs.declared.YearLine.{YearLine}
use Rattle.ftd_rules.specs.declared.payment.Payment.{Payment}
use Rattle.ftd_rules.specs.declared.run.PayRun.{PayRun}
use Rattle.ftd_rules.specs.declared.run.Voidable.{Voidable}
use Rattle.ftd_rules.specs.Lists.{Has}
use Rattle.ftd_rules.specs.Laws.{Covers}
use Rattle.ftd_machine.specs.State.{State, Enrolled, Entries, Entry, entries_of, holidays}
use Rattle.ftd_machine.specs.State.{calendar_at, is_given, kept_at, account_of, is_named}
use Rattle.ftd_machine.specs.State.{figure_at, in_force_at, latest, all_at, reported_at}
use Rattle.ftd_machine.specs.History.{form_of, AreLinesOf, HasLookback}
use Rattle.ftd_machine.specs.Checks.{Answer, first_of}
use Rattle.ftd_machine.specs.Agenda.{EachToLater}
use Rattle.ftd_machine.specs.Limits.{can_have_calendar}
use Rattle.ftd_machine.specs.Requests.{form_for}
use Rattle.ftd_machine.specs.Told.{kept_answer}
use Rattle.ftd_machine.specs.Kept.{IsEnrolled, IsAccountBefore, AreAccounts, IsTotal}
use Rattle.ftd_machine.specs.Kept.{period_number, IsTotalBefore, AreTotals, IsAdded, IsDayBefore}
use Rattle.ftd_machine.specs.Kept.{AreHolidays, IsRunIn, IsRunBefore, AreRuns, IsHeldBy}
use Rattle.ftd_machine.specs.Kept.{IsPaymentIn, IsPaymentBefore, ArePayments, kept_checks}
use Rattle.ftd_machine.specs.Kept.{TellsKept, as_first_reported, line_of, AreYears, kept_days}
use Rattle.ftd_machine.specs.declared.entries.ReturnPeriod.{ReturnPeriod}
use Rattle.ftd_machine.specs.declared.entries.ReturnPeriod.TheVariants.{Quarter, Year}
use Rattle.ftd_machine.specs.declared.kept.KeptAccount.{KeptAccount}
use Rattle.ftd_machine.specs.declared.kept.KeptPayment.{KeptPayment}
use Rattle.ftd_machine.specs.declared.kept.KeptRun.{KeptRun}
use Rattle.ftd_machine.specs.declared.kept.KeptTotal.{KeptTotal}
use Rattle.ftd_machine.specs.declared.kept.KeptYear.{KeptYear}
use Rattle.ftd_machine.specs.declared.kept.KeptRows.TheVariants as rows
use Rattle.ftd_machine.specs.declared.replies.Refusal.TheVariants.{BadYear, CalendarMissing}
use Rattle.ftd_machine.specs.declared.requests.KeptList.{KeptList}
use Rattle.ftd_machine.specs.declared.requests.KeptList.TheVariants.{Accounts, Years, Reported}
use Rattle.ftd_machine.specs.declared.requests.KeptList.TheVariants.{Holidays, Runs, Payments}
use Rattle.ftd_machine.proofs.Heads.{gives_needs, skip_needs}
use Rattle.ftd_machine.proofs.Members.{enrolled_of, found_some, some_of}
use Rattle.ftd_machine.proofs.Lined.{owed_some}
use Rattle.ftd_machine.proofs.Totals.{lookback_again}
use Rattle.ftd_machine.proofs.DueSome.{Or, both_or, le_or}
use Rattle.ftd_machine.proofs.Choosing.{chosen, made_some, kept_some, IsKeptAs}
use Rattle.ftd_machine.proofs.Ordered.{ordered_some}
use Rattle.ftd_machine.proofs.AgendaOrder.{names_total, three, names_then}
use Rattle.ftd_machine.proofs.KeptOne.{held_one, payday_of, run_number, day_paid_for}
use Rattle.ftd_machine.proofs.KeptOne.{payment_number, two_then, two_total, account_one, run_one}
use Rattle.ftd_machine.proofs.KeptOne.{payment_one}

same_or : (a b : ℕ) → Or (a ≡ b)
same_or a b = elim (eqb_tells a b) [ inl here ↦ inl here.1 | inr apart ↦ inr apart.1 ]

-- those of the list that have this key
chosen_at : {X : Type 0} (key : X → ℕ) (k : ℕ) (xs : List X)
    → (ys : List X) × ((x : X) → Has ys x ↔ (Has xs x × (key x ≡ k)))
chosen_at key k xs = chosen (λ x. key x ≡ k) (λ x. same_or (key x) k) xs

-- a row for each key under which something is kept, where the row has this key
kept_in : {X R : Type 0} (make : ℕ → X → R) (entries : List (Entry X)) (key : R → ℕ) (k : ℕ)
    → (rows : List R) × ((r : R) → Has rows r ↔ (IsKeptAs make entries r × (key r ≡ k)))
kept_in make entries key k =
    let made = kept_some make entries in
    let some = chosen_at key k made.0 in (
      some.0,
      λ r. (
        (λ has. let h = (some.1 r).0 has in ((made.1 r).0 h.0, h.1)),
        (λ h. (some.1 r).1 ((made.1 r).1 h.0, h.1)),
      ),
    )

-- all that meet a condition, in order, where they are among these
module _ {X : Type 0} (R : X → X → Type 0) (P : X → Type 0)
    (then : (x y z : X) → R x y → R y z → R x z)
    (total : (x y : X) → P x → P y → R x y ⊎ ((x ≡ y) ⊎ R y x)) where
  pub all_in_order : (xs : List X) → ((x : X) → Has xs x ↔ P x)
      → (ys : List X) × EachToLater R ys × ((x : X) → Has ys x ↔ P x)
  all_in_order xs are =
      let some = ordered_some R P then total xs (λ x has. (are x).0 has) in (
        some.0,
        some.1,
        λ x. (
          (λ has. (are x).0 ((some.2 x).0 has)),
          (λ p. (some.2 x).1 ((are x).1 p)),
        ),
      )

-- ---- accounts

accounts_total : (s : State) (x y : KeptAccount) → IsEnrolled s x → IsEnrolled s y
    → IsAccountBefore x y ⊎ ((x ≡ y) ⊎ IsAccountBefore y x)
accounts_total s x y g h = elim (names_total x.name y.name) [
  | inl less ↦ inl less
  | inr not ↦ elim not [
    | inl same ↦ inr (inl (account_one s x y same g h))
    | inr more ↦ inr (inr more)
  ]
]

accounts_some : (s : State) → (answer : Answer) × AreAccounts s answer
accounts_some s =
    let made = made_some (λ (e : Enrolled). (entries_of s e.name).account)
    (λ (e : Enrolled) account. record { name = e.name; account = account }) s.accounts in
    let are : (x : KeptAccount) → Has made.0 x ↔ IsEnrolled s x = λ x. (
      (λ has.
          (let h = (made.1 x).0 has in
          subst (IsEnrolled s) (sym h.2.2) h.2.1)),
      (λ is.
          (let was = enrolled_of s x.name x.account is in
          let found = found_some account_of (is_named x.name) s.accounts was.0 was.1 in
          let named : x.name ≡ found.0.name = sym (same_text found.0.name x.name found.2) in
          (made.1 x).1 (
            found.0,
            found.1,
            (
              x.account,
              subst (λ n. (entries_of s n).account ≡ Some x.account) named is,
              ap (λ n. record { name = n; account = x.account }) named,
            ),
          ))),
    ) in
    let listed = all_in_order IsAccountBefore (IsEnrolled s)
    (λ x y z. names_then x.name y.name z.name) (accounts_total s) made.0 are in (
      kept_answer (rows.Accounts listed.0),
      record { listed = listed.0; by_name = listed.1; all = listed.2; told = refl },
    )

-- ---- open years

abbrev IsFirstLookback : Entries → KeptYear → Type 0
IsFirstLookback own x = HasLookback (as_first_reported own) x.line.year x.first_lookback

-- a line that has its lookback total has one by what was first reported
with_first : (own : Entries) (lines : List YearLine)
    → ((line : YearLine) → Has lines line → HasLookback own line.year line.lookback)
    → (xs : List KeptYear) × (map line_of xs ≡ lines)
    × ((x : KeptYear) → Has xs x → IsFirstLookback own x)
with_first own [] totals = ([], refl, λ x has. absurd has)
with_first own (line ∷ lines) totals =
    let first = lookback_again own (as_first_reported own) (search rules) line.year line.lookback
    (totals line (inl refl)) in
    let rest = with_first own lines (λ other has. totals other (inr has)) in
    let year : KeptYear = record { line = line; first_lookback = first.0 } in (
      year ∷ rest.0,
      ap (λ ls. line ∷ ls) rest.1,
      λ x has. elim has [
        | inl is ↦ subst (IsFirstLookback own) (sym is) first.1
        | inr later ↦ rest.2 x later
      ],
    )

years_some : (own : Entries) (name : List ℕ) (lines : List YearLine) → AreLinesOf own lines
    → (answer : Answer) × AreYears own name answer
years_some own name lines are =
    let made = with_first own lines are.lookbacks in (
      kept_answer (rows.Years name made.0),
      record {
        listed = made.0;
        are_lines = subst (AreLinesOf own) (sym made.1) are;
        first_lookbacks = made.2;
        told = refl;
      },
    )

-- ---- reported totals

-- the total of a quarter or of a year, by the form, and what is kept of it
abbrev period_for : Form → ℕ → ReturnPeriod
period_for F941 key = Quarter key
period_for F943 key = Year key

abbrev total_of : Form → ℕ → Cents → Cents → KeptTotal
total_of form key cents first = record {
  period = period_for form key;
  cents = cents;
  first = first;
}

abbrev number_of : KeptTotal → ℕ
number_of x = period_number x.period

abbrev reported_on : Form → Entries → List (Entry Cents)
reported_on F941 own = own.reported
reported_on F943 own = own.reported_years

abbrev corrected_on : Form → Entries → List (Entry Cents)
corrected_on F941 own = own.corrected
corrected_on F943 own = own.corrected_years

abbrev IsReported : Form → Entries → ℕ → Cents → Cents → Type 0
IsReported form own key cents first =
    (figure_at key (reported_on form own) (corrected_on form own) ≡ Some cents)
    × (kept_at key (reported_on form own) ≡ Some first)

-- each total is one of the form, of its key
period_is : (form : Form) (key : ℕ) (cents first : Cents)
    → number_of (total_of form key cents first) ≡ key
period_is F941 key cents first = refl
period_is F943 key cents first = refl

total_is : (form : Form) (own : Entries) (key : ℕ) (cents first : Cents)
    → IsReported form own key cents first → IsTotal form own (total_of form key cents first)
total_is F941 own key cents first h = record {
  of_form = refl;
  in_force = h.0;
  first_reported = h.1;
}
total_is F943 own key cents first h = record {
  of_form = refl;
  in_force = h.0;
  first_reported = h.1;
}

parts_at : (form : Form) (own : Entries) (period : ReturnPeriod) (was now : Cents)
    → form_for period ≡ form → in_force_at own period ≡ Some now
    → reported_at own period ≡ Some was → (key : ℕ) × (cents : Cents) × (first : Cents)
    × (record { period = period; cents = now; first = was } ≡ total_of form key cents first)
    × IsReported form own key cents first
parts_at F941 own (Quarter key) was now is force first = (key, now, was, refl, (force, first))
parts_at F941 own (Year key) was now is force first = absurd cc
parts_at F943 own (Quarter key) was now is force first = absurd cc
parts_at F943 own (Year key) was now is force first = (key, now, was, refl, (force, first))

total_parts : (form : Form) (own : Entries) (x : KeptTotal) → IsTotal form own x → (key : ℕ)
    × (cents : Cents) × (first : Cents) × (x ≡ total_of form key cents first)
    × IsReported form own key cents first
total_parts form own x h =
    parts_at form own x.period x.first x.cents h.of_form h.in_force h.first_reported

total_one : (form : Form) (own : Entries) (x y : KeptTotal) → number_of x ≡ number_of y
    → IsTotal form own x → IsTotal form own y → x ≡ y
total_one form own x y same g h =
    let a = total_parts form own x g in
    let b = total_parts form own y h in
    let key : a.0 ≡ b.0 = sym (period_is form a.0 a.1 a.2) ∙ ap number_of (sym a.3) ∙ same
    ∙ ap number_of b.3 ∙ period_is form b.0 b.1 b.2 in
    let other : IsReported form own a.0 b.1 b.2 =
    subst (λ k. IsReported form own k b.1 b.2) (sym key) b.4 in
    let cents : a.1 ≡ b.1 = same_Some a.1 b.1 (sym a.4.0 ∙ other.0) in
    let first : a.2 ≡ b.2 = same_Some a.2 b.2 (sym a.4.1 ∙ other.1) in
    a.3 ∙ (rw (key, cents, first) refl) ∙ sym b.3

-- what is in force of a total that was reported so
abbrev in_force_of : ℕ → List (Entry Cents) → Cents → Cents
in_force_of key corrected first = latest first (all_at key corrected)

-- the figure in force of what was reported so first
force_is : (key : ℕ) (reported corrected : List (Entry Cents)) (cents first : Cents)
    → figure_at key reported corrected ≡ Some cents → kept_at key reported ≡ Some first
    → cents ≡ in_force_of key corrected first
force_is key reported corrected cents first force was =
    same_Some cents (in_force_of key corrected first)
    (sym force ∙ ap (option_map (in_force_of key corrected)) was)

totals_are : (form : Form) (own : Entries)
    → (xs : List KeptTotal) × ((x : KeptTotal) → Has xs x ↔ IsTotal form own x)
totals_are form own =
    let corrected = corrected_on form own in
    let made = kept_some (λ key first. total_of form key (in_force_of key corrected first) first)
    (reported_on form own) in (
      made.0,
      λ x. (
        (λ has. (let h = (made.1 x).0 has in
            subst (IsTotal form own) (sym h.3) (total_is form own h.0
            (in_force_of h.0 corrected h.1) h.1
            (ap (option_map (in_force_of h.0 corrected)) h.2, h.2)))),
        (λ is. (let p = total_parts form own x is in
            (made.1 x).1 (
              p.0,
              p.2,
              p.4.1,
              p.3 ∙ ap (λ c. total_of form p.0 c p.2)
                  (force_is p.0 (reported_on form own) corrected p.1 p.2 p.4.0 p.4.1),
            ))),
      ),
    )

totals_some : (own : Entries) (name : List ℕ) → (answer : Answer) × AreTotals own name answer
totals_some own name =
    let form = form_of own.account in
    let made = totals_are form own in
    let listed = all_in_order IsTotalBefore (IsTotal form own) (λ x y z g h. omega arith)
    (λ x y g h. elim (three (number_of x) (number_of y)) [
      | inl less ↦ inl less
      | inr not ↦ elim not [
        | inl same ↦ inr (inl (total_one form own x y same g h))
        | inr more ↦ inr (inr more)
      ]
    ]) made.0 made.1 in (
      kept_answer (rows.Reported name listed.0),
      record { listed = listed.0; by_period = listed.1; all = listed.2; told = refl },
    )

-- ---- holidays

holidays_some : (s : State) (year : ℕ) → is_given s year ≡ true
    → (answer : Answer) × AreHolidays s year answer
holidays_some s year there =
    let given = some_of (calendar_at s year) there in
    let added = chosen_at year_of year s.added_days in
    let listed = all_in_order IsDayBefore (IsAdded s year) (λ x y z g h. omega arith)
    (λ x y g h. elim (three x y) [
      | inl less ↦ inl less
      | inr not ↦ inr not
    ]) added.0 added.1 in (
      kept_answer (rows.Holidays year (kept_days s given.0 listed.0)),
      search rules,
    )

-- ---- runs

runs_some : (own : Entries) (name : List ℕ) (quarter : ℕ)
    → (answer : Answer) × AreRuns own name quarter answer
runs_some own name quarter =
    let made = kept_in
    (λ number (v : Voidable PayRun). record { number = number; run = v.value; voided = v.voided })
    own.runs (λ (x : KeptRun). quarter_of x.run.payday) quarter in
    let are : (x : KeptRun) → Has made.0 x ↔ IsRunIn own quarter x = λ x. (
      (λ has. let h = (made.1 x).0 has in (
        subst (λ (r : KeptRun). kept_at r.number own.runs
            ≡ Some (record { value = r.run; voided = r.voided })) (sym h.0.3) h.0.2,
        h.1,
      )),
      (λ is. (made.1 x).1 (
        (x.number, record { value = x.run; voided = x.voided }, is.0, refl),
        is.1,
      )),
    ) in
    let listed = all_in_order IsRunBefore (IsRunIn own quarter) (two_then payday_of run_number)
    (λ x y g h. two_total payday_of run_number x y (run_one own quarter x y g h))
    made.0 are in (
      kept_answer (rows.Runs name quarter listed.0),
      record { listed = listed.0; in_order = listed.1; all = listed.2; told = refl },
    )

-- ---- payments

pub holds_or : (o : Obligation) (day : ℕ) → Or (Covers o day)
holds_or o day = both_or (le_or o.first day) (le_or day o.last)

-- one more obligation, where the first that holds the day begins so
held_by : (o it : Obligation) (os : List Obligation) (day first : ℕ) → Has (o ∷ os) it
    → Covers it day → it.first ≡ first → (Covers o day → first ≤ o.first)
    → ((p : Obligation) → Has os p → Covers p day → first ≤ p.first)
    → IsHeldBy (o ∷ os) day (Some first)
held_by o it os day first has holds is own each = (
  it,
  has,
  holds,
  is,
  λ p there also. elim there [
    | inl same ↦ subst (λ (q : Obligation). first ≤ q.first) (sym same)
        (own (subst (λ (q : Obligation). Covers q day) same also))
    | inr more ↦ each p more also
  ],
)

held_more : (o : Obligation) (os : List Obligation) (day : ℕ) → Or (Covers o day)
    → (found : Option ℕ) → IsHeldBy os day found
    → (found : Option ℕ) × IsHeldBy (o ∷ os) day found
held_more o os day (inr not) None none = (
  None,
  λ p has holds. elim has [
    | inl is ↦ not (subst (λ (q : Obligation). Covers q day) is holds)
    | inr more ↦ none p more holds
  ],
)
held_more o os day (inr not) (Some first) held = (
  Some first,
  held_by o held.0 os day first (inr held.1) held.2 held.3 (λ also. absurd (not also)) held.4,
)
held_more o os day (inl holds) None none = (
  Some o.first,
  held_by o o os day o.first (inl refl) holds refl (λ also. omega arith)
      (λ p more also. absurd (none p more also)),
)
held_more o os day (inl holds) (Some first) held = elim (cases_lt o.first first) [
  | inl less ↦ (
    Some o.first,
    held_by o o os day o.first (inl refl) holds refl (λ also. omega arith)
        (λ p more also. let least = held.4 p more also in omega arith),
  )
  | inr not ↦ (
    Some first,
    held_by o held.0 os day first (inr held.1) held.2 held.3 (λ also. omega arith) held.4,
  )
]

held_some : (owed : List Obligation) (day : ℕ) → (found : Option ℕ) × IsHeldBy owed day found
held_some [] day = (None, λ o has holds. has)
held_some (o ∷ os) day =
    let rest = held_some os day in held_more o os day (holds_or o day) rest.0 rest.1

payments_some : (hs : List ℕ) (own : Entries) (name : List ℕ) (lines : List YearLine)
    (quarter : ℕ)
    → AreLinesOf own lines → (answer : Answer) × ArePayments hs own name quarter answer
payments_some hs own name lines quarter are_lines =
    let owed = owed_some hs own lines are_lines in
    let made = kept_in
    (λ number (v : Voidable Payment). record {
      number = number;
      payment = v.value;
      voided = v.voided;
      obligation = (held_some owed.0 v.value.for_day).0;
    }) own.payments (λ (x : KeptPayment). quarter_of x.payment.for_day) quarter in
    let are : (x : KeptPayment) → Has made.0 x ↔ IsPaymentIn owed.0 own quarter x = λ x. (
      (λ has. let h = (made.1 x).0 has in (
        subst (λ (r : KeptPayment). kept_at r.number own.payments
            ≡ Some (record { value = r.payment; voided = r.voided })) (sym h.0.3) h.0.2,
        h.1,
        subst (λ (r : KeptPayment). IsHeldBy owed.0 r.payment.for_day r.obligation) (sym h.0.3)
            (held_some owed.0 h.0.1.value.for_day).1,
      )),
      (λ is.
          let held : x.obligation ≡ (held_some owed.0 x.payment.for_day).0 =
          held_one owed.0 x.payment.for_day x.obligation (held_some owed.0 x.payment.for_day).0 is.2
          (held_some owed.0 x.payment.for_day).1 in
          (made.1 x).1 (
            (
              x.number,
              record { value = x.payment; voided = x.voided },
              is.0,
              ap (λ o. record {
                number = x.number;
                payment = x.payment;
                voided = x.voided;
                obligation = o;
              }) held,
            ),
            is.1,
          )),
    ) in
    let listed = all_in_order IsPaymentBefore (IsPaymentIn owed.0 own quarter)
    (two_then day_paid_for payment_number)
    (λ x y g h. two_total day_paid_for payment_number x y
    (payment_one owed.0 own quarter x y g h)) made.0 are in (
      kept_answer (rows.Payments name quarter listed.0),
      search rules,
    )

-- ---- the question

given_of_holidays : (s : State) (year : ℕ) → first_of (kept_checks s (Holidays year)) ≡ None
    → is_given s year ≡ true
given_of_holidays s year e =
    (skip_needs (can_have_calendar year) BadYear _ _
    (gives_needs (is_given s year) (CalendarMissing year) [])).fact e

pub kept_told : (s : State) (kept : KeptList)
    → ((name : List ℕ) → (lines : List YearLine) × AreLinesOf (entries_of s name) lines)
    → first_of (kept_checks s kept) ≡ None → (answer : Answer) × TellsKept s kept answer
kept_told s Accounts lines e = accounts_some s
kept_told s (Years name) lines e = years_some (entries_of s name) name (lines name).0 (lines name).1
kept_told s (Reported name) lines e = totals_some (entries_of s name) name
kept_told s (Holidays year) lines e = holidays_some s year (given_of_holidays s year e)
kept_told s (Runs name quarter) lines e = runs_some (entries_of s name) name quarter
kept_told s (Payments name quarter) lines e =
    payments_some (holidays s) (entries_of s name) name (lines name).0 quarter (lines name).1
