-- The same entries of an account in another order: its lines, its obligations, and what was paid
-- are the same.
use Rattle.std.proofs.Common.{◌≡◌, ◌∙◌, inl, inr, refl, sym, ap, subst, ℕ, ◌+◌, ◌-◌}
use Rattle.std.proofs.Common.{cond, List, [], ◌∷◌, map, map-id, arith}
use Rattle.std.specs.Prelude.{min}
use Rattle.std.specs.List.{sum_by}
use Rattle.std.specs.List.Sorted.{IsPermutation}
use Rattle.std.proofs.lemmas.List.Sorted.{IsPermutation-sym}
use Rattle.std.proofs.lemmas.List.Sorted.{sum_by-IsPermutation}
use Rattle.std.proofs.lemmas.Bool.{cases_Bool}
use Rattle.std.proofs.lemmas.List.Sums.{sum_by-cons}
use Rattle.ftd_days.specs.Business.{is_holiday}
use Rattle.ftd_days.specs.declared.cents.Cents.{Cents}
use Rattle.ftd_rules.specs.declared.DaySum.{DaySum}
use Rattle.ftd_rules.specs.declared.Form.{Form}
use Rattle.ftd_rules.specs.declared.Form.TheVariants.{F941, F943}
use Rattle.ftd_rules.specs.declared.Obligation.{Obligation}
use Rattle.ftd_rules.specs.declared.YearLine.{YearLine}
use Rattle.ftd_rules.specs.declared.payment.Payment.{Payment}
use Rattle.ftd_rules.specs.declared.run.PayRun.{PayRun}
use Rattle.ftd_rules.specs.declared.run.Voidable.{Voidable}
use Rattle.ftd_rules.specs.Liability.{liability, share}
use Rattle.ftd_rules.specs.Lists.{Has}
use Rattle.ftd_rules.specs.Lookback.{Counts, IsLookback, IsMissing}
use Rattle.ftd_rules.specs.Lookback.{IsYearLookback, lookback_first}
use Rattle.ftd_rules.specs.Obligations.{AreObligations, IsObligation}
use Rattle.ftd_rules.specs.Payments.{counts_by, paid_by}
use Rattle.ftd_rules.specs.Stops.{AreStops}
use Rattle.ftd_rules.specs.Years.{HasSchedule}
use Rattle.ftd_rules.proofs.Members.{filter_in, filter_out, has_mapped, mapped_has}
use Rattle.ftd_rules.proofs.Rising.{has_permuted}
use Rattle.ftd_machine.specs.History.{AreLinesOf, AreOwed, HasLookback, IsLookbackOn, IsMissingOn}
use Rattle.ftd_machine.specs.History.{LacksFigure, figure_of, figures, form_of, is_live}
use Rattle.ftd_machine.specs.History.{liability_of, live, live_payments, live_sums}
use Rattle.ftd_machine.specs.History.{quarter_figures, start_of, value_of, year_figures}
use Rattle.ftd_machine.specs.State.{Entries, Entry, all_at, kept_at, latest}
use Rattle.ftd_machine.specs.declared.replies.Refusal.{Refusal}
use Rattle.ftd_machine.proofs.SameDays.{due_to}

-- ---- an account's entries in another order

-- the account as it is, with the lists of others in place of its own
abbrev pub with_lists : Entries → Entries → Entries
with_lists own other = record own {
  reported = other.reported;
  reported_years = other.reported_years;
  runs = other.runs;
  payments = other.payments;
  corrected = other.corrected;
  corrected_years = other.corrected_years;
}

-- entries in another order, with the same under each key
pub record IsReordered {X : Type 0} (xs ys : List (Entry X)) : Type 0 where
  pub moved : IsPermutation xs ys
  pub kept : (key : ℕ) → kept_at key ys ≡ kept_at key xs

-- those of an account: corrections of one key stay in their order
pub record AreReordered (own other : Entries) : Type 0 where
  pub reported : IsReordered own.reported other.reported
  pub reported_years : IsReordered own.reported_years other.reported_years
  pub runs : IsReordered own.runs other.runs
  pub payments : IsReordered own.payments other.payments
  pub corrected : (key : ℕ) → all_at key other.corrected ≡ all_at key own.corrected
  pub corrected_years : (key : ℕ)
      → all_at key other.corrected_years ≡ all_at key own.corrected_years

-- the one in another order is the other in another order
reordered_back : {X : Type 0} (xs ys : List (Entry X)) → IsReordered xs ys → IsReordered ys xs
reordered_back xs ys same = record {
  moved = IsPermutation-sym xs ys same.moved;
  kept = λ key. sym (same.kept key);
}

-- and so of all entries of an account
pub entries_back : (own other : Entries) → AreReordered own other
    → AreReordered (with_lists own other) own
entries_back own other same = record {
  reported = reordered_back own.reported other.reported same.reported;
  reported_years = reordered_back own.reported_years other.reported_years same.reported_years;
  runs = reordered_back own.runs other.runs same.runs;
  payments = reordered_back own.payments other.payments same.payments;
  corrected = λ key. sym (same.corrected key);
  corrected_years = λ key. sym (same.corrected_years key);
}

-- ---- sums

-- what the live ones of the entries add up to is what each entry adds
live_adds : {X Y : Type 0} (of : X → Y) (f : Y → ℕ) (es : List (Entry (Voidable X)))
    → sum_by f (map of (live es)) ≡ sum_by (λ e. cond (is_live e) (f (of (value_of e))) 0) es
live_adds of f [] = refl
live_adds {X} of f (e ∷ es) =
    let adds : Entry (Voidable X) → ℕ = λ d. cond (is_live d) (f (of (value_of d))) 0 in
    let rest : sum_by f (map of (live es)) ≡ sum_by adds es = live_adds of f es in
    let more = sum_by-cons adds e es in
    elim (cases_Bool (is_live e)) [
      | inl kept ↦
          let here : adds e ≡ f (of (value_of e)) = rw kept refl in
          let all : sum_by f (map of (live (e ∷ es)))
          ≡ f (of (value_of e)) + sum_by f (map of (live es)) =
          ap (λ (ds : List (Entry (Voidable X))). sum_by f (map of (map value_of ds)))
          (filter_in is_live e es kept) ∙ sum_by-cons f (of (value_of e)) (map of (live es)) in
          omega arith
      | inr void ↦
          let here : adds e ≡ 0 = rw void refl in
          let all : sum_by f (map of (live (e ∷ es))) ≡ sum_by f (map of (live es)) =
          ap (λ (ds : List (Entry (Voidable X))). sum_by f (map of (map value_of ds)))
          (filter_out is_live e es void) in
          omega arith
    ]

-- runs in another order owe the same for each run of days
owes_same : (xs ys : List (Entry (Voidable PayRun))) → IsPermutation xs ys
    → liability (map liability_of (live ys)) ≡ liability (map liability_of (live xs))
owes_same xs ys moved =
    λ i first last. (let adds : Entry (Voidable PayRun) → ℕ =
    λ e. cond (is_live e) (share first last (liability_of (value_of e))) 0 in
    live_adds liability_of (share first last) ys ∙ sum_by-IsPermutation adds xs ys moved
    ∙ sym (live_adds liability_of (share first last) xs)) i

-- payments in another order pay the same
paid_same : (xs ys : List (Entry (Voidable Payment))) → IsPermutation xs ys
    → paid_by (live ys) ≡ paid_by (live xs)
paid_same xs ys moved =
    λ i first last as_of day. (let counts : Payment → ℕ = counts_by first last (min day as_of) in
    let adds : Entry (Voidable Payment) → ℕ =
    λ e. cond (is_live e) (counts (value_of e)) 0 in
    ap (sum_by counts) (sym (map-id (live ys))) ∙ live_adds (λ p. p) counts ys
    ∙ sum_by-IsPermutation adds xs ys moved ∙ sym (live_adds (λ p. p) counts xs)
    ∙ ap (sum_by counts) (map-id (live xs))) i

-- ---- the lookback period

-- totals in another order have the same figures in force
figures_have : (xs ys corrected others : List (Entry Cents)) → IsPermutation xs ys
    → ((key : ℕ) → all_at key others ≡ all_at key corrected)
    → (x : ℕ × Cents) → Has (figures xs corrected) x → Has (figures ys others) x
figures_have xs ys corrected others moved same x has =
    let from = has_mapped (figure_of corrected) xs x has in
    let e = from.0 in
    let is : figure_of others e ≡ x =
    ap (λ later. (e.key, latest e.content later)) (same e.key) ∙ sym from.2 in
    subst (Has (figures ys others)) is (mapped_has (figure_of others) ys e
    (has_permuted ys xs (IsPermutation-sym xs ys moved) e from.1))

module _ (xs ys : List (ℕ × Cents)) (to : (x : ℕ × Cents) → Has xs x → Has ys x) where
  -- a quarter counts the same where the figures are the same
  counts_to : (start quarter : ℕ) (amount : Cents) → Counts xs start quarter amount
      → Counts ys start quarter amount
  counts_to start quarter amount (inl before) = inl before
  counts_to start quarter amount (inr there) = inr (there.0, to (quarter, amount) there.1)

  -- so the lookback total on Form 941 is the same
  lookback_to : (start year total : ℕ) → IsLookback xs start year total
      → IsLookback ys start year total
  lookback_to start year total x =
      let n = lookback_first year in
      record {
        first = x.first;
        second = x.second;
        third = x.third;
        fourth = x.fourth;
        count = (
          counts_to start n x.first x.count.0,
          counts_to start (n + 1) x.second x.count.1,
          counts_to start (n + 2) x.third x.count.2,
          counts_to start (n + 3) x.fourth x.count.3,
        );
        adds_up = x.adds_up;
      }

  -- and so is that on Form 943
  year_lookback_to : (start year : ℕ) (amount : Cents) → IsYearLookback xs start year amount
      → IsYearLookback ys start year amount
  year_lookback_to start year amount (inl before) = inl before
  year_lookback_to start year amount (inr there) = inr (there.0, to (year - 2, amount) there.1)

  -- what is missing among more figures is missing among these
  missing_to : (start quarter : ℕ) → IsMissing ys start quarter → IsMissing xs start quarter
  missing_to start quarter x = (x.0, λ amount has. x.1 amount (to (quarter, amount) has))

-- ---- an account's history

module _ (own other : Entries) (same : AreReordered own other) where
  -- the account with its entries in another order
  abbrev others : Entries
  others = with_lists own other

  -- its figures are the same, of quarters and of years, and the other way round
  quarters_have : (x : ℕ × Cents) → Has (quarter_figures own) x → Has (quarter_figures others) x
  quarters_have =
      figures_have own.reported other.reported own.corrected other.corrected same.reported.moved
      same.corrected

  years_have : (x : ℕ × Cents) → Has (year_figures own) x → Has (year_figures others) x
  years_have =
      figures_have own.reported_years other.reported_years own.corrected_years
      other.corrected_years same.reported_years.moved same.corrected_years

  quarters_back : (x : ℕ × Cents) → Has (quarter_figures others) x → Has (quarter_figures own) x
  quarters_back =
      figures_have other.reported own.reported other.corrected own.corrected
      (IsPermutation-sym own.reported other.reported same.reported.moved)
      (λ key. sym (same.corrected key))

  years_back : (x : ℕ × Cents) → Has (year_figures others) x → Has (year_figures own) x
  years_back =
      figures_have other.reported_years own.reported_years other.corrected_years
      own.corrected_years
      (IsPermutation-sym own.reported_years other.reported_years same.reported_years.moved)
      (λ key. sym (same.corrected_years key))

  -- the lookback total by either form is the same
  lookback_on_to : (form : Form) (year : ℕ) (total : Cents) → IsLookbackOn form own year total
      → IsLookbackOn form others year total
  lookback_on_to F941 year total x =
      lookback_to (quarter_figures own) (quarter_figures others) quarters_have
      (start_of own.account) year total.0 x
  lookback_on_to F943 year total x =
      year_lookback_to (year_figures own) (year_figures others) years_have
      (start_of own.account) year total x

  -- the lookback total is the same
  pub total_to : (year : ℕ) (total : Cents) → HasLookback own year total
      → HasLookback others year total
  total_to year total x = lookback_on_to (form_of own.account) year total x

  -- the figure that is missing first by either form is the same
  missing_on_to : (form : Form) (year : ℕ) (refusal : Refusal)
      → IsMissingOn form own year refusal → IsMissingOn form others year refusal
  missing_on_to F941 year refusal x =
      let xs = quarter_figures own in
      let ys = quarter_figures others in
      let start = start_of own.account in (
        x.0,
        (
          x.1.0,
          missing_to ys xs quarters_back start x.0 x.1.1,
          λ earlier has less is. x.1.2 earlier has less
              (missing_to xs ys quarters_have start earlier is),
        ),
        x.2,
      )
  missing_on_to F943 year refusal x = (
    x.0,
    (x.1.0, x.1.1, λ amount has. x.1.2 amount (years_back (x.0, amount) has)),
    x.2,
  )

  -- and so is the figure that is missing first
  pub lacks_to : (year : ℕ) (refusal : Refusal) → LacksFigure own year refusal
      → LacksFigure others year refusal
  lacks_to year refusal x = missing_on_to (form_of own.account) year refusal x

  -- its live runs owe the same
  pub owes : liability (live_sums others) ≡ liability (live_sums own)
  owes = owes_same own.runs other.runs same.runs.moved

  -- its live payments pay the same
  pub paid : paid_by (live_payments others) ≡ paid_by (live_payments own)
  paid = paid_same own.payments other.payments same.payments.moved

  -- so its lines are the same
  pub lines_to : (lines : List YearLine) → AreLinesOf own lines → AreLinesOf others lines
  lines_to lines x = record {
    years = x.years;
    lookbacks = λ line has. total_to line.year line.lookback (x.lookbacks line has);
    carried = x.carried;
    schedules = record {
      years = x.schedules.years;
      schedules = λ line has. subst (λ L. HasSchedule lines L line) (sym owes)
          (x.schedules.schedules line has);
    };
  }

-- ---- obligations

module _ (form : Form) (lines : List YearLine) where
  -- an obligation is one where the days owe the same and the same days are holidays
  obligation_to : (h g : List ℕ) (sums later : List DaySum)
      → ((day : ℕ) → is_holiday g day ≡ is_holiday h day) → liability later ≡ liability sums
      → (o : Obligation) → IsObligation form lines sums h o → IsObligation form lines later g o
  obligation_to h g sums later days owes o x = record {
    line = x.line;
    open_year = x.open_year;
    period_first = x.period_first;
    period_last = x.period_last;
    period = x.period;
    status = x.status;
    has_status = x.has_status;
    stops = x.stops;
    are_stops = subst (λ L. AreStops L x.period_first x.period_last x.stops) (sym owes)
        x.are_stops;
    piece = x.piece;
    amount = x.amount ∙ ap (λ (L : ℕ → ℕ → ℕ). L o.first o.last) (sym owes);
    positive = x.positive;
    due = due_to h g days o.rule o.last o.due x.due;
  }

  -- so the obligations are the same
  obligations_to : (h g : List ℕ) (sums later : List DaySum)
      → ((day : ℕ) → is_holiday g day ≡ is_holiday h day) → liability later ≡ liability sums
      → (rows : List Obligation) → AreObligations form lines sums h rows
      → AreObligations form lines later g rows
  obligations_to h g sums later days owes rows x = record {
    by_first_day = x.by_first_day;
    all = λ o. (
      (λ has. obligation_to h g sums later days owes o ((x.all o).0 has)),
      (λ is. (x.all o).1 (obligation_to g h later sums (λ day. sym (days day)) (sym owes) o is)),
    );
  }

-- the same is owed
module _ (h g : List ℕ) (own other : Entries)
    (days : (day : ℕ) → is_holiday g day ≡ is_holiday h day) (same : AreReordered own other) where
  -- those of an account whose entries stand in another order
  pub rows_to : (lines : List YearLine) (rows : List Obligation)
      → AreObligations (form_of own.account) lines (live_sums own) h rows
      → AreObligations (form_of own.account) lines (live_sums (with_lists own other)) g rows
  rows_to lines rows x =
      obligations_to (form_of own.account) lines h g (live_sums own)
      (live_sums (with_lists own other)) days (owes own other same) rows x

  -- so what is owed is the same
  pub owed_to : (rows : List Obligation) → AreOwed h own rows
      → AreOwed g (with_lists own other) rows
  owed_to rows x = (x.0, lines_to own other same x.0 x.1, rows_to x.0 rows x.2)
