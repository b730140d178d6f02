-- What is paid in full by the day to pay by is never late.
use Rattle.std.proofs.Common.{◌≡◌, ◌∙◌, ◌⊎◌, inl, inr, refl, sym, ap, subst, ℕ, ◌-◌, ◌<◌, ◌≤◌}
use Rattle.std.proofs.Common.{List, Bool, true, false, map, arith}
use Rattle.std.specs.Prelude.{◌&&◌, ◌==◌, min, IsSomeAnd}
use Rattle.std.specs.List.{sum_by}
use Rattle.std.proofs.lemmas.Bool.{cases_Bool, cases_lt}
use Rattle.ftd_days.specs.Calendar.{quarter_of}
use Rattle.ftd_days.specs.declared.cents.Cents.{Cents}
use Rattle.ftd_days.proofs.Business.{on_or_after_one}
use Rattle.ftd_rules.specs.declared.Form.{Form}
use Rattle.ftd_rules.specs.declared.Form.TheVariants.{F941, F943}
use Rattle.ftd_rules.specs.declared.YearLine.{YearLine}
use Rattle.ftd_rules.specs.declared.Obligation.{Obligation}
use Rattle.ftd_rules.specs.declared.run.PayRun.{PayRun}
use Rattle.ftd_rules.specs.declared.run.Voidable.{Voidable}
use Rattle.ftd_rules.specs.declared.payment.Payment.{Payment}
use Rattle.ftd_rules.specs.declared.verdict.Case.{Case}
use Rattle.ftd_rules.specs.declared.verdict.DueRow.{DueRow}
use Rattle.ftd_rules.specs.declared.verdict.Verdict.{Verdict}
use Rattle.ftd_rules.specs.declared.verdict.Verdict.TheVariants.{Met, WithReturn, Open, MadeUp}
use Rattle.ftd_rules.specs.declared.verdict.Verdict.TheVariants.{Short, Late}
use Rattle.ftd_rules.specs.Lists.{Has}
use Rattle.ftd_rules.specs.Liability.{liability}
use Rattle.ftd_rules.specs.Obligations.{IsObligation}
use Rattle.ftd_rules.specs.Payments.{counts_by, paid_by}
use Rattle.ftd_rules.specs.Periods.{return_period_of, return_period_first, return_period_last}
use Rattle.ftd_rules.specs.Returns.{IsReturnDue, IsMakeup, IsSmallAmount}
use Rattle.ftd_rules.specs.Verdicts.{IsCase, IsTolerated, place_of, IsVerdict}
use Rattle.ftd_rules.specs.Years.{basis_of}
use Rattle.ftd_rules.proofs.Adding.{runs_same}
use Rattle.ftd_rules.proofs.Later.{obligation_later, ends_with_return}
use Rattle.ftd_rules.proofs.Status.{return_period_starts}
use Rattle.ftd_rules.proofs.Members.{some_pass, any_has}
use Rattle.ftd_machine.specs.State.{State, Entry, Entries, entries_of, holidays}
use Rattle.ftd_machine.specs.History.{form_of, is_carried, live_sums, live_payments, AreLinesOf}
use Rattle.ftd_machine.specs.History.{IsLookbackOn, AreOwed}
use Rattle.ftd_machine.specs.Asking.{return_period, return_total, is_next_day, has_next_day}
use Rattle.ftd_machine.specs.Asking.{preceding, IsSmall, IsReturnPaid, paid_for, IsDueRow}
use Rattle.ftd_machine.specs.Agenda.{first_day_of, return_last_of, IsDayFor, IsAgendaRow}
use Rattle.ftd_machine.specs.PaidInTime.{IsMissed, GoesOn, IsPaidInTime}
use Rattle.ftd_machine.specs.declared.lists.AgendaRow.{AgendaRow}
use Rattle.ftd_machine.proofs.Single.{IsOnce, given_one}
use Rattle.ftd_machine.proofs.DueSome.{makeup_one}
use Rattle.ftd_machine.proofs.AgendaOrder.{first_one}

-- ---- payments and verdicts

-- what was paid by a day is known from that day on
paid_known : (payments : List Payment) (first last as_of day : ℕ) → day ≤ as_of
    → paid_by payments first last as_of day ≡ paid_by payments first last day day
paid_known payments first last as_of day l =
    let e : min day as_of ≡ min day day = omega arith in
    ap (λ d. sum_by (counts_by first last d) payments) e

-- where a case before a shortfall holds, nothing is missed
not_missed : (c : Case) (verdict other : Verdict) → IsVerdict c verdict → IsCase other c
    → place_of other < 4 → IsMissed verdict → ⊥
not_missed c Met other is holds early missed = missed
not_missed c WithReturn other is holds early missed = missed
not_missed c Open other is holds early missed = missed
not_missed c MadeUp other is holds early missed = missed
not_missed c Short other is holds early missed = is.first other (omega arith) holds
not_missed c Late other is holds early missed = is.first other (omega arith) holds

-- what is paid by the due date is met, or the deposit is open
met_or_open : (c : Case) (verdict : Verdict) (then paid : ℕ) → IsVerdict c verdict
    → c.as_of ≡ then → (c.due ≤ then → c.paid_due.0 ≡ paid) → c.cents.0 ≤ paid
    → IsMissed verdict → ⊥
met_or_open c verdict then paid is at knows enough =
    elim (cases_lt then c.due) [
      | inl before ↦ not_missed c verdict Open is (omega arith) (omega arith)
      | inr after ↦ not_missed c verdict Met is (let known = knows after in omega arith)
          (omega arith)
    ]

-- a smaller shortfall is tolerated too
tolerated_less : (amount more less : ℕ) → less ≤ more → IsTolerated amount more
    → IsTolerated amount less
tolerated_less amount more less l (inl small) = inl (omega arith)
tolerated_less amount more less l (inr part) = inr (omega arith)

-- ---- a row, as of a day and later

-- the row of an obligation before and after, with the day by which to pay it
record Later (hs : List ℕ) (own after : Entries) (as_of then day : ℕ) (rows others : List Obligation)
    (row next : DueRow) : Type 0 where
  pub is_row : IsDueRow hs own rows (quarter_of row.obligation.first) as_of row
  pub is_next : IsDueRow hs after others (quarter_of next.obligation.first) then next
  pub same : next.obligation ≡ row.obligation
  pub payments_stay : (by : ℕ) → paid_for own row.obligation by by
      ≤ paid_for after row.obligation by by
  pub deposit : row.obligation.cents.0 ≤ paid_for after row.obligation day day
  pub with_return : row.verdict ≡ WithReturn
      → return_last_of (form_of own.account) row < as_of
      → IsReturnPaid after (quarter_of row.obligation.first) day
  pub waits : row.verdict ≡ Short → day ≤ then
  pub small : return_last_of (form_of own.account) row < as_of
      → IsSmall own rows (quarter_of row.obligation.first)
      → IsSmall after others (quarter_of row.obligation.first)

module _ (hs : List ℕ) (own after : Entries) (as_of then day : ℕ) (rows others : List Obligation)
    (row next : DueRow) (same_form : form_of after.account ≡ form_of own.account)
    (l : Later hs own after as_of then day rows others row next) where
  abbrev c : Case
  c = l.is_next.of_case

  cents : c.cents.0 ≡ row.obligation.cents.0
  cents = ap (λ (a : Cents). a.0) l.is_next.is_case.cents
      ∙ ap (λ (o : Obligation). o.cents.0) l.same

  due : c.due ≡ row.obligation.due
  due = l.is_next.is_case.due ∙ ap (λ (o : Obligation). o.due) l.same

  as_of_is : c.as_of ≡ then
  as_of_is = l.is_next.is_case.as_of_is

  paid_due : c.due ≤ then
      → c.paid_due.0 ≡ paid_for after row.obligation row.obligation.due row.obligation.due
  paid_due known = l.is_next.is_case.paid_due
      ∙ (ap (λ (o : Obligation). paid_for after o then c.due) l.same
      ∙ (paid_known (live_payments after) row.obligation.first row.obligation.last then c.due known
      ∙ ap (λ d. paid_for after row.obligation d d) due))

  -- paid by the due date
  by_due : day ≡ row.obligation.due → IsMissed next.verdict → ⊥
  by_due is =
      let paid = l.deposit in
      let its = cents in
      met_or_open c next.verdict then (paid_for after row.obligation day day) l.is_next.verdict
      as_of_is
      (λ known. paid_due known ∙ sym (ap (λ d. paid_for after row.obligation d d) is))
      (omega arith)

  -- paid with the return
  with_return : row.verdict ≡ WithReturn → return_last_of (form_of own.account) row < as_of
      → IsReturnDue (form_of own.account) hs (quarter_of row.obligation.first) day
      → IsMissed next.verdict → ⊥
  with_return is over return_due =
      let quarter = quarter_of row.obligation.first in
      let there : quarter_of next.obligation.first ≡ quarter =
      ap (λ (o : Obligation). quarter_of o.first) l.same in
      let was : IsCase WithReturn l.is_row.of_case =
      subst (λ v. IsCase v l.is_row.of_case) is l.is_row.verdict.holds in
      let small = l.small over (l.is_row.is_case.small.0 was.0) in
      let now = l.is_next.is_case.small.1 (subst (IsSmall after others) (sym there) small) in
      let its_due : IsReturnDue (form_of own.account) hs quarter c.return_due =
      subst (λ f. IsReturnDue f hs quarter c.return_due) same_form
      (subst (λ q. IsReturnDue (form_of after.account) hs q c.return_due) there
      l.is_next.is_case.return_due) in
      let one : day ≡ c.return_due = on_or_after_one hs _ day c.return_due return_due its_due in
      let paid = subst (λ q. IsReturnPaid after q c.return_due) (sym there)
      (subst (IsReturnPaid after quarter) one (l.with_return is over)) in
      not_missed c next.verdict WithReturn l.is_next.verdict
      (now, inr (l.is_next.is_case.quarter_paid.1 paid)) (omega arith)

  -- a shortfall that is made up
  made_up : row.verdict ≡ Short → day ≡ row.makeup → IsMissed next.verdict → ⊥
  made_up is at =
      let o = row.obligation in
      let b = l.is_row.of_case in
      let was : IsCase Short b = subst (λ v. IsCase v b) is l.is_row.verdict.holds in
      let past : b.as_of ≤ b.due → ⊥ = λ early. l.is_row.verdict.first Open
      (let e = ap place_of is in omega arith) early in
      let before : b.cents.0 ≡ o.cents.0 = ap (λ (a : Cents). a.0) l.is_row.is_case.cents in
      let due_before : b.due ≡ o.due = l.is_row.is_case.due in
      let as_of_before : b.as_of ≡ as_of = l.is_row.is_case.as_of_is in
      let known : b.due ≤ as_of = elim (cases_lt as_of b.due) [
        | inl early ↦ absurd (past (omega arith))
        | inr late ↦ late
      ] in
      let paid_before : b.paid_due.0 ≡ paid_for own o o.due o.due =
      l.is_row.is_case.paid_due
      ∙ (paid_known (live_payments own) o.first o.last as_of b.due known
      ∙ ap (λ d. paid_for own o d d) due_before) in
      elim (cases_lt then c.due) [
        | inl early ↦ not_missed c next.verdict Open l.is_next.verdict
            (let e = as_of_is in omega arith) (omega arith)
        | inr after_due ↦
            let paid_now = paid_due after_due in
            let stays = l.payments_stay o.due in
            let now = cents in
            let tolerated : IsTolerated c.cents.0 (c.cents.0 - c.paid_due.0) =
            subst (λ a. IsTolerated a (c.cents.0 - c.paid_due.0)) (before ∙ sym now)
            (tolerated_less b.cents.0 (b.cents.0 - b.paid_due.0) (c.cents.0 - c.paid_due.0)
            (omega arith) was.0) in
            let there : IsMakeup (form_of own.account) hs o.rule o.last o.due next.makeup =
            subst (λ (p : Obligation). IsMakeup (form_of own.account) hs p.rule p.last p.due
            next.makeup) l.same (subst (λ f. IsMakeup f hs next.obligation.rule
            next.obligation.last next.obligation.due next.makeup) same_form l.is_next.makeup) in
            let one : next.makeup ≡ row.makeup = makeup_one (form_of own.account) hs o.rule o.last
            o.due next.makeup row.makeup there l.is_row.makeup in
            let makeup : c.makeup ≡ day = l.is_next.is_case.makeup ∙ (one ∙ sym at) in
            let waits = l.waits is in
            let in_time : c.makeup ≤ then = omega arith in
            let paid : c.paid_makeup.0 ≡ paid_for after o day day =
            l.is_next.is_case.paid_makeup
            ∙ (ap (λ (p : Obligation). paid_for after p then c.makeup) l.same
            ∙ (paid_known (live_payments after) o.first o.last then c.makeup in_time
            ∙ ap (λ d. paid_for after o d d) makeup)) in
            let deposit = l.deposit in
            not_missed c next.verdict MadeUp l.is_next.verdict (tolerated, omega arith)
            (omega arith)
      ]

  none_missed : (verdict : Verdict) → row.verdict ≡ verdict
      → IsDayFor (form_of own.account) hs as_of row verdict day → IsMissed next.verdict → ⊥
  none_missed Met is at = by_due at
  none_missed WithReturn is (inl over) = with_return is over.0 over.1
  none_missed WithReturn is (inr runs) = by_due runs.1
  none_missed Open is at = by_due at
  none_missed MadeUp is at = by_due at
  none_missed Short is at = made_up is at
  none_missed Late is at = by_due at

-- ---- an account whose pay runs and payments alone change

module _ (hs : List ℕ) (own : Entries) (runs : List (Entry (Voidable PayRun)))
    (payments : List (Entry (Voidable Payment))) (once : IsOnce own) where
  abbrev after : Entries
  after = record own { runs = runs; payments = payments }

  abbrev form : Form
  form = form_of own.account

  -- lookback totals rest on neither
  lookback_same : (form : Form) (year : ℕ) (total : Cents) → IsLookbackOn form after year total
      → IsLookbackOn form own year total
  lookback_same F941 year total h = h
  lookback_same F943 year total h = h

  basis_same : (xs ys : List YearLine) → AreLinesOf own xs → AreLinesOf after ys
      → map basis_of xs ≡ map basis_of ys
  basis_same xs ys g h =
      given_one own (is_carried own.account) xs ys once (g.years ∙ sym h.years) g.lookbacks
      (λ line has. lookback_same form line.year line.lookback (h.lookbacks line has)) g.carried
      h.carried

  -- up to a day paydays have the same liability
  abbrev SameUpTo : ℕ → Type 0
  SameUpTo day = (payday : ℕ) → payday ≤ day
      → liability (live_sums after) payday payday ≡ liability (live_sums own) payday payday

  -- an obligation stays
  stays : (lines : List YearLine) (others : List Obligation) (o : Obligation)
      → AreLinesOf own lines → (is : IsObligation form lines (live_sums own) hs o)
      → SameUpTo is.period_last → AreOwed hs after others → Has others o
  stays lines others o are is same b =
      (b.2.all o).1 (obligation_later form (live_sums own) (live_sums after) lines b.0 hs o is
      are.schedules b.1.schedules (basis_same lines b.0 are b.1)
      (λ payday l. same payday (omega arith)))

  -- and no next-day obligation of a return period that is over is new
  no_next_day : (rows others : List Obligation) (n : ℕ) → AreOwed hs own rows
      → AreOwed hs after others → SameUpTo (return_period_last form n)
      → has_next_day form rows n ≡ false → has_next_day form others n ≡ false
  no_next_day rows others n a b same none =
      elim (cases_Bool (has_next_day form others n)) [
        | inr fails ↦ fails
        | inl found_some ↦
            let test : Obligation → Bool =
            λ o. (return_period_of form o.first == n) && is_next_day o.rule in
            let found = some_pass test others found_some in
            let o = found.0 in
            let its : return_period_of form o.first ≡ n = and_first (return_period_of form o.first)
            n (is_next_day o.rule) found.2 in
            let is : IsObligation form b.0 (live_sums after) hs o = (b.2.all o).0 found.1 in
            let end = subst (λ m. is.period_last ≤ return_period_last form m) its
            (ends_with_return form (live_sums after) b.0 hs o is b.1.schedules).1 in
            let back : Has rows o = (a.2.all o).1 (obligation_later form (live_sums after)
            (live_sums own) b.0 a.0 hs o is b.1.schedules a.1.schedules
            (sym (basis_same a.0 b.0 a.1 b.1)) (λ payday l. sym (same payday (omega arith)))) in
            absurd (true_false (sym (any_has test rows o back found.2) ∙ none))
      ]
    where
      true_false : true ≡ false → ⊥
      true_false e = absurd cc

      and_first : (m n : ℕ) (next : Bool) → ((m == n) && next) ≡ true → m ≡ n
      and_first m n next e = grind arith

  total_same : (n : ℕ) → SameUpTo (return_period_last form n)
      → return_total after n ≡ return_total own n
  total_same n same =
      runs_same (live_sums own) (live_sums after) (return_period_first form n)
      (return_period_last form n) (λ payday l m. same payday m)

  -- nor does the figure of the return period before
  preceding_same : (form : Form) (quarter : ℕ)
      → preceding form after quarter ≡ preceding form own quarter
  preceding_same F941 quarter = refl
  preceding_same F943 quarter = refl

  -- a small return period that is over stays small
  small_stays : (rows others : List Obligation) (quarter : ℕ) → AreOwed hs own rows
      → AreOwed hs after others → SameUpTo (return_period_last form (return_period form quarter))
      → IsSmall own rows quarter → IsSmall after others quarter
  small_stays rows others quarter a b same small =
      let n = return_period form quarter in (
        small.0,
        small.1 ∙ sym (total_same n same),
        (
          no_next_day rows others n a b same small.2.0,
          subst (λ figure. IsSmallAmount small.0 ⊎ IsSomeAnd figure IsSmallAmount)
              (sym (preceding_same form quarter)) small.2.1,
        ),
      )

-- ---- the law

pub never_late : (s later : State) (as_of then : ℕ) (x y : AgendaRow)
    → ((name : List ℕ) → IsOnce (entries_of s name))
    → IsAgendaRow s as_of x → IsAgendaRow later then y
    → y.account ≡ x.account → first_day_of y ≡ first_day_of x
    → GoesOn s later as_of x → IsPaidInTime (entries_of later x.account) as_of x
    → (x.row.verdict ≡ Short → x.pay_by ≤ then)
    → (y.row.obligation ≡ x.row.obligation) × (IsMissed y.row.verdict → ⊥)
never_late s later as_of then x y once h k0 named first goes in_time waits =
    let hs = holidays s in
    let own = entries_of s x.account in
    let after : Entries = record own { runs = goes.runs; payments = goes.payments } in
    let its : entries_of later y.account ≡ after = ap (entries_of later) named ∙ goes.others_stay in
    let owed : AreOwed hs after k0.owed =
    subst (λ (e : Entries). AreOwed hs e k0.owed) its
    (subst (λ d. AreOwed d (entries_of later y.account) k0.owed) goes.holidays_stay k0.are_owed) in
    let is_next : IsDueRow hs after k0.owed (quarter_of (first_day_of y)) then y.row =
    subst (λ (e : Entries). IsDueRow hs e k0.owed (quarter_of (first_day_of y)) then y.row) its
    (subst (λ d. IsDueRow d (entries_of later y.account) k0.owed (quarter_of (first_day_of y)) then
    y.row) goes.holidays_stay k0.is_row) in
    let Same : Entries → Type 0 = λ e. (payday : ℕ)
    → (payday ≤ as_of) ⊎ (payday ≤ goes.is_owed.period_last)
    → liability (live_sums e) payday payday ≡ liability (live_sums own) payday payday in
    let paydays = subst Same goes.others_stay goes.paydays_stay in
    let there : Has k0.owed x.row.obligation =
    stays hs own goes.runs goes.payments (once x.account) goes.lines k0.owed x.row.obligation
    goes.are_lines goes.is_owed (λ payday l. paydays payday (inr l)) owed in
    let same : y.row.obligation ≡ x.row.obligation =
    first_one k0.owed owed.2.by_first_day y.row.obligation x.row.obligation is_next.owed there first
    in
    let form : x.form ≡ form_of own.account =
    h.form_is ∙ sym (ap form_of h.enrolled) in
    let known = ends_with_return (form_of own.account) (live_sums own) goes.lines hs
    x.row.obligation goes.is_owed goes.are_lines.schedules in
    let starts = return_period_starts (form_of own.account) x.row.obligation.first known.0 in
    let l : Later hs own after as_of then x.pay_by h.owed k0.owed x.row y.row = record {
      is_row = h.is_row;
      is_next = is_next;
      same = same;
      payments_stay = λ by. subst (λ (e : Entries). paid_for own x.row.obligation by by
          ≤ paid_for e x.row.obligation by by) goes.others_stay (goes.payments_stay by);
      deposit = subst (λ (e : Entries). x.row.obligation.cents.0
          ≤ paid_for e x.row.obligation x.pay_by x.pay_by) goes.others_stay in_time.deposit;
      with_return = λ is over. subst (λ (e : Entries). IsReturnPaid e (quarter_of (first_day_of x))
          x.pay_by) goes.others_stay
          (in_time.with_return is
          (subst (λ f. return_last_of f x.row < as_of) (sym form) over));
      waits = waits;
      small = λ over. small_stays hs own goes.runs goes.payments (once x.account) h.owed k0.owed
          (quarter_of (first_day_of x)) h.are_owed owed
          (λ payday l. paydays payday (inl (let e = ap (return_period_last (form_of own.account))
          starts in omega arith)));
    } in (
      same,
      none_missed hs own after as_of then x.pay_by h.owed k0.owed x.row y.row refl l x.row.verdict
          refl (subst (λ f. IsDayFor f hs as_of x.row x.row.verdict x.pay_by) form h.pay_by),
    )
