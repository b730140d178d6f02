-- What is told of an obligation by what was read explains it.
use Rattle.std.proofs.Common.{◌≡◌, ◌∙◌, ◌+◌, ◌<◌, ◌≤◌, ℕ, List, Option, None, Some, Ok, sym}
use Rattle.std.proofs.Common.{subst, refl, arith, Bool, true}
use Rattle.std.specs.Prelude.{MatchOption, nat_le, ◌↔◌}
use Rattle.std.specs.List.{list_any, find}
use Rattle.std.proofs.lemmas.Bool.{le-leb, eq-eqb, leb-true, and_parts}
use Rattle.ftd_days.specs.Business.{is_holiday}
use Rattle.ftd_days.specs.Calendar.{year_of, year_start, quarter_of, last_day}
use Rattle.ftd_days.proofs.Months.{year_begins, year_ends, in_month, day_in_years}
use Rattle.ftd_rules.specs.declared.Form.{Form}
use Rattle.ftd_rules.specs.declared.Obligation.{Obligation}
use Rattle.ftd_rules.specs.declared.Rule.{Rule}
use Rattle.ftd_rules.specs.declared.Rule.TheVariants.{Monthly, Semiweekly, NextDay}
use Rattle.ftd_rules.specs.declared.YearLine.{YearLine}
use Rattle.ftd_rules.specs.Liability.{liability}
use Rattle.ftd_rules.specs.Lists.{Has, KeysRise}
use Rattle.ftd_rules.specs.Returns.{IsReturnDue}
use Rattle.ftd_rules.specs.Years.{HasStatusOn}
use Rattle.ftd_rules.proofs.Near.{due_near}
use Rattle.ftd_rules.proofs.Schedules.{year_start-mono}
use Rattle.ftd_rules.proofs.Stated.{due_by}
use Rattle.ftd_rules.proofs.Members.{has_kept}
use Rattle.ftd_rules.specs.Laws.{IsFirstCounted}
use Rattle.ftd_rules.specs.Obligations.{begins_on}
use Rattle.ftd_sql.specs.Standing.{Tables}
use Rattle.ftd_store.specs.Holidays.{HasYears}
use Rattle.ftd_machine.proofs.Few.{few_in_force}
use Rattle.ftd_machine.specs.Asking.{IsStatus, IsReason}
use Rattle.ftd_machine.specs.Agenda.{EachToLater}
use Rattle.ftd_machine.specs.Explaining.{Explains, IsPaydayOf, day_of_payday}
use Rattle.ftd_machine.specs.Explaining.{IsPaymentOf}
use Rattle.ftd_machine.specs.Kept.{IsPaymentBefore}
use Rattle.ftd_machine.specs.History.{form_of, live_sums, AreLinesOf, AreOwed}
use Rattle.ftd_machine.specs.Sound.{IsSound}
use Rattle.ftd_machine.specs.State.{State, Entries, entries_of, holidays}
use Rattle.ftd_machine.specs.declared.explained.Explanation.{Explanation}
use Rattle.ftd_machine.specs.declared.explained.RunningSum.{RunningSum}
use Rattle.ftd_machine.specs.declared.kept.KeptPayment.{KeptPayment}
use Rattle.ftd_machine.specs.Told.{status_answer}
use Rattle.ftd_machine.proofs.Dated.{IsDated, dated}
use Rattle.ftd_machine.proofs.Members.{has_filtered}
use Rattle.ftd_entries.specs.Opening.{is_line_of}
use Rattle.ftd_entries.specs.Owed.{KnowsObligations}
use Rattle.ftd_entries.specs.Standing.{StandsFor}
use Rattle.ftd_kept.specs.Payments.{KnowsPaymentsOf}
use Rattle.ftd_kept.proofs.PaymentsTold.{begun_by}
use Rattle.ftd_kept.specs.Explained.{KnowsPaydays, IsToldBy, KnowsExplanation, KnowsCovering}
use Rattle.ftd_kept.specs.Schedules.{AreScheduled}
use Rattle.ftd_kept.proofs.Counted.{counted_are, counted_rise}
use Rattle.ftd_entries.proofs.ReturnDates.{AgreeIn, return_same}
use Rattle.ftd_rules.proofs.Members.{any_has}
use Rattle.ftd_entries.proofs.Searching.{found, not_found}
use Rattle.ftd_entries.proofs.YearsRead.{years_agree}
use Rattle.ftd_entries.proofs.Settling.{owes}

-- the first day that is counted comes after the last of the obligation
after_last : (rule : Rule) (last from : ℕ) → last ≤ last_day → IsFirstCounted rule last from
    → last < from
after_last Monthly last from within is = let to = (in_month last within).1 in omega arith
after_last Semiweekly last from within is =
    let close = is.1.not_before in let e = is.2 in omega arith
after_last NextDay last from within is = omega arith

module _ (name : List ℕ) (form : Form) (lines : List YearLine) (read : List ℕ)
    (paydays : List RunningSum) (payments : List KeptPayment) (e : Explanation)
    (is : IsToldBy form lines read e.obligation paydays payments e) (t : Tables)
    (knows_paydays : KnowsPaydays name e.obligation paydays t)
    (knows_payments : KnowsPaymentsOf name e.obligation payments t)
    (years : HasYears (year_of e.obligation.first) (year_of e.obligation.first + 1) read t)
    (s : State) (stands : StandsFor t s) (sound : IsSound s)
    (form_is : form_of (entries_of s name).account ≡ form)
    (lines_are : lines ≡ (stands.settled name).lines)
    (has : Has (stands.settled name).owed e.obligation) where
  abbrev own : Entries
  own = entries_of s name

  abbrev all : List ℕ
  all = holidays s

  abbrev owed : List Obligation
  owed = (stands.settled name).owed

  abbrev o : Obligation
  o = e.obligation

  abbrev year : ℕ
  year = year_of o.first

  abbrev are : AreOwed all own owed
  are = owes (stands.settled name)

  its : IsDated (stands.settled name).lines o
  its = dated all own owed are o has

  from_2001 : 2001 ≤ year
  from_2001 = let low = its.from_2001 in let same = its.begins in omega arith

  to_2098 : year ≤ 2098
  to_2098 = let high = its.to_2098 in let same = its.begins in omega arith

  agree : AgreeIn year read all
  agree = years_agree read year from_2001 to_2098 t s stands sound years

  last_is : year_of o.last ≡ year
  last_is = sym its.ends ∙ its.begins

  last_within : o.last ≤ last_day
  last_within = day_in_years o.last (let same = last_is in let high = to_2098 in omega arith)

  -- ---- the days that are counted

  in_two_years : (from day : ℕ) → IsFirstCounted o.rule o.last from → from ≤ day → day ≤ o.due
      → (year_start year ≤ day) × (day < year_start (year + 1 + 1))
  in_two_years from day is_from low high =
      let after = after_last o.rule o.last from last_within is_from in
      let begins : year_start year ≤ o.last = subst (λ y. year_start y ≤ o.last) last_is
      (year_begins o.last last_within) in
      let to = to_2098 in
      let same = last_is in
      let due = ((are.2.all o).0 has).due in
      let near = due_near all o.rule o.last o.due (few_in_force s sound.few) (omega arith)
      (due_by all o.rule o.last o.due due) in
      let soon = near.1.0 in
      let in_days = near.1.1 in
      let month = (in_month o.due in_days).1 in
      let ends = year_ends o.due in_days in
      let next : year_start (year_of o.due + 1) ≤ year_start (year + 1 + 1) =
      year_start-mono (year_of o.due + 1) (year + 1 + 1) (omega arith) in
      (omega arith, omega arith)

  same_days : (day : ℕ) → is.days.0 ≤ day → day ≤ o.due
      → is_holiday all day ≡ is_holiday read day
  same_days day low high =
      let within = in_two_years is.days.0 day is.days.1 low high in agree day within.0 within.1

  -- ---- the schedule

  schedule : IsStatus own o.first (status_answer o.first e.kind e.reason)
  schedule =
      let there : list_any (is_line_of (year_of o.first)) lines ≡ true =
      any_has (is_line_of (year_of o.first)) lines its.line
      (subst (λ ls. Has ls its.line) (sym lines_are) its.open_year)
      (eq-eqb its.line.year (year_of o.first) its.begins) in
      let told = is.schedule there (subst AreScheduled (sym lines_are)
      (liability (live_sums own), (stands.settled name).are_lines.schedules.schedules)) in
      let by = told.1 in
      let reason : IsReason lines by.line e.kind e.reason =
      subst (λ r. IsReason lines by.line e.kind r) told.3
      (subst (λ k. IsReason lines by.line k told.0.reason) told.2 by.is_why) in
      record {
        lines = lines;
        are_lines = subst (AreLinesOf own) (sym lines_are) (stands.settled name).are_lines;
        line = by.line;
        open_year = by.open_year;
        of_day = by.of_day;
        status = e.kind;
        has_status = subst (HasStatusOn by.line o.first) told.2 by.has_status;
        why = e.reason;
        is_why = reason;
        told = refl;
      }

  pub explains : Explains all own owed e
  explains = record {
    is_owed = has;
    schedule = schedule;
    paydays_rise = subst (KeysRise day_of_payday) (sym is.paydays_are)
        (knows_paydays.rise s stands);
    paydays = subst (λ xs. (x : RunningSum) → Has xs x ↔ IsPaydayOf own o x) (sym is.paydays_are)
        (knows_paydays.all s stands);
    days_rise = counted_rise read all o is.days.0 is.days.1 same_days e.days is.days.2;
    days = counted_are read all o is.days.0 is.days.1 same_days e.days is.days.2;
    return_due = subst (λ f. IsReturnDue f all (quarter_of o.first) e.return_due) (sym form_is)
        (return_same read all year from_2001 to_2098 (few_in_force s sound.few) agree form
        (quarter_of o.first) e.return_due (omega arith) is.return_due).0;
    in_order = subst (EachToLater IsPaymentBefore) (sym is.payments_are) knows_payments.in_order;
    payments = subst (λ xs. (x : KeptPayment) → Has xs x ↔ IsPaymentOf own o x)
        (sym is.payments_are) (knows_payments.all s stands sound);
  }

-- so it is where these are of the obligation that it is told of
pub told_known : (name : List ℕ) (form : Form) (lines : List YearLine) (read : List ℕ)
    (o : Obligation) (paydays : List RunningSum) (payments : List KeptPayment) (e : Explanation)
    → IsToldBy form lines read o paydays payments e → (t : Tables) → KnowsPaydays name o paydays t
    → KnowsPaymentsOf name o payments t → HasYears (year_of o.first) (year_of o.first + 1) read t
    → KnowsExplanation name form lines o e t
told_known name form lines read o paydays payments e is t knows_paydays knows_payments years s
    stands sound form_is lines_are has =
    let same : o ≡ e.obligation = sym is.obligation in (
      is.obligation,
      explains name form lines read paydays payments e
          (subst (λ p. IsToldBy form lines read p paydays payments e) same is) t
          (subst (λ p. KnowsPaydays name p paydays t) same knows_paydays)
          (subst (λ p. KnowsPaymentsOf name p payments t) same knows_payments)
          (subst (λ (p : Obligation). HasYears (year_of p.first) (year_of p.first + 1) read t) same
          years) s stands sound form_is lines_are
          (subst (Has (stands.settled name).owed) same has),
    )

-- the first of the obligations begun by a day that does not end before it is the one that covers it
pub covering_known : (name : List ℕ) (day : ℕ) (begun : List Obligation) (found : Option Obligation)
    → MatchOption found ((o : Obligation) → Has begun o → day ≤ o.last → ⊥)
    (λ o. Has begun o × (day ≤ o.last))
    → (t : Tables) → KnowsObligations name 0 day begun t → KnowsCovering name day found t
covering_known name day begun None none t known s stands = λ o has covers.
    (let first = covers.0 in
    none o (subst (λ os. Has os o) (sym (known s stands)) (has_kept (begins_on 0 day)
    (stands.settled name).owed o has (begun_by day o covers.0))) covers.1)
covering_known name day begun (Some o) is t known s stands =
    let its = has_filtered (begins_on 0 day) (stands.settled name).owed o
    (subst (λ os. Has os o) (known s stands) is.0) in
    let days = and_parts (nat_le 0 o.first) (nat_le o.first day) its.1 in
    (its.0, (leb-true o.first day days.1, is.1))

-- it does not end before the day
abbrev pub ends_late : ℕ → Obligation → Bool
ends_late day o = nat_le day o.last

pub end_found : (os : List Obligation) (day : ℕ) (result : Option Obligation)
    → result ≡ find (ends_late day) os
    → MatchOption result ((o : Obligation) → Has os o → day ≤ o.last → ⊥)
    (λ o. Has os o × (day ≤ o.last))
end_found os day None is = λ o has late. not_found (ends_late day) os (sym is) o has
    (le-leb day o.last late)
end_found os day (Some o) is = let its = found (ends_late day) os o (sym is) in
    (its.0, leb-true day o.last its.1)
