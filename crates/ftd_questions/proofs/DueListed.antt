-- The rows by what was read of the quarter's return are the machine's due list.
use Rattle.std.proofs.Common.{◌≡◌, ◌↔◌, ℕ, ◌+◌, ◌<◌, ◌≤◌, Bool, List, [], ◌∷◌, Vec}
use Rattle.std.proofs.Common.{Global, Ok, refl, sym, ap, ◌∙◌, subst, arith}
use Rattle.std.specs.Prelude.{IsTrue}
use Rattle.std.proofs.lemmas.Bool.{eqb-true, eq-eqb}
use Rattle.ftd_days.specs.Calendar.{year_of, quarter_of, quarter_year, quarter_start}
use Rattle.ftd_days.specs.Holidays.{YearDays, holidays_of}
use Rattle.ftd_days.specs.declared.cents.Cents.{Cents}
use Rattle.ftd_days.proofs.Business.{on_or_after_one}
use Rattle.ftd_rules.specs.declared.Form.{Form}
use Rattle.ftd_rules.specs.declared.Form.TheVariants.{F941, F943}
use Rattle.ftd_rules.specs.declared.Obligation.{Obligation}
use Rattle.ftd_rules.specs.declared.payment.Payment.{Payment}
use Rattle.ftd_rules.specs.declared.verdict.Case.{Case}
use Rattle.ftd_rules.specs.declared.verdict.DueRow.{DueRow}
use Rattle.ftd_rules.specs.Liability.{liability}
use Rattle.ftd_rules.specs.Lists.{Has, KeysRise}
use Rattle.ftd_rules.specs.Obligations.{ByFirstDay}
use Rattle.ftd_rules.specs.Payments.{paid_by}
use Rattle.ftd_rules.specs.Periods.{return_period_of, return_period_first, return_period_end}
use Rattle.ftd_rules.specs.Returns.{month_after_ends, IsReturnDue, IsMakeup, IsSmallQuarter}
use Rattle.ftd_rules.specs.Verdicts.{IsVerdict}
use Rattle.ftd_rules.proofs.DueDates.{due_later}
use Rattle.ftd_rules.proofs.Near.{due_near}
use Rattle.ftd_rules.proofs.Status.{return_period_is}
use Rattle.ftd_rules.proofs.Members.{has_kept}
use Rattle.ftd_sql.specs.Standing.{Tables}
use Rattle.ftd_store.specs.Lists.{Pairs}
use Rattle.ftd_store.specs.Holidays.{HasYears}
use Rattle.ftd_machine.specs.State.{State, Entries, entries_of, holidays}
use Rattle.ftd_machine.specs.History.{form_of, live_sums, live_payments}
use Rattle.ftd_machine.specs.Sound.{IsSound}
use Rattle.ftd_machine.specs.Asking.{return_period, return_total, paid_for_return, paid_for}
use Rattle.ftd_machine.specs.Asking.{has_next_day, preceding, first_of_row, IsSmall, IsReturnPaid}
use Rattle.ftd_machine.specs.Asking.{IsDueRow, IsDueList}
use Rattle.ftd_machine.specs.Told.{due_answer}
use Rattle.ftd_machine.proofs.Few.{few_in_force}
use Rattle.ftd_machine.proofs.Members.{has_filtered}
use Rattle.ftd_machine.proofs.DueSome.{makeup_one, verdict_one}
use Rattle.ftd_entries.specs.Standing.{StandsFor, IsSettled}
use Rattle.ftd_entries.specs.Returns.{KnowsPeriod}
use Rattle.ftd_questions.specs.DueRows.{begins_in, IsReturnBy, IsRowBy, KnowsReturnDue}
use Rattle.ftd_questions.specs.Walks.{begun}
use Rattle.ftd_entries.specs.declared.return_periods.ReturnFacts.{ReturnFacts}
use Rattle.ftd_questions.specs.declared.due_rows.QuarterReturn.{QuarterReturn}
use Rattle.ftd_questions.proofs.OneVerdict.{same_test}
use Rattle.ftd_entries.proofs.OwedRows.{kept_by_first_day}
use Rattle.ftd_entries.proofs.YearsRead.{years_agree}
use Rattle.ftd_entries.proofs.ReturnDates.{AgreeIn, return_same, makeup_same}
use Rattle.ftd_questions.proofs.OwedDays.{quarter_begins, piece, period_days, some_days}
use Rattle.ftd_store.proofs.Items.{paired_from, paired_to}

-- rows of obligations by first day are so
rows_rise : (R : Obligation → DueRow → Type 0) → ((o : Obligation) (row : DueRow) → R o row
    → row.obligation ≡ o)
    → (os : List Obligation) (rows : List DueRow) → ByFirstDay os → Pairs R os rows
    → KeysRise first_of_row rows
rows_rise R of [] [] rise pairs = tt
rows_rise R of [] (row ∷ rows) rise pairs = absurd pairs
rows_rise R of (o ∷ os) [] rise pairs = tt
rows_rise R of (o ∷ os) (row ∷ rows) rise pairs = (
  (λ later has.
      (let its = paired_from R os rows later pairs.1 has in
      let less = rise.0 its.0 its.1 in
      let here : row.obligation.first ≡ o.first = ap (λ (p : Obligation). p.first)
      (of o row pairs.0) in
      let there : later.obligation.first ≡ its.0.first = ap (λ (p : Obligation). p.first)
      (of its.0 later its.2) in
      omega arith)),
  rows_rise R of os rows rise.1 pairs.1,
)

-- ---- return periods

same_year : (form : Form) (a b : ℕ) → return_period_of form a ≡ return_period_of form b
    → year_of a ≡ year_of b
same_year F941 a b e = omega arith
same_year F943 a b e = omega arith

pub same_return : (form : Form) (a b : ℕ) → quarter_of a ≡ quarter_of b
    → return_period_of form a ≡ return_period_of form b
same_return F941 a b e = e
same_return F943 a b e = omega arith

-- ---- the holidays of two years

-- by those that were read the return is due on the day by all
pub return_known : (form : Form) (quarter : ℕ) (read : List ℕ) (day : ℕ)
    → 2001 ≤ quarter_year quarter → quarter_year quarter ≤ 2098
    → IsReturnDue form read quarter day → (t : Tables)
    → HasYears (quarter_year quarter) (quarter_year quarter + 1) read t
    → KnowsReturnDue form quarter day t
return_known form quarter read day from_2001 to_2098 is t years s stands sound =
    (return_same read (holidays s) (quarter_year quarter) from_2001 to_2098
    (few_in_force s sound.few)
    (years_agree read (quarter_year quarter) from_2001 to_2098 t s stands sound years) form quarter
    day refl is).0

-- ---- the list

module _ (name : List ℕ) (quarter as_of : ℕ) (given : List YearDays) (period : ReturnFacts)
    (next_day : Bool) (of_return : QuarterReturn) (rows : List DueRow)
    (from_2001 : 2001 ≤ quarter_year quarter) (to_2098 : quarter_year quarter ≤ 2098)
    (t : Tables) (s : State) (stands : StandsFor t s) (sound : IsSound s)
    (is_return : IsReturnBy (form_of (entries_of s name).account) quarter next_day period given
    of_return)
    (next_day_is : next_day ≡ has_next_day (form_of (entries_of s name).account)
    (stands.settled name).owed (return_period (form_of (entries_of s name).account) quarter))
    (are_rows : Pairs (IsRowBy of_return as_of) (begun stands name quarter) rows)
    (years : HasYears (quarter_year quarter) (quarter_year quarter + 1) (holidays_of given) t)
    (known : KnowsPeriod name (form_of (entries_of s name).account) quarter period t) where
  abbrev own : Entries
  own = entries_of s name

  abbrev form : Form
  form = form_of own.account

  abbrev read : List ℕ
  read = holidays_of given

  abbrev all : List ℕ
  all = holidays s

  abbrev year : ℕ
  year = quarter_year quarter

  settled : IsSettled t s name
  settled = stands.settled name

  abbrev owed : List Obligation
  owed = (stands.settled name).owed

  abbrev number : ℕ
  number = return_period form quarter

  agree : AgreeIn year read all
  agree = years_agree read year from_2001 to_2098 t s stands sound years

  -- ---- the account's obligations

  in_period : (o : Obligation) → quarter_of o.first ≡ quarter → return_period_of form o.first
      ≡ number
  in_period o its = same_return form o.first (quarter_start quarter)
      (its ∙ sym (quarter_begins quarter to_2098))

  -- an obligation that begins in the quarter is one of the list, and the reverse
  begun_has : (o : Obligation) → Has owed o → quarter_of o.first ≡ quarter
      → Has (begun stands name quarter) o
  begun_has o has its = has_kept (begins_in quarter) owed o has
      (eq-eqb (quarter_of o.first) quarter its)

  has_begun : (o : Obligation) → Has (begun stands name quarter) o → Has owed o
      × (quarter_of o.first ≡ quarter)
  has_begun o has = let its = has_filtered (begins_in quarter) owed o has in
      (its.0, eqb-true (quarter_of o.first) quarter its.1)

  -- ---- the return

  total_is : period.total.0 ≡ return_total own number
  total_is =
      known.total s stands
      ∙ (ap (λ a. liability (live_sums own) a period.last) known.first
      ∙ ap (λ b. liability (live_sums own) (return_period_first form number) b) known.last)

  small_is : IsTrue of_return.small ↔ IsSmall own owed quarter
  small_is = (
    (λ k. (
      period.total,
      total_is,
      subst (λ found. IsSmallQuarter period.total found (has_next_day form owed number))
          (sym (known.preceding s stands))
          (subst (λ b. IsSmallQuarter period.total period.preceding b) next_day_is
          (is_return.small.0 k)),
    )),
    (λ h.
        (let same : h.0 ≡ period.total = λ i. record { 0 = (h.1 ∙ sym total_is) i } in
        is_return.small.1 (subst (λ b. IsSmallQuarter period.total period.preceding b)
        (sym next_day_is)
        (subst (λ found. IsSmallQuarter period.total found (has_next_day form owed number))
        (known.preceding s stands)
        (subst (λ (c : Cents). IsSmallQuarter c (preceding form own quarter)
        (has_next_day form owed number)) same h.2))))),
  )

  paid_for_it : paid_by period.payments.items period.first period.last of_return.due of_return.due
      ≡ paid_for_return own number of_return.due
  paid_for_it =
      known.payments s stands period.first period.last of_return.due of_return.due (omega arith)
      (omega arith)
      ∙ (ap (λ a. paid_by (live_payments own) a period.last of_return.due of_return.due) known.first
      ∙ ap (λ b. paid_by (live_payments own) (return_period_first form number) b of_return.due
      of_return.due) known.last)

  paid_is : IsTrue of_return.paid ↔ IsReturnPaid own quarter of_return.due
  paid_is = (
    (λ k. subst (λ n. n ≤ paid_for_return own number of_return.due) total_is
        (subst (λ n. period.total.0 ≤ n) paid_for_it (is_return.paid.0 k))),
    (λ h. is_return.paid.1 (subst (λ n. period.total.0 ≤ n) (sym paid_for_it)
        (subst (λ n. n ≤ paid_for_return own number of_return.due) (sym total_is) h))),
  )

  return_is : IsReturnDue form all quarter of_return.due
  return_is =
      (return_same read all year from_2001 to_2098 (few_in_force s sound.few) agree form quarter
      of_return.due refl
      is_return.due).0

  -- ---- one row

  paid_so : (o : Obligation) → Has owed o → quarter_of o.first ≡ quarter → (day : ℕ)
      → paid_by of_return.payments.items o.first o.last as_of day ≡ paid_for own o as_of day
  paid_so o has its day =
      let e : return_period_of form o.first ≡ number = in_period o its in
      let within = period_days name t s stands o has in
      let some = some_days name t s stands o has in
      let within1 = within.1 in
      let begins = return_period_is form o.first (omega arith) in
      let ends = return_period_is form o.last within.1 in
      let low : return_period_first form number ≤ o.first =
      subst (λ n. return_period_first form n ≤ o.first) e begins.0 in
      let high : o.last < return_period_end form number =
      subst (λ n. o.last < return_period_end form n) (within.0 ∙ e) ends.1 in
      let first = known.first in
      let last = known.last in
      ap (λ (ps : Vec Payment Global). paid_by ps.items o.first o.last as_of day) is_return.payments
      ∙ known.payments s stands o.first o.last as_of day (omega arith) (omega arith)

  makeup_is : (o : Obligation) (makeup : ℕ) → Has owed o → quarter_of o.first ≡ quarter
      → IsMakeup of_return.form (holidays_of of_return.holidays) o.rule o.last o.due makeup
      → IsMakeup form all o.rule o.last o.due makeup
  makeup_is o makeup has its m =
      let within = period_days name t s stands o has in
      let same : year_of o.last ≡ year_of o.first = same_year form o.last o.first within.0 in
      let its_year : year_of o.last ≡ year = omega arith in
      let due = (piece name t s stands o has).due in
      let near = due_near all o.rule o.last o.due (few_in_force s sound.few) (omega arith) due in
      makeup_same read all year from_2001 to_2098 (few_in_force s sound.few) agree form o.rule
      o.last o.due makeup its_year within.1
      (due_later all o.rule o.last o.due within.1 due) near.1.1
      (subst (λ f. IsMakeup f read o.rule o.last o.due makeup) is_return.form_is
      (subst (λ (ys : List YearDays). IsMakeup of_return.form (holidays_of ys) o.rule o.last o.due
      makeup) is_return.holidays_are m))

  -- the row by what was read is a row of the due list
  pub row_is : (row : DueRow) → Has owed row.obligation → quarter_of row.obligation.first ≡ quarter
      → IsRowBy of_return as_of row.obligation row → IsDueRow all own owed quarter as_of row
  row_is row has its r =
      let c : Case = r.of_case in
      let k = r.is_case in
      record {
        owed = has;
        begins = its;
        makeup = makeup_is row.obligation row.makeup has its r.makeup;
        paid = r.paid ∙ paid_so row.obligation has its as_of;
        of_case = c;
        is_case = record {
          cents = k.cents;
          due = k.due;
          makeup = k.makeup_is;
          return_due = subst (IsReturnDue form all quarter) (sym k.return_due) return_is;
          as_of_is = k.as_of_is;
          paid_due = k.paid_due ∙ (paid_so row.obligation has its row.obligation.due
              ∙ ap (paid_for own row.obligation as_of) (sym k.due));
          paid_makeup = k.paid_makeup ∙ (paid_so row.obligation has its row.makeup
              ∙ ap (paid_for own row.obligation as_of) (sym k.makeup_is));
          small = subst (λ b. IsTrue b ↔ IsSmall own owed quarter) (sym k.small) small_is;
          quarter_paid = subst (λ b. IsTrue b ↔ IsReturnPaid own quarter c.return_due)
              (sym k.quarter_paid) (subst (λ d. IsTrue of_return.paid ↔ IsReturnPaid own quarter d)
              (sym k.return_due) paid_is);
        };
        verdict = r.verdict;
      }

  -- there is one row of an obligation
  row_one : (row other : DueRow) → other.obligation ≡ row.obligation
      → IsDueRow all own owed quarter as_of row → IsDueRow all own owed quarter as_of other
      → row ≡ other
  row_one row other same g h =
      let o : Obligation = row.obligation in
      let c : Case = g.of_case in
      let d : Case = h.of_case in
      let a = g.is_case in
      let b = h.is_case in
      let makeup : row.makeup ≡ other.makeup =
      makeup_one form all o.rule o.last o.due row.makeup other.makeup g.makeup
      (subst (λ (p : Obligation). IsMakeup form all p.rule p.last p.due other.makeup) same
      h.makeup) in
      let paid : row.paid.0 ≡ other.paid.0 = g.paid
      ∙ (ap (λ (p : Obligation). paid_for own p as_of as_of) (sym same) ∙ sym h.paid) in
      let cents : c.cents ≡ d.cents = a.cents ∙ (ap (λ (p : Obligation). p.cents) (sym same)
      ∙ sym b.cents) in
      let due : c.due ≡ d.due = a.due ∙ (ap (λ (p : Obligation). p.due) (sym same) ∙ sym b.due) in
      let makeup_too : c.makeup ≡ d.makeup = a.makeup ∙ (makeup ∙ sym b.makeup) in
      let return_due : c.return_due ≡ d.return_due =
      on_or_after_one all (month_after_ends form quarter) c.return_due d.return_due a.return_due
      b.return_due in
      let as_of_too : c.as_of ≡ d.as_of = a.as_of_is ∙ sym b.as_of_is in
      let paid_due : c.paid_due.0 ≡ d.paid_due.0 =
      a.paid_due ∙ (ap (λ (p : Obligation). paid_for own p as_of c.due) (sym same)
      ∙ (ap (λ e. paid_for own other.obligation as_of e) due ∙ sym b.paid_due)) in
      let paid_makeup : c.paid_makeup.0 ≡ d.paid_makeup.0 =
      a.paid_makeup ∙ (ap (λ (p : Obligation). paid_for own p as_of c.makeup) (sym same)
      ∙ (ap (λ e. paid_for own other.obligation as_of e) makeup_too ∙ sym b.paid_makeup)) in
      let small : c.small ≡ d.small = same_test {P = IsSmall own owed quarter} c.small d.small
      a.small b.small in
      let quarter_paid : c.quarter_paid ≡ d.quarter_paid =
      same_test {P = IsReturnPaid own quarter c.return_due} c.quarter_paid d.quarter_paid
      a.quarter_paid (subst (λ e. IsTrue d.quarter_paid ↔ IsReturnPaid own quarter e)
      (sym return_due) b.quarter_paid) in
      let case : c ≡ d = λ i. record {
        cents = cents i;
        due = due i;
        makeup = makeup_too i;
        return_due = return_due i;
        as_of = as_of_too i;
        paid_due = record { 0 = paid_due i };
        paid_makeup = record { 0 = paid_makeup i };
        small = small i;
        quarter_paid = quarter_paid i;
      } in
      let verdict : row.verdict ≡ other.verdict = verdict_one c row.verdict other.verdict g.verdict
      (subst (λ e. IsVerdict e other.verdict) (sym case) h.verdict) in
      λ i. record {
        obligation = sym same i;
        makeup = makeup i;
        paid = record { 0 = paid i };
        verdict = verdict i;
      }

  -- ---- all rows

  of_listed : (row : DueRow) → Has rows row → IsDueRow all own owed quarter as_of row
  of_listed row has =
      let from = paired_from (IsRowBy of_return as_of) (begun stands name quarter) rows row are_rows
      has in
      let same : row.obligation ≡ from.0 = from.2.obligation in
      let there = has_begun from.0 from.1 in
      row_is row (subst (Has owed) (sym same) there.0)
      (ap (λ (p : Obligation). quarter_of p.first) same ∙ there.1)
      (subst (λ o. IsRowBy of_return as_of o row) (sym same) from.2)

  is_listed : (row : DueRow) → IsDueRow all own owed quarter as_of row → Has rows row
  is_listed row is =
      let o : Obligation = row.obligation in
      let to = paired_to (IsRowBy of_return as_of) (begun stands name quarter) rows o are_rows
      (begun_has o is.owed is.begins) in
      subst (Has rows) (sym (row_one row to.0 to.2.obligation is (of_listed to.0 to.1))) to.1

  pub due_listed : IsDueList all own name quarter as_of (due_answer name quarter as_of rows)
  due_listed = record {
    rows = owed;
    owed = (
      (stands.settled name).lines,
      (stands.settled name).are_lines,
      (stands.settled name).are_owed,
    );
    listed = rows;
    by_first_day = rows_rise (IsRowBy of_return as_of) (λ o row r. r.obligation)
        (begun stands name quarter) rows (kept_by_first_day (begins_in quarter) owed
        (stands.settled name).are_owed.by_first_day) are_rows;
    all = λ row. (of_listed row, is_listed row);
    told = refl;
  }
