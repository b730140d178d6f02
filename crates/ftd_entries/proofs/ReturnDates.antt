-- The dates of a return and of a makeup, by holidays that agree in the year and the next.
use Rattle.std.proofs.Common.{◌≡◌, ℕ, ◌+◌, ◌<◌, ◌≤◌, true, not, ◌&&◌, List, sym}
use Rattle.std.proofs.Common.{ap, ◌∙◌, subst, arith}
use Rattle.std.specs.Prelude.{min, nat_lt}
use Rattle.ftd_days.specs.Business.{is_business, is_holiday, IsOnOrAfter}
use Rattle.ftd_days.specs.Calendar.{last_day, year_of, year_start, quarter_of, quarter_year}
use Rattle.ftd_days.specs.Calendar.{weekday_of}
use Rattle.ftd_days.specs.Holidays.{AreFew}
use Rattle.ftd_days.proofs.Business.{some_business}
use Rattle.ftd_days.proofs.Months.{in_month, year_begins}
use Rattle.ftd_days.proofs.Months.{year_ends}
use Rattle.ftd_rules.specs.declared.Form.{Form}
use Rattle.ftd_rules.specs.declared.Rule.{Rule}
use Rattle.ftd_rules.specs.declared.Rule.TheVariants.{Monthly, Semiweekly, NextDay}
use Rattle.ftd_rules.specs.Returns.{month_after_ends, IsReturnDue}
use Rattle.ftd_rules.specs.Returns.{IsEarlierMakeup, IsMakeup}
use Rattle.ftd_rules.proofs.Near.{return_near, return_after}
use Rattle.ftd_rules.proofs.ReturnDates.{rolled_before}
use Rattle.ftd_rules.proofs.Schedules.{year_start-mono}

-- of the days of the year and of the next the same are holidays in both
abbrev pub AgreeIn : ℕ → List ℕ → List ℕ → Type 0
AgreeIn year read all = (day : ℕ) → year_start year ≤ day → day < year_start (year + 1 + 1)
    → is_holiday all day ≡ is_holiday read day

module _ (read all : List ℕ) (year : ℕ) (from_2001 : 2001 ≤ year) (to_2098 : year ≤ 2098)
    (few : AreFew all) (agree : AgreeIn year read all) where
  business_same : (day : ℕ) → year_start year ≤ day → day < year_start (year + 1 + 1)
      → is_business all day ≡ is_business read day
  business_same day low high = ap (λ h. nat_lt (weekday_of day) 5 && not h) (agree day low high)

  roll_same : (day rolled : ℕ) → year_start year ≤ day → rolled < year_start (year + 1 + 1)
      → IsOnOrAfter read day rolled → IsOnOrAfter all day rolled
  roll_same day rolled low high on =
      let after = on.after in
      record {
        after = on.after;
        business = business_same rolled (omega arith) high ∙ on.business;
        least = λ e since before. business_same e (omega arith) (omega arith)
            ∙ on.least e since before;
      }

  -- the date of the return of a quarter of the year is the same by both, and lies in the two years
  pub return_same : (form : Form) (quarter day : ℕ) → quarter_year quarter ≡ year
      → IsReturnDue form read quarter day
      → IsReturnDue form all quarter day × (day < year_start (year + 1 + 1))
      × (year_start year ≤ day)
  return_same form quarter day its on =
      let from : ℕ = month_after_ends form quarter in
      let low = return_after form quarter year (sym its) in
      let there = some_business all from in
      let due : ℕ = there.0 in
      let is : IsReturnDue form all quarter due = there.1 in
      let near = return_near form all quarter due few (omega arith) is in
      let near1 = near.1.0 in let in_days = near.1.1 in
      let to = (in_month due in_days).1 in
      let year_end = year_ends due in_days in
      let ends : year_start (year_of due + 1) ≤ year_start (year + 1 + 1) =
      year_start-mono (year_of due + 1) (year + 1 + 1) (omega arith) in
      let within : due < year_start (year + 1 + 1) = omega arith in
      let after = is.after in
      let business : is_business read due ≡ true = sym (business_same due (omega arith) within)
      ∙ is.business in
      let soon = rolled_before read due from day business is.after on in
      let late = on.after in
      (roll_same from day low (omega arith) on, omega arith, omega arith)

  earlier_same : (form : Form) (last due makeup : ℕ) → year_of last ≡ year → last ≤ last_day
      → last ≤ due → due ≤ last_day → IsEarlierMakeup form read last due makeup
      → IsEarlierMakeup form all last due makeup
  earlier_same form last due makeup its within later due_within m =
      let of_return = return_same form (quarter_of last) m.return_due (omega arith) m.is_return in
      let soon = of_return.1 in let not_early = of_return.2 in
      let begins : year_start year ≤ last = subst (λ y. year_start y ≤ last) its
      (year_begins last within) in
      let month = (in_month due due_within).1 in
      let weekday = m.is_weekday.not_before in
      let top = rolled_before read m.return_due (min m.return_due m.weekday) makeup
      m.is_return.business (omega arith) m.rolled in
      record {
        return_due = m.return_due;
        is_return = of_return.0;
        weekday = m.weekday;
        is_weekday = m.is_weekday;
        rolled = roll_same (min m.return_due m.weekday) makeup (omega arith) (omega arith) m.rolled;
      }

  -- so is a makeup date for days of the year
  pub makeup_same : (form : Form) (rule : Rule) (last due makeup : ℕ) → year_of last ≡ year
      → last ≤ last_day → last ≤ due → due ≤ last_day → IsMakeup form read rule last due makeup
      → IsMakeup form all rule last due makeup
  makeup_same form Monthly last due makeup its within later due_within m =
      (return_same form (quarter_of last) makeup (omega arith) m).0
  makeup_same form Semiweekly last due makeup its within later due_within m =
      earlier_same form last due makeup its within later due_within m
  makeup_same form NextDay last due makeup its within later due_within m =
      earlier_same form last due makeup its within later due_within m
