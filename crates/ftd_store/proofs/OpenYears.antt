-- The lines of the open years.
use Rattle.std.proofs.Common.{◌≡◌, ◌<◌, ◌≤◌, ◌+◌, ℕ, zero, suc, List, [], ◌∷◌, Option, None, Some}
use Rattle.std.proofs.Common.{Bool, false, inl, inr, length, get_or, refl, sym, ap, ◌∙◌, arith}
use Rattle.std.specs.Prelude.{IsTrue}
use Rattle.std.proofs.lemmas.Bool.{false≢true}
use Rattle.ftd_rules.specs.declared.YearLine.{YearLine}
use Rattle.ftd_rules.specs.Lists.{Has}
use Rattle.ftd_rules.specs.Years.{AreOpenYears, YearsFrom, OnlyFirstCarried}
use Rattle.ftd_rules.proofs.Schedules.{years_top}
use Rattle.ftd_store.specs.declared.account_cells.Account.{Account}
use Rattle.ftd_store.specs.declared.year_cells.StoredYear.{StoredYear}
use Rattle.ftd_store.specs.Years.{year_lines, is_carried, FirstCarriedAs}

-- ---- the years of lines that go on one by one

years_at : (year : ℕ) (lines : List YearLine) (i : ℕ) (d : YearLine) → YearsFrom year lines
    → i < length lines → ((get_or lines i d).year ≡ year + i) × (year + i ≤ 2098)
years_at year [] i d h within = absurd (omega (arith, within))
years_at year (line ∷ lines) zero d h within = let more = years_top (year + 1) lines h.1 in
    (omega (arith, h.0), omega (arith, more))
years_at year (line ∷ lines) (suc i) d h within = let more = years_at (year + 1) lines i d h.1
    (omega (arith, within)) in (omega (arith, more.0), omega (arith, more.1))

-- where the first line's year is known, so is each other's
pub open_years_at : (lines : List YearLine) (first : ℕ) → (lines ≡ [] → first ≡ 2001)
    → ((line : YearLine) (more : List YearLine) → lines ≡ line ∷ more → first ≡ line.year)
    → AreOpenYears lines
    → (2001 ≤ first) × (first ≤ 2099) × ((i : ℕ) (d : YearLine) → i < length lines
    → ((get_or lines i d).year ≡ first + i) × (first + i ≤ 2098))
open_years_at [] first none some h = let is = none refl in
    (omega (arith, is), omega (arith, is), (λ i d within. absurd (omega (arith, within))))
open_years_at (line ∷ lines) first none some h =
    let is = some line lines refl in
    let same : first ≡ h.0 = is ∙ h.2.0 in
    let low = h.1 in
    let end = years_top h.0 (line ∷ lines) h.2 in (
      omega (arith, same, low),
      omega (arith, same, end),
      (λ i d within. rw same (years_at h.0 (line ∷ lines) i d h.2 within)),
    )

-- ---- which line is carried

none_carried : (ys : List StoredYear) (other : YearLine) → Has (year_lines false ys) other
    → IsTrue other.carried → ⊥
none_carried [] other has on = has
none_carried (y ∷ ys) other (inl same) on = false≢true (sym (ap (λ (l : YearLine). l.carried) same)
    ∙ on)
none_carried (y ∷ ys) other (inr more) on = none_carried ys other more on

-- at most the first of the lines is carried
pub only_first_carried : (carried : Bool) (ys : List StoredYear)
    → OnlyFirstCarried (year_lines carried ys)
only_first_carried carried [] = tt
only_first_carried carried (y ∷ ys) = none_carried ys

-- the first line is carried as the account that was found is
pub carried_as : (found : Option Account) (ys : List StoredYear) → (found ≡ None → ys ≡ [])
    → FirstCarriedAs found (year_lines (is_carried found) ys)
carried_as found [] there = tt
carried_as None (y ∷ ys) there = absurd (let e = there refl in cc)
carried_as (Some a) (y ∷ ys) there = (a, refl, refl)
