-- No day stands twice among those that are given and those that are added.
use Rattle.std.proofs.Common.{◌≡◌, ◌∙◌, inl, inr, refl, sym, ap, subst, ℕ, ◌<◌, ◌==◌, ◌&&◌}
use Rattle.std.proofs.Common.{true, false, List, [], ◌∷◌, ◌++◌, arith, append-nil, append_assoc}
use Rattle.std.specs.Prelude.{nat_le, nat_lt, length}
use Rattle.std.specs.List.{list_all}
use Rattle.std.proofs.lemmas.Bool.{true≢false, and_parts, ltb-true}
use Rattle.ftd_days.specs.Calendar.{year_of}
use Rattle.ftd_days.specs.Business.{is_holiday}
use Rattle.ftd_days.specs.Holidays.{YearDays, holidays_of}
use Rattle.ftd_rules.specs.Lists.{Has, KeysRise}
use Rattle.ftd_rules.proofs.Members.{any_has}
use Rattle.ftd_rules.proofs.Owed.{has_append, has_left, has_right}
use Rattle.ftd_machine.specs.Limits.{is_calendar, are_rising}
use Rattle.ftd_machine.specs.Sound.{AreDistinct}
use Rattle.ftd_machine.proofs.Few.{Fits, fits_year, given_append}
use Rattle.ftd_machine.proofs.Keeping.{same_key}

abbrev pub itself : ℕ → ℕ
itself day = day

abbrev pub AreOnce : List ℕ → Type 0
AreOnce days = AreDistinct (λ (day : ℕ). day) days

-- ---- a calendar

-- days of which each comes before the next rise
pub days_rise : (days : List ℕ) → are_rising days ≡ true → KeysRise itself days
days_rise [] e = tt
days_rise (x ∷ []) e = ((λ later has. absurd has), tt)
days_rise (x ∷ y ∷ days) e =
    let parts = and_parts (nat_lt x y) (are_rising (y ∷ days)) e in
    let first : x < y = ltb-true x y parts.0 in
    let rest : KeysRise itself (y ∷ days) = days_rise (y ∷ days) parts.1 in (
      (λ later has. elim has [
        | inl is ↦ omega arith
        | inr after ↦ let more = rest.0 later after in
            omega arith
      ]),
      rest,
    )

rise_once : (days : List ℕ) → KeysRise itself days → AreOnce days
rise_once [] rise = tt
rise_once (x ∷ days) rise = (
  (λ later has is. (let less = rise.0 later has in absurd (omega arith))),
  rise_once days rise.1,
)

pub calendar_once : (year : ℕ) (days : List ℕ) → is_calendar year days ≡ true → AreOnce days
calendar_once year days fits =
    let rest = (and_parts (nat_le (length days) 60)
    (list_all (λ d. year_of d == year) days && are_rising days) fits).1 in
    rise_once days (days_rise days
    (and_parts (list_all (λ d. year_of d == year) days) (are_rising days) rest).1)

-- ---- lists end to end

once_append : (xs ys : List ℕ) → AreOnce xs → AreOnce ys
    → ((d : ℕ) → Has xs d → Has ys d → ⊥) → AreOnce (xs ++ ys)
once_append [] ys a b apart = b
once_append (x ∷ xs) ys a b apart = (
  (λ later has is. elim (has_append xs ys later has) [
    | inl here ↦ a.0 later here is
    | inr there ↦ apart x (inl refl) (subst (Has ys) is there)
  ]),
  once_append xs ys a.1 b (λ d has. apart d (inr has)),
)

pub once_left : (xs ys : List ℕ) → AreOnce (xs ++ ys) → AreOnce xs
once_left [] ys once = tt
once_left (x ∷ xs) ys once = (
  (λ later has. once.0 later (has_left xs ys later has)),
  once_left xs ys once.1,
)

pub once_right : (xs ys : List ℕ) → AreOnce (xs ++ ys) → AreOnce ys
once_right [] ys once = once
once_right (x ∷ xs) ys once = once_right xs ys once.1

pub once_across : (xs ys : List ℕ) → AreOnce (xs ++ ys) → (d : ℕ) → Has xs d → Has ys d → ⊥
once_across [] ys once d has also = has
once_across (x ∷ xs) ys once d (inl is) also = once.0 d (has_right xs ys d also) is
once_across (x ∷ xs) ys once d (inr has) also = once_across xs ys once.1 d has also

-- ---- a calendar more, and a day more

-- a day of calendars is one of a calendar
pub calendar_with : (cs : List YearDays) (d : ℕ) → Has (holidays_of cs) d
    → (c : YearDays) × Has cs c × Has c.days d
calendar_with [] d has = absurd has
calendar_with (c ∷ cs) d has = elim (has_append c.days (holidays_of cs) d has) [
  | inl here ↦ (c, inl refl, here)
  | inr there ↦ (let rest = calendar_with cs d there in (rest.0, inr rest.1, rest.2))
]

pub once_given : (cs : List YearDays) (new : YearDays) (added : List ℕ)
    → ((c : YearDays) → Has cs c → Fits c) → Fits new
    → ((c : YearDays) → Has cs c → c.year ≡ new.year → ⊥)
    → ((d : ℕ) → Has added d → year_of d ≡ new.year → ⊥)
    → AreOnce (holidays_of cs ++ added) → AreOnce (holidays_of (cs ++ new ∷ []) ++ added)
once_given cs new added fit fits other apart once =
    let given = holidays_of cs in
    let of_year : (d : ℕ) → Has new.days d → year_of d ≡ new.year =
    λ d has. fits_year new.year new.days d fits has in
    let both : AreOnce (given ++ new.days) =
    once_append given new.days (once_left given added once)
    (calendar_once new.year new.days fits)
    (λ d has also. (let c = calendar_with cs d has in
    other c.0 c.1 (sym (fits_year c.0.year c.0.days d (fit c.0 c.1) c.2) ∙ of_year d also))) in
    let all : AreOnce ((given ++ new.days) ++ added) =
    once_append (given ++ new.days) added both (once_right given added once)
    (λ d has also. elim (has_append given new.days d has) [
      | inl before ↦ once_across given added once d before also
      | inr here ↦ apart d also (of_year d here)
    ]) in
    subst (λ ds. AreOnce (ds ++ added))
    (sym (given_append cs (new ∷ []) ∙ ap (λ ds. given ++ ds) (append-nil new.days))) all

pub once_added : (given added : List ℕ) (new : ℕ) → is_holiday (given ++ added) new ≡ false
    → AreOnce (given ++ added) → AreOnce (given ++ (added ++ new ∷ []))
once_added given added new fresh once =
    subst AreOnce (append_assoc given added (new ∷ []))
    (once_append (given ++ added) (new ∷ []) once ((λ later has. absurd has), tt)
    (λ d has also. elim also [
      | inl is ↦ true≢false (sym (any_has (λ h. h == new) (given ++ added) new
          (subst (Has (given ++ added)) is has) (same_key new)) ∙ fresh)
      | inr none ↦ none
    ]))
