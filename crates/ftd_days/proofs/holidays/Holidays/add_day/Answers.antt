use Rattle.std.proofs.Common.{rules, tests, ◌≡◌, ◌↔◌, ℕ, ◌<◌, ◌++◌, [], ◌∷◌, Bool, true, false}
use Rattle.std.proofs.Common.{List, length, get_or, set, sym, ap, ◌∙◌, subst}
use Rattle.std.specs.Prelude.{◌==◌, None, Some, Result, Ok, Err, OnOk, OnErr}
use Rattle.std.specs.List.{position}
use Rattle.std.specs.Option.{option_map}
use Rattle.std.proofs.lemmas.Iterator.{YieldsList-from_slice}
use Rattle.std.proofs.lemmas.Iterator.Search.{position_from_yields_List}
use Rattle.std.proofs.lemmas.List.Quantifiers.{position-Some}
use Rattle.ftd_days.specs.declared.holidays.Year.{Year}
use Rattle.ftd_days.specs.Calendar.{year_of}
use Rattle.ftd_days.specs.Business.{is_holiday}
use Rattle.ftd_days.specs.Holidays.{YearDays, MayAddDay, with_day, holidays_of, IsWithHoliday}
use Rattle.ftd_days.specs.Holidays.{calendar_of}
use Rattle.ftd_days.specs.Private.Given.{given_of}
use Rattle.ftd_days.proofs.Years.{entry, calendar_first, find_place, find_none, adds_at, same_at}
use Rattle.ftd_days.proofs.Years.{years_with, holiday_with}
use Rattle.ftd_days.proofs.holidays.Holidays.add_day.Goals as goal

-- the day's calendar stands at a place of the list, and nowhere before it
record IsPlace (years : List Year) (day place : ℕ) (given : Year) : Type 0 where
  within : place < length years
  passes : ((get_or years place given).year == year_of day) ≡ true
  first : (k : ℕ) → k < place → ((get_or years k given).year == year_of day) ≡ false
  is : given ≡ get_or years place given

at_place : (years : List Year) (day place : ℕ) (given : Year)
    → position (λ (y : Year). y.year == year_of day) years ≡ Some place
    → given ≡ get_or years place given → IsPlace years day place given
at_place years day place given h e =
    (let w = position-Some (λ (y : Year). y.year == year_of day) years place given h in
    record { within = w.0; passes = w.1; first = w.2; is = e })

-- whether the day may be added rests on that calendar alone
may_is : {years : List Year} {day place : ℕ} {given : Year} → IsPlace years day place given
    → MayAddDay (given_of years) day ↔ ((is_holiday given.days.items day ≡ false)
    × (length given.days.items < 60))
may_is {years} {day} {place} {given} w =
    let found = find_place (λ (y : Year). y.year == year_of day) years place given w.within w.passes
    w.first in
    let calendar : calendar_of (given_of years) (year_of day) ≡ Some (entry given) =
    calendar_first years (year_of day) ∙ ap (option_map entry) (found ∙ ap Some (sym w.is)) in
    ((λ m. rw calendar at m), (λ m. rw calendar m))

-- the list with the changed calendar, where it has the day more and where it has not
changed : {years : List Year} {day place : ℕ} {given : Year} (new : Year)
    → IsPlace years day place given
    → new.year ≡ given.year → new.days.items ≡ given.days.items ++ day ∷ []
    → given_of (set years place new) ≡ with_day day (given_of years)
changed {years} {day} {place} {given} new w year days =
    adds_at years place given new day w.within w.passes w.first
    (year ∙ ap (λ (y : Year). y.year) w.is)
    (days ∙ ap (λ (y : Year). y.days.items ++ day ∷ []) w.is)

kept : {years : List Year} {day place : ℕ} {given : Year} (new : Year)
    → IsPlace years day place given
    → new.year ≡ given.year → new.days.items ≡ given.days.items
    → given_of (set years place new) ≡ given_of years
kept {years} {day} {place} {given} new w year days =
    same_at years place given new w.within (year ∙ ap (λ (y : Year). y.year) w.is)
    (days ∙ ap (λ (y : Year). y.days.items) w.is)

either : {E A B C : Type 0} (r : Result (Unit {0}) E) → OnOk r A → OnErr r B → (A → C) → (B → C) → C
either (Ok x) a b f g = f a
either (Err e) a b f g = g b

on_ok : {E A C : Type 0} (r : Result (Unit {0}) E) → OnOk r A → (A → C) → OnOk r C
on_ok (Ok x) a f = f a
on_ok (Err e) a f = tt

on_err : {E A C : Type 0} (r : Result (Unit {0}) E) → OnErr r A → (A → C) → OnErr r C
on_err (Ok x) a f = tt
on_err (Err e) a f = f a

pub returns-in_default-clause-bad : goal.returns-in_default-clause-bad
returns-in_default-clause-bad c =
    let years : List Year = c.self.inside.years.items in
    let day = c.args.day in
    let test : Year → Bool = λ y. y.year == year_of day in
    let found : c.position.result ≡ position test years =
    position_from_yields_List test _ _ c.position.result c.position.ensures.ran
    (YieldsList-from_slice years cc) (λ x b q k. search (rules, tests)) in
    let none = find_none test years (sym found ∙ c.in_default.is) in
    let calendar : calendar_of (given_of years) (year_of day) ≡ None = calendar_first years
    (year_of day) ∙ ap (option_map entry) none in
    let never : MayAddDay (given_of years) day → ⊥ = λ may. (let k = rw calendar at may in k) in (
      λ _. subst (λ (g : List YearDays). MayAddDay g day → ⊥) c.self.view_is never,
      λ _. search rules,
    )

-- where the search stopped
stops : (c : goal.After-self-1)
    → IsPlace c.self.inside.years.items c.args.day c.in-Some.place c.index_mut.result.now
stops c =
    let found = position_from_yields_List (λ (y : Year). y.year == year_of c.args.day) _ _
    c.position.result c.position.ensures.ran
    (YieldsList-from_slice c.self.inside.years.items cc) (λ x b q k. search (rules, tests)) in
    at_place _ _ c.in-Some.place c.index_mut.result.now (sym found ∙ c.in-Some.is)
    c.index_mut.ensures.value

pub invariant_of-self : goal.invariant_of-self
invariant_of-self c =
    let at = stops c in
    either c.add.result c.add.ensures.ok c.add.ensures.err
    (λ more. rw (changed c.add.new.self at c.add.ensures.year more.2)
    (years_with (given_of c.self.inside.years.items) c.args.day c.self.invariant
    ((may_is at).1 (more.0, more.1))))
    (λ same. rw (kept c.add.new.self at c.add.ensures.year same) c.self.invariant)

pub returns-clause-ok : goal.returns-clause-ok
returns-clause-ok c =
    let at = stops c in
    let day = c.args.day in
    on_ok c.add.result c.add.ensures.ok
    (λ more. (
      subst (λ (g : List YearDays). MayAddDay g day) c.self.view_is
          ((may_is at).1 (more.0, more.1)),
      changed c.add.new.self at c.add.ensures.year more.2 ∙ ap (with_day day) c.self.view_is,
    ))

pub returns-clause-holiday : goal.returns-clause-holiday
returns-clause-holiday c =
    let at = stops c in
    let day = c.args.day in
    on_ok c.add.result c.add.ensures.ok
    (λ more.
    let with = holiday_with (given_of c.self.inside.years.items) day
    ((may_is at).1 (more.0, more.1)) in
    rw (changed c.add.new.self at c.add.ensures.year more.2)
    (subst (λ (g : List YearDays). IsWithHoliday (holidays_of g) day
    (holidays_of (with_day day (given_of c.self.inside.years.items)))) c.self.view_is with))

pub returns-clause-bad : goal.returns-clause-bad
returns-clause-bad c =
    let may = rw c.self.view_is at (may_is (stops c)) in (
      (λ e m. c.add.ensures.bad.0 e (may.0 m)),
      (λ never. c.add.ensures.bad.1 (λ m. never (may.1 m))),
    )

pub returns-clause-err : goal.returns-clause-err
returns-clause-err c = on_err c.add.result c.add.ensures.err
    (λ same. kept c.add.new.self (stops c) c.add.ensures.year same ∙ c.self.view_is)
