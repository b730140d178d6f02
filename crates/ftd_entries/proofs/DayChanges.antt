-- The changes of the days of a year, by their rows: of each day they are what the state keeps of
-- it.
use Rattle.std.proofs.Common.{◌≡◌, ◌∙◌, inl, inr, refl, sym, ap, subst, ℕ, suc, ◌+◌, ◌≤◌, ◌==◌}
use Rattle.std.proofs.Common.{◌&&◌, pos, Bool, true, false, List, [], ◌∷◌, map, filter, Vec, arith}
use Rattle.std.proofs.lemmas.Int.{ints}
use Rattle.std.specs.Int.Signed.{◌<ℤ◌}
use Rattle.std.specs.Ordering.{int_eq}
use Rattle.std.specs.List.{sum_by}
use Rattle.std.specs.Prelude.{IsPermutation, if◌then◌else◌}
use Rattle.std.proofs.lemmas.Bool.{eqb-true, true≢false}
use Rattle.std.proofs.lemmas.List.Sums.{sum_by-cons}
use Rattle.std.proofs.lemmas.List.Sorted.{sum_by-IsPermutation}
use Rattle.ftd_days.specs.Calendar.{year_of}
use Rattle.ftd_days.proofs.Years.{eq_same}
use Rattle.ftd_rules.specs.Lists.{Has, KeysRise, KeysDoNotFall}
use Rattle.ftd_rules.proofs.Rising.{rising_one, has_permuted}
use Rattle.ftd_rules.proofs.Members.{has_kept}
use Rattle.ftd_sql.specs.Order.{EachToNext}
use Rattle.ftd_sql.specs.declared.TableName.TheVariants.{ChangedHolidays}
use Rattle.ftd_sql.specs.Orders.{HolidayChangesRise}
use Rattle.ftd_sql.specs.Rows.{ChangedHolidayRow}
use Rattle.ftd_sql.specs.Standing.{Tables}
use Rattle.ftd_sql.specs.Tests.{is_holiday_change_of}
use Rattle.ftd_store.specs.Cells.{day_number}
use Rattle.ftd_store.specs.Lists.{Pairs}
use Rattle.ftd_store.specs.Rows.{holiday_change_row}
use Rattle.ftd_store.specs.declared.correction_cells.HolidayChange.{HolidayChange}
use Rattle.ftd_store.specs.Corrections.{IsHolidayChange, ListsHolidayChanges}
use Rattle.ftd_store.specs.Holidays.{is_on, says_holiday, words_on, last_word, is_kept}
use Rattle.ftd_store.proofs.Same.{same_int}
use Rattle.ftd_machine.specs.Agenda.{EachToLater}
use Rattle.ftd_machine.specs.State.{DayChange, changes_of, is_on_day, is_in_force, latest}
use Rattle.ftd_machine.specs.State.{says_holiday as its_word}
use Rattle.ftd_machine.proofs.Members.{has_filtered}
use Rattle.ftd_entries.specs.Standing.{with_earlier, change_entry}
use Rattle.ftd_entries.proofs.CalendarRows.{whole, whole_rises, year_cell}
use Rattle.ftd_entries.proofs.Corrections.{Picks, rows_are, numbered_rows, numbers_rise, values_are}
use Rattle.ftd_entries.proofs.DayCells.{same_day}
use Rattle.ftd_entries.proofs.Found.{flag_is}

-- ---- lists in their order, and of these what passes a test

later_all : {X : Type 0} (R : X → X → Type 0) → ((x y z : X) → R x y → R y z → R x z)
    → (ys : List X) → EachToNext R ys → EachToLater R ys
later_all R trans [] h = tt
later_all R trans (y ∷ []) h = ((λ later has. absurd has), tt)
later_all R trans (y ∷ z ∷ zs) h =
    let rest : EachToLater R (z ∷ zs) = later_all R trans (z ∷ zs)
    (λ k d l. let next : suc k + 1 ≡ suc (k + 1) = omega arith in
    rw next at (h (suc k) d (omega arith))) in
    let first : R y z = h 0 y (omega arith) in (
      (λ later has. elim has [
        | inl e ↦ subst (R y) (sym e) first
        | inr after ↦ trans y z later first (rest.0 later after)
      ]),
      rest,
    )

pub later_those : {X : Type 0} (R : X → X → Type 0) (test : X → Bool) (xs : List X)
    → EachToLater R xs
    → EachToLater R (filter test xs)
later_those R test [] h = tt
later_those {X = X} R test (x ∷ xs) h = step (test x) (later_those R test xs h.1)
  where
    step : (passes : Bool) → EachToLater R (filter test xs)
        → EachToLater R (if passes then x ∷ filter test xs else filter test xs)
    step true more = ((λ later has. h.0 later (has_filtered test xs later has).0), more)
    step false more = more

do_not_fall : {X : Type 0} (R : X → X → Type 0) (key : X → ℕ) (xs : List X) → EachToLater R xs
    → ((x y : X) → Has xs x → Has xs y → R x y → key x ≤ key y) → KeysDoNotFall key xs
do_not_fall R key [] h less = tt
do_not_fall R key (x ∷ xs) h less = (
  (λ later has. less x later (inl refl) (inr has) (h.0 later has)),
  do_not_fall R key xs h.1 (λ a b in_a in_b. less a b (inr in_a) (inr in_b)),
)

sum_those : {X : Type 0} (test : X → Bool) (f : X → ℕ) (xs : List X)
    → sum_by f (filter test xs) ≡ sum_by (λ x. if test x then f x else 0) xs
sum_those test f [] = refl
sum_those {X = X} test f (x ∷ xs) =
    step (test x) (sum_those test f xs)
    ∙ sym (sum_by-cons (λ x. if test x then f x else 0) x xs)
  where
    step : (passes : Bool)
        → sum_by f (filter test xs) ≡ sum_by (λ x. if test x then f x else 0) xs
        → sum_by f (if passes then x ∷ filter test xs else filter test xs)
        ≡ (if passes then f x else 0) + sum_by (λ x. if test x then f x else 0) xs
    step true more = sum_by-cons f x (filter test xs) ∙ ap (λ n. f x + n) more
    step false more = omega (arith, more)

-- a permutation of rows of which those that pass a test have keys that rise: these are the same,
-- where they do not fall
sorted_those : {X : Type 0} (test : X → Bool) (key : X → ℕ) (xs ys : List X)
    → KeysRise key (filter test xs) → KeysDoNotFall key (filter test ys) → IsPermutation xs ys
    → filter test ys ≡ filter test xs
sorted_those test key xs ys g h moved =
    rising_one key (filter test xs) (filter test ys) g h
    (λ k. sum_those test _ ys ∙ sum_by-IsPermutation _ xs ys moved ∙ sym (sum_those test _ xs))
    (λ x has. (let from = has_filtered test ys x has in
    has_kept test xs x (has_permuted xs ys moved x from.0) from.1))

-- one test after another is both
pub filter_both : {X : Type 0} (f g : X → Bool) (xs : List X)
    → filter f (filter g xs) ≡ filter (λ x. g x && f x) xs
filter_both f g [] = refl
filter_both {X = X} f g (x ∷ xs) = step (g x) (filter_both f g xs)
  where
    step : (passes : Bool) → filter f (filter g xs) ≡ filter (λ x. g x && f x) xs
        → filter f (if passes then x ∷ filter g xs else filter g xs)
        ≡ (if passes && f x then x ∷ filter (λ x. g x && f x) xs
        else filter (λ x. g x && f x) xs)
    step true more = ap (λ rest. if f x then x ∷ rest else rest) more
    step false more = more

pairs_those : {X Y : Type 0} (R : X → Y → Type 0) (f : X → Bool) (g : Y → Bool)
    → ((x : X) (y : Y) → R x y → f x ≡ g y) → (xs : List X) (ys : List Y) → Pairs R xs ys
    → Pairs R (filter f xs) (filter g ys)
pairs_those R f g same [] [] pairs = tt
pairs_those R f g same [] (y ∷ ys) pairs = absurd pairs
pairs_those R f g same (x ∷ xs) [] pairs = absurd pairs
pairs_those R f g same (x ∷ xs) (y ∷ ys) pairs =
    step (f x) (g y) (same x y pairs.0) (pairs_those R f g same xs ys pairs.1)
  where
    step : (a b : Bool) → a ≡ b → Pairs R (filter f xs) (filter g ys)
        → Pairs R (if a then x ∷ filter f xs else filter f xs)
        (if b then y ∷ filter g ys else filter g ys)
    step true true e more = (pairs.0, more)
    step true false e more = absurd (true≢false e)
    step false true e more = absurd (true≢false (sym e))
    step false false e more = more

-- ---- by day and number

rises_on : (a b c : ChangedHolidayRow) → HolidayChangesRise a b → HolidayChangesRise b c
    → HolidayChangesRise a c
rises_on a b c (inl p) (inl q) = inl (omega (arith, ints, p, q))
rises_on a b c (inl p) (inr q) = inl (subst (λ day. a.day <ℤ day) q.0 p)
rises_on a b c (inr p) (inl q) = inl (subst (λ day. day <ℤ c.day) (sym p.0) q)
rises_on a b c (inr p) (inr q) =
    let one = p.1 in
    let two = q.1 in
    inr (p.0 ∙ q.0, omega (arith, ints, one, two))

module _ (day : ℕ) where
  abbrev on_row : ChangedHolidayRow → Bool
  on_row row = int_eq row.day (day_number day)

  abbrev change_as_row : ℕ → Bool → ChangedHolidayRow
  change_as_row n is_holiday = holiday_change_row (year_of day) (record {
    day = day;
    number = n;
    is_holiday = is_holiday;
  })

  abbrev number_of : ChangedHolidayRow → ℕ
  number_of row = whole row.number

  picks_changes : Picks (changes_of day) (is_on_day day) its_word
  picks_changes = record {
    none = refl;
    one = λ x xs is. rw is refl;
    other = λ x xs off. rw off refl;
  }

  passes_both : (b : List DayChange) (x : DayChange)
      → (is_holiday_change_of (pos (year_of day)) (change_entry (b, x))
      && on_row (change_entry (b, x))) ≡ is_on_day day x
  passes_both b x =
      ap (λ z. z && on_row (change_entry (b, x))) (year_cell (year_of x.day) (year_of day))
      ∙ ap (λ z. (year_of x.day == year_of day) && z) (same_day x.day day)
      ∙ step (x.day == day) refl
    where
      step : (same : Bool) → (x.day == day) ≡ same
          → ((year_of x.day == year_of day) && same) ≡ same
      step true e =
          rw (eq_same (year_of x.day) (year_of day) (ap year_of (eqb-true x.day day e))) refl
      step false e = none (year_of x.day == year_of day)
        where
          none : (b : Bool) → (b && false) ≡ false
          none true = refl
          none false = refl

  rows_on : (xs : List DayChange)
      → filter on_row (filter (is_holiday_change_of (pos (year_of day)))
      (map change_entry (with_earlier [] xs)))
      ≡ numbered_rows change_as_row 0 (changes_of day xs)
  rows_on xs =
      filter_both on_row (is_holiday_change_of (pos (year_of day)))
      (map change_entry (with_earlier [] xs))
      ∙ rows_are (changes_of day) (is_on_day day) its_word picks_changes
      (λ row. is_holiday_change_of (pos (year_of day)) row && on_row row) change_entry change_as_row
      passes_both
      (λ b x is. (let same = eqb-true x.day day is in rw same refl)) [] xs

  says : (n : ℕ) (v : Bool) (l : HolidayChange)
      → IsHolidayChange (year_of day) (change_as_row n v) l
      → says_holiday l ≡ v
  says n v l is =
      flag_is l.is_holiday v (sym (ap (λ (r : ChangedHolidayRow). r.is_holiday) is))

  same_test : (row : ChangedHolidayRow) (l : HolidayChange) → IsHolidayChange (year_of day) row l
      → on_row row ≡ is_on day l
  same_test row l is = ap on_row is ∙ same_day l.day day

  -- what was listed of the day's year says of the day what these changes say, where their rows are
  -- those of the table
  pub words_known : {A : Type 0} (listed : Vec HolidayChange A) (t : Tables)
      (changes : List DayChange) → t ChangedHolidays ≡ map change_entry (with_earlier [] changes)
      → ListsHolidayChanges (year_of day) listed t
      → words_on day listed.items ≡ changes_of day changes
  words_known listed t changes rows_are l =
      let kept = changes_of day changes in
      let rows = filter (is_holiday_change_of (pos (year_of day))) (t ChangedHolidays) in
      let are : filter on_row rows ≡ numbered_rows change_as_row 0 kept =
      ap (λ all. filter on_row (filter (is_holiday_change_of (pos (year_of day))) all))
      rows_are ∙ rows_on changes in
      let rise : KeysRise number_of (filter on_row rows) =
      subst (KeysRise number_of) (sym are)
      (numbers_rise change_as_row number_of (IsHolidayChange (year_of day)) says_holiday
      (λ n v. refl) says 0 kept) in
      let later = later_those HolidayChangesRise on_row l.ordered
      (later_all HolidayChangesRise rises_on l.ordered l.rise) in
      let fall : KeysDoNotFall number_of (filter on_row l.ordered) =
      do_not_fall HolidayChangesRise number_of (filter on_row l.ordered) later
      (λ a b in_a in_b rises. numbers a b
      (same_int a.day (day_number day) (has_filtered on_row l.ordered a in_a).1)
      (same_int b.day (day_number day) (has_filtered on_row l.ordered b in_b).1) rises) in
      let sorted : filter on_row l.ordered ≡ numbered_rows change_as_row 0 kept =
      sorted_those on_row number_of rows l.ordered rise fall l.same ∙ are in
      let pairs : Pairs (IsHolidayChange (year_of day)) (filter on_row l.ordered)
      (filter (is_on day) listed.items) =
      pairs_those (IsHolidayChange (year_of day)) on_row (is_on day) same_test l.ordered
      listed.items l.pairs in
      values_are change_as_row number_of (IsHolidayChange (year_of day)) says_holiday
      (λ n v. refl) says 0 kept (filter (is_on day) listed.items)
      (subst (λ rs. Pairs (IsHolidayChange (year_of day)) rs (filter (is_on day) listed.items))
      sorted pairs)
    where
      numbers : (a b : ChangedHolidayRow) → a.day ≡ day_number day → b.day ≡ day_number day
          → HolidayChangesRise a b → number_of a ≤ number_of b
      numbers a b on_a on_b (inl less) =
          let same : a.day ≡ b.day = on_a ∙ sym on_b in
          absurd (let itself = subst (λ day. day <ℤ b.day) same less in
          omega (arith, ints, itself))
      numbers a b on_a on_b (inr rise) = whole_rises a.number b.number rise.1

  last_is : (before : Bool) (words : List Bool) → last_word before words ≡ latest before words
  last_is before [] = refl
  last_is before (word ∷ words) = last_is word words

  pub kept_known : {A : Type 0} (listed : Vec HolidayChange A) (t : Tables)
      (changes : List DayChange) → t ChangedHolidays ≡ map change_entry (with_earlier [] changes)
      → ListsHolidayChanges (year_of day) listed t
      → is_kept listed.items day ≡ is_in_force changes day
  kept_known listed t changes rows_are l =
      last_is true (words_on day listed.items)
      ∙ ap (latest true) (words_known listed t changes rows_are l)
