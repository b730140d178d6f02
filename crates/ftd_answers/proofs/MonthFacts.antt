-- The lines of a month, one after the other.
use Rattle.std.proofs.Common.{◌≡◌, ℕ, ◌+◌, ◌*◌, ◌<◌, ◌≤◌, List, [], ◌∷◌, ◌++◌, length, drop, get_or}
use Rattle.std.proofs.Common.{suc, add-one, drop-cons, Bool, true, false, cond, sym, ap, ◌∙◌, arith}
use Rattle.std.proofs.Common.{append_assoc}
use Rattle.std.specs.Prelude.{◌==◌}
use Rattle.std.specs.List.{flat_map, sum_by}
use Rattle.std.proofs.lemmas.Bool.Decides.{nat_tests}
use Rattle.std.proofs.lemmas.List.{drop_all}
use Rattle.std.proofs.lemmas.List.Sums.{sum_by-cons}
use Rattle.ftd_days.specs.Calendar.{month_of}
use Rattle.ftd_rules.specs.Liability.{cents_of}
use Rattle.ftd_rules.specs.declared.DaySum.{DaySum}
use Rattle.ftd_answers.specs.SchedulesB.{b_line, day_line, month_lines, month_text, months_of}
use Rattle.ftd_answers.specs.SchedulesB.{of_month}

-- the sums from one on are it and those after it, of which it is the month's or not
sum_on : (sums : List DaySum) (i : ℕ) (sum : DaySum) → i < length sums → sum ≡ get_or sums i sum
    → drop i sums ≡ sum ∷ drop (i + 1) sums
sum_on sums i sum h is = rw add-one (drop-cons sums i sum h
    ∙ ap (λ (z : DaySum). z ∷ drop (suc i) sums) (sym is))

month_is : (month : ℕ) (sum : DaySum) → month_of sum.day ≡ month
    → (month_of sum.day == month) ≡ true
month_is month sum e = grind (arith, nat_tests)

month_is_other : (month : ℕ) (sum : DaySum) → (month_of sum.day ≡ month → ⊥)
    → (month_of sum.day == month) ≡ false
month_is_other month sum n = grind (arith, nat_tests)

pub of_this : (month : ℕ) (sums : List DaySum) (i : ℕ) (sum : DaySum) → i < length sums
    → sum ≡ get_or sums i sum → month_of sum.day ≡ month
    → of_month month (drop i sums) ≡ sum ∷ of_month month (drop (i + 1) sums)
of_this month sums i sum h is e =
    ap (λ (z : List DaySum). of_month month z) (sum_on sums i sum h is)
    ∙ ap (λ b. cond b (sum ∷ of_month month (drop (i + 1) sums))
    (of_month month (drop (i + 1) sums))) (month_is month sum e)

pub of_other : (month : ℕ) (sums : List DaySum) (i : ℕ) (sum : DaySum) → i < length sums
    → sum ≡ get_or sums i sum → (month_of sum.day ≡ month → ⊥)
    → of_month month (drop i sums) ≡ of_month month (drop (i + 1) sums)
of_other month sums i sum h is n =
    ap (λ (z : List DaySum). of_month month z) (sum_on sums i sum h is)
    ∙ ap (λ b. cond b (sum ∷ of_month month (drop (i + 1) sums))
    (of_month month (drop (i + 1) sums))) (month_is_other month sum n)

-- so are their lines, and their amounts
pub lines_at : (rest others : List DaySum) (sum : DaySum) (last : List ℕ) → rest ≡ sum ∷ others
    → flat_map day_line rest ++ last ≡ day_line sum ++ (flat_map day_line others ++ last)
lines_at rest others sum last e = ap (λ (z : List DaySum). flat_map day_line z ++ last) e
    ∙ append_assoc (day_line sum) (flat_map day_line others) last

pub sums_at : (rest others : List DaySum) (sum : DaySum) → rest ≡ sum ∷ others
    → sum_by cents_of rest ≡ cents_of sum + sum_by cents_of others
sums_at rest others sum e = ap (λ (z : List DaySum). sum_by cents_of z) e
    ∙ sum_by-cons cents_of sum others

-- a month's sums are part of all
within_either : (b : Bool) (sum : DaySum) (some all : List DaySum)
    → sum_by cents_of some ≤ sum_by cents_of all → sum_by cents_of (cond b (sum ∷ some) some) ≤
    sum_by cents_of (sum ∷ all)
within_either true sum some all h = let a = sum_by-cons cents_of sum some in
    let b = sum_by-cons cents_of sum all in omega arith
within_either false sum some all h = let b = sum_by-cons cents_of sum all in omega arith

pub month_within : (month : ℕ) (sums : List DaySum) → sum_by cents_of (of_month month sums) ≤ sum_by
    cents_of sums
month_within month [] = omega arith
month_within month (sum ∷ sums) = within_either (month_of sum.day == month) sum
    (of_month month sums) sums (month_within month sums)

-- after the last sum the month's line is left, of the whole total
pub month_end : (month : ℕ) (sums : List DaySum) (i total : ℕ) → length sums ≤ i
    → total + sum_by cents_of (of_month month (drop i sums)) ≡ sum_by cents_of (of_month month sums)
    → flat_map day_line (of_month month (drop i sums)) ++ b_line (month_text month)
    (sum_by cents_of (of_month month sums)) ≡ b_line (month_text month) total
month_end month sums i total h e =
    let none = drop_all i sums h in
    let whole : total ≡ sum_by cents_of (of_month month sums) = let f = rw none at e in
    omega arith in
    rw none (ap (λ z. b_line (month_text month) z) (sym whole))

-- the lines of three months, one after the other
three : (a b c last : List ℕ) → (a ++ (b ++ (c ++ []))) ++ last ≡ a ++ (b ++ (c ++ last))
three a b c last = simp append_assoc

pub months_rest : (sums : List DaySum) (quarter : ℕ) (last : List ℕ)
    → flat_map (month_lines sums) (months_of quarter) ++ last
    ≡ month_lines sums (3 * quarter)
    ++ (month_lines sums (3 * quarter + 1) ++ (month_lines sums (3 * quarter + 2) ++ last))
months_rest sums quarter last = three (month_lines sums (3 * quarter))
    (month_lines sums (3 * quarter + 1)) (month_lines sums (3 * quarter + 2)) last
