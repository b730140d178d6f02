-- What is known of the names that the search for the nearest one has passed.
use Rattle.std.proofs.Common.{◌≡◌, ℕ, ◌+◌, ◌<◌, ◌≤◌, List, length, Option, Some, None, MatchOption, refl, sym, arith}
use Rattle.ftd_questions.specs.Nearest.{edits_to, most_edits, IsNearest, NoneIsNear}

-- the first of the passed names to which so many edits lead: the fewest, and few enough
pub record IsFewest (typed : List ℕ) (names : List (List ℕ)) (fewest passed place : ℕ) : Type 0 where
  pub before : place < passed
  pub is : edits_to typed names place ≡ fewest
  pub near : fewest ≤ most_edits typed
  pub first : (other : ℕ) → other < place → fewest < edits_to typed names other

-- so many names were passed
pub record Passed (typed : List ℕ) (names : List (List ℕ)) (fewest : ℕ) (found : Option ℕ) (passed : ℕ) : Type 0 where
  pub below : (other : ℕ) → other < passed → fewest ≤ edits_to typed names other
  pub at : MatchOption found (fewest ≡ most_edits typed + 1) (IsFewest typed names fewest passed)

at_more : (typed : List ℕ) (names : List (List ℕ)) (fewest : ℕ) (found : Option ℕ) (passed : ℕ)
    → MatchOption found (fewest ≡ most_edits typed + 1) (IsFewest typed names fewest passed)
    → MatchOption found (fewest ≡ most_edits typed + 1) (IsFewest typed names fewest (passed + 1))
at_more typed names fewest None passed at = at
at_more typed names fewest (Some place) passed at = record {
  before = omega (arith, at.before);
  is = at.is;
  near = at.near;
  first = at.first;
}

at_most : (typed : List ℕ) (names : List (List ℕ)) (fewest : ℕ) (found : Option ℕ) (passed : ℕ)
    → MatchOption found (fewest ≡ most_edits typed + 1) (IsFewest typed names fewest passed)
    → fewest ≤ most_edits typed + 1
at_most typed names fewest None passed at = omega (arith, at)
at_most typed names fewest (Some place) passed at = omega (arith, at.near)

-- one to which no fewer edits lead is passed
pub passed_more : (typed : List ℕ) (names : List (List ℕ)) (fewest : ℕ) (found : Option ℕ) (passed : ℕ)
    → Passed typed names fewest found passed → fewest ≤ edits_to typed names passed
    → Passed typed names fewest found (passed + 1)
passed_more typed names fewest found passed is more = record {
  below = λ other less. grind (arith, is.below other, more);
  at = at_more typed names fewest found passed is.at;
}

-- one to which fewer edits lead is passed
pub passed_nearer : (typed : List ℕ) (names : List (List ℕ)) (fewest : ℕ) (found : Option ℕ) (passed edits : ℕ)
    → Passed typed names fewest found passed → edits ≡ edits_to typed names passed → edits < fewest
    → Passed typed names edits (Some passed) (passed + 1)
passed_nearer typed names fewest found passed edits is same fewer = record {
  below = λ other less. grind (arith, is.below other, same, fewer);
  at = record {
    before = omega arith;
    is = sym same;
    near = omega (arith, fewer, at_most typed names fewest found passed is.at);
    first = λ other less. grind (arith, is.below other, fewer);
  };
}
