-- How many rows a text has.
use Rattle.std.proofs.Common.{◌≤◌, ◌+◌, ◌∷◌, [], ℕ, zero, suc, List, length, Option, Some}
use Rattle.std.proofs.Common.{None, true, false, arith, cond}
use Rattle.csv.specs.Machine.{Read, next_record}
use Rattle.csv.specs.Reading.{default_config, records_from, records_next, strip_bom, is_bom}
use Rattle.csv.specs.declared.parser.State.{State}
use Rattle.csv.specs.declared.parser.State.TheVariants as st
use Rattle.ftd_csv.specs.Records.{rows_of}

length-next : (more : State → List ℕ → List (List (List ℕ))) (n : ℕ) (o : Option Read)
    → ((s : State) (xs : List ℕ) → length (more s xs) ≤ n) → length (records_next more o) ≤ suc n
length-next more n None h = omega arith
length-next more n (Some p) h = let a : length (more p.1 p.2) ≤ n = h p.1 p.2 in omega arith

length-records_from : (n : ℕ) (s : State) (xs : List ℕ)
    → length (records_from default_config n s xs) ≤ n
unfolding records_from
length-records_from zero s xs = omega arith
length-records_from (suc n) s xs = length-next (records_from default_config n) n
    (next_record default_config s [] [] xs) (λ t ys. length-records_from n t ys)

length-strip : (xs : List ℕ) → length (strip_bom xs) ≤ length xs
unfolding strip_bom
length-strip [] = omega arith
length-strip (a ∷ []) = omega arith
length-strip (a ∷ b ∷ []) = omega arith
length-strip (a ∷ b ∷ c ∷ rest) = elim (is_bom a b c) as
    (λ v. length (cond v rest (a ∷ b ∷ c ∷ rest)) ≤ length (a ∷ b ∷ c ∷ rest)) [
      | true ↦ omega arith
      | false ↦ omega arith
    ]

-- a text has no more rows than bytes, but for one
pub length-rows : (text : List ℕ) → length (rows_of text) ≤ length text + 1
unfolding rows_of
length-rows text =
    let a = length-records_from (length (strip_bom text) + 1) st.StartRecord (strip_bom text) in
    let b = length-strip text in omega arith
