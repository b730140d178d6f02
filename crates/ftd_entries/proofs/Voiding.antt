-- Of the rows of entries that of one key is voided: they are the rows of the entries with that one
-- voided.
use Rattle.std.proofs.Common.{◌≡◌, ◌∙◌, refl, ap, ℕ, Bool, true, false, cond, List, [], ◌∷◌, map}
use Rattle.std.specs.Prelude.{if◌then◌else◌}
use Rattle.ftd_rules.specs.declared.run.Voidable.{Voidable}
use Rattle.ftd_sql.specs.Kept.{changed}
use Rattle.ftd_machine.specs.State.{Entry}
use Rattle.ftd_machine.specs.Step.{with_voided, voided_if, is_under, as_voided}

module _ {X R : Type 0} (row : Entry (Voidable X) → R) (voided : R → R) (test : R → Bool)
    (name : List ℕ) (number : ℕ)
    (tests : (e : Entry (Voidable X)) → test (row e) ≡ is_under name number e)
    (voids : (e : Entry (Voidable X)) → voided (row e) ≡ row
    (record { name = e.name; key = e.key; content = as_voided e.content })) where
  row_voided : (e : Entry (Voidable X)) → changed test voided (row e) ≡ row
      (voided_if name number e)
  row_voided e = ap (λ b. cond b (voided (row e)) (row e)) (tests e) ∙ by (is_under name number e)
    where
      by : (under : Bool) → cond under (voided (row e)) (row e)
          ≡ row
          (record {
            name = e.name;
            key = e.key;
            content = if under then as_voided e.content else e.content;
          })
      by true = voids e
      by false = refl

  pub rows_voided : (es : List (Entry (Voidable X)))
      → map (changed test voided) (map row es) ≡ map row (with_voided es name number)
  rows_voided [] = refl
  rows_voided (e ∷ es) =
      ap (λ r. r ∷ map (changed test voided) (map row es)) (row_voided e)
      ∙ ap (λ rs. row (voided_if name number e) ∷ rs) (rows_voided es)
