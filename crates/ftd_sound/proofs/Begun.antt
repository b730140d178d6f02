-- Lines that are begun, year by year.
use Rattle.std.proofs.Common.{◌≡◌, ℕ, ◌+◌, ◌<◌, ◌==◌, ◌&&◌, Bool, true, false, List, [], ◌∷◌, ◌++◌}
use Rattle.std.proofs.Common.{length, take, get_or, refl, sym, ap, ◌∙◌, arith}
use Rattle.std.proofs.lemmas.Bool.{eqb-true}
use Rattle.std.proofs.lemmas.List.{map-append, take_more}
use Rattle.std.proofs.lemmas.List.Elements.{All-push}
use Rattle.ftd_rules.specs.declared.YearLine.{YearLine}
use Rattle.ftd_machine.specs.declared.entries.Account.{Account}
use Rattle.ftd_machine.specs.History.{AreCarried, year_of_line}
use Rattle.ftd_sound.specs.declared.figures.Figures.{Figures}
use Rattle.ftd_sound.specs.Private.Lines.{IsTotal, AreBegun}

-- a list with an item is not empty
some_items : {X : Type 0} (x : X) (xs : List X) (b : Bool) → (length (x ∷ xs) == 0) ≡ b → b ≡ false
some_items x xs true e =
    absurd (let none : length (x ∷ xs) ≡ 0 = eqb-true (length (x ∷ xs)) 0 e in omega arith)
some_items x xs false e = refl

no_longer : {X : Type 0} (x : X) (xs : List X) (b : Bool)
    → false ≡ ((length (x ∷ xs) == 0) && b)
no_longer x xs b = ap (λ none. none && b) (sym (some_items x xs (length (x ∷ xs) == 0) refl))

pub not_empty : {X : Type 0} (xs : List X) (x : X) (b : Bool)
    → false ≡ ((length (xs ++ x ∷ []) == 0) && b)
not_empty [] x b = no_longer x [] b
not_empty (y ∷ xs) x b = no_longer y (xs ++ x ∷ []) b

and_false : (b : Bool) → (b && false) ≡ false
and_false true = refl
and_false false = refl

carried_more : (carried : Bool) (lines : List YearLine) (line : YearLine)
    → line.carried ≡ ((length lines == 0) && carried) → AreCarried carried lines
    → AreCarried carried (lines ++ line ∷ [])
carried_more carried [] line is are = (is, tt)
carried_more carried (first ∷ lines) line is are = (
  are.0,
  carried_more false lines line
      (is ∙ sym (no_longer first lines carried) ∙ sym (and_false (length lines == 0))) are.1,
)

-- a line more
pub begun_more : (account : Account) (figures : Figures) (years : List ℕ) (k : ℕ)
    (lines : List YearLine) (line : YearLine) → k < length years → line.year ≡ get_or years k 0
    → IsTotal account figures line.year line.lookback
    → line.carried ≡ ((length lines == 0) && account.carried)
    → AreBegun account figures (take k years) lines
    → AreBegun account figures (take (k + 1) years) (lines ++ line ∷ [])
begun_more account figures years k lines line less year total carried begun = record {
  years_are = map-append year_of_line lines (line ∷ [])
      ∙ ap (λ ys. ys ++ line.year ∷ []) begun.years_are
      ∙ ap (λ y. take k years ++ y ∷ []) year ∙ sym (take_more years k 0 less);
  lookbacks = All-push (λ (l : YearLine). IsTotal account figures l.year l.lookback) lines line
      begun.lookbacks total;
  carried = carried_more account.carried lines line carried begun.carried;
}
