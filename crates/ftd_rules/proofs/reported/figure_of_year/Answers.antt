use Rattle.std.proofs.Common.{rules, tests, ◌≡◌, ℕ, Bool, List, sym}
use Rattle.std.specs.Prelude.{◌==◌, None, Some}
use Rattle.std.specs.List.{find}
use Rattle.std.specs.Option.{option_map}
use Rattle.std.proofs.lemmas.Iterator.{YieldsList-from_slice}
use Rattle.std.proofs.lemmas.Iterator.Search.{find_from_yields_List}
use Rattle.ftd_days.specs.declared.cents.Cents.{Cents}
use Rattle.ftd_rules.proofs.Figures.{figure_found, figure_none}
use Rattle.ftd_rules.proofs.reported.figure_of_year.Goals as goal

pub returns-in_err-figure : goal.returns-in_err-figure
returns-in_err-figure c =
    let xs : List (ℕ × Cents) = c.args.reported.now in
    let test : ℕ × Cents → Bool = λ x. x.0 == c.args.year in
    let found : option_map (λ y. y.now) c.find.result ≡ find test xs =
    find_from_yields_List test _ _ c.find.result c.find.ensures.ran (YieldsList-from_slice xs cc)
    (λ x b q k. search (rules, tests)) in
    let none : find test xs ≡ None = sym (rw c.in_err-figure.was at found) in
    rw c.from_residual.ensures (figure_none xs c.args.year none)

pub returns : goal.returns
returns c =
    let xs : List (ℕ × Cents) = c.args.reported.now in
    let test : ℕ × Cents → Bool = λ x. x.0 == c.args.year in
    let found : option_map (λ y. y.now) c.find.result ≡ find test xs =
    find_from_yields_List test _ _ c.find.result c.find.ensures.ran (YieldsList-from_slice xs cc)
    (λ x b q k. search (rules, tests)) in
    let some : find test xs ≡ Some c.in_ok-figure.figure.now =
    sym (rw c.in_ok-figure.was at found) in
    figure_found xs c.args.year c.in_ok-figure.figure.now some
