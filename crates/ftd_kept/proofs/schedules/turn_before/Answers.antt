use Rattle.std.proofs.Common.{rules, tests, ◌≡◌, None, Some, sym}
use Rattle.std.specs.List.{find}
use Rattle.std.specs.Option.{option_map}
use Rattle.std.proofs.lemmas.Iterator.{YieldsList-from_slice}
use Rattle.std.proofs.lemmas.Iterator.Search.{find_from_yields_List}
use Rattle.ftd_entries.specs.Opening.{turns_into}
use Rattle.ftd_kept.proofs.Scheduling.{no_turn_before, turn_found}
use Rattle.ftd_kept.proofs.schedules.turn_before.Goals as goal

pub returns-in_err-find : goal.returns-in_err-find
returns-in_err-find c = λ line same.
    let xs = c.args.lines.now in
    let is : option_map (λ y. y.now) c.find.result ≡ find (turns_into c.args.year) xs =
    find_from_yields_List (turns_into c.args.year) _ _ c.find.result c.find.ensures.ran
    (YieldsList-from_slice xs cc) (λ x b q k. search (rules, tests)) in
    let none : find (turns_into c.args.year) xs ≡ None = sym (rw c.in_err-find.was at is) in
    rw c.from_residual.ensures (no_turn_before xs line c.args.year same none)

pub returns : goal.returns
returns c = λ line same.
    let xs = c.args.lines.now in
    let is : option_map (λ y. y.now) c.find.result ≡ find (turns_into c.args.year) xs =
    find_from_yields_List (turns_into c.args.year) _ _ c.find.result c.find.ensures.ran
    (YieldsList-from_slice xs cc) (λ x b q k. search (rules, tests)) in
    let some : find (turns_into c.args.year) xs ≡ Some c.in_ok-find.field-0.now =
    sym (rw c.in_ok-find.was at is) in
    turn_found xs line c.args.year same c.in_ok-find.field-0.now some
