use Rattle.std.proofs.Common.{◌≡◌, ◌∙◌, Bor, List, ap, option_map, map, rules, tests}
use Rattle.std.specs.List.{find}
use Rattle.std.proofs.lemmas.Iterator.{YieldsList-from_slice}
use Rattle.std.proofs.lemmas.Iterator.Search.{find_from_yields_List}
use Rattle.ftd_http.specs.Controls.{has_name, seen}
use Rattle.ftd_http.specs.declared.controls.Control.{Control}
use Rattle.ftd_http.proofs.ControlFacts.{found_by, mapped_twice}
use Rattle.ftd_http.proofs.controls.control_of.Goals as goal

pub returns : goal.returns
returns c =
    let controls = c.args.controls.now in
    let test = has_name c.args.field in
    let is : option_map (λ (x : Bor Control). x.now) c.find.result
    ≡ find (λ x. test (seen x)) controls =
    find_from_yields_List (λ x. test (seen x)) _ _ c.find.result c.find.ensures.ran
    (YieldsList-from_slice controls cc) (λ x b q k. search (rules, tests)) in
    mapped_twice seen (λ (x : Bor Control). x.now) c.find.result
    ∙ (ap (option_map seen) is ∙ found_by seen test controls)
