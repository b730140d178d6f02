use Rattle.std.proofs.Common.{◌≡◌, ◌∙◌, map, rules, tests}
use Rattle.std.specs.List.{list_any}
use Rattle.std.proofs.lemmas.Iterator.{YieldsList-from_slice}
use Rattle.std.proofs.lemmas.Iterator.Search.{any_from_yields_List}
use Rattle.ftd_http.specs.Controls.{have_one_name, seen}
use Rattle.ftd_http.proofs.ControlFacts.{any_by}
use Rattle.ftd_http.proofs.controls.one_has_name_of.Goals as goal

pub returns : goal.returns
returns c =
    let others = c.args.others.now in
    let test = have_one_name (seen c.args.control.now) in
    let found : c.any.result ≡ list_any (λ other. test (seen other)) others =
    any_from_yields_List (λ other. test (seen other)) _ _ c.any.result c.any.ensures.ran
    (YieldsList-from_slice others cc) (λ x b q k. search (rules, tests)) in
    found ∙ any_by seen test others
