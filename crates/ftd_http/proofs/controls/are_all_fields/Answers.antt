use Rattle.std.proofs.Common.{◌≡◌, ◌∙◌, map, rules, sym, tests}
use Rattle.std.specs.List.{list_all}
use Rattle.std.proofs.lemmas.Iterator.{YieldsList-from_slice}
use Rattle.std.proofs.lemmas.Iterator.Search.{all_from_yields_List}
use Rattle.std.proofs.lemmas.List.Folds.{list_all-map}
use Rattle.ftd_http.specs.Controls.{is_field, seen}
use Rattle.ftd_http.proofs.controls.are_all_fields.Goals as goal

pub returns : goal.returns
returns c =
    let controls = c.args.controls.now in
    let test = is_field c.args.verb in
    let found : c.all.result ≡ list_all (λ control. test (seen control)) controls =
    all_from_yields_List (λ control. test (seen control)) _ _ c.all.result c.all.ensures.ran
    (YieldsList-from_slice controls cc) (λ x b q k. search (rules, tests)) in
    found ∙ sym (list_all-map test seen controls)
