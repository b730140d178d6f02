use Rattle.std.proofs.Common.{◌≡◌, ◌∙◌, List, [], map, sym, ap}
use Rattle.std.proofs.lemmas.List.{nil_from_length}
use Rattle.ftd_http.specs.Controls.{name_comes_twice, seen}
use Rattle.ftd_http.specs.declared.controls.Control.{Control}
use Rattle.ftd_http.proofs.ControlFacts.{named_again, none_comes_twice, not_named_again}
use Rattle.ftd_http.proofs.controls.name_comes_twice.Goals as goal

pub returns-then-one_has_name_of : goal.returns-then-one_has_name_of
returns-then-one_has_name_of c =
    named_again (seen c.in-Some.first.now) (map seen c.in-Some.others.now)
    (sym c.if-one_has_name_of.ensures)
    ∙ (ap (λ rest. name_comes_twice (map seen rest)) (sym c.in-Some.ensures.cases.0)
    ∙ c.loop-first.invariant)

pub loop-first-preserved : goal.loop-first-preserved
loop-first-preserved c =
    not_named_again (seen c.in-Some.first.now) (map seen c.in-Some.others.now)
    (sym c.if-one_has_name_of.ensures)
    ∙ (ap (λ rest. name_comes_twice (map seen rest)) (sym c.in-Some.ensures.cases.0)
    ∙ c.loop-first.invariant)

pub returns : goal.returns
returns c =
    let rest : List Control = c.loop-first.rest.now in
    let empty : rest ≡ [] = nil_from_length rest c.in_default.ensures.cases in
    none_comes_twice
    ∙ (ap (λ (it : List Control). name_comes_twice (map seen it)) (sym empty)
    ∙ c.loop-first.invariant)
