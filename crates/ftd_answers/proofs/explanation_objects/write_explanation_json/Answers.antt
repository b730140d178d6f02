use Rattle.std.proofs.Common.{refl}
use Rattle.ftd_ports.proofs.WritingFacts.{begins, goes_on, stops_after, ends_in}
use Rattle.ftd_answers.proofs.ExplanationParts.{json_parts}
use Rattle.ftd_answers.proofs.explanation_objects.write_explanation_json.Goals as goal

pub returns-in_err-write_asked : goal.returns-in_err-write_asked
returns-in_err-write_asked g c =
    stops_after _ c.from_residual.ensures.0 begins
    (json_parts c.args.account.now c.args.day c.args.found.now) c.in_err-write_asked.ensures

pub returns-in_err-write_explained : goal.returns-in_err-write_explained
returns-in_err-write_explained g c =
    let so_1 = goes_on _ _ begins
    (json_parts c.args.account.now c.args.day c.args.found.now)
    c.in_ok-write_asked.ensures.ok in stops_after _
    c.from_residual-in_err-write_explained.ensures.0 so_1 refl c.in_err-write_explained.ensures

pub returns : goal.returns
returns g c =
    let so_1 = goes_on _ _ begins
    (json_parts c.args.account.now c.args.day c.args.found.now)
    c.in_ok-write_asked.ensures.ok in let so_2 = goes_on _ _ so_1 refl
    c.in_ok-write_explained.ensures.ok in ends_in so_2 c.write_all.ensures
