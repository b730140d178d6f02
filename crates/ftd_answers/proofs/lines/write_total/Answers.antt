use Rattle.std.proofs.Common.{refl}
use Rattle.ftd_ports.proofs.WritingFacts.{begins, goes_on, stops_after, ends_in}
use Rattle.ftd_answers.specs.Listings.{total_text}
use Rattle.ftd_answers.proofs.LineParts.{total_parts}
use Rattle.ftd_answers.proofs.lines.write_total.Goals as goal

pub returns-in_err-write_pieces : goal.returns-in_err-write_pieces
unfolding total_text
returns-in_err-write_pieces g c =
    stops_after _ c.from_residual.ensures.0 begins (total_parts c.args.period.now _ _)
    c.in_err-write_pieces.ensures

pub returns-in_err-write_amount : goal.returns-in_err-write_amount
unfolding total_text
returns-in_err-write_amount g c =
    let so_1 = goes_on _ _ begins (total_parts c.args.period.now _ _)
    c.in_ok-write_pieces.ensures.ok in stops_after _
    c.from_residual-in_err-write_amount.ensures.0 so_1 refl c.in_err-write_amount.ensures

pub returns : goal.returns
unfolding total_text
returns g c =
    let so_1 = goes_on _ _ begins (total_parts c.args.period.now _ _)
    c.in_ok-write_pieces.ensures.ok in let so_2 = goes_on _ _ so_1 refl
    c.in_ok-write_amount.ensures.ok in ends_in so_2 c.write_first.ensures
