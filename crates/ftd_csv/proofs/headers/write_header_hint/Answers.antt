use Rattle.std.proofs.Common.{◌≡◌, ◌≢◌, length, arith}
use Rattle.std.proofs.lemmas.Bool.Decides.{nat_tests}
use Rattle.ftd_csv.proofs.HeaderFacts.{of_empty, of_line}
use Rattle.ftd_csv.proofs.headers.write_header_hint.Goals as goal

pub returns-then-is_empty : goal.returns-then-is_empty
returns-then-is_empty g c =
    let empty : length c.first_line-line.result.now ≡ 0 = grind (arith, nat_tests) in
    rw (of_empty c.args.sheet _ _ c.first_line-line.ensures empty)
    (rw c.header_text-header.ensures at c.write_pieces.ensures)

pub returns : goal.returns
returns g c =
    let some : length c.first_line-line.result.now ≢ 0 = grind (arith, nat_tests) in
    rw (of_line c.args.sheet _ _ c.first_line-line.ensures some)
    (rw (c.header_text-header.ensures, c.show-shown.ensures) at c.write_pieces-2.ensures)
