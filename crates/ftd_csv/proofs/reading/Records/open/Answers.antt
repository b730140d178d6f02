use Rattle.std.proofs.Common.{◌∙◌, sym, refl, arith, ap, ℕ, List, drop, length, Some}
use Rattle.ftd_csv.proofs.RowCounts.{length-rows}
use Rattle.ftd_csv.proofs.reading.Records.open.Goals as goal

pub returns : goal.returns
returns c =
    let found = rw c.if-not-branch.false at c.in_ok-next_row.ensures in
    let rows = sym c.in_ok-reader.ensures.1 ∙ found.1 in
    let long = ap length rows in
    let bound = length-rows c.args.text.now in
    let short = c.if-text-gt-MOST_BYTES.false in
    record {
      short = omega arith;
      header = rw rows (ap Some (c.is_header.ensures.0 c.if-not-is_header.false));
      sheet = refl;
      number = refl;
      rows = sym (ap (λ (all : List (List (List ℕ))). drop 1 all) rows);
      can = record { reading = found.0; fits = omega arith };
    }
