use Rattle.std.proofs.Common.{◌∙◌, sym}
use Rattle.csv.specs.Records.{fields_of}
use Rattle.ftd_csv.specs.Sheets.{header_row}
use Rattle.ftd_csv.proofs.HeaderRecords.{all_same, more_same, not_header}
use Rattle.ftd_csv.proofs.sheets.is_header.Goals as goal

pub returns-then-not-is_field : goal.returns-then-not-is_field
returns-then-not-is_field c = (
  λ is. absurd cc,
  λ same. absurd (let found = c.is_field.ensures.1 (not_header (fields_of c.args.row.now)
      (header_row c.args.sheet) c.columns-columns.result.now c.columns-columns.ensures
      c.loop-place.place _ c.loop-place-test.true same) in cc),
)

pub loop-place-preserved : goal.loop-place-preserved
loop-place-preserved c =
    more_same (fields_of c.args.row.now) (header_row c.args.sheet) c.columns-columns.result.now
    c.columns-columns.ensures c.loop-place.place _ c.loop-place-test.true c.loop-place.invariant
    (c.is_field.ensures.0 c.if-not-is_field.false)

pub returns : goal.returns
returns c = (
  λ is. all_same (fields_of c.args.row.now) (header_row c.args.sheet)
      c.columns-columns.result.now c.columns-columns.ensures c.loop-place.place
      c.loop-place-test.false c.loop-place.auto.place-end
      (sym c.len.ensures ∙ c.if-len-columns.false) c.loop-place.invariant,
  λ same. cc,
)
