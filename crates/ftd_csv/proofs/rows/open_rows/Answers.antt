use Rattle.std.proofs.Common.{◌∙◌}
use Rattle.ftd_csv.proofs.ReadRows.{opened}
use Rattle.ftd_csv.proofs.rows.open_rows.Goals as goal

pub returns : goal.returns
returns c =
    let from = c.from_reader-reader.ensures in
    let flexible = c.flexible.ensures in
    opened c.args.text.now c.from_reader-reader.result c.set_byte_headers.new.self
    (rw flexible at from.trim ∙ c.new.ensures.trim) (rw flexible at from.config
    ∙ c.new.ensures.config) (rw flexible at from.has_headers ∙ c.new.ensures.has_headers)
    from.state from.source c.in-Ok.ensures.same c.in-Ok.ensures.set
