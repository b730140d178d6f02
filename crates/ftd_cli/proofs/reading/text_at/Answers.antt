use Rattle.std.proofs.Common.{ap, ◌∙◌}
use Rattle.clap.specs.Words.{first_of, found_of, rows_of}
use Rattle.clap.proofs.WalkLemmas.{first_value-rows}
use Rattle.ftd_cli.proofs.reading.text_at.Goals as goal

pub returns : goal.returns
returns c =
    c.get_str.ensures ∙ (first_value-rows (found_of c.args.inner.now) c.text.result.now
    ∙ ap (λ id. first_of id (rows_of (found_of c.args.inner.now))) c.text.ensures)
