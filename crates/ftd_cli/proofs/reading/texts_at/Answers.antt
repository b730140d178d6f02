use Rattle.std.proofs.Common.{ap, ◌∙◌}
use Rattle.clap.specs.Words.{all_of, found_of, rows_of}
use Rattle.clap.proofs.WalkLemmas.{raw_values-rows}
use Rattle.ftd_cli.proofs.reading.texts_at.Goals as goal

pub returns : goal.returns
returns c =
    c.get_strs.ensures ∙ (raw_values-rows (found_of c.args.inner.now) c.text.result.now
    ∙ ap (λ id. all_of id (rows_of (found_of c.args.inner.now))) c.text.ensures)
