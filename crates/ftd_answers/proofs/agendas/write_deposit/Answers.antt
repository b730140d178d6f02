use Rattle.ftd_answers.specs.Agendas.{deposit_text}
use Rattle.ftd_answers.proofs.AgendaFacts.{deposit_parts}
use Rattle.ftd_answers.proofs.agendas.write_deposit.Goals as goal

pub returns : goal.returns
unfolding deposit_text
returns g c =
    rw (
      ← deposit_parts,
      c.amount_column-amount.ensures,
      c.amount_column-paid.ensures,
      c.amount_column-left.ensures,
      c.left_of.ensures,
      c.day_bytes.ensures,
      c.day_bytes-2.ensures,
      c.rule_column.ensures,
      c.day_bytes-3.ensures,
      c.verdict_name.ensures,
    ) at c.write_pieces.ensures
