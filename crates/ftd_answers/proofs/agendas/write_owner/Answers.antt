use Rattle.ftd_answers.specs.Agendas.{owner_text}
use Rattle.ftd_answers.proofs.AgendaFacts.{owner_parts}
use Rattle.ftd_answers.proofs.agendas.write_owner.Goals as goal

pub returns : goal.returns
unfolding owner_text
returns g c =
    rw (
      ← owner_parts,
      c.as_bytes.ensures.value,
      c.spaces_after-spaces.ensures,
      c.as_str-account.ensures,
      c.day_bytes-due.ensures,
      c.form_bytes-form.ensures,
    ) at c.write_pieces.ensures
