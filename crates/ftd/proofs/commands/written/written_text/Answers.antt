use Rattle.std.proofs.Common.{refl}
use Rattle.ftd.specs.Written.{written_text}
use Rattle.ftd.proofs.Responses.{if_ok}
use Rattle.ftd.proofs.commands.written.written_text.Goals as goal

pub returns : goal.returns
unfolding written_text
returns c = if_ok c.to_string.result (λ text is. (rw c.in_ok-value.ensures at is) refl)
    c.to_string.ensures.text
