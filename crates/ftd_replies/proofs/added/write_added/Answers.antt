use Rattle.std.proofs.Common.{subst}
use Rattle.std.proofs.lemmas.List.{take_rest}
use Rattle.ftd_ports.specs.Writing.{Writes}
use Rattle.ftd_ports.proofs.WritingFacts.{then_writes}
use Rattle.ftd_replies.specs.Added.{added_notes}
use Rattle.ftd_replies.proofs.FewAdded.{few_added}
use Rattle.ftd_replies.proofs.added.write_added.Goals as goal

pub returns-then-added-le-MOST_NOTES : goal.returns-then-added-le-MOST_NOTES
returns-then-added-le-MOST_NOTES g c =
    subst (Writes _ _ _ _) (few_added c.args.added.now c.if-added-le-MOST_NOTES.true)
    c.write_rows.ensures

pub returns : goal.returns
unfolding added_notes
returns g c =
    then_writes c.in_ok-write_rows.ensures
    (rw (take_rest c.args.added.now 20) at c.write_more.ensures)
