use Rattle.std.proofs.Common.{subst}
use Rattle.ftd_ports.specs.Writing.{Writes}
use Rattle.ftd_csv.specs.Hints.{field_hint}
use Rattle.ftd_csv.proofs.records.write_field_hint.Goals as goal

pub returns : goal.returns
unfolding field_hint
returns g c = subst (Writes _ _ _ _) (cc) c.write_pieces.ensures
