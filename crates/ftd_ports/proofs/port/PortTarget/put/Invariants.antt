use Rattle.std.proofs.Common.{◌≡◌, false}
use Rattle.std.specs.Io.KnownBytes.{Keeps}
use Rattle.ftd_ports.proofs.port.PortTarget.put.Given as goal

-- nothing was written yet, and nothing failed
abbrev pub invariant-loop : goal.invariant-loop
invariant-loop g l = Keeps (g.T.Write.contents l.initial.self.inner)
    (g.T.Write.contents l.self.inner) × (l.self.failed ≡ false) × (l.initial.self.failed ≡ false)
