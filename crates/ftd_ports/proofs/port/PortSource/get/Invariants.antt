use Rattle.std.proofs.Common.{◌≡◌, false}
use Rattle.std.specs.Io.KnownBytes.{Keeps}
use Rattle.ftd_ports.proofs.port.PortSource.get.Given as goal

-- nothing was read yet, and nothing failed
abbrev pub invariant-loop : goal.invariant-loop
invariant-loop g l = Keeps (g.T.Read.remaining l.initial.self.inner)
    (g.T.Read.remaining l.self.inner) × (l.self.failed ≡ false) × (l.initial.self.failed ≡ false)
