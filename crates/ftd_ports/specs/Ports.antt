-- A port: the reader or writer of std that it is made of, and whether it has failed.
use Rattle.std.specs.Prelude.{Bool}
use Rattle.ftd_ports.specs.declared.port.Port.{Port}

abbrev pub inner_of : {T : Type 0} → Port T → T
inner_of port = port.inner

abbrev pub has_failed : {T : Type 0} → Port T → Bool
has_failed port = port.failed
