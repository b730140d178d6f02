-- The stream of a connection: what reads it, and whether the peer was idle for too long.
use Rattle.std.specs.Prelude.{Bool}
use Rattle.ftd_ports.specs.Ports.{inner_of}
use Rattle.ftd_ports.specs.declared.port.Port.{Port}
use Rattle.ftd_connections.specs.declared.timed.TimedStream.{TimedStream}
use Rattle.ftd_connections.specs.declared.wire.Waits.{Ghosts}
use Rattle.ftd_connections.specs.declared.wire.Wire.{Wire}

-- the stream that is read or written until a time is over
abbrev pub stream_of : {C S : Type 0} → TimedStream C S → S
stream_of timed = timed.stream

abbrev pub port_of : {C S P : Type 0} {g : Ghosts P} → Wire C S P g → Port (TimedStream C S)
port_of wire = wire.port

-- the stream of which a wire gives the bytes
abbrev pub reader_of : {C S P : Type 0} {g : Ghosts P} → Wire C S P g → S
reader_of wire = stream_of (inner_of (port_of wire))

-- the stream on which a wire waits
abbrev pub peer_of : {C S P : Type 0} {g : Ghosts P} → Wire C S P g → P
peer_of wire = wire.peer

abbrev pub was_idle : {C S P : Type 0} {g : Ghosts P} → Wire C S P g → Bool
was_idle wire = wire.was_idle
