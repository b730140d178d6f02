use Rattle.std.proofs.Common.{◌≡◌}
use Rattle.std.specs.List.{flat_map}
use Rattle.std.specs.String.{string_bytes}
use Rattle.ftd_cli.specs.Escapes.{escaped_character}
use Rattle.ftd_cli.proofs.escape.escaped_as.Given as goal

abbrev pub invariant-loop-character : goal.invariant-loop-character
invariant-loop-character l =
    string_bytes l.said ≡ flat_map (escaped_character l.lines) l.yielded
