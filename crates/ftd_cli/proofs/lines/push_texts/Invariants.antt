use Rattle.std.proofs.Common.{◌≡◌, ◌++◌, map, drop}
use Rattle.std.specs.Prelude.{take}
use Rattle.std.specs.String.{string_bytes}
use Rattle.ftd_cli.specs.Lines.{are_texts}
use Rattle.ftd_cli.proofs.lines.push_texts.Given as goal

abbrev pub invariant-loop-part : goal.invariant-loop-part
invariant-loop-part l =
    (map string_bytes l.words.items
    ≡ map string_bytes l.initial.words.items ++ map (λ part. part.now) (take l.part-index l.parts))
    × (are_texts (map (λ part. part.now) (drop l.part-index l.parts))
    ≡ are_texts (map (λ part. part.now) l.parts))
