use Rattle.std.proofs.Common.{◌≡◌, ℕ, List, map, drop, Bor}
use Rattle.ftd_days.specs.Spelling.{days_of}
use Rattle.ftd_days.proofs.Wholes.{on_front}
use Rattle.ftd_cli.proofs.reading.read_days.Given as goal

abbrev pub invariant-loop-text : goal.invariant-loop-text
invariant-loop-text l =
    on_front l.days.items
    (days_of (map (λ (text : Bor (List ℕ)). text.now) (drop l.text-index l.texts))) ≡ days_of
    (map (λ (text : Bor (List ℕ)). text.now) l.texts)
