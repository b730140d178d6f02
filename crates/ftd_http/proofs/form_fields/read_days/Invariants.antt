use Rattle.std.proofs.Common.{◌≡◌, ℕ, List, map, drop, Bor}
use Rattle.ftd_days.specs.Spelling.{days_of}
use Rattle.ftd_days.proofs.Wholes.{on_front}
use Rattle.ftd_http.proofs.form_fields.read_days.Given as goal

abbrev pub invariant-loop-word : goal.invariant-loop-word
invariant-loop-word l =
    on_front l.days.items
    (days_of (map (λ (word : Bor (List ℕ)). word.now) (drop l.word-index l.words))) ≡ days_of
    (map (λ (word : Bor (List ℕ)). word.now) l.words)
