use Rattle.std.proofs.Common.{◌≡◌, ◌<◌, ℕ, get_or, length}
use Rattle.ftd_csv.specs.Shown.{shown_byte}
use Rattle.ftd_csv.proofs.shown.show.Given as goal

-- each byte so far is what is shown of the text's
abbrev pub invariant-loop-i : goal.invariant-loop-i
invariant-loop-i l = record {
  room : length l.buffer ≡ 60;
  each : (k : ℕ) → k < l.i → get_or l.buffer k 0 ≡ shown_byte (get_or l.text k 0);
}
