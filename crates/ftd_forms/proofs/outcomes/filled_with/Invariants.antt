use Rattle.std.proofs.Common.{◌≡◌, map}
use Rattle.std.specs.Prelude.{take}
use Rattle.ftd_http.specs.Controls.{seen}
use Rattle.ftd_site.specs.Controls.{pair_of}
use Rattle.ftd_forms.specs.Sent.{texts_of}
use Rattle.ftd_forms.proofs.outcomes.filled_with.Given as goal

abbrev pub invariant-loop-control : goal.invariant-loop-control
invariant-loop-control l =
    map pair_of l.filled.items ≡ texts_of (map seen (take l.control-index l.controls))
