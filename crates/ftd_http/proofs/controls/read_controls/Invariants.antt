use Rattle.std.proofs.Common.{◌≡◌, map}
use Rattle.std.specs.Prelude.{take}
use Rattle.form_urlencoded.specs.Form.{pair_text}
use Rattle.ftd_http.specs.Controls.{control_in, seen}
use Rattle.ftd_http.proofs.controls.read_controls.Given as goal

abbrev pub invariant-loop-name : goal.invariant-loop-name
invariant-loop-name l =
    map seen l.controls.items ≡ map control_in (map pair_text (take l.name-index l.name-items))
