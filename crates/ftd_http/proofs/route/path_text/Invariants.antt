use Rattle.std.proofs.Common.{◌≡◌, ◌++◌, drop, map}
use Rattle.std.specs.String.{string_bytes}
use Rattle.ftd_verbs.specs.Rows.{part_seen}
use Rattle.ftd_http.specs.Routes.{path_text}
use Rattle.ftd_http.proofs.route.path_text.Given as goal

abbrev pub invariant-loop-part : goal.invariant-loop-part
invariant-loop-part l =
    string_bytes l.text ++ path_text (map part_seen (drop l.part-index l.path))
    ≡ path_text (map part_seen l.path)
