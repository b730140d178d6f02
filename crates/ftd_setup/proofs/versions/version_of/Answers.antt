use Rattle.std.proofs.Common.{◌≡◌, codes, ◌∙◌, sym, rules, w64}
use mir.Val.{SFits}
use Rattle.std.proofs.lemmas.Int.{to_z-of_z}
use Rattle.std.proofs.lemmas.Bool.{not-false}
use Rattle.std.proofs.lemmas.Slice.Eq.{bytes_eq-Decides}
use Rattle.ftd_setup.proofs.Readings.{both_cells, whole_number}
use Rattle.ftd_setup.proofs.versions.version_of.Goals as goal

pub returns-in-Ok-clause-read : goal.returns-in-Ok-clause-read
returns-in-Ok-clause-read c =
    let tag : c.in-Ok-Text.tag.now ≡ codes "ftd" =
    (bytes_eq-Decides _ _).0 (not-false _ (sym c.ne.ensures ∙ c.if-ne.false))
    ∙ c.as_slice.ensures in
    let fits : SFits w64 c.in-Ok-Int.version = search rules in
    let read = rw (to_z-of_z w64 c.in-Ok-Int.version fits) at c.in-Ok.ensures in
    both_cells c.args.row.now c.in-Ok-Text.tag.now c.in-Ok-Int.version c.in-Ok.version tag
    (sym c.column_count.ensures ∙ c.if-column_count-ne2.false)
    (rw c.in-Ok-Text.field-0-is at c.in-Ok-Text.ensures.ok.1)
    (rw c.in-Ok-Int.field-0-is at c.in-Ok-Int.ensures.ok.1)
    (whole_number c.in-Ok-Int.version c.in-Ok.version read.0 read.1)
