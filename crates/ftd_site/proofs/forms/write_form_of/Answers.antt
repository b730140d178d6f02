use Rattle.std.proofs.Common.{ap}
use Rattle.ftd_ports.proofs.WritingFacts.{then_writes, stops_in}
use Rattle.ftd_verbs.specs.Rows.{VerbRow}
use Rattle.ftd_site.specs.Forms.{form_of}
use Rattle.ftd_site.proofs.forms.write_form_of.Goals as goal

pub returns-in_err-write_form_start : goal.returns-in_err-write_form_start
unfolding form_of
returns-in_err-write_form_start g c =
    let command = ap (λ (row : VerbRow). row.command) c.row.ensures in
    stops_in _ c.from_residual.ensures.0 (rw command at c.in_err-write_form_start.ensures)

pub returns-in_err-write_form_fields : goal.returns-in_err-write_form_fields
unfolding form_of
returns-in_err-write_form_fields g c =
    let command = ap (λ (row : VerbRow). row.command) c.row.ensures in
    then_writes (rw command at c.in_ok-write_form_start.ensures) (stops_in _
    c.from_residual-in_err-write_form_fields.ensures.0 c.in_err-write_form_fields.ensures)

pub returns : goal.returns
unfolding form_of
returns g c =
    let command = ap (λ (row : VerbRow). row.command) c.row.ensures in
    then_writes (rw command at c.in_ok-write_form_start.ensures) (then_writes
    c.in_ok-write_form_fields.ensures (rw c.title.ensures at c.write_form_end.ensures))
