use Rattle.std.proofs.Common.{ap}
use Rattle.ftd_verbs.specs.Rows.{VerbRow}
use Rattle.ftd_site.proofs.forms.write_form_fields.Goals as goal

pub returns : goal.returns
returns g c = rw (ap (λ (row : VerbRow). row.fields) c.row.ensures) at c.write_rows.ensures
