use Rattle.std.proofs.Common.{[], ap₂, subst}
use Rattle.ftd_ports.specs.Writing.{Writes}
use Rattle.ftd_answers.specs.Fields.{json_of}
use Rattle.ftd_answers.specs.KeptForms.{payment_fields, rows_json, run_fields, total_fields}
use Rattle.ftd_answers.specs.KeptForms.{year_fields}
use Rattle.ftd_answers.proofs.kept_rows.write_kept_json.Goals as goal

pub returns-in-Years : goal.returns-in-Years
unfolding rows_json
returns-in-Years g c =
    rw c.in-Years.is (subst (Writes _ _ _ _)
    (ap₂ (λ account xs. json_of (year_fields account) [] xs) c.as_str.ensures
    c.as_slice-in-Years.ensures) c.write_json-in-Years.ensures)

pub returns-in-Reported : goal.returns-in-Reported
unfolding rows_json
returns-in-Reported g c =
    rw c.in-Reported.is (subst (Writes _ _ _ _)
    (ap₂ (λ account xs. json_of (total_fields account) [] xs) c.as_str-in-Reported.ensures
    c.as_slice-in-Reported.ensures) c.write_json-in-Reported.ensures)

pub returns-in-Runs : goal.returns-in-Runs
unfolding rows_json
returns-in-Runs g c =
    rw c.in-Runs.is (subst (Writes _ _ _ _)
    (ap₂ (λ account xs. json_of (run_fields account) [] xs) c.as_str-in-Runs.ensures
    c.as_slice-in-Runs.ensures) c.write_json-in-Runs.ensures)

pub returns-in-Payments : goal.returns-in-Payments
unfolding rows_json
returns-in-Payments g c =
    rw c.in-Payments.is (subst (Writes _ _ _ _)
    (ap₂ (λ account xs. json_of (payment_fields account) [] xs) c.as_str-in-Payments.ensures
    c.as_slice-in-Payments.ensures) c.write_json-in-Payments.ensures)
