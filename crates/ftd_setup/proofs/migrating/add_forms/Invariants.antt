use Rattle.std.proofs.Common.{◌≡◌, ◌++◌, List, map, take, Ok}
use Rattle.ftd_sql.specs.declared.TableName.TheVariants.{Forms}
use Rattle.ftd_sql.specs.Rows.{AccountRow}
use Rattle.ftd_sql.specs.Standing.{Tables, with_rows, Stands, Becomes}
use Rattle.ftd_sql.specs.Answers.{name_shown}
use Rattle.ftd_setup.specs.Steps.{Steps}
use Rattle.ftd_sql.specs.Beginnings.{on_form_941}
use Rattle.ftd_setup.proofs.migrating.add_forms.Given as goal

abbrev pub invariant-loop-name : goal.invariant-loop-name
invariant-loop-name g l = Steps g.S.Store l.fn.tx l.tx (Ok (tt {0}))
    (λ _ old new. (accounts : List AccountRow) (t : Tables) → l.fn.names ≡ map name_shown accounts
    → Stands old.now t
    → Becomes old.now new.now
    (with_rows Forms (t Forms ++ map on_form_941 (take l.name-index accounts)) t))
