use Rattle.ftd_cases.proofs.ExplainedRows.{explained_row, row_explained}
use Rattle.ftd_cases.proofs.laws.an_explanation_is_of_a_row_of_the_due_list.Goals as goal

pub returns : goal.returns
returns c = record { row = explained_row; each_day = row_explained }
