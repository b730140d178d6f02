use Rattle.ftd_imports.proofs.Imported.{is_name, posted}
use Rattle.ftd_imports.proofs.Reread.{has_header, records_are}
use Rattle.ftd_imports.proofs.laws.exported_runs_are_imported.Goals as goal

pub returns : goal.returns
returns c s account quarter listed next reached step =
    let name = is_name s account quarter listed next reached step in
    let fit = posted s account quarter listed next reached step in
    (has_header account name listed fit, records_are account name listed fit)
