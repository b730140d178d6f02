use Rattle.std.proofs.lemmas.Result.{IfOk-weaker}
use Rattle.ftd_files.proofs.Fresh.{copied_same, fresh_image}
use Rattle.ftd_files.proofs.opening.FileAtDeskFilesFileFrom.open_copy.Goals as goal

pub returns-clause-copied : goal.returns-clause-copied
returns-clause-copied g c =
    let (log, db) = c.in_ok-files.ensures in
    let same = fresh_image g.S.Start.log g.S.Start.db log db in
    IfOk-weaker c.copy_over-opened.result _ _ (λ it copied. copied_same same copied)
    c.copy_over-opened.ensures.copied
