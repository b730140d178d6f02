use Rattle.std.proofs.Common.{inl}
use Rattle.sqlite.specs.Held.{state}
use Rattle.ftd_sql.specs.declared.TableName.TheVariants.{Metas}
use Rattle.ftd_sql.proofs.Commits.{reading_commits_nothing}
use Rattle.ftd_sql.specs.declared.texts.TheConstants.{LIST_METAS}
use Rattle.ftd_sql.proofs.Asking.{lists_metas}
use Rattle.ftd_sql.proofs.Controls.{weaker, shows_again}
use Rattle.ftd_sql.proofs.Inside.{reading_stays}
use Rattle.ftd_sql.proofs.Leaves.{query_leaves}
use Rattle.ftd_sql.proofs.Reading.{asking}
use Rattle.ftd_setup.proofs.Readings.{shown_before}
use Rattle.ftd_setup.proofs.opening.Found.read_tag.Goals as goal

pub returns-in-Ok-clause-shown : goal.returns-in-Ok-clause-shown
returns-in-Ok-clause-shown g c clean =
    let old = state g.S.Store c.args.self.now.conn in
    let new = state g.S.Store c.query_all.new.self in
    let same = reading_stays old new _ _ _ (asking Metas _ _ _ _ lists_metas)
    (c.in-Ok.ensures.ok clean) in (
      shown_before _ _ old new _ (asking Metas _ _ _ _ lists_metas) same (c.in-Ok.ensures.ok clean),
      same,
    )

pub returns-in-Ok-clause-kept : goal.returns-in-Ok-clause-kept
returns-in-Ok-clause-kept g c clean opened =
    shows_again _ _ opened (c.is_autocommit.ensures.settled c.if-not-is_autocommit.false)
    (inl (reading_stays _ _ _ _ _ (asking Metas _ _ _ _ lists_metas) (c.in-Ok.ensures.ok clean)))

pub returns-in-Err-clause-kept : goal.returns-in-Err-clause-kept
returns-in-Err-clause-kept g c clean opened =
    shows_again _ _ opened (c.is_autocommit.ensures.settled c.if-not-is_autocommit.false)
    (query_leaves _ _ _ _ c.in-Err.error (c.in-Err.ensures.err clean))

pub returns-in-Ok-clause-crash : goal.returns-in-Ok-clause-crash
returns-in-Ok-clause-crash g c =
    weaker _ _ _ (λ db. reading_commits_nothing _ LIST_METAS.now _ db (asking Metas _ _ _ _
    lists_metas)) c.query_all.ensures.survives

pub returns-in-Err-clause-crash : goal.returns-in-Err-clause-crash
returns-in-Err-clause-crash g c =
    weaker _ _ _ (λ db. reading_commits_nothing _ LIST_METAS.now _ db (asking Metas _ _ _ _
    lists_metas)) c.query_all.ensures.survives
