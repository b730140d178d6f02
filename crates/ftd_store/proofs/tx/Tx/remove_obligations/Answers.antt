use Rattle.ftd_sql.specs.declared.TableName.TheVariants.{Obligations}
use Rattle.ftd_sql.specs.declared.texts.TheConstants.{REMOVE_OBLIGATIONS}
use Rattle.ftd_sql.proofs.Changing.{removes_obligations}
use Rattle.ftd_sql.proofs.Meanings.{obligations_removed}
use Rattle.ftd_sql.proofs.Writing.{removing}
use Rattle.ftd_store.specs.Cells.{day_number}
use Rattle.ftd_store.specs.Seen.{shown}
use Rattle.ftd_store.proofs.Going.{goes_on}
use Rattle.ftd_store.proofs.tx.Tx.remove_obligations.Goals as goal

pub change-requires : goal.change-requires
change-requires g c =
    record { of_rows = removing Obligations REMOVE_OBLIGATIONS.now _ _ removes_obligations }

pub returns : goal.returns
returns g c = record {
  call = record {
    frame = goes_on g.S.Store c.args.self.now _ _ _ c.in_ok-change.ensures.frame;
    does = λ clean t stands.
        let ran = rw (c.params-to_sql.ensures, c.params-to_sql-2.ensures, c.params-to_sql-3.ensures)
        at (c.in_ok-change.ensures.ran clean) in
        obligations_removed c.args.account.now (day_number c.args.from) (day_number c.args.to)
        (shown g.S.Store c.args.self.now) (shown g.S.Store c.change.new.self) _ t stands ran;
  };
}
