use Rattle.std.proofs.Common.{Ok, sym, subst}
use Rattle.sqlite.specs.State.{Executes}
use Rattle.sqlite.specs.Values.{bound}
use Rattle.ftd_sql.specs.Making.{add_of}
use Rattle.ftd_sql.specs.TextKinds.{IsRowText}
use Rattle.ftd_sql.proofs.Writing.{add_is_row_text, adds}
use Rattle.ftd_store.specs.Seen.{shown}
use Rattle.ftd_store.proofs.Going.{goes_on}
use Rattle.ftd_store.proofs.tx.Tx.add.Goals as goal

pub change-requires : goal.change-requires
change-requires g c = record {
  of_rows = subst IsRowText (sym c.adding.ensures) (add_is_row_text c.args.table);
}

pub returns : goal.returns
returns g c = record {
  call = λ row cells. record {
    frame = goes_on g.S.Store c.args.self.now _ _ _ c.in_ok-change.ensures.frame;
    does = λ clean t stands.
        let old = shown g.S.Store c.args.self.now in
        let new = shown g.S.Store c.change.new.self in
        let count = c.in_ok-change.field-0 in
        let ran = subst (λ sql. Executes sql (bound c.args.params.now) old new (Ok count))
        c.adding.ensures (c.in_ok-change.ensures.ran clean) in
        adds c.args.table row old new count t stands
        (subst (λ params. Executes (add_of c.args.table) params old new (Ok count)) cells ran);
  };
}
