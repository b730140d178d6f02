use Rattle.std.proofs.Common.{rules}
use Rattle.ftd_sql.specs.declared.TableName.TheVariants.{Years}
use Rattle.ftd_sql.specs.declared.texts.TheConstants.{SET_YEAR}
use Rattle.ftd_sql.proofs.Changing.{sets_year}
use Rattle.ftd_sql.proofs.Writing.{changing}
use Rattle.ftd_store.specs.Rows.{year_row}
use Rattle.ftd_store.proofs.Putting.{puts_in_place, puts_after}
use Rattle.ftd_store.proofs.YearRows.{turn_given}
use Rattle.ftd_store.proofs.tx.Tx.put_year.Goals as goal

pub change_any-requires : goal.change_any-requires
change_any-requires g c = record { of_rows = changing Years SET_YEAR.now _ _ _ _ sets_year }

pub returns-then-branch : goal.returns-then-branch
returns-then-branch g c =
    let turn = turn_given c.args.line.turn _ c.stored_turn-turn.ensures in
    let changed = c.if-branch.true in
    record {
      call = puts_in_place g.S.Store c.args.self.now c.change_any.new.self _ _
          (year_row c.args.account.now c.args.line) c.in_ok-change_any.ensures.frame
          (search (rules, turn, changed));
    }

pub returns : goal.returns
returns g c =
    let y = year_row c.args.account.now c.args.line in
    let turn = turn_given c.args.line.turn _ c.stored_turn-turn.ensures in
    let changed = c.if-branch.false in
    record {
      call = puts_after g.S.Store c.args.self.now c.change_any.new.self c.add.new.self _
          c.add.result y c.in_ok-change_any.ensures.frame (search (rules, turn, changed))
          (c.add.ensures.call y (search rules));
    }
