use Rattle.ftd_rules.proofs.Stated.{due_by, counted_stated, rows_owed}
use Rattle.ftd_rules.proofs.Moving.{due_moves, rows_moved}
use Rattle.ftd_rules.proofs.laws.an_added_holiday_moves_due_dates.Goals as goal

pub returns : goal.returns
returns c = record {
  dates = λ before after added rule last due new with h k.
      (let moves = due_moves before after added rule last due new with
      (due_by before rule last due h) (due_by after rule last new k) in
      let counted = counted_stated before rule last due added in
      ((λ n. counted.0 (moves.0 n)), (λ d. moves.1 (counted.1 d))));
  obligations = λ form lines sums before after added rows others with h k.
      rows_moved form lines sums before after added rows others with
      (rows_owed form lines sums before rows h) (rows_owed form lines sums after others k);
}
