use Rattle.std.proofs.Common.{◌≡◌, ◌∙◌, ◌<◌, ◌+◌, ℕ, List, take, length, filter, Err, rules, sym}
use Rattle.std.proofs.Common.{subst, arith}
use Rattle.std.specs.Prelude.{string_bytes}
use Rattle.ftd_days.specs.Holidays.{holidays_of}
use Rattle.ftd_sql.specs.Standing.{Tables}
use Rattle.ftd_store.specs.declared.obligation_cells.AccountObligation.{AccountObligation}
use Rattle.ftd_sql.specs.Orders.{AccountsRise}
use Rattle.ftd_sql.specs.Tests.{is_due_over}
use Rattle.ftd_sql.specs.declared.TableName.TheVariants.{Obligations}
use Rattle.ftd_store.specs.Cells.{day_number}
use Rattle.ftd_store.specs.Lists.{Lists}
use Rattle.ftd_store.specs.Changes.{with_due_date}
use Rattle.ftd_store.specs.Finds.{IsAccountObligation, ListsDueOver}
use Rattle.ftd_store.proofs.Going.{fails_after}
use Rattle.ftd_store.proofs.Replaced.{all_taken}
use Rattle.ftd_store.proofs.Turning.{reads_turn, one_turns, turns_on, turns_then}
use Rattle.ftd_posting.specs.Moved.{IsDueThen, MovesDue, MovesOver}
use Rattle.ftd_posting.proofs.MovedRows.{moves_none, moves_same, moves_more}
use Rattle.ftd_posting.proofs.moving.move_over.Goals.{in-Some+in_ok-move_row, in_default}
use Rattle.ftd_posting.proofs.moving.move_over.Goals as goal

pub loop-owed-init : goal.loop-owed-init
loop-owed-init g c =
    let day = c.args.day in
    let hs : List ℕ = holidays_of c.args.holidays.now in
    let given = c.in_ok-obligations.obligations in
    rw c.deref-owed-items.ensures.value (turns_on tt
    (λ done t u. ListsDueOver day given t × MovesDue hs (take 0 given.items) t u)
    (reads_turn c.in_ok-obligations.ensures.call) (λ t u read. (
      read.0,
      subst (MovesDue hs (take 0 given.items) t) (sym read.1) (moves_none hs given.items t),
    )))

pub returns-in_err-move_row : goal.returns-in_err-move_row
returns-in_err-move_row g c =
    let is : c.from_residual-in_err-move_row.result ≡ Err c.in_err-move_row.field-0.0 =
    search rules in
    record {
      call = fails_after is c.loop-owed.invariant.frame c.in_err-move_row.ensures.call.frame;
    }

pub loop-owed-preserved : goal.loop-owed-preserved
loop-owed-preserved g c =
    let day = c.args.day in
    let hs : List ℕ = holidays_of c.args.holidays.now in
    let given : List AccountObligation = c.deref-owed-items.result.now in
    let i : ℕ = c.loop-owed.owed-index in
    let x : AccountObligation = c.owed-item.result in
    let some : i < length given = c.loop-owed-test.true in
    let Listed : Tables → Type 0 = λ t. Lists AccountsRise IsAccountObligation
    (filter (is_due_over (day_number day)) (t Obligations)) given in
    let So : ℕ → Tables → Tables → Type 0 = λ n t u. Listed t × MovesDue hs (take n given) t u in
    elim c.match-new_due.branch [
      | in-Some+in_ok-move_row w ↦
          (let due : ℕ = w.in-Some.due in
          let is : IsDueThen hs x due = w.in-Some.ensures.0 in
          let change : Tables → Tables = with_due_date (string_bytes x.account) x.obligation.first
          due in
          rw w.tx-is (turns_then tt (λ done. So (i + 1)) c.loop-owed.invariant
          (one_turns w.in_ok-move_row.ensures.call) (λ t u v so_far made. (
            so_far.0,
            subst (MovesDue hs (take (i + 1) given) t) (sym made)
                (moves_more hs given i x some c.owed-item.is due is t u so_far.1),
          ))))
      | in_default w ↦
          rw w.tx-is (turns_on tt (λ done. So (i + 1)) c.loop-owed.invariant (λ t u so_far. (
            so_far.0,
            moves_same hs given i x some c.owed-item.is
                w.in_default.ensures t u so_far.1,
          )))
    ]

pub returns : goal.returns
returns g c =
    let day = c.args.day in
    let hs : List ℕ = holidays_of c.args.holidays.now in
    let obligations = c.in_ok-obligations.obligations in
    let given : List AccountObligation = c.deref-owed-items.result.now in
    let same : given ≡ obligations.items = c.deref-owed-items.ensures.value in
    let i : ℕ = c.loop-owed.owed-index in
    let end = c.loop-owed-test.false in
    let all = all_taken given i (omega arith) in
    let Listed : List AccountObligation → Tables → Type 0 = λ os t.
    Lists AccountsRise IsAccountObligation
    (filter (is_due_over (day_number day)) (t Obligations)) os in
    record {
      call = turns_on _ (λ done. MovesOver day hs) c.loop-owed.invariant (λ t u so_far. record {
        obligations = obligations;
        listed = subst (λ os. Listed os t) same so_far.0;
        moves = subst (λ (os : List AccountObligation). MovesDue hs os t u) (all ∙ same)
            so_far.1;
      });
    }
