use Rattle.std.proofs.Common.{Ok, take, filter}
use Rattle.ftd_days.specs.Holidays.{holidays_of}
use Rattle.ftd_sql.specs.Orders.{AccountsRise}
use Rattle.ftd_sql.specs.Tests.{is_due_over}
use Rattle.ftd_sql.specs.declared.TableName.TheVariants.{Obligations}
use Rattle.ftd_store.specs.Cells.{day_number}
use Rattle.ftd_store.specs.Lists.{Lists}
use Rattle.ftd_store.specs.Finds.{IsAccountObligation}
use Rattle.ftd_store.specs.Frame.{Rewrites}
use Rattle.ftd_posting.specs.Moved.{MovesDue}
use Rattle.ftd_posting.proofs.moving.move_over.Given as goal

abbrev pub invariant-loop-owed : goal.invariant-loop-owed
invariant-loop-owed g l =
    Rewrites g.S.Store l.fn.tx l.tx (Ok (tt {0})) (λ done old new.
    Lists AccountsRise IsAccountObligation (filter (is_due_over (day_number l.fn.day))
    (old Obligations)) l.owed-items
    × MovesDue (holidays_of l.fn.holidays) (take l.owed-index l.owed-items) old new)
