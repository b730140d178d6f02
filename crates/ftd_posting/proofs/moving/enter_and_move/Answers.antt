use Rattle.std.proofs.Common.{◌≡◌, ◌∙◌, ℕ, List, Ok, subst}
use Rattle.ftd_days.specs.Holidays.{holidays_of}
use Rattle.ftd_sql.specs.Standing.{Tables}
use Rattle.ftd_store.specs.Frame.{Rewrites}
use Rattle.ftd_store.proofs.Turning.{writes_turn, reads_turn, turns_then}
use Rattle.ftd_entries.proofs.Reading.{turn_then_turn}
use Rattle.ftd_posting.specs.Known.{KnowsHolidays}
use Rattle.ftd_posting.specs.Moved.{EntersDay, MovesOver, day_of, with_entered}
use Rattle.ftd_posting.proofs.moving.enter_and_move.Goals as goal

pub returns : goal.returns
returns g c =
    let entry = c.args.entry.now in
    let hs : List ℕ = holidays_of c.in_ok-holidays.holidays in
    let With : Tables → Tables = with_entered entry in
    let Known : Tables → Tables → Type 0 = λ t u. KnowsHolidays (day_of entry) hs (With t)
    × (u ≡ With t) in
    let known : Rewrites g.S.Store c.args.tx.now c.holidays_about.new.tx (Ok (tt {0}))
    (λ done. Known) =
    turns_then tt (λ done. Known)
    (writes_turn c.in_ok-enter.ensures.call)
    (reads_turn (rw c.day.ensures at c.in_ok-holidays.ensures.call))
    (λ t u v is read. (subst (KnowsHolidays (day_of entry) hs) is read.0, read.1 ∙ is)) in
    let moved = rw c.day-2.ensures at c.move_over.ensures.call in
    record {
      call = turn_then_turn (λ done. EntersDay entry) known moved (λ y t u v so moves. record {
        holidays = hs;
        known = so.0;
        moved = subst (λ (z : Tables). MovesOver (day_of entry) hs z v) so.1 moves;
      });
    }
