use Rattle.std.proofs.Common.{◌≡◌, rules, sym}
use Rattle.ftd_entries.proofs.CalendarRows.{calendar_known}
use Rattle.ftd_questions.proofs.Dropped.{kept_told}
use Rattle.ftd_questions.proofs.missing.given_days.Goals as goal

pub returns-in-Ok-calendar-clause-knows : goal.returns-in-Ok-calendar-clause-knows
returns-in-Ok-calendar-clause-knows g c =
    let same : c.store-in-Ok-calendar-1.given.0 ≡ c.drop-tx.new.self.0 = sym (search rules) in
    rw same (λ clean s kept. let its = kept_told c.in-Ok.ensures.begun
    c.in-Ok-calendar.ensures.call c.drop-tx.ensures.crash clean s kept in
    calendar_known c.args.year c.in-Ok-calendar.days its.0 s its.2 its.3 its.1)
