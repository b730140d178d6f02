use Rattle.ftd_pages.proofs.schedules.write_schedule.Goals as goal

pub returns-in-Alone : goal.returns-in-Alone
returns-in-Alone g c = rw c.in-Alone.is c.write_schedule_page.ensures

pub returns-in-Section : goal.returns-in-Section
returns-in-Section g c = rw c.in-Section.is c.write_schedule_part.ensures
