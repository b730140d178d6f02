use Rattle.ftd_site.proofs.accounts.ListLinks.write_to.Goals as goal

pub returns-in-Reported : goal.returns-in-Reported
returns-in-Reported g c = rw c.in-Reported.is c.write_to_list-in-Reported.ensures

pub returns-in-ScheduleB : goal.returns-in-ScheduleB
returns-in-ScheduleB g c = rw c.in-ScheduleB.is c.write_to_quarter.ensures

pub returns-in-Runs : goal.returns-in-Runs
returns-in-Runs g c = rw c.in-Runs.is c.write_to_quarter-in-Runs.ensures

pub returns-in-Payments : goal.returns-in-Payments
returns-in-Payments g c = rw c.in-Payments.is c.write_to_quarter-in-Payments.ensures
