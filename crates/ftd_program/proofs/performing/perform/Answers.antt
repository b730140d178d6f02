use Rattle.ftd_program.proofs.performing.perform.Goals as goal

pub returns-in-AskNext : goal.returns-in-AskNext
returns-in-AskNext g c = rw c.in-AskNext.is c.ask_next.ensures

pub returns-in-OpenYears : goal.returns-in-OpenYears
returns-in-OpenYears g c = rw c.in-OpenYears.is c.open_years.ensures

pub returns-in-Check : goal.returns-in-Check
returns-in-Check g c = rw c.in-Check.is c.check.ensures

pub returns : goal.returns
returns g c = rw c.in-Journal.is c.journal.ensures

pub returns-in-Settle : goal.returns-in-Settle
returns-in-Settle g c = rw c.in-Settle.is c.settle.ensures
