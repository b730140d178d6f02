use Rattle.std.proofs.Common.{◌≡◌, take}
use Rattle.sqlite.specs.State.{HasCleanDisk}
use Rattle.ftd_machine.specs.State.{State}
use Rattle.ftd_desk.specs.Desks.{KeepsIfOpen, held}
use Rattle.ftd_desk.specs.Telling.{StandsAsBefore}
use Rattle.ftd_program.specs.OpenYears.{year_requests}
use Rattle.ftd_program.proofs.open_accounts.requests_for.Given as goal

abbrev pub invariant-loop-account : goal.invariant-loop-account
invariant-loop-account g l = record {
  stands : StandsAsBefore (held g.S.Store l.fn.desk) (held g.S.Store l.desk);
  so_far : HasCleanDisk (held g.S.Store l.desk).db
      → (s : State) → KeepsIfOpen (held g.S.Store l.fn.desk) s
      → l.requests.items ≡ year_requests s l.year (take l.account-index l.accounts);
}
