use Rattle.std.proofs.Common.{arith, inl, inr}
use Rattle.sqlite.specs.Files.{file_state}
use Rattle.sqlite.specs.State.{HasCleanDisk}
use Rattle.ftd_files.proofs.Beginning.{begins_new, is_bare}
use Rattle.ftd_files.proofs.Resting.{found}
use Rattle.ftd_files.proofs.opening.open_over.Goals as goal

pub returns-in-Ok-clause-stands : goal.returns-in-Ok-clause-stands
returns-in-Ok-clause-stands g c = λ clean s stands.
    let was : HasCleanDisk (file_state c.in_ok-conn.conn) =
    omega (arith, c.in-Ok.ensures.ended.crash.clean, clean) in
    let opened = c.in_ok-conn.conn in
    let finds = c.in_ok-conn.ensures.found was in
    let is_opened = c.in_ok-conn.ensures.opened was in
    elim stands [
      | inl holds ↦
          c.in-Ok.ensures.opens.kept clean s (found opened c.args.files finds is_opened s holds)
      | inr (nothing, is) ↦
          let bare = begins_new _ (is_bare opened c.args.files finds is_opened nothing) in
          rw is (c.in-Ok.ensures.opens.new_database clean bare.0 bare.1)
    ]
