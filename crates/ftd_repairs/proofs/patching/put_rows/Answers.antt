use Rattle.std.proofs.Common.{◌≡◌, ◌∷◌, [], List, All, sym, subst, arith}
use Rattle.std.proofs.lemmas.List.Elements.{All-get_or}
use Rattle.ftd_rules.specs.declared.Obligation.{Obligation}
use Rattle.ftd_store.specs.Amounts.{IsStorable}
use Rattle.ftd_sql.specs.Standing.{Tables}
use Rattle.ftd_store.specs.Changes.{with_obligation, with_obligations}
use Rattle.ftd_store.proofs.Turning.{one_turns, writes_turn, turns_on}
use Rattle.ftd_repairs.specs.Replaced.{AreBetween}
use Rattle.ftd_repairs.specs.Rescheduled.{PutsRows}
use Rattle.ftd_repairs.proofs.RowsPut.{changed_puts, replaced_puts}
use Rattle.ftd_repairs.proofs.patching.put_rows.Goals as goal

pub set_obligation-requires : goal.set_obligation-requires
set_obligation-requires g c =
    let row : Obligation = c.in-Some.row in
    let Holds : Obligation → Type 0 = λ o. IsStorable o.cents in
    let one : c.args.patch.now.rows ≡ row ∷ [] = rw c.as_slice.ensures at c.in-Some.ensures.2 in
    All-get_or Holds (row ∷ []) 0 row (omega arith)
    (subst (λ (rows : List Obligation). All Holds rows) one c.requires.amounts)

pub returns-in-Some : goal.returns-in-Some
returns-in-Some g c =
    let name = c.args.account.now in
    let gone = c.args.gone.now in
    let patch = c.args.patch.now in
    let row = c.in-Some.row in
    let told = c.in-Some.ensures in
    let change : Tables → Tables = with_obligation name row in
    record {
      call = turns_on tt (λ done t u. AreBetween name patch.from patch.to gone t
          → PutsRows name patch t u)
          (one_turns c.in_ok-set_obligation.ensures.call)
          (λ t u is between. subst (λ (v : Tables). PutsRows name patch t v) (sym is)
          (changed_puts name gone patch told.0 row t told.1 (rw c.as_slice.ensures at told.2) told.3
          between));
    }

pub returns : goal.returns
returns g c =
    let name = c.args.account.now in
    let gone = c.args.gone.now in
    let patch = c.args.patch.now in
    let change : Tables → Tables = with_obligations name patch.from patch.to patch.rows in
    record {
      call = turns_on tt (λ done t u. AreBetween name patch.from patch.to gone t
          → PutsRows name patch t u)
          (writes_turn (rw c.as_slice-2.ensures at c.in_ok-replace_obligations.ensures.call))
          (λ t u is between. subst (λ (v : Tables). PutsRows name patch t v) (sym is)
          (replaced_puts name patch t));
    }
