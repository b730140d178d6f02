use Rattle.std.proofs.Common.{◌≡◌, ◌+◌, ◌++◌, List, ◌∷◌, map, take, drop, get_or, drop-cons}
use Rattle.std.proofs.Common.{add-one, arith, ap, subst, length}
use Rattle.std.proofs.lemmas.List.{take_all, length-map}
use Rattle.sqlite.specs.Order.{Row}
use Rattle.ftd_sql.specs.declared.TableName.TheVariants.{Forms}
use Rattle.ftd_sql.specs.Rows.{AccountRow}
use Rattle.ftd_sql.specs.Standing.{Tables, with_rows, Stands, Becomes}
use Rattle.ftd_sql.specs.Answers.{name_shown}
use Rattle.ftd_sql.specs.States.{within}
use Rattle.ftd_sql.specs.Beginnings.{on_form_941}
use Rattle.ftd_setup.proofs.Made.{no_form_added, more_forms}
use Rattle.ftd_setup.proofs.Stepping.{steps_none, steps_both, steps_so}
use Rattle.ftd_setup.proofs.migrating.add_forms.Goals as goal

pub loop-name-init : goal.loop-name-init
loop-name-init g c = steps_none
    (λ accounts t are stands. no_form_added (within g.S.Store c.args.tx.now).now t stands)

pub loop-name-preserved : goal.loop-name-preserved
loop-name-preserved g c =
    let i = c.loop-name.name-index in
    let names : List Row = c.args.names.now in
    let row : Row = c.name-item.result in
    let cut0 : drop i names ≡ get_or names i row ∷ drop (i + 1) names =
    rw add-one (drop-cons names i row c.loop-name-test.true) in
    let cut : drop i names ≡ row ∷ drop (i + 1) names = rw (← c.name-item.is) at cut0 in
    steps_both (tt {0})
    (λ _ old new. (accounts : List AccountRow) (t : Tables) → names ≡ map name_shown accounts
    → Stands old.now t
    → Becomes old.now new.now (with_rows Forms (t Forms ++ map on_form_941 (take (i + 1) accounts))
    t)) c.loop-name.invariant c.in_ok-add_form.ensures.step
    (λ before adds accounts t are stands. more_forms (within g.S.Store c.args.tx.now).now
    (within g.S.Store c.loop-name.tx).now (within g.S.Store c.add_form.new.tx).now accounts names i
    row t are cut (before accounts t are stands) (λ account u. adds account u))

pub returns : goal.returns
returns g c =
    let i = c.loop-name.name-index in
    record {
      step = steps_so c.loop-name.invariant (λ so accounts t are stands.
          let all : take i accounts ≡ accounts =
          take_all i accounts (let over = c.loop-name-test.false in
          omega (arith, over, ap length are, length-map accounts name_shown)) in
          subst (λ xs. Becomes (within g.S.Store c.args.tx.now).now
          (within g.S.Store c.loop-name.tx).now (with_rows Forms (t Forms ++ map on_form_941 xs) t))
          all (so accounts t are stands));
    }
