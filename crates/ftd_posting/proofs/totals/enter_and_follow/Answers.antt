use Rattle.std.proofs.Common.{◌≡◌, ◌∙◌, sym, inl, inr, Ok, subst, rules, arith}
use Rattle.std.proofs.lemmas.Bool.{true≢false}
use Rattle.ftd_days.specs.declared.cents.Cents.{Cents}
use Rattle.ftd_sql.specs.Standing.{Tables}
use Rattle.ftd_store.specs.Frame.{Rewrites}
use Rattle.ftd_store.proofs.Turning.{writes_turn, reads_turn, turns_on, turns_then}
use Rattle.ftd_entries.proofs.Reading.{turn_then_turn}
use Rattle.ftd_entries.specs.Totals.{KnowsTotal}
use Rattle.ftd_repairs.specs.Reopened.{IsRetotaled}
use Rattle.ftd_posting.specs.Correcting.{EntersTotal, IsFollowed, with_corrected}
use Rattle.ftd_posting.proofs.totals.enter_and_follow.Goals as goal

pub returns-then-not-is_open : goal.returns-then-not-is_open
returns-then-not-is_open g c =
    let name = c.args.name.now in
    let it = c.args.it.now in
    let With : Tables → Tables = with_corrected name it.period it.correction in
    let not : IsFollowed it.is_open it.year → ⊥ = λ followed.
    elim c.then-not-is_open.either [
      | inl off ↦ true≢false (sym followed.0 ∙ off)
      | inr (inl k) ↦ (let low = followed.1 in let less = k.1 in omega (arith, low, less))
      | inr (inr k) ↦ (let high = followed.2 in let more = k.2 in omega (arith, high, more))
    ] in
    record {
      call = turns_on c.unchanged.result
          (EntersTotal name c.args.account it.is_open it.first it.year With)
          (writes_turn c.in_ok-enter.ensures.call)
          (λ t u is. inl (not, is, c.unchanged.ensures));
    }

pub returns : goal.returns
returns g c =
    let name = c.args.name.now in
    let account = c.args.account in
    let it = c.args.it.now in
    let year = it.year in
    let total : Cents = c.in-Ok.total in
    let With : Tables → Tables = with_corrected name it.period it.correction in
    let followed : IsFollowed it.is_open year =
    (search rules, search rules, search rules) in
    let Known : Tables → Tables → Type 0 = λ t u. KnowsTotal name account year (Ok total) (With t)
    × (u ≡ With t) in
    let read : Rewrites g.S.Store c.args.tx.now c.lookback_total.new.tx (Ok (tt {0}))
    (λ done. Known) =
    turns_then tt (λ done. Known)
    (writes_turn c.in_ok-enter.ensures.call)
    (reads_turn c.in_ok-total.ensures.call) (λ t u v is knows. (
      subst (KnowsTotal name account year (Ok total)) is
          (subst (λ x. KnowsTotal name account year x u) c.in-Ok.is knows.0),
      knows.1 ∙ is,
    )) in
    record {
      call = turn_then_turn (EntersTotal name account it.is_open it.first year With) read
          c.correct_lookback.ensures.call (λ d t u v known retotals. inr (
            followed,
            (
              total,
              known.0,
              subst (λ (z : Tables). IsRetotaled name account.form it.first year total z v d)
                  known.1 retotals,
            ),
          ));
    }
