use Rattle.std.proofs.Common.{refl, ◌≡◌, ◌+◌, ◌++◌, List, [], ◌∷◌, get_or, take, length, sym, subst}
use Rattle.std.proofs.Common.{ap, ◌∙◌, arith}
use Rattle.std.proofs.lemmas.List.{take_more, length-take-le}
use Rattle.std.proofs.lemmas.List.Elements.{All-more, All-get_or}
use Rattle.ftd_rules.specs.declared.YearLine.{YearLine}
use Rattle.ftd_rules.specs.Years.{YearsFrom}
use Rattle.ftd_rules.proofs.Histories.{years_push}
use Rattle.ftd_store.specs.Years.{HasFittingTurn}
use Rattle.ftd_store.proofs.OpenYears.{open_years_at}
use Rattle.std.proofs.lemmas.Bool.{false≢true}
use Rattle.ftd_store.proofs.year_cells.check_years.Goals as goal
use Rattle.ftd_store.proofs.year_cells.check_years.Goals.{then-first-lt-FIRST_YEAR-via-then-first-lt-FIRST_YEAR}
use Rattle.ftd_store.proofs.year_cells.check_years.Goals.{then-first-lt-FIRST_YEAR-via-else-first-lt-FIRST_YEAR+then-first-gt-LAST_YEAR}
use Rattle.ftd_store.proofs.year_cells.check_years.Goals.{then-line-year-via-then-line-year}
use Rattle.ftd_store.proofs.year_cells.check_years.Goals.{then-line-year-via-else-line-year+then-year-gt-LAST_OPEN_YEAR}
use Rattle.ftd_store.proofs.year_cells.check_years.Goals.{then-line-year-via-else-line-year+else-year-gt-LAST_OPEN_YEAR+then-not-turn_fits}

pub loop-line-preserved : goal.loop-line-preserved
loop-line-preserved c =
    let i = c.loop-line.line-index in
    let first = c.first_year-first.result in
    let xs : List YearLine = c.args.lines.now in
    let x : YearLine = c.line-item.result in
    let is : x ≡ get_or xs i x = c.line-item.is in
    let cut : take (i + 1) xs ≡ take i xs ++ x ∷ [] = take_more xs i x c.loop-line-test.true
    ∙ ap (λ y. take i xs ++ y ∷ []) (sym is) in
    let long : length (take i xs) ≡ i =
    length-take-le i xs (omega (arith, c.loop-line-test.true)) in
    let inv = c.loop-line.invariant in
    let year : x.year ≡ first + length (take i xs) = omega (
      arith,
      c.if-line-year.false,
      inv.0,
      long,
    ) in
    let years : YearsFrom first (take (i + 1) xs) = subst (YearsFrom first) (sym cut)
    (years_push first (take i xs) x inv.2 year
    (omega (arith, c.if-year-gt-LAST_OPEN_YEAR.false, inv.0, long))) in
    let fits : HasFittingTurn (get_or xs i x) = subst HasFittingTurn is
    (c.turn_fits.ensures.0 c.if-not-turn_fits.false) in (
      omega (arith, inv.0),
      omega (arith, c.if-year-gt-LAST_OPEN_YEAR.false),
      years,
      All-more HasFittingTurn xs i x c.loop-line-test.true inv.3 fits,
    )

pub returns-then-first-lt-FIRST_YEAR-clause-bad : goal.returns-then-first-lt-FIRST_YEAR-clause-bad
returns-then-first-lt-FIRST_YEAR-clause-bad c = (
  refl,
  λ opened fit.
      let known = open_years_at c.args.lines.now c.first_year-first.result
      c.first_year-first.ensures.none c.first_year-first.ensures.some opened in
      elim c.then-first-lt-FIRST_YEAR.branch [
        | then-first-lt-FIRST_YEAR-via-then-first-lt-FIRST_YEAR w ↦ absurd (let t = w.if-first-lt-FIRST_YEAR.true in
            omega (arith, known.0, t))
        | then-first-lt-FIRST_YEAR-via-else-first-lt-FIRST_YEAR+then-first-gt-LAST_YEAR w ↦
            absurd (let t = w.if-first-gt-LAST_YEAR.true in omega (arith, known.1, t))
      ],
)

pub returns-then-line-year-clause-bad : goal.returns-then-line-year-clause-bad
returns-then-line-year-clause-bad c = (
  refl,
  λ opened fit.
      let xs : List YearLine = c.args.lines.now in
      let i = c.loop-line.line-index in
      let x : YearLine = c.line-item.result in
      let within = c.loop-line-test.true in
      let known = open_years_at xs c.first_year-first.result c.first_year-first.ensures.none
      c.first_year-first.ensures.some opened in
      let here = known.2 i x within in
      let same : x ≡ get_or xs i x = c.line-item.is in
      let year : x.year ≡ c.first_year-first.result + i = ap (λ (y : YearLine). y.year) same
      ∙ here.0 in
      let inv = c.loop-line.invariant.0 in
      elim c.then-line-year.branch [
        | then-line-year-via-then-line-year w ↦ absurd (let t = w.if-line-year.true in
            omega (arith, year, inv, t))
        | then-line-year-via-else-line-year+then-year-gt-LAST_OPEN_YEAR w ↦
            absurd (let t = w.if-year-gt-LAST_OPEN_YEAR.true in let top = here.1 in omega (arith, top, inv, t))
        | then-line-year-via-else-line-year+else-year-gt-LAST_OPEN_YEAR+then-not-turn_fits w ↦ absurd (
            let fits : HasFittingTurn x = subst HasFittingTurn (sym same)
            (All-get_or HasFittingTurn xs i x within fit) in
            false≢true (sym w.if-not-turn_fits.true ∙ w.turn_fits.ensures.1 fits))
      ],
)
