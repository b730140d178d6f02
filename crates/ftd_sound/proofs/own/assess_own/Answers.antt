use Rattle.std.proofs.Common.{◌≡◌, ℕ, ◌<◌, true, List, map, sym, ap, subst, ◌∙◌}
use Rattle.std.specs.Prelude.{All}
use Rattle.std.specs.List.{sum_by}
use Rattle.std.proofs.lemmas.Bool.{false≢true}
use Rattle.std.proofs.lemmas.List.Elements.{All-same}
use Rattle.ftd_days.specs.declared.cents.Cents.{Cents}
use Rattle.ftd_days.specs.Holidays.{holidays_of}
use Rattle.ftd_rules.specs.declared.DaySum.{DaySum}
use Rattle.ftd_rules.specs.declared.YearLine.{YearLine}
use Rattle.ftd_rules.specs.declared.TheConstants.{AMOUNTS_END}
use Rattle.ftd_rules.specs.declared.run.PayRun.{PayRun}
use Rattle.ftd_rules.specs.declared.run.Voidable.{Voidable}
use Rattle.ftd_rules.specs.Liability.{cents_of}
use Rattle.ftd_rules.specs.Years.{AreOpenYears, OnlyFirstCarried, LiesInYears, AreLines}
use Rattle.ftd_rules.specs.Years.{basis_of}
use Rattle.ftd_rules.specs.Obligations.{AreObligations}
use Rattle.ftd_machine.specs.declared.entries.Account.{Account}
use Rattle.ftd_machine.specs.declared.entries.Beginning.{Beginning}
use Rattle.ftd_machine.specs.Limits.{is_amount}
use Rattle.ftd_machine.specs.State.{in_force}
use Rattle.ftd_sound.specs.declared.own.Own.{Own}
use Rattle.ftd_sound.specs.declared.figures.Figures.{Figures}
use Rattle.ftd_sound.specs.Private.Plain.{account_now}
use Rattle.ftd_sound.specs.Private.Lines.{AreBegun, HaveTotals, sums_in}
use Rattle.ftd_sound.proofs.Assessed.{lines_open, first_carried, sums_lie, sums_bounded, totals_had}
use Rattle.ftd_sound.proofs.Assessed.{lines_assessed}
use Rattle.ftd_sound.proofs.InForceTotals.{figures_small}
use Rattle.ftd_sound.proofs.NamedLines.{AreFigures, own_plain, own_named, have_totals}
use Rattle.ftd_sound.proofs.NamedLines.{sums_named}
use Rattle.ftd_sound.proofs.own.assess_own.Goals as goal

-- the account that is found is the one in force
is_now : (own : Own) (account : Account) (moves : List Beginning)
    → account ≡ in_force moves own.account → moves ≡ own.moves.items → account ≡ account_now own
is_now own account moves is same =
    is ∙ ap (λ (ms : List Beginning). in_force ms own.account) same

begun_own : (own : Own) (figures : Figures) (account : Account) (moves : List Beginning)
    (years : List ℕ) (lines : List YearLine) → account ≡ in_force moves own.account
    → moves ≡ own.moves.items → years ≡ own.open_years.items
    → AreBegun account figures years lines
    → AreBegun (account_now own) figures own.open_years.items lines
begun_own own figures account moves years lines is from same h =
    subst (λ (ys : List ℕ). AreBegun (account_now own) figures ys lines) same
    (subst (λ (a : Account). AreBegun a figures years lines) (is_now own account moves is from) h)

-- the sums that are assessed
sums_are : (own : Own) (sums more : List DaySum) (runs : List (ℕ × Voidable PayRun)) → sums ≡ more
    → more ≡ sums_in runs → runs ≡ own.runs.items → sums ≡ sums_in own.runs.items
sums_are own sums more runs e f g = e ∙ f ∙ ap sums_in g

totals_of : (own : Own) (figures : Figures) (account : Account) (years : List ℕ)
    → account ≡ account_now own → years ≡ own.open_years.items
    → HaveTotals (account_now own) figures own.open_years.items
    → HaveTotals account figures years
totals_of own figures account years is same h =
    subst (λ (ys : List ℕ). HaveTotals account figures ys) (sym same)
    (subst (λ (a : Account). HaveTotals a figures own.open_years.items) (sym is) h)

pub returns-then-not-branch-clause-unsound : goal.returns-then-not-branch-clause-unsound
returns-then-not-branch-clause-unsound c = λ name h.
    false≢true (sym c.if-not-branch.true
    ∙ c.in_ok-is_sound_but_totals.ensures.1 (own_plain c.args.given.now name c.args.own.now h))

pub lines_of-requires-clause-amounts : goal.lines_of-requires-clause-amounts
lines_of-requires-clause-amounts c =
    let is = c.in_ok-is_sound_but_totals.ensures.0 c.if-not-branch.false in
    All-same (λ (e : ℕ × Cents). is_amount e.1 ≡ true) _ _ c.in_ok-figures.ensures.quarters
    (figures_small c.args.own.now.reported.items c.args.own.now.corrected.items
    is.quarters.amounts is.quarters.corrected_amounts)

pub returns-in_default-clause-unsound : goal.returns-in_default-clause-unsound
returns-in_default-clause-unsound c = λ name h.
    let figures : Figures = c.in_ok-figures.figures in
    let are : AreFigures c.args.own.now figures = record {
      quarters = c.in_ok-figures.ensures.quarters;
      years = c.in_ok-figures.ensures.years;
    } in
    let is = is_now c.args.own.now c.in_force-account.result c.deref.result.now
    c.in_force-account.ensures c.deref.ensures.value in
    let none = rw c.in_default.is at c.in_ok-lines.ensures.none in
    none (totals_of c.args.own.now figures c.in_force-account.result c.deref-2.result.now is
    c.deref-2.ensures.value (have_totals c.args.given.now name c.args.own.now figures are h))

-- ---- what `assess` requires

begun_here : (c : goal.After-deref-5) → AreBegun (account_now c.args.own.now) c.in_ok-figures.figures
    c.args.own.now.open_years.items c.in-Some.lines.items
begun_here c =
    let some = rw c.in-Some.is at c.in_ok-lines.ensures.some in
    begun_own c.args.own.now c.in_ok-figures.figures c.in_force-account.result c.deref.result.now
    c.deref-2.result.now c.in-Some.lines.items c.in_force-account.ensures c.deref.ensures.value
    c.deref-2.ensures.value some

sums_here : (c : goal.After-deref-5) → c.deref-5.result.now ≡ sums_in c.args.own.now.runs.items
sums_here c = sums_are c.args.own.now c.deref-5.result.now c.in_ok-sums.sums.items c.deref-3.result.now
    c.deref-5.ensures.value c.in_ok-sums.ensures c.deref-3.ensures.value

pub assess-requires-clause-years : goal.assess-requires-clause-years
assess-requires-clause-years c = subst AreOpenYears (sym c.deref-4.ensures.value)
    (lines_open c.args.given.now c.args.own.now c.in_ok-figures.figures c.in-Some.lines.items
    (c.in_ok-is_sound_but_totals.ensures.0 c.if-not-branch.false) (begun_here c))

pub assess-requires-clause-carried : goal.assess-requires-clause-carried
assess-requires-clause-carried c = subst OnlyFirstCarried (sym c.deref-4.ensures.value)
    (first_carried c.args.given.now c.args.own.now c.in_ok-figures.figures c.in-Some.lines.items
    (c.in_ok-is_sound_but_totals.ensures.0 c.if-not-branch.false) (begun_here c))

pub assess-requires-clause-days : goal.assess-requires-clause-days
assess-requires-clause-days c =
    let lines : List YearLine = c.in-Some.lines.items in
    subst (λ (ls : List YearLine). All (λ (s : DaySum). LiesInYears ls s.day) c.deref-5.result.now)
    (sym c.deref-4.ensures.value)
    (subst (λ (ss : List DaySum). All (λ (s : DaySum). LiesInYears lines s.day) ss)
    (sym (sums_here c))
    (sums_lie c.args.given.now c.args.own.now c.in_ok-figures.figures lines
    (c.in_ok-is_sound_but_totals.ensures.0 c.if-not-branch.false) (begun_here c)))

pub assess-requires-clause-small : goal.assess-requires-clause-small
assess-requires-clause-small c =
    subst (λ (ss : List DaySum). sum_by cents_of ss < AMOUNTS_END) (sym (sums_here c))
    (sums_bounded c.args.given.now c.args.own.now c.in_ok-figures.figures c.in-Some.lines.items
    (c.in_ok-is_sound_but_totals.ensures.0 c.if-not-branch.false) (begun_here c))

-- ---- what is answered

begun_end : (c : goal.After-drop-figures-3) → AreBegun (account_now c.args.own.now) c.in_ok-figures.figures
    c.args.own.now.open_years.items c.in-Some.lines.items
begun_end c =
    let some = rw c.in-Some.is at c.in_ok-lines.ensures.some in
    begun_own c.args.own.now c.in_ok-figures.figures c.in_force-account.result c.deref.result.now
    c.deref-2.result.now c.in-Some.lines.items c.in_force-account.ensures c.deref.ensures.value
    c.deref-2.ensures.value some

sums_end : (c : goal.After-drop-figures-3) → c.deref-5.result.now ≡ sums_in c.args.own.now.runs.items
sums_end c = sums_are c.args.own.now c.deref-5.result.now c.in_ok-sums.sums.items c.deref-3.result.now
    c.deref-5.ensures.value c.in_ok-sums.ensures c.deref-3.ensures.value

are_figures : (c : goal.After-drop-figures-3) → AreFigures c.args.own.now c.in_ok-figures.figures
are_figures c = record {
  quarters = c.in_ok-figures.ensures.quarters;
  years = c.in_ok-figures.ensures.years;
}

pub returns-clause-sound : goal.returns-clause-sound
returns-clause-sound c = λ name.
    let is = c.in_ok-is_sound_but_totals.ensures.0 c.if-not-branch.false in
    own_named c.args.given.now name c.args.own.now c.in_ok-figures.figures (are_figures c) is
    (totals_had c.args.given.now c.args.own.now c.in_ok-figures.figures c.in-Some.lines.items is
    (begun_end c))

pub returns-clause-years : goal.returns-clause-years
returns-clause-years c = λ name.
    lines_assessed c.args.given.now c.args.own.now c.in_ok-figures.figures c.in-Some.lines.items
    (c.in_ok-is_sound_but_totals.ensures.0 c.if-not-branch.false) (begun_end c) name
    c.in_ok-assess.field-0.years
    (c.in_ok-assess.ensures.basis ∙ ap (map basis_of) c.deref-4.ensures.value) (are_figures c)
    (subst (λ (ss : List DaySum). AreLines ss c.in_ok-assess.field-0.years) (sums_end c)
    c.in_ok-assess.ensures.lines)

pub returns-clause-rows : goal.returns-clause-rows
returns-clause-rows c = λ name.
    let own : Own = c.args.own.now in
    let is = is_now own c.in_force-account.result c.deref.result.now c.in_force-account.ensures
    c.deref.ensures.value in
    let rows = c.in_ok-assess.field-0 in
    let held : List ℕ = holidays_of c.args.holidays.now in
    subst (λ (ss : List DaySum). AreObligations own.account.form rows.years ss held rows.rows)
    (sums_end c ∙ sym (sums_named name own.runs.items))
    (subst (λ (a : Account). AreObligations a.form rows.years c.deref-5.result.now held rows.rows)
    is c.in_ok-assess.ensures.rows)
