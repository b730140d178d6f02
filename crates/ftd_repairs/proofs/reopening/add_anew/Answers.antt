use Rattle.std.proofs.Common.{◌≡◌, ℕ, List, refl, subst}
use Rattle.ftd_days.specs.Holidays.{holidays_of}
use Rattle.ftd_rules.specs.declared.DaySum.{DaySum}
use Rattle.ftd_buckets.specs.declared.Window.{Window}
use Rattle.ftd_store.proofs.Telling.{reads_on}
use Rattle.ftd_repairs.specs.Repaired.{AreLiveIn}
use Rattle.ftd_repairs.specs.Anew.{AddsYear, AddsYearOf}
use Rattle.ftd_repairs.specs.Reopening.{all_year}
use Rattle.ftd_repairs.proofs.reopening.add_anew.Goals as goal

pub returns-in-Ok-clause-call : goal.returns-in-Ok-clause-call
returns-in-Ok-clause-call g c =
    let name = c.args.account.now in
    let line = c.args.line.now in
    let holidays : List ℕ = holidays_of c.args.holidays.now in
    let sums : List DaySum = c.in_ok-read.read.sums.items in
    let window : Window = record { from = c.first_day.result; to = c.last_day.result } in
    let is : window ≡ all_year line.year = rw (c.first_day.ensures, c.last_day.ensures) refl in
    let adds : AddsYear c.args.form line holidays sums c.args.known c.in-Ok.later =
    rw c.deref.ensures.value at c.in-Ok.ensures.adds in
    reads_on c.in-Ok.later (AddsYearOf name c.args.form line holidays c.args.known)
    c.in_ok-read.ensures.call (λ t live. record {
      sums = sums;
      are_live = subst (λ w. AreLiveIn name t w sums) is live;
      adds = adds;
    })
