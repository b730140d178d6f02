use Rattle.std.proofs.Common.{◌≡◌, ◌<◌, ◌||◌, ℕ, List, length, sym, ap, ◌∙◌, subst, arith}
use Rattle.std.specs.Prelude.{All}
use Rattle.std.proofs.lemmas.List.Elements.{All-more}
use Rattle.ftd_days.specs.Business.{is_holiday}
use Rattle.ftd_days.specs.Calendar.{year_of}
use Rattle.ftd_days.specs.Holidays.{holidays_of}
use Rattle.ftd_store.proofs.Replaced.{all_taken}
use Rattle.ftd_store.proofs.AddedYears.{year_added, day_added}
use Rattle.ftd_store.proofs.holidays.add_both.Goals as goal

pub loop-day-init : goal.loop-day-init
loop-day-init c =
    let added = c.in_ok-add_year.ensures.ok in
    record {
      same = λ day. ap (λ given. is_holiday (holidays_of given) day) added.1
          ∙ year_added c.args.holidays.now c.args.year c.args.given.now day;
      years = λ k d low. absurd (omega arith);
    }

pub loop-day-preserved : goal.loop-day-preserved
loop-day-preserved c =
    let xs : List ℕ = c.args.added.now in
    let i : ℕ = c.loop-day.day-index in
    let x : ℕ = c.day-item.result in
    let some : i < length xs = c.loop-day-test.true in
    let P : ℕ → Type 0 = λ d. year_of d ≡ c.args.year in
    let here : P x = sym c.year.ensures ∙ c.if-year.false in
    record {
      same = λ day. day_added (holidays_of c.args.holidays.now) c.args.given.now xs i x day
          (is_holiday (holidays_of c.loop-day.holidays) day)
          (is_holiday (holidays_of c.add_day.new.self) day) some c.day-item.is
          (c.loop-day.invariant.same day) (c.in_ok-add_day.ensures.holiday day);
      years = All-more P xs i x some c.loop-day.invariant.years (subst P c.day-item.is here);
    }

pub returns-clause-same : goal.returns-clause-same
returns-clause-same c day =
    let xs : List ℕ = c.args.added.now in
    let end = c.loop-day-test.false in
    let all = all_taken xs c.loop-day.day-index (omega arith) in
    subst (λ (ds : List ℕ). is_holiday (holidays_of c.loop-day.holidays) day
    ≡ (is_holiday (holidays_of c.args.holidays.now) day ||
    (is_holiday c.args.given.now day || is_holiday ds day))) all (c.loop-day.invariant.same day)

pub returns-clause-added : goal.returns-clause-added
returns-clause-added c =
    let xs : List ℕ = c.args.added.now in
    let end = c.loop-day-test.false in
    let all = all_taken xs c.loop-day.day-index (omega arith) in
    subst (All (λ d. year_of d ≡ c.args.year)) all c.loop-day.invariant.years

pub returns-clause-year : goal.returns-clause-year
returns-clause-year c = c.in_ok-add_year.ensures.ok.0.is_year.to
