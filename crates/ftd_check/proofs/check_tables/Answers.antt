use Rattle.std.proofs.Common.{◌≡◌, ◌∙◌, ℕ, ap, subst, List, map, Option, Some}
use Rattle.std.proofs.Common.{Result, Ok, Err}
use Rattle.ftd_days.specs.Holidays.{AreFew, AreYears, YearDays, holidays_of}
use Rattle.ftd_days.proofs.Known.{given_few}
use Rattle.ftd_sql.specs.Standing.{Tables}
use Rattle.ftd_store.proofs.Telling.{reads_on}
use Rattle.ftd_entries.proofs.Reading.{three_told, four_told}
use Rattle.ftd_machine.specs.Sound.{year_of_calendar}
use Rattle.ftd_sound.specs.Days.{calendar_in}
use Rattle.ftd_sound.specs.declared.days.Calendar.{Calendar}
use Rattle.ftd_check.specs.Accounts.{ChecksAccounts}
use Rattle.ftd_check.specs.Days.{ReadsDays}
use Rattle.ftd_check.specs.Soundness.{Finds}
use Rattle.ftd_check.specs.declared.days.KeptDays.{KeptDays}
use Rattle.ftd_check.specs.declared.soundness.Soundness.TheVariants as soundness
use Rattle.ftd_check.specs.declared.soundness.Part.{Part}
use Rattle.ftd_check.specs.declared.soundness.Part.TheVariants as part
use Rattle.ftd_check.specs.declared.sizes.Sizes.{Sizes}
use Rattle.ftd_check.proofs.SoundAll.{days_unsound, accounts_unsound, accounts_found}
use Rattle.ftd_check.proofs.check_tables.Goals as goal

pub returns-in_default : goal.returns-in_default
returns-in_default g c = record {
  call = reads_on (soundness.Unsound part.Holidays) Finds c.in_ok-days.ensures.call
      (λ t read. days_unsound t
      (subst (λ (f : Option KeptDays). ReadsDays f t) c.in_default.is read));
}

-- what is read of the days
days_are : (found : Option KeptDays) (kept : KeptDays) (t : Tables) → found ≡ Some kept
    → ReadsDays found t → ReadsDays (Some kept) t
days_are found kept t is = subst (λ (f : Option KeptDays). ReadsDays f t) is

-- the accounts, where these are the years of the calendars, and this was found
accounts_are : (years given read : List ℕ) (found what : Result Sizes Part) (t : Tables)
    → years ≡ given → found ≡ what → ChecksAccounts years read found t
    → ChecksAccounts given read what t
accounts_are years given read found what t same is checked =
    subst (λ (ys : List ℕ). ChecksAccounts ys read what t) same
    (subst (λ (f : Result Sizes Part). ChecksAccounts years read f t) is checked)

-- the legal holidays are few in each year
are_few : (holidays years : List YearDays) → years ≡ holidays → AreYears years
    → AreFew (holidays_of holidays)
are_few holidays years same are =
    subst (λ (hs : List YearDays). AreFew (holidays_of hs)) same (given_few years are)

pub returns-in-Err : goal.returns-in-Err
returns-in-Err g c =
    let read : List ℕ = holidays_of c.in_ok-holidays.holidays in
    let few : AreFew read = are_few c.in_ok-holidays.holidays _ c.holidays.view_is
    c.holidays.invariant in
    let same = c.deref-2.ensures.value ∙ c.in-Ok.ensures
    ∙ ap (λ (cs : List Calendar). map year_of_calendar (map calendar_in cs))
    c.deref.ensures.value in
    record {
      call = three_told c.in_ok-days.ensures.call c.in_ok-holidays.ensures.call
          c.in_ok-sizes.ensures.call (soundness.Unsound c.in-Err.part) Finds
          (λ t days knows found. accounts_unsound t c.in-Some.days
          (days_are c.in_ok-days.field-0 c.in-Some.days t c.in-Some.is days) read few knows
          c.in-Err.part
          (accounts_are c.deref-2.result.now _ read c.in_ok-sizes.field-0
          (Err c.in-Err.part) t same c.in-Err.is found));
    }

pub returns : goal.returns
returns g c =
    let read : List ℕ = holidays_of c.in_ok-holidays.holidays in
    let few : AreFew read = are_few c.in_ok-holidays.holidays _ c.holidays.view_is
    c.holidays.invariant in
    let same = c.deref-2.ensures.value ∙ c.in-Ok.ensures
    ∙ ap (λ (cs : List Calendar). map year_of_calendar (map calendar_in cs))
    c.deref.ensures.value in
    let sizes = c.in-Ok-2.sizes in
    record {
      call = four_told c.in_ok-days.ensures.call c.in_ok-holidays.ensures.call
          c.in_ok-sizes.ensures.call c.soundness_of.result Finds c.in_ok-all.ensures.call
          (λ t days knows found counted. accounts_found t c.in-Some.days
          (days_are c.in_ok-days.field-0 c.in-Some.days t c.in-Some.is days) read few knows
          sizes c.in_ok-all.all
          (accounts_are c.deref-2.result.now _ read c.in_ok-sizes.field-0 (Ok sizes) t
          same c.in-Ok-2.is found) counted c.soundness_of.result c.soundness_of.ensures);
    }
