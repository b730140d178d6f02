-- Each step leaves the state sound.
use Rattle.std.proofs.Common.{◌≡◌, ◌∙◌, ◌⊎◌, inl, inr, refl, sym, ap, subst, ℕ, ◌+◌, ◌-◌, ◌≤◌, ◌<◌}
use Rattle.std.proofs.Common.{◌==◌, ◌||◌, ◌&&◌, Bool, true, false, cond, List, [], ◌∷◌, ◌++◌, map}
use Rattle.std.proofs.Common.{filter, length, Option, None, Some, Ok, arith, bytes_eq}
use Rattle.std.specs.Prelude.{find, option_map, is_some, nat_le, nat_lt}
use Rattle.std.proofs.lemmas.Bool.{eqb-true, leb-true, ltb-true, or_cases, and_parts, true≢false}
use Rattle.ftd_machine.specs.declared.limits.TheConstants.{MOST_ENTRIES, MOST_NUMBER}
use Rattle.ftd_days.specs.declared.limits.TheConstants.{LAST_OPEN_YEAR}
use Rattle.ftd_days.specs.Business.{is_holiday}
use Rattle.ftd_days.specs.Holidays.{holidays_of}
use Rattle.ftd_days.specs.Calendar.{year_of}
use Rattle.ftd_days.specs.Holidays.{YearDays}
use Rattle.ftd_days.specs.declared.cents.Cents.{Cents}
use Rattle.ftd_days.proofs.Spelling.{same_text}
use Rattle.ftd_rules.specs.Accounts.{is_account_name}
use Rattle.ftd_rules.specs.Lists.{Has}
use Rattle.ftd_rules.specs.Lookback.{AreReportedOnce}
use Rattle.ftd_machine.specs.declared.entries.Account.{Account}
use Rattle.ftd_machine.specs.declared.entries.Beginning.{Beginning}
use Rattle.ftd_rules.specs.declared.run.PayRun.{PayRun}
use Rattle.ftd_rules.specs.declared.payment.Payment.{Payment}
use Rattle.ftd_rules.specs.declared.run.Voidable.{Voidable}
use Rattle.ftd_rules.proofs.Members.{has_last, has_mapped, has_kept}
use Rattle.ftd_machine.specs.Limits.{can_be_opened, can_have_calendar, is_calendar, is_amount}
use Rattle.ftd_machine.specs.Limits.{are_amounts, is_number, can_be_reported}
use Rattle.ftd_machine.specs.State.{Enrolled, Entries, Move, changes_of, numbered}
use Rattle.ftd_machine.specs.State.{reported_at, corrections_at}
use Rattle.ftd_machine.specs.State.{State, nothing, Entry, entries_of, is_named, account_of, is_of}
use Rattle.ftd_machine.specs.State.{has_key, content_of, kept_at, is_open, is_given, calendar_at}
use Rattle.ftd_machine.specs.State.{all_days, days_of, added_in, DayChange, enrolled_in, moves_in}
use Rattle.ftd_machine.specs.State.{latest, account_in_force, all_at}
use Rattle.ftd_machine.specs.History.{figure_of, figures, year_of_entry, HasLookback}
use Rattle.ftd_machine.specs.Requests.{days_of_year, is_unused, report_checks, pay_checks}
use Rattle.ftd_machine.specs.Requests.{correct_total_checks, is_on, form_for, year_of_period}
use Rattle.ftd_machine.specs.Requests.{starts_in_time, has_started, has_started_in}
use Rattle.ftd_machine.specs.Checks.{Answer, first_of, Decides, meets}
use Rattle.ftd_machine.specs.Step.{Step, OpensNext, may_open, taken, with_account, with_entry}
use Rattle.ftd_machine.specs.Step.{with_voided, voided_if, as_voided, is_under, with_move}
use Rattle.ftd_machine.specs.Step.{with_total, with_correction}
use Rattle.ftd_machine.specs.Sound.{AreDistinct, name_of, year_of_calendar, place_of, FollowFrom}
use Rattle.ftd_machine.specs.Sound.{Follow, IsSound, IsReportable}
use Rattle.ftd_machine.specs.Runs.{Goes, IsRun, IsReached}
use Rattle.ftd_machine.specs.declared.replies.Reply.TheVariants.{Done}
use Rattle.ftd_machine.specs.declared.requests.Request.{Request}
use Rattle.ftd_machine.specs.declared.requests.Request.TheVariants.{Enter, Post, Void, Pay, VoidPay}
use Rattle.ftd_machine.specs.declared.requests.Request.TheVariants.{Correct, Question}
use Rattle.ftd_machine.specs.declared.requests.Entry.TheVariants as entry
use Rattle.ftd_machine.specs.declared.requests.Correction.TheVariants as correction
use Rattle.ftd_machine.specs.declared.entries.ReturnPeriod.{ReturnPeriod}
use Rattle.ftd_machine.specs.declared.entries.ReturnPeriod.TheVariants.{Quarter, Year}
use Rattle.ftd_machine.proofs.Deciding.{either}
use Rattle.ftd_machine.proofs.InYear.{filed_of, in_year, still_given, still_added}
use Rattle.ftd_machine.proofs.Members.{has_filtered, found_none}
use Rattle.ftd_machine.proofs.Leaving.{asked_leaves}
use Rattle.ftd_machine.proofs.Heads.{Gives, gives_needs, heads}
use Rattle.ftd_machine.proofs.Entered.{its_own, same_place}
use Rattle.ftd_machine.proofs.Adding.{own_name, filter_more, was_enrolled}
use Rattle.ftd_machine.proofs.Keeping.{found_append, same_key, keeps_entry}
use Rattle.ftd_machine.proofs.Totals.{totals_still, totals_account, totals_reported}
use Rattle.ftd_machine.proofs.Totals.{totals_reported_year, totals_open, totals_moved}
use Rattle.ftd_machine.proofs.Since.{meets_some, enrolled_still, account_still, moved_still}
use Rattle.ftd_machine.proofs.Since.{not_of, not_open}
use Rattle.ftd_machine.proofs.DaysOnce.{once_given, once_added}
use Rattle.ftd_machine.proofs.Bounded.{counts_more, moves_more, changes_more, corrections_more}
use Rattle.ftd_machine.proofs.Bounded.{number_room}
use Rattle.ftd_machine.proofs.Counted.{voided_count}
use Rattle.ftd_machine.proofs.Keeping.{is_year}
use Rattle.ftd_machine.proofs.Repeats.{checks_of, calendar_still, some_still}
use Rattle.ftd_machine.proofs.Single.{IsOnce}
use Rattle.ftd_machine.proofs.Few.{few_given, few_added}

-- ---- keys that differ

distinct_more : {X K : Type 0} (key : X → K) (xs : List X) (y : X) → AreDistinct key xs
    → ((x : X) → Has xs x → key x ≡ key y → ⊥) → AreDistinct key (xs ++ y ∷ [])
distinct_more key [] y apart fresh = ((λ later has. absurd has), tt)
distinct_more key (x ∷ xs) y apart fresh = (
  (λ later has same. elim (has_last xs y later has) [
    | inl here ↦ apart.0 later here same
    | inr is ↦ fresh x (inl refl) (sym same ∙ ap key is)
  ]),
  distinct_more key xs y apart.1 (λ z has. fresh z (inr has)),
)

distinct_mapped : {X K : Type 0} (key : X → K) (f : X → X) (xs : List X)
    → ((x : X) → key (f x) ≡ key x) → AreDistinct key xs → AreDistinct key (map f xs)
distinct_mapped key f [] same apart = tt
distinct_mapped key f (x ∷ xs) same apart = (
  (λ later has is. (let from = has_mapped f xs later has in
      apart.0 from.0 from.1 (sym (same from.0) ∙ ap key (sym from.2) ∙ is ∙ same x))),
  distinct_mapped key f xs same apart.1,
)

distinct_same : {X K : Type 0} (key : X → K) (xs : List X) → AreDistinct key xs → (x y : X)
    → Has xs x → Has xs y → key y ≡ key x → x ≡ y
distinct_same key [] apart x y a b same = absurd a
distinct_same key (z ∷ xs) apart x y (inl a) (inl b) same = a ∙ sym b
distinct_same key (z ∷ xs) apart x y (inl a) (inr b) same = absurd (apart.0 y b (same ∙ ap key a))
distinct_same key (z ∷ xs) apart x y (inr a) (inl b) same =
    absurd (apart.0 x a (sym same ∙ ap key b))
distinct_same key (z ∷ xs) apart x y (inr a) (inr b) same =
    distinct_same key xs apart.1 x y a b same

-- an entry whose key is not taken
fresh_entry : {X : Type 0} (xs : List (Entry X)) (name : List ℕ) (key : ℕ) (content : X)
    → kept_at key (filter (is_of name) xs) ≡ None
    → AreDistinct place_of xs → AreDistinct place_of (with_entry xs name key content)
fresh_entry xs name key content none apart =
    distinct_more place_of xs _ apart (λ e has same.
    (let name_is : e.name ≡ name = ap (λ (p : List ℕ × ℕ). p.0) same in
    let key_is : e.key ≡ key = ap (λ (p : List ℕ × ℕ). p.1) same in
    let own : is_of name e ≡ true = its_own name e name_is in
    let keyed : has_key key e ≡ true = ap (λ k. k == key) key_is ∙ same_key key in
    found_none content_of (has_key key) (filter (is_of name) xs) none e
    (has_kept (is_of name) xs e has own) keyed))

fresh_voided : {X : Type 0} (xs : List (Entry (Voidable X))) (name : List ℕ) (key : ℕ)
    → AreDistinct place_of xs → AreDistinct place_of (with_voided xs name key)
fresh_voided xs name key apart = distinct_mapped place_of (voided_if name key) xs (λ e. refl) apart

-- figures of an account are reported once
once_of : (xs corrected : List (Entry Cents)) (name : List ℕ) → AreDistinct place_of xs
    → AreReportedOnce (figures (filter (is_of name) xs) corrected)
once_of xs corrected name apart quarter figure other h k =
    let a = has_mapped (figure_of corrected) (filter (is_of name) xs) (quarter, figure) h in
    let b = has_mapped (figure_of corrected) (filter (is_of name) xs) (quarter, other) k in
    let c = has_filtered (is_of name) xs a.0 a.1 in
    let d = has_filtered (is_of name) xs b.0 b.1 in
    let names : b.0.name ≡ a.0.name = same_text b.0.name name d.1
    ∙ sym (same_text a.0.name name c.1) in
    let keys : b.0.key ≡ a.0.key = sym (ap (λ (p : ℕ × Cents). p.0) b.2)
    ∙ ap (λ (p : ℕ × Cents). p.0) a.2 in
    let places : place_of b.0 ≡ place_of a.0 = same_place b.0 a.0 names keys in
    let same : a.0 ≡ b.0 = distinct_same place_of xs apart a.0 b.0 c.0 d.0 places in
    ap (λ (p : ℕ × Cents). p.1) a.2
    ∙ ap (λ (e : Entry Cents). latest e.content (all_at e.key corrected)) same
    ∙ sym (ap (λ (p : ℕ × Cents). p.1) b.2)

pub sound_once : (s : State) → IsSound s → (name : List ℕ) → IsOnce (entries_of s name)
sound_once s sound name = record {
  quarters = λ corrected. once_of s.reported corrected name sound.reported;
  years = λ corrected. once_of s.reported_years corrected name sound.reported_years;
}

-- ---- the changes

pub in_force_some : (enrolled : Option Account) (moves : List Beginning) → is_some enrolled ≡ true
    → is_some (account_in_force enrolled moves) ≡ true
in_force_some (Some account) moves e = refl
in_force_some None moves e = absurd cc

-- what holds of each item and of one more
each_last : {X : Type 0} (P : X → Type 0) (xs : List X) (x : X)
    → ((y : X) → Has xs y → P y) → P x → (y : X) → Has (xs ++ x ∷ []) y → P y
each_last P xs x each last y has = elim (has_last xs x y has) [
  | inl here ↦ each y here
  | inr is ↦ subst P (sym is) last
]

-- so an amount that fits is added to those that fit
each_amount : (xs : List (Entry Cents)) (name : List ℕ) (key : ℕ) (cents : Cents)
    → ((e : Entry Cents) → Has xs e → is_amount e.content ≡ true) → is_amount cents ≡ true
    → (e : Entry Cents) → Has (with_entry xs name key cents) e → is_amount e.content ≡ true
each_amount xs name key cents each fits = each_last
    (λ (e : Entry Cents). is_amount e.content ≡ true) xs
    (record { name = name; key = key; content = cents }) each fits

still_value : {X : Type 0} (name : List ℕ) (key : ℕ) (e : Entry (Voidable X))
    → (voided_if name key e).content.value ≡ e.content.value
still_value name key e = value_as (is_under name key e) e.content
  where
    value_as : {X : Type 0} (b : Bool) (v : Voidable X) → (cond b (as_voided v) v).value ≡ v.value
    value_as true v = refl
    value_as false v = refl

-- what holds of a run or payment under its name and number holds once one is voided
each_voided : {X : Type 0} (P : List ℕ → ℕ → X → Type 0) (xs : List (Entry (Voidable X)))
    (name : List ℕ) (key : ℕ)
    → ((e : Entry (Voidable X)) → Has xs e → P e.name e.key e.content.value)
    → (e : Entry (Voidable X)) → Has (with_voided xs name key) e → P e.name e.key e.content.value
each_voided {X} P xs name key each e has =
    let from = has_mapped (voided_if name key) xs e has in
    let was = subst (P from.0.name from.0.key) (sym (still_value name key from.0))
    (each from.0 from.1) in
    subst (λ (x : Entry (Voidable X)). P x.name x.key x.content.value) (sym from.2) was

sound_account : (s : State) (name : List ℕ) (account : Account) → enrolled_in s name ≡ None
    → is_account_name name ≡ true → nat_le (year_of account.start) LAST_OPEN_YEAR ≡ true
    → IsSound s
    → IsSound (record s { accounts = with_account s.accounts name account })
sound_account s name account none named begins sound =
    let after : State = record s { accounts = with_account s.accounts name account } in
    let new : Enrolled = record { name = name; account = account } in
    let names = each_last (λ (x : Enrolled). is_account_name x.name ≡ true) s.accounts new
    sound.names named in
    let first_days = each_last
    (λ (x : Enrolled). nat_le (year_of x.account.start) LAST_OPEN_YEAR ≡ true) s.accounts new
    sound.first_days begins in
    let moved : (m : Move) → Has s.moved m → is_some (enrolled_in after m.name) ≡ true =
    λ m has. (let there = sound.moved_accounts m has in
    ap is_some (enrolled_still s name account m.name there) ∙ there) in
    let quarters : (e : Entry Cents) → Has s.reported e
    → IsReportable (entries_of after e.name).account (Quarter e.key) =
    λ e has. (let was = sound.quarters e has in
    subst (λ o. IsReportable o (Quarter e.key))
    (sym (account_still s name account e.name (meets_some _ _ was.on_form))) was) in
    let years : (e : Entry Cents) → Has s.reported_years e
    → IsReportable (entries_of after e.name).account (Year e.key) =
    λ e has. (let was = sound.years e has in
    subst (λ o. IsReportable o (Year e.key))
    (sym (account_still s name account e.name (meets_some _ _ was.on_form))) was) in
    let meets_still : (test : Account → Bool) (other : List ℕ)
    → meets test (entries_of s other).account ≡ true
    → meets test (entries_of after other).account ≡ true =
    λ test other was. ap (meets test) (account_still s name account other
    (meets_some test (entries_of s other).account was)) ∙ was in
    let opened_since : (e : Entry (Unit {0})) → Has s.open_years e
    → meets (has_started_in e.key) (entries_of after e.name).account ≡ true =
    λ e has. meets_still (has_started_in e.key) e.name (sound.opened_since e has) in
    let posted_since : (e : Entry (Voidable PayRun)) → Has s.runs e
    → meets (has_started e.content.value.payday) (entries_of after e.name).account ≡ true =
    λ e has. meets_still (has_started e.content.value.payday) e.name (sound.posted_since e has) in
    let paid_since : (e : Entry (Voidable Payment)) → Has s.payments e
    → meets (has_started e.content.value.for_day) (entries_of after e.name).account ≡ true =
    λ e has. meets_still (has_started e.content.value.for_day) e.name (sound.paid_since e has) in
    let accounts : AreDistinct name_of (with_account s.accounts name account) =
    distinct_more name_of s.accounts _ sound.accounts
    (λ e has same. found_none account_of (is_named name) s.accounts none e has
    (ap (λ n. bytes_eq n name) same ∙ own_name name)) in
    let enrolled : (e : Entry (Unit {0})) → Has s.open_years e → is_some (entries_of
    (record s { accounts = with_account s.accounts name account }) e.name).account ≡ true =
    λ e has. in_force_some _ (moves_in s e.name)
    (some_still (enrolled_in s e.name) _
    (λ x. found_append account_of (is_named e.name) s.accounts _ x)
    (was_enrolled (enrolled_in s e.name) (moves_in s e.name) (sound.enrolled e has))) in
    let totals = totals_account s name account sound.enrolled sound.totals in
    assumption sound

given_still : (s : State) (year : ℕ) (days : List ℕ) (other : ℕ) → is_given s other ≡ true
    → is_given (record s { calendars = s.calendars ++ record { year = year; days = days } ∷ [] })
    other ≡ true
given_still s year days other e = some_still (calendar_at s other)
    (calendar_at (record s { calendars = s.calendars ++ record { year = year; days = days } ∷ [] })
    other) (calendar_still s year days other) e

sound_calendar : (s : State) (year : ℕ) (days : List ℕ) → calendar_at s year ≡ None
    → can_have_calendar year ≡ true → is_calendar year days ≡ true → IsSound s
    → IsSound (record s { calendars = s.calendars ++ record { year = year; days = days } ∷ [] })
sound_calendar s year days none between fits sound =
    let new : YearDays = record { year = year; days = days } in
    let after : State = record s { calendars = s.calendars ++ new ∷ [] } in
    let other : (c : YearDays) → Has s.calendars c → c.year ≡ year → ⊥ =
    λ c has same. found_none days_of (is_year year) s.calendars none c has
    (ap (λ k. k == year) same ∙ same_key year) in
    let calendars = distinct_more year_of_calendar s.calendars new sound.calendars other in
    let are_calendars = each_last (λ (g : YearDays). (can_have_calendar g.year ≡ true)
    × (is_calendar g.year g.days ≡ true)) s.calendars new sound.are_calendars (between, fits) in
    let opened : (e : Entry (Unit {0})) → Has s.open_years e → (can_be_opened e.key ≡ true)
    × (is_given after e.key ≡ true) × (is_given after (e.key + 1) ≡ true) =
    λ e has. (let was = sound.opened e has in
    (was.0, given_still s year days e.key was.1, given_still s year days (e.key + 1) was.2)) in
    let totals = totals_still s after refl refl refl refl refl sound.totals in
    let added_days : (d : ℕ) → Has s.added_days d → is_given after (year_of d) ≡ true =
    λ d has. given_still s year days (year_of d) (sound.added_days d has) in
    let few = few_given s sound.few year days fits (λ c has. (sound.are_calendars c has).1) other
    sound.added_days (ap is_some none) in
    let days_once = once_given s.calendars new s.added_days
    (λ c has. (sound.are_calendars c has).1) fits other
    (λ d has same. true≢false (sym (sound.added_days d has)
    ∙ ap (is_given s) same ∙ ap is_some none)) sound.days_once in
    let changed : (c : DayChange) → Has s.changed_days c
    → is_holiday (all_days after) c.day ≡ true = λ c has. still_given s.calendars new s.added_days
    c.day (sound.changed c has) in
    assumption sound

-- a total that is reported may be kept of its account
reportable : (name : List ℕ) (period : ReturnPeriod) (cents : Cents) (account : Option Account)
    (known : Option Cents) → first_of (report_checks name period cents account known) ≡ None
    → IsReportable account period
reportable name period cents account known passed =
    let P = report_checks name period cents account known in
    let on_form : Gives P (meets (is_on (form_for period)) account ≡ true) =
    search heads depth 12 in
    let in_years : Gives P (can_be_reported (year_of_period period) ≡ true) =
    search heads depth 12 in
    let starts : Gives P (meets (starts_in_time period) account ≡ true) = search heads depth 12 in
    record {
      on_form = on_form.fact passed;
      in_years = in_years.fact passed;
      starts = starts.fact passed;
    }

sound_total : (s : State) (name : List ℕ) (period : ReturnPeriod) (cents : Cents)
    → reported_at (entries_of s name) period ≡ None → is_amount cents ≡ true
    → IsReportable (entries_of s name).account period → IsSound s
    → IsSound (with_total s name period cents)
sound_total s name (Quarter quarter) cents none fits may sound =
    let quarters = each_last
    (λ (x : Entry Cents). IsReportable (entries_of s x.name).account (Quarter x.key)) s.reported
    (record { name = name; key = quarter; content = cents }) sound.quarters may in
    let corrected : (e : Entry Cents) → Has s.corrected e
    → is_some (kept_at e.key (filter (is_of e.name) (with_entry s.reported name quarter cents)))
    ≡ true = λ e has. some_still (kept_at e.key (entries_of s e.name).reported) _
    (keeps_entry s.reported name quarter cents e.name e.key) (sound.corrected_quarters e has) in
    assumption (
      sound,
      fresh_entry s.reported name quarter cents none sound.reported,
      totals_reported s name quarter cents sound.enrolled sound.totals,
      each_amount s.reported name quarter cents sound.reported_amounts fits,
    )
sound_total s name (Year year) cents none fits may sound =
    let years = each_last
    (λ (x : Entry Cents). IsReportable (entries_of s x.name).account (Year x.key))
    s.reported_years (record { name = name; key = year; content = cents }) sound.years may in
    let corrected : (e : Entry Cents) → Has s.corrected_years e
    → is_some (kept_at e.key (filter (is_of e.name) (with_entry s.reported_years name year cents)))
    ≡ true = λ e has. some_still (kept_at e.key (entries_of s e.name).reported_years) _
    (keeps_entry s.reported_years name year cents e.name e.key) (sound.corrected_years e has) in
    assumption (
      sound,
      fresh_entry s.reported_years name year cents none sound.reported_years,
      totals_reported_year s name year cents sound.enrolled sound.totals,
      each_amount s.reported_years name year cents sound.year_amounts fits,
    )

sound_added : (s : State) (day : ℕ) → is_given s (year_of day) ≡ true
    → nat_lt (length (days_of_year (calendar_at s (year_of day)) (added_in s (year_of day)))) 60
    ≡ true
    → is_holiday (days_of_year (calendar_at s (year_of day)) (added_in s (year_of day))) day ≡ false
    → IsSound s
    → IsSound (record s { added_days = s.added_days ++ day ∷ [] })
sound_added s day given room fresh sound =
    let days_once = once_added (holidays_of s.calendars) s.added_days day
    (in_year s sound.calendars (filed_of s sound) sound.added_days day ∙ fresh) sound.days_once in
    let totals = totals_still s (record s { added_days = s.added_days ++ day ∷ [] })
    refl refl refl refl refl sound.totals in
    let added_days = each_last (λ x. is_given s (year_of x) ≡ true) s.added_days day
    sound.added_days given in
    let few = few_added s sound.few day sound.calendars (λ c has. (sound.are_calendars c has).1)
    room in
    let changed : (c : DayChange) → Has s.changed_days c
    → is_holiday (all_days (record s { added_days = s.added_days ++ day ∷ [] })) c.day ≡ true =
    λ c has. still_added (holidays_of s.calendars) s.added_days day c.day (sound.changed c has) in
    assumption sound

-- ---- years that follow one another

abbrev key_of : {X : Type 0} → Entry X → ℕ
key_of e = e.key

from_more : (year first : ℕ) (years : List ℕ) → 1 ≤ year → FollowFrom first years
    → Has (first ∷ years) (year - 1) → (Has (first ∷ years) year → ⊥)
    → FollowFrom first (years ++ year ∷ [])
from_more year first [] at_least follow (inl is) fresh = (omega arith, tt)
from_more year first [] at_least follow (inr none) fresh = absurd none
from_more year first (next ∷ years) at_least follow (inl is) fresh =
    absurd (fresh (inr (inl (let n = follow.0 in omega arith))))
from_more year first (next ∷ years) at_least follow (inr has) fresh =
    (follow.0, from_more year next years at_least follow.1 has (λ k. fresh (inr k)))

follow_more : (year : ℕ) (years : List ℕ) → 1 ≤ year → Follow years → (years ≡ [])
    ⊎ Has years (year - 1) → (Has years year → ⊥) → Follow (years ++ year ∷ [])
follow_more year [] at_least follow before fresh = tt
follow_more year (first ∷ years) at_least follow (inl none) fresh = absurd cc
follow_more year (first ∷ years) at_least follow (inr has) fresh =
    from_more year first years at_least follow has fresh

found_has : {X : Type 0} (key : ℕ) (e : Entry X) (xs : List (Entry X)) (b : Bool)
    → (e.key == key) ≡ b
    → is_some (option_map content_of (cond b (Some e) (find (has_key key) xs))) ≡ true
    → (is_some (kept_at key xs) ≡ true → Has (map key_of xs) key)
    → Has (key_of e ∷ map key_of xs) key
found_has key e xs true is there later = inl (sym (eqb-true e.key key is))
found_has key e xs false is there later = inr (later there)

open_has : {X : Type 0} (key : ℕ) (xs : List (Entry X)) → is_some (kept_at key xs) ≡ true
    → Has (map key_of xs) key
open_has key [] there = absurd cc
open_has key (e ∷ xs) there = found_has key e xs (e.key == key) refl there (open_has key xs)

none_of : {X : Type 0} (o : Option X) → is_some o ≡ false → o ≡ None
none_of (Some x) e = absurd cc
none_of None e = refl

pub empty_of : {X : Type 0} (xs : List X) → (length xs == 0) ≡ true → xs ≡ []
empty_of [] e = refl
empty_of (x ∷ xs) e = absurd (let l : length (x ∷ xs) ≡ 0 = eqb-true (length (x ∷ xs)) 0 e in
    omega arith)

pub mapped_last : {X Y : Type 0} (f : X → Y) (xs : List X) (x : X) → map f (xs ++ x ∷ []) ≡ map f xs
    ++ f x ∷ []
mapped_last f [] x = refl
mapped_last f (y ∷ xs) x = ap (λ ys. f y ∷ ys) (mapped_last f xs x)

at_least_one : (year : ℕ) → can_be_opened year ≡ true → 1 ≤ year
at_least_one year e = below year (nat_le 2001 year) refl e
  where
    below : (year : ℕ) (b : Bool) → nat_le 2001 year ≡ b → (b && nat_le year 2098) ≡ true → 1 ≤ year
    below year true is e = let l : 2001 ≤ year = leb-true 2001 year is in omega arith
    below year false is e = absurd cc

turn_step : (s : State) (name : List ℕ) (year : ℕ) (other : List ℕ) (b : Bool)
    → bytes_eq name other ≡ b → 1 ≤ year
    → (length (entries_of s name).open_years == 0) || is_open (entries_of s name) (year - 1) ≡ true
    → is_open (entries_of s name) year ≡ false → IsSound s
    → Follow (map year_of_entry
    (cond b (filter (is_of other) s.open_years ++ record { name = name; key = year; content = tt }
    ∷ []) (filter (is_of other) s.open_years)))
turn_step s name year other false e at_least first fresh sound = sound.in_turn other
turn_step s name year other true e at_least first fresh sound =
    let same : name ≡ other = same_text name other e in
    let own = filter (is_of name) s.open_years in
    let new : Entry (Unit {0}) = record { name = name; key = year; content = tt } in
    let before : (map year_of_entry own ≡ []) ⊎ Has (map year_of_entry own) (year - 1) =
    elim (or_cases (length own == 0) (is_open (entries_of s name) (year - 1)) first) [
      | inl none ↦ inl (ap (map year_of_entry) (empty_of own none))
      | inr there ↦ inr (open_has (year - 1) own there)
    ] in
    let apart : Has (map year_of_entry own) year → ⊥ = λ has.
    (let from = has_mapped year_of_entry own year has in
    found_none content_of (has_key year) own (none_of (kept_at year own) fresh) from.0 from.1
    (ap (λ k. k == year) (sym from.2) ∙ same_key year)) in
    let follows : Follow (map year_of_entry (own ++ new ∷ [])) =
    subst Follow (sym (mapped_last year_of_entry own new))
    (follow_more year (map year_of_entry own) at_least (sound.in_turn name) before apart) in
    subst (λ x. Follow (map year_of_entry (filter (is_of x) s.open_years ++ new ∷ []))) same follows

open_still : (s : State) (name : List ℕ) (year : ℕ) (other : List ℕ) (day : ℕ)
    → is_open (entries_of s other) day ≡ true
    → is_open (entries_of (record s { open_years = with_entry s.open_years name year tt }) other)
    day ≡ true
open_still s name year other day e =
    some_still (kept_at day (filter (is_of other) s.open_years))
    (kept_at day (filter (is_of other) (with_entry s.open_years name year tt)))
    (keeps_entry s.open_years name year tt other day) e

sound_open : (s : State) (name : List ℕ) (year : ℕ) → is_some (entries_of s name).account ≡ true
    → can_be_opened year ≡ true → is_given s year ≡ true → is_given s (year + 1) ≡ true
    → (length (entries_of s name).open_years == 0) || is_open (entries_of s name) (year - 1) ≡ true
    → is_open (entries_of s name) year ≡ false
    → meets (has_started_in year) (entries_of s name).account ≡ true
    → (total : Cents) × HasLookback (entries_of s name) year total → IsSound s
    → IsSound (record s { open_years = with_entry s.open_years name year tt })
sound_open s name year there between given next first fresh started total sound =
    let new : Entry (Unit {0}) = record { name = name; key = year; content = tt } in
    let after : State = record s { open_years = with_entry s.open_years name year tt } in
    let open_years = fresh_entry s.open_years name year tt
    (none_of (kept_at year (entries_of s name).open_years) fresh) sound.open_years in
    let opened = each_last (λ (x : Entry (Unit {0})). (can_be_opened x.key ≡ true)
    × (is_given s x.key ≡ true) × (is_given s (x.key + 1) ≡ true)) s.open_years new sound.opened
    (between, given, next) in
    let enrolled = each_last
    (λ (x : Entry (Unit {0})). is_some (entries_of s x.name).account ≡ true) s.open_years new
    sound.enrolled there in
    let totals = totals_open s name year total.0 total.1 sound.totals in
    let opened_since = each_last (λ (x : Entry (Unit {0})). meets (has_started_in x.key)
    (entries_of s x.name).account ≡ true) s.open_years new sound.opened_since started in
    let in_turn : (other : List ℕ) → Follow (map year_of_entry
    (filter (is_of other) after.open_years)) = λ other.
    subst (λ xs. Follow (map year_of_entry xs))
    (sym (filter_more (is_of other) s.open_years new (bytes_eq name other) refl))
    (turn_step s name year other (bytes_eq name other) refl (at_least_one year between) first
    fresh sound) in
    let paydays : (e : Entry (Voidable PayRun)) → Has s.runs e
    → is_open (entries_of after e.name) (year_of e.content.value.payday) ≡ true =
    λ e has. open_still s name year e.name _ (sound.paydays e has) in
    let paid_days : (e : Entry (Voidable Payment)) → Has s.payments e
    → is_open (entries_of after e.name) (year_of e.content.value.for_day) ≡ true =
    λ e has. open_still s name year e.name _ (sound.paid_days e has) in
    assumption sound

-- ---- runs and payments

-- what the checks of a payment ask of its number, its amount and the day on which it was made, and
-- of the first day of its account
record IsPayable (account : Option Account) (number : ℕ) (value : Payment) : Type 0 where
  numbered : is_number number ≡ true
  fits : is_amount value.cents ≡ true
  something : nat_le 1 value.cents.0 ≡ true
  made : can_have_calendar (year_of value.paid) ≡ true
  started : meets (has_started value.for_day) account ≡ true

payable : (name : List ℕ) (number : ℕ) (value : Payment) (account : Option Account)
    (known : Option (Voidable Payment)) (there : Bool) (count : ℕ)
    → first_of (pay_checks name number value account known there count) ≡ None
    → IsPayable account number value
payable name number value account known there count passed =
    let P = pay_checks name number value account known there count in
    let numbered : Gives P (is_number number ≡ true) = search heads depth 12 in
    let fits : Gives P ((nat_le 1 value.cents.0 && is_amount value.cents) ≡ true) =
    search heads depth 12 in
    let days : Gives P ((can_have_calendar (year_of value.paid)
    && can_be_opened (year_of value.for_day)) ≡ true) = search heads depth 12 in
    let started : Gives P (meets (has_started value.for_day) account ≡ true) =
    search heads depth 12 in
    let amount = and_parts (nat_le 1 value.cents.0) (is_amount value.cents) (fits.fact passed) in
    let made = and_parts (can_have_calendar (year_of value.paid))
    (can_be_opened (year_of value.for_day)) (days.fact passed) in
    record {
      numbered = numbered.fact passed;
      fits = amount.1;
      something = amount.0;
      made = made.0;
      started = started.fact passed;
    }

sound_run : (s : State) (name : List ℕ) (number : ℕ) (value : PayRun)
    → kept_at number (entries_of s name).runs ≡ None
    → is_open (entries_of s name) (year_of value.payday) ≡ true → are_amounts value ≡ true
    → is_number number ≡ true → length (entries_of s name).runs < MOST_ENTRIES
    → meets (has_started value.payday) (entries_of s name).account ≡ true → IsSound s
    → IsSound (record s { runs = with_entry s.runs name number (taken value) })
sound_run s name number value none there fits numbered room started sound =
    let new : Entry (Voidable PayRun) =
    record { name = name; key = number; content = taken value } in
    let runs = fresh_entry s.runs name number (taken value) none sound.runs in
    let totals = totals_still s (record s { runs = with_entry s.runs name number (taken value) })
    refl refl refl refl refl sound.totals in
    let paydays = each_last (λ (x : Entry (Voidable PayRun)). is_open (entries_of s x.name)
    (year_of x.content.value.payday) ≡ true) s.runs new sound.paydays there in
    let counts : (other : List ℕ) → (length (filter (is_of other) (s.runs ++ new ∷ []))
    ≤ MOST_ENTRIES) × (length (entries_of s other).payments ≤ MOST_ENTRIES) = λ other.
    (counts_more s.runs _ (λ n. (sound.counts n).0) room other, (sound.counts other).1) in
    let numbers = each_last (λ (x : Entry (Voidable PayRun)). is_number x.key ≡ true) s.runs new
    sound.run_numbers numbered in
    let amounts = each_last (λ (x : Entry (Voidable PayRun)). are_amounts x.content.value ≡ true)
    s.runs new sound.run_amounts fits in
    let since = each_last (λ (x : Entry (Voidable PayRun)). meets
    (has_started x.content.value.payday) (entries_of s x.name).account ≡ true) s.runs new
    sound.posted_since started in
    assumption sound

sound_payment : (s : State) (name : List ℕ) (number : ℕ) (value : Payment)
    → kept_at number (entries_of s name).payments ≡ None
    → is_open (entries_of s name) (year_of value.for_day) ≡ true
    → IsPayable (entries_of s name).account number value
    → length (entries_of s name).payments < MOST_ENTRIES → IsSound s
    → IsSound (record s { payments = with_entry s.payments name number (taken value) })
sound_payment s name number value none there may room sound =
    let new : Entry (Voidable Payment) =
    record { name = name; key = number; content = taken value } in
    let payments = fresh_entry s.payments name number (taken value) none sound.payments in
    let totals = totals_still s
    (record s { payments = with_entry s.payments name number (taken value) })
    refl refl refl refl refl sound.totals in
    let days = each_last (λ (x : Entry (Voidable Payment)). is_open (entries_of s x.name)
    (year_of x.content.value.for_day) ≡ true) s.payments new sound.paid_days there in
    let counts : (other : List ℕ) → (length (entries_of s other).runs ≤ MOST_ENTRIES)
    × (length (filter (is_of other) (s.payments ++ new ∷ [])) ≤ MOST_ENTRIES) = λ other.
    ((sound.counts other).0, counts_more s.payments _ (λ n. (sound.counts n).1) room other) in
    let amounts = each_last
    (λ (x : Entry (Voidable Payment)). is_amount x.content.value.cents ≡ true) s.payments new
    sound.paid_amounts may.fits in
    let since = each_last (λ (x : Entry (Voidable Payment)). meets
    (has_started x.content.value.for_day) (entries_of s x.name).account ≡ true) s.payments new
    sound.paid_since may.started in
    let numbers = each_last (λ (x : Entry (Voidable Payment)). is_number x.key ≡ true) s.payments
    new sound.payment_numbers may.numbered in
    let something = each_last
    (λ (x : Entry (Voidable Payment)). nat_le 1 x.content.value.cents.0 ≡ true) s.payments new
    sound.paid_something may.something in
    let made = each_last
    (λ (x : Entry (Voidable Payment)). can_have_calendar (year_of x.content.value.paid) ≡ true)
    s.payments new sound.paid_in may.made in
    assumption sound

module _ (s : State) (name : List ℕ) (number : ℕ) (sound : IsSound s) where
  sound_void_run : IsSound (record s { runs = with_voided s.runs name number })
  sound_void_run =
      let counts : (other : List ℕ)
      → (length (filter (is_of other) (with_voided s.runs name number)) ≤ MOST_ENTRIES)
      × (length (entries_of s other).payments ≤ MOST_ENTRIES) =
      λ other. (
        rw (voided_count s.runs name number other) (sound.counts other).0,
        (sound.counts other).1,
      ) in
      let runs = fresh_voided s.runs name number sound.runs in
      let paydays = each_voided (λ owner key (value : PayRun). is_open (entries_of s owner)
      (year_of value.payday) ≡ true) s.runs name number sound.paydays in
      let numbers = each_voided (λ owner key (value : PayRun). is_number key ≡ true) s.runs name
      number sound.run_numbers in
      let amounts = each_voided (λ owner key (value : PayRun). are_amounts value ≡ true) s.runs
      name number sound.run_amounts in
      let since = each_voided (λ owner key (value : PayRun). meets (has_started value.payday)
      (entries_of s owner).account ≡ true) s.runs name number sound.posted_since in
      assumption (
        sound,
        totals_still s (record s { runs = with_voided s.runs name number })
            refl refl refl refl refl sound.totals,
      )

  sound_void_payment : IsSound (record s { payments = with_voided s.payments name number })
  sound_void_payment =
      let counts : (other : List ℕ) → (length (entries_of s other).runs ≤ MOST_ENTRIES)
      × (length (filter (is_of other) (with_voided s.payments name number)) ≤ MOST_ENTRIES) =
      λ other. (
        (sound.counts other).0,
        rw (voided_count s.payments name number other) (sound.counts other).1,
      ) in
      let payments = fresh_voided s.payments name number sound.payments in
      let days = each_voided (λ owner key (value : Payment). is_open (entries_of s owner)
      (year_of value.for_day) ≡ true) s.payments name number sound.paid_days in
      let amounts = each_voided (λ owner key (value : Payment). is_amount value.cents ≡ true)
      s.payments name number sound.paid_amounts in
      let since = each_voided (λ owner key (value : Payment). meets (has_started value.for_day)
      (entries_of s owner).account ≡ true) s.payments name number sound.paid_since in
      let numbers = each_voided (λ owner key (value : Payment). is_number key ≡ true) s.payments
      name number sound.payment_numbers in
      let something = each_voided (λ owner key (value : Payment). nat_le 1 value.cents.0 ≡ true)
      s.payments name number sound.paid_something in
      let made = each_voided
      (λ owner key (value : Payment). can_have_calendar (year_of value.paid) ≡ true) s.payments
      name number sound.paid_in in
      assumption (
        sound,
        totals_still s (record s { payments = with_voided s.payments name number })
            refl refl refl refl refl sound.totals,
      )

-- ---- corrections

sound_correction : (s : State) (name : List ℕ) (period : ReturnPeriod) (cents : Cents)
    → is_amount cents ≡ true → is_some (reported_at (entries_of s name) period) ≡ true
    → length (corrections_at (entries_of s name) period) < MOST_NUMBER → IsSound s
    → IsSound (with_correction s name period cents)
sound_correction s name (Quarter quarter) cents fits there room sound =
    let totals = totals_still s
    (record s { corrected = with_entry s.corrected name quarter cents })
    refl refl refl refl refl sound.totals in
    let amounts = each_amount s.corrected name quarter cents sound.corrected_amounts fits in
    let reported = each_last
    (λ (x : Entry Cents). is_some (kept_at x.key (entries_of s x.name).reported) ≡ true)
    s.corrected (record { name = name; key = quarter; content = cents }) sound.corrected_quarters
    there in
    let counts = corrections_more s.corrected name quarter cents sound.quarter_counts room in
    assumption sound
sound_correction s name (Year year) cents fits there room sound =
    let totals = totals_still s
    (record s { corrected_years = with_entry s.corrected_years name year cents })
    refl refl refl refl refl sound.totals in
    let amounts = each_amount s.corrected_years name year cents sound.corrected_year_amounts fits
    in
    let reported = each_last
    (λ (x : Entry Cents). is_some (kept_at x.key (entries_of s x.name).reported_years) ≡ true)
    s.corrected_years (record { name = name; key = year; content = cents }) sound.corrected_years
    there in
    let counts = corrections_more s.corrected_years name year cents sound.year_counts room in
    assumption sound

sound_changed : (s : State) (change : DayChange) → is_holiday (all_days s) change.day ≡ true
    → length (changes_of change.day s.changed_days) < MOST_NUMBER → IsSound s
    → IsSound (record s { changed_days = s.changed_days ++ change ∷ [] })
sound_changed s change there room sound =
    let counts = changes_more s.changed_days change.day change.is_holiday sound.change_counts room
    in
    let totals = totals_still s (record s { changed_days = s.changed_days ++ change ∷ [] })
    refl refl refl refl refl sound.totals in
    let changed = each_last (λ (x : DayChange). is_holiday (all_days s) x.day ≡ true)
    s.changed_days change sound.changed there in
    assumption sound

-- nothing rests on an account that has no totals and no open year: it has no runs and no payments
record IsIdle (own : Entries) : Type 0 where
  reported : own.reported ≡ []
  reported_years : own.reported_years ≡ []
  open_years : own.open_years ≡ []

idle : (own : Entries) → is_unused own ≡ true → IsIdle own
idle own unused =
    let first = and_parts (length own.reported == 0)
    ((length own.reported_years == 0) && (length own.open_years == 0)) unused in
    let rest = and_parts (length own.reported_years == 0) (length own.open_years == 0) first.1 in
    record {
      reported = empty_of own.reported first.0;
      reported_years = empty_of own.reported_years rest.0;
      open_years = empty_of own.open_years rest.1;
    }

sound_moved : (s : State) (name : List ℕ) (beginning : Beginning)
    → IsIdle (entries_of s name) → is_some (entries_of s name).account ≡ true
    → nat_le (year_of beginning.start) LAST_OPEN_YEAR ≡ true
    → length (moves_in s name) < MOST_NUMBER → IsSound s
    → IsSound (record s { moved = with_move s.moved name beginning })
sound_moved s name beginning none there begins room sound =
    let after : State = record s { moved = with_move s.moved name beginning } in
    let new : Move = record { name = name; beginning = beginning } in
    let moved = each_last (λ (x : Move). is_some (enrolled_in s x.name) ≡ true) s.moved new
    sound.moved_accounts (was_enrolled (enrolled_in s name) (moves_in s name) there) in
    let days = each_last (λ (x : Move). nat_le (year_of x.beginning.start) LAST_OPEN_YEAR ≡ true)
    s.moved new sound.moved_days begins in
    let counts = moves_more s.moved name beginning sound.move_counts room in
    let still : (other : List ℕ) → (name ≡ other → ⊥)
    → (entries_of s other).account ≡ (entries_of after other).account =
    λ other apart. ap (λ (own : Entries). own.account)
    (sym (moved_still s name beginning other apart)) in
    let quarters : (e : Entry Cents) → Has s.reported e
    → IsReportable (entries_of after e.name).account (Quarter e.key) =
    λ e has. subst (λ o. IsReportable o (Quarter e.key))
    (still e.name (not_of name s.reported e none.reported has)) (sound.quarters e has) in
    let years : (e : Entry Cents) → Has s.reported_years e
    → IsReportable (entries_of after e.name).account (Year e.key) =
    λ e has. subst (λ o. IsReportable o (Year e.key))
    (still e.name (not_of name s.reported_years e none.reported_years has)) (sound.years e has) in
    let opened_since : (e : Entry (Unit {0})) → Has s.open_years e
    → meets (has_started_in e.key) (entries_of after e.name).account ≡ true =
    λ e has. subst (λ o. meets (has_started_in e.key) o ≡ true)
    (still e.name (not_of name s.open_years e none.open_years has)) (sound.opened_since e has) in
    let posted_since : (e : Entry (Voidable PayRun)) → Has s.runs e
    → meets (has_started e.content.value.payday) (entries_of after e.name).account ≡ true =
    λ e has. subst (λ o. meets (has_started e.content.value.payday) o ≡ true)
    (still e.name (not_open s name e.name _ none.open_years (sound.paydays e has)))
    (sound.posted_since e has) in
    let paid_since : (e : Entry (Voidable Payment)) → Has s.payments e
    → meets (has_started e.content.value.for_day) (entries_of after e.name).account ≡ true =
    λ e has. subst (λ o. meets (has_started e.content.value.for_day) o ≡ true)
    (still e.name (not_open s name e.name _ none.open_years (sound.paid_days e has)))
    (sound.paid_since e has) in
    let enrolled : (e : Entry (Unit {0})) → Has s.open_years e
    → is_some (entries_of after e.name).account ≡ true = λ e has. in_force_some
    (enrolled_in s e.name) (moves_in after e.name)
    (was_enrolled (enrolled_in s e.name) (moves_in s e.name) (sound.enrolled e has)) in
    let totals = totals_moved s name beginning none.open_years sound.totals in
    assumption sound

-- ---- a step

module _ (s : State) (answer : Answer) (new : State) (sound : IsSound s) where
  done_sound : (P : List (Option Answer)) (after : State) → Decides (first_of P) s answer new
      ((answer ≡ Ok Done) × (new ≡ after))
      → (first_of P ≡ None → IsSound after) → IsSound new
  done_sound P after step then =
      elim (either (first_of P) s answer new _ step) [
        | inl same ↦ subst IsSound (sym same.1) sound
        | inr done ↦ subst IsSound (sym done.1.1) (then done.0)
      ]

  post_sound : (P : List (Option Answer)) (after : State) (Told : Type 0)
      → Decides (first_of P) s answer new ((new ≡ after) × Told)
      → (first_of P ≡ None → IsSound after) → IsSound new
  post_sound P after Told step then =
      elim (either (first_of P) s answer new _ step) [
        | inl same ↦ subst IsSound (sym same.1) sound
        | inr done ↦ subst IsSound (sym done.1.0) (then done.0)
      ]

  void_sound : (P : List (Option Answer)) (after : State) (known : Option (Voidable PayRun))
      (Told : Voidable PayRun → Type 0)
      → Decides (first_of P) s answer new ((run : Voidable PayRun) × (known ≡ Some run)
      × (new ≡ after) × Told run) → IsSound after → IsSound new
  void_sound P after known Told step then =
      elim (either (first_of P) s answer new _ step) [
        | inl same ↦ subst IsSound (sym same.1) sound
        | inr done ↦ subst IsSound (sym done.1.2) then
      ]

  next_sound : (name : List ℕ) (year : ℕ) → OpensNext s answer new name year
      → ((length (entries_of s name).open_years == 0) || is_open (entries_of s name) (year - 1)
      ≡ true → (total : Cents) × HasLookback (entries_of s name) year total
      → IsSound (record s { open_years = with_entry s.open_years name year tt }))
      → IsSound new
  next_sound name year (inl missing) then = subst IsSound (sym missing.2.1) sound
  next_sound name year (inr found) then =
      let first : Gives (may_open (entries_of s name) year)
      ((length (entries_of s name).open_years == 0) || is_open (entries_of s name) (year - 1)
      ≡ true) = gives_needs _ _ [] in
      done_sound (may_open (entries_of s name) year) _ found.2
      (λ e. then (first.fact e) (found.0, found.1))

  open_sound : (P : List (Option Answer)) (name : List ℕ) (year : ℕ)
      → Decides (first_of P) s answer new (OpensNext s answer new name year)
      → (first_of P ≡ None → (length (entries_of s name).open_years == 0) || is_open
      (entries_of s name) (year - 1) ≡ true
      → (total : Cents) × HasLookback (entries_of s name) year total
      → IsSound (record s { open_years = with_entry s.open_years name year tt }))
      → IsSound new
  open_sound P name year step then =
      elim (either (first_of P) s answer new _ step) [
        | inl same ↦ subst IsSound (sym same.1) sound
        | inr passed ↦ next_sound name year passed.1 (then passed.0)
      ]

pub step_sound : (s : State) (request : Request) (answer : Answer) (next : State)
    → Step s request answer next → IsSound s → IsSound next
step_sound s (Enter (entry.Account name account)) answer next step sound =
    let none : Gives (checks_of s (Enter (entry.Account name account)))
    (enrolled_in s name ≡ None) = search heads depth 12 in
    let named : Gives (checks_of s (Enter (entry.Account name account)))
    (is_account_name name ≡ true) = search heads depth 12 in
    let begins : Gives (checks_of s (Enter (entry.Account name account)))
    (nat_le (year_of account.start) LAST_OPEN_YEAR ≡ true) = search heads depth 12 in
    done_sound s answer next sound (checks_of s (Enter (entry.Account name account))) _ step
    (λ e. sound_account s name account (none.fact e) (named.fact e) (begins.fact e) sound)
step_sound s (Enter (entry.Calendar year days)) answer next step sound =
    let P = checks_of s (Enter (entry.Calendar year days)) in
    let between : Gives P (can_have_calendar year ≡ true) = search heads depth 12 in
    let fits : Gives P (is_calendar year days ≡ true) = search heads depth 12 in
    let none : Gives P (calendar_at s year ≡ None) = search heads depth 12 in
    done_sound s answer next sound P _ step (λ e. sound_calendar s year days (none.fact e)
    (between.fact e) (fits.fact e) sound)
step_sound s (Enter (entry.Holiday day)) answer next step sound =
    let P = checks_of s (Enter (entry.Holiday day)) in
    let given : Gives P (is_given s (year_of day) ≡ true) = search heads depth 12 in
    let room : Gives P
    (nat_lt (length (days_of_year (calendar_at s (year_of day)) (added_in s (year_of day)))) 60
    ≡ true) = search heads depth 12 in
    let fresh : Gives P (is_holiday (days_of_year (calendar_at s (year_of day))
    (added_in s (year_of day))) day ≡ false) = search heads depth 12 in
    done_sound s answer next sound P _ step
    (λ e. sound_added s day (given.fact e) (room.fact e) (fresh.fact e) sound)
step_sound s (Enter (entry.Total name period cents)) answer next step sound =
    let own = entries_of s name in
    let P = report_checks name period cents own.account (reported_at own period) in
    let none : Gives P (reported_at own period ≡ None) = search heads depth 12 in
    let fits : Gives P (is_amount cents ≡ true) = search heads depth 12 in
    done_sound s answer next sound P _ step
    (λ e. sound_total s name period cents (none.fact e) (fits.fact e)
    (reportable name period cents own.account (reported_at own period) e) sound)
step_sound s (Enter (entry.Year name year)) answer next step sound =
    let P = checks_of s (Enter (entry.Year name year)) in
    let between : Gives P (can_be_opened year ≡ true) = search heads depth 12 in
    let fresh : Gives P (is_open (entries_of s name) year ≡ false) = search heads depth 12 in
    let there : Gives P (is_some (entries_of s name).account ≡ true) = search heads depth 12 in
    let given : Gives P (is_given s year ≡ true) = search heads depth 12 in
    let next_given : Gives P (is_given s (year + 1) ≡ true) = search heads depth 12 in
    let started : Gives P (meets (has_started_in year) (entries_of s name).account ≡ true) =
    search heads depth 12 in
    open_sound s answer next sound P name year step
    (λ e first total. sound_open s name year (there.fact e) (between.fact e) (given.fact e)
    (next_given.fact e) first (fresh.fact e) (started.fact e) total sound)
step_sound s (Post name number run) answer next step sound =
    let P = checks_of s (Post name number run) in
    let none : Gives P (kept_at number (entries_of s name).runs ≡ None) = search heads depth 12 in
    let there : Gives P (is_open (entries_of s name) (year_of run.payday) ≡ true) =
    search heads depth 12 in
    let fits : Gives P (are_amounts run ≡ true) = search heads depth 12 in
    let numbered : Gives P (is_number number ≡ true) = search heads depth 12 in
    let room : Gives P (nat_lt (length (entries_of s name).runs) MOST_ENTRIES ≡ true) =
    search heads depth 12 in
    let started : Gives P (meets (has_started run.payday) (entries_of s name).account ≡ true) =
    search heads depth 12 in
    post_sound s answer next sound P _ _ step (λ e. sound_run s name number run (none.fact e)
    (there.fact e) (fits.fact e) (numbered.fact e) (ltb-true _ _ (room.fact e)) (started.fact e)
    sound)
step_sound s (Void name number) answer next step sound =
    void_sound s answer next sound (checks_of s (Void name number)) _ _ _ step
    (sound_void_run s name number sound)
step_sound s (Pay name number payment) answer next step sound =
    let P = checks_of s (Pay name number payment) in
    let none : Gives P (kept_at number (entries_of s name).payments ≡ None) =
    search heads depth 12 in
    let there : Gives P (is_open (entries_of s name) (year_of payment.for_day) ≡ true) =
    search heads depth 12 in
    let room : Gives P (nat_lt (length (entries_of s name).payments) MOST_ENTRIES ≡ true) =
    search heads depth 12 in
    done_sound s answer next sound P _ step (λ e. sound_payment s name number payment (none.fact e)
    (there.fact e) (payable name number payment _ _ _ _ e) (ltb-true _ _ (room.fact e)) sound)
step_sound s (VoidPay name number) answer next step sound =
    done_sound s answer next sound (checks_of s (VoidPay name number)) _ step
    (λ e. sound_void_payment s name number sound)
step_sound s (Correct number (correction.Total name period cents)) answer next step sound =
    let own = entries_of s name in
    let known = corrections_at own period in
    let P = correct_total_checks name period number cents own.account (reported_at own period)
    (numbered number known) (length known) in
    let fits : Gives P (is_amount cents ≡ true) = search heads depth 12 in
    let there : Gives P (is_some (reported_at own period) ≡ true) = search heads depth 12 in
    let numbers : Gives P (is_number number ≡ true) = search heads depth 12 in
    let in_turn : Gives P ((number == length known + 1) ≡ true) = search heads depth 12 in
    post_sound s answer next sound P _ _ step
    (λ e. sound_correction s name period cents (fits.fact e) (there.fact e)
    (number_room number (length known) (numbers.fact e) (in_turn.fact e)) sound)
step_sound s (Correct number (correction.Holiday day is_one)) answer next step sound =
    let P = checks_of s (Correct number (correction.Holiday day is_one)) in
    let there : Gives P (is_holiday (days_of_year (calendar_at s (year_of day))
    (added_in s (year_of day))) day ≡ true) = search heads depth 12 in
    let known = changes_of day s.changed_days in
    let numbers : Gives P (is_number number ≡ true) = search heads depth 12 in
    let in_turn : Gives P ((number == length known + 1) ≡ true) = search heads depth 12 in
    done_sound s answer next sound P _ step
    (λ e. sound_changed s (record { day = day; is_holiday = is_one })
    (in_year s sound.calendars (filed_of s sound) sound.added_days day ∙ there.fact e)
    (number_room number (length known) (numbers.fact e) (in_turn.fact e)) sound)
step_sound s (Correct number (correction.Account name beginning)) answer next step sound =
    let P = checks_of s (Correct number (correction.Account name beginning)) in
    let own = entries_of s name in
    let unused : Gives P (is_unused own ≡ true) = search heads depth 12 in
    let there : Gives P (is_some own.account ≡ true) = search heads depth 12 in
    let begins : Gives P (nat_le (year_of beginning.start) LAST_OPEN_YEAR ≡ true) =
    search heads depth 12 in
    let numbers : Gives P (is_number number ≡ true) = search heads depth 12 in
    let in_turn : Gives P ((number == length own.moves + 1) ≡ true) = search heads depth 12 in
    done_sound s answer next sound P _ step (λ e. sound_moved s name beginning
    (idle own (unused.fact e)) (there.fact e) (begins.fact e)
    (number_room number (length own.moves) (numbers.fact e) (in_turn.fact e)) sound)
step_sound s (Question question) answer next step sound =
    subst IsSound (sym (asked_leaves _ s answer next _ step)) sound

-- ---- a run

pub nothing_sound : IsSound nothing
nothing_sound = record {
  accounts = tt;
  calendars = tt;
  reported = tt;
  reported_years = tt;
  open_years = tt;
  runs = tt;
  payments = tt;
  are_calendars = λ c has. absurd has;
  opened = λ e has. absurd has;
  enrolled = λ e has. absurd has;
  totals = λ e has. absurd has;
  in_turn = λ name. tt;
  paydays = λ e has. absurd has;
  paid_days = λ e has. absurd has;
  counts = λ name. (omega arith, omega arith);
  reported_amounts = λ e has. absurd has;
  year_amounts = λ e has. absurd has;
  corrected_amounts = λ e has. absurd has;
  corrected_year_amounts = λ e has. absurd has;
  run_numbers = λ e has. absurd has;
  run_amounts = λ e has. absurd has;
  paid_amounts = λ e has. absurd has;
  added_days = λ d has. absurd has;
  few = λ year. omega arith;
  changed = λ c has. absurd has;
  days_once = tt;
  names = λ e has. absurd has;
  first_days = λ e has. absurd has;
  moved_accounts = λ m has. absurd has;
  moved_days = λ m has. absurd has;
  quarters = λ e has. absurd has;
  years = λ e has. absurd has;
  corrected_quarters = λ e has. absurd has;
  corrected_years = λ e has. absurd has;
  opened_since = λ e has. absurd has;
  posted_since = λ e has. absurd has;
  paid_since = λ e has. absurd has;
  payment_numbers = λ e has. absurd has;
  paid_something = λ e has. absurd has;
  paid_in = λ e has. absurd has;
  move_counts = λ name. omega arith;
  change_counts = λ day. omega arith;
  quarter_counts = λ name quarter. omega arith;
  year_counts = λ name year. omega arith;
}

goes_sound : (s : State) (request : Request) (answer : Answer) (next : State)
    → Goes s request answer next → IsSound s → IsSound next
goes_sound s request answer next (inl step) sound = step_sound s request answer next step sound
goes_sound s request answer next (inr fault) sound = subst IsSound (sym fault.1) sound

pub run_sound : (s : State) (requests : List Request) (answers : List Answer) (end : State)
    → IsRun s requests answers end → IsSound s → IsSound end
run_sound s [] [] end run sound = subst IsSound (sym run) sound
run_sound s [] (answer ∷ answers) end run sound = absurd run
run_sound s (request ∷ requests) [] end run sound = absurd run
run_sound s (request ∷ requests) (answer ∷ answers) end run sound =
    run_sound run.0 requests answers end run.2 (goes_sound s request answer run.0 run.1 sound)

pub reached_sound : (s : State) → IsReached s → IsSound s
reached_sound s reached = run_sound nothing reached.0 reached.1 s reached.2 nothing_sound
