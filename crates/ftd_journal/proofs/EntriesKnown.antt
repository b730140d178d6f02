-- The runs and the payments that were read of an account are its own, by number.
use Rattle.std.proofs.Common.{◌≡◌, ◌∙◌, refl, sym, ap, subst, ℕ, ◌≤◌, ◌&&◌, Bool, true}
use Rattle.std.proofs.Common.{false}
use Rattle.std.proofs.Common.{List, [], ◌∷◌, map, arith}
use Rattle.std.specs.Prelude.{filter, bytes_eq, IsPermutation}
use Rattle.std.proofs.lemmas.Bool.{eqb-true}
use Rattle.ftd_days.specs.Calendar.{year_of, last_day}
use Rattle.ftd_days.proofs.Months.{day_in_years}
use Rattle.ftd_rules.specs.declared.payment.Payment.{Payment}
use Rattle.ftd_rules.specs.declared.run.PayRun.{PayRun}
use Rattle.ftd_rules.specs.declared.run.Voidable.{Voidable}
use Rattle.ftd_rules.specs.Lists.{Has, KeysDoNotFall}
use Rattle.ftd_rules.proofs.Members.{has_mapped}
use Rattle.ftd_sql.specs.Orders.{RunsRise, PaymentsRise}
use Rattle.ftd_sql.specs.Rows.{RunRow, PaymentRow}
use Rattle.ftd_sql.specs.Standing.{Tables}
use Rattle.ftd_sql.specs.Tests.{is_run_between, is_payment_between}
use Rattle.ftd_sql.specs.declared.TableName.TheVariants.{Runs, Payments}
use Rattle.ftd_store.specs.Cells.{day_number}
use Rattle.ftd_store.specs.Kept.{IsNumberedRun, IsNumberedPayment}
use Rattle.ftd_store.specs.Lists.{Lists}
use Rattle.ftd_store.specs.declared.kept_cells.NumberedPayment.{NumberedPayment}
use Rattle.ftd_store.specs.declared.kept_cells.NumberedRun.{NumberedRun}
use Rattle.ftd_machine.specs.Sound.{IsSound}
use Rattle.ftd_machine.specs.State.{State, Entry, entries_of, is_of, is_open, has_key, content_of}
use Rattle.ftd_machine.specs.State.{kept_at}
use Rattle.ftd_machine.proofs.Lined.{between_is}
use Rattle.ftd_machine.proofs.Members.{found_some, has_filtered, some_of}
use Rattle.ftd_entries.specs.Standing.{run_entry, payment_entry}
use Rattle.ftd_entries.proofs.CalendarRows.{whole}
use Rattle.ftd_entries.proofs.Kept.{same_nat, run_is, payment_is}
use Rattle.ftd_entries.proofs.QuarterDays.{days_into}
use Rattle.ftd_journal.specs.Parts.{KnowsRuns, KnowsPayments, run_number, run_of, payment_number}
use Rattle.ftd_journal.specs.Parts.{payment_of}
use Rattle.ftd_journal.proofs.ByKey.{rows_that_pass, sorted_as}
use Rattle.ftd_machine.proofs.SameMembers.{key_of_entry, own_apart, same_entry}

-- ---- days

-- a day of a year that is open for some account is one of a calendar
in_days : (s : State) (name : List ℕ) (day : ℕ) → IsSound s
    → is_open (entries_of s name) (year_of day) ≡ true → day ≤ last_day
in_days s name day sound there =
    let own = filter (is_of name) s.open_years in
    let year = year_of day in
    let c = some_of (kept_at year own) there in
    let d = found_some content_of (has_key year) own c.0 c.1 in
    let between = between_is d.0.key
    (sound.opened d.0 (has_filtered (is_of name) s.open_years d.0 d.1).0).0 in
    let same : d.0.key ≡ year = eqb-true d.0.key year d.2 in
    let to = between.1 in
    day_in_years day (omega arith)

both_true : (b c : Bool) → c ≡ true → (b && c) ≡ b
both_true true c is = is
both_true false c is = refl

-- ---- in the order of their numbers

mapped_fall : {X Y : Type 0} (key : Y → ℕ) (f : X → Y) (xs : List X)
    → KeysDoNotFall (λ x. key (f x)) xs → KeysDoNotFall key (map f xs)
mapped_fall key f [] fall = tt
mapped_fall key f (x ∷ xs) fall = (
  (λ later has.
      (let from = has_mapped f xs later has in
      subst (λ n. key (f x) ≤ n) (ap key (sym from.2)) (fall.0 from.0 from.1))),
  mapped_fall key f xs fall.1,
)

-- ---- runs

same_run : (a b : Entry (Voidable PayRun)) → run_entry a ≡ run_entry b → a ≡ b
same_run a b is =
    same_entry a b (ap (λ (r : RunRow). r.account) is)
    (same_nat a.key b.key (ap (λ (r : RunRow). r.number) is))
    (run_is b.name b.key a b.content is)

pub runs_known : (name : List ℕ) (first last : ℕ) (found sorted : List NumberedRun) (t : Tables)
    → first ≡ 0 → last ≡ last_day
    → Lists RunsRise (IsNumberedRun name)
    (filter (is_run_between name (day_number first) (day_number last)) (t Runs)) found
    → IsPermutation found sorted → KeysDoNotFall run_number sorted → KnowsRuns name sorted t
runs_known name first last found sorted t begin end lists moved fall s stands sound =
    sorted_as run_entry same_run key_of_entry (λ (r : RunRow). whole r.number) (λ e. refl)
    (run_of name) RunsRise (filter (is_of name) s.runs) (own_apart name s.runs sound.runs)
    (ap (filter test) stands.entries.paid.runs
    ∙ rows_that_pass run_entry test (is_of name) s.runs tests) found lists sorted moved
    (mapped_fall key_of_entry (run_of name) sorted fall)
  where
    test : RunRow → Bool
    test = is_run_between name (day_number first) (day_number last)

    tests : (e : Entry (Voidable PayRun)) → Has s.runs e → test (run_entry e) ≡ is_of name e
    tests e has =
        let day : e.content.value.payday ≤ last_day =
        in_days s e.name e.content.value.payday sound (sound.paydays e has) in
        both_true (bytes_eq e.name name) _
        (days_into first last e.content.value.payday (omega arith) (omega arith))

-- ---- payments

same_payment : (a b : Entry (Voidable Payment)) → payment_entry a ≡ payment_entry b → a ≡ b
same_payment a b is =
    same_entry a b (ap (λ (r : PaymentRow). r.account) is)
    (same_nat a.key b.key (ap (λ (r : PaymentRow). r.number) is))
    (payment_is b.name b.key a b.content is)

pub payments_known : (name : List ℕ) (first last : ℕ) (found sorted : List NumberedPayment)
    (t : Tables) → first ≡ 0 → last ≡ last_day
    → Lists PaymentsRise (IsNumberedPayment name)
    (filter (is_payment_between name (day_number first) (day_number last)) (t Payments)) found
    → IsPermutation found sorted → KeysDoNotFall payment_number sorted
    → KnowsPayments name sorted t
payments_known name first last found sorted t begin end lists moved fall s stands sound =
    sorted_as payment_entry same_payment key_of_entry (λ (r : PaymentRow). whole r.number)
    (λ e. refl) (payment_of name) PaymentsRise (filter (is_of name) s.payments)
    (own_apart name s.payments sound.payments)
    (ap (filter test) stands.entries.paid.payments
    ∙ rows_that_pass payment_entry test (is_of name) s.payments tests) found lists sorted moved
    (mapped_fall key_of_entry (payment_of name) sorted fall)
  where
    test : PaymentRow → Bool
    test = is_payment_between name (day_number first) (day_number last)

    tests : (e : Entry (Voidable Payment)) → Has s.payments e
        → test (payment_entry e) ≡ is_of name e
    tests e has =
        let day : e.content.value.for_day ≤ last_day =
        in_days s e.name e.content.value.for_day sound (sound.paid_days e has) in
        both_true (bytes_eq e.name name) _
        (days_into first last e.content.value.for_day (omega arith) (omega arith))
