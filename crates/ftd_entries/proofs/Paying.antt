-- Payments that are taken and voided: what is answered, and the tables stand for the machine's next
-- state.
use Rattle.std.proofs.Common.{◌≡◌, ◌∙◌, refl, ap, ℕ, ◌&&◌, pos, List}
use Rattle.std.proofs.Common.{map, length, Option, None, Some, Ok}
use Rattle.std.specs.Prelude.{bytes_eq}
use Rattle.ftd_days.specs.Calendar.{year_of}
use Rattle.ftd_rules.specs.declared.payment.Payment.{Payment}
use Rattle.ftd_rules.specs.declared.run.Voidable.{Voidable}
use Rattle.ftd_sql.specs.declared.TableName.TheVariants.{Payments}
use Rattle.ftd_sql.specs.Rows.{PaymentRow}
use Rattle.ftd_sql.specs.Standing.{Tables, with_rows}
use Rattle.ftd_sql.specs.Tests.{is_payment, voided_payment}
use Rattle.ftd_sql.specs.Kept.{changed}
use Rattle.ftd_store.specs.Changes.{with_payment, with_void_payment}
use Rattle.ftd_store.specs.Finds.{FindsPayment, CountsPayments}
use Rattle.ftd_machine.specs.declared.entries.Account.{Account}
use Rattle.ftd_machine.specs.declared.requests.Request.TheVariants.{Pay, VoidPay}
use Rattle.ftd_machine.specs.declared.replies.Reply.TheVariants.{Done}
use Rattle.ftd_machine.specs.State.{State, Entry, Entries, entries_of, kept_at, is_open}
use Rattle.ftd_machine.specs.Checks.{Answer, first_of}
use Rattle.ftd_machine.specs.Requests.{pay_checks, void_payment_checks}
use Rattle.ftd_machine.specs.Step.{Step, with_entry, with_voided}
use Rattle.ftd_machine.specs.Step.{taken}
use Rattle.ftd_machine.specs.Sound.{IsSound}
use Rattle.ftd_machine.proofs.Deciding.{decided, passed}
use Rattle.ftd_entries.specs.Standing.{StandsFor, payment_entry}
use Rattle.ftd_entries.specs.declared.payments.KnownForPay.{KnownForPay}
use Rattle.ftd_entries.specs.Known.{KnowsAccount}
use Rattle.ftd_entries.specs.Payments.{KnowsForPay}
use Rattle.ftd_entries.proofs.Reading.{Both}
use Rattle.ftd_entries.proofs.Kept.{kept_payment, counted_payments}
use Rattle.ftd_entries.proofs.Entered.{entered, row_more}
use Rattle.ftd_entries.proofs.Growing.{settled_grows}
use Rattle.ftd_entries.proofs.CalendarRows.{year_cell}
use Rattle.ftd_entries.proofs.Voiding as voiding

-- other payments change no line and no obligation
paid_stands : (t : Tables) (s : State) (rows : List PaymentRow)
    (payments : List (Entry (Voidable Payment))) → rows ≡ map payment_entry payments → StandsFor t s
    → StandsFor (with_rows Payments rows t) (record s { payments = payments })
paid_stands t s rows payments are stands = record {
  entries = (let e = stands.entries in entered e.meta e.enrolled e.figures e.days
      (record { runs = e.paid.runs; payments = are }));
  settled = λ name.
      settled_grows t (with_rows Payments rows t) s (record s { payments = payments }) name refl
      refl refl
      (record {
        account = refl;
        open_years = refl;
        runs = refl;
        reported = λ figure has. has;
        reported_years = λ figure has. has;
      }) (stands.settled name);
}

-- what is read before the checks of a payment
abbrev pub ReadsPayment : List ℕ → ℕ → Option Account × Option (Voidable Payment) → Tables → Type 0
ReadsPayment name number = Both (KnowsAccount name) (FindsPayment name number)

-- ---- a payment is taken

module _ (name : List ℕ) (number : ℕ) (payment : Payment) (count : ℕ) where
  abbrev pub KnowsAll : KnownForPay → Tables → Type 0
  KnowsAll = KnowsForPay name number (year_of payment.for_day)

  abbrev pub checks : KnownForPay → Option Answer
  checks known = first_of (pay_checks name number payment known.account known.payment known.is_open
      count)

  abbrev checks_on : Entries → Option Answer
  checks_on own = first_of (pay_checks name number payment own.account (kept_at number own.payments)
      (is_open own (year_of payment.for_day)) (length own.payments))

  -- the checks of what is kept are those of what was read
  checks_are : (known : KnownForPay) (t : Tables) (s : State) → StandsFor t s
      → CountsPayments name count t → KnowsAll known t → checks_on (entries_of s name)
      ≡ checks known
  checks_are known t s stands counted knows =
      rw (
        knows.account s stands,
        kept_payment name t s stands number known.payment knows.payment,
        knows.is_open s stands,
        counted_payments name t s stands count counted,
      ) refl

  abbrev Next : State → State
  Next s = record s { payments = with_entry s.payments name number (taken payment) }

  next_stands : (t : Tables) (s : State) → StandsFor t s
      → StandsFor (with_payment name number payment t) (Next s)
  next_stands t s stands =
      let more : Entry (Voidable Payment) = record {
        name = name;
        key = number;
        content = taken payment;
      } in
      paid_stands t s _ (with_entry s.payments name number (taken payment))
      (row_more payment_entry s.payments more stands.entries.paid.payments) stands

  -- a check decides
  pub pay_decided : (known : KnownForPay) (answer : Answer) → checks known ≡ Some answer
      → (t : Tables) (s : State) → StandsFor t s → IsSound s → CountsPayments name count t
      → KnowsAll known t → Step s (Pay name number payment)
      answer s
  pay_decided known answer is t s stands sound counted knows = decided _ s answer _
      (checks_are known t s stands counted knows ∙ is)

  -- all checks pass
  pub pay_done : (known : KnownForPay) → checks known ≡ None
      → (t : Tables) (s : State) → StandsFor t s → IsSound s → CountsPayments name count t
      → KnowsAll known t
      → (next : State) × Step s (Pay name number payment)
      (Ok Done) next × StandsFor (with_payment name number payment t) next
  pay_done known is t s stands sound counted knows = (
    Next s,
    passed _ s (Ok Done) (Next s) _ (checks_are known t s stands counted knows ∙ is)
        (refl, refl),
    next_stands t s stands,
  )

-- ---- a payment is voided

module _ (name : List ℕ) (number : ℕ) where
  rows_voided : (xs : List (Entry (Voidable Payment)))
      → map (changed (is_payment name (pos number)) voided_payment) (map payment_entry xs)
      ≡ map payment_entry (with_voided xs name number)
  rows_voided = voiding.rows_voided payment_entry voided_payment
      (is_payment name (pos number)) name number
      (λ e. ap (λ b. bytes_eq e.name name && b) (year_cell e.key number)) (λ e. refl)

  void_checks_are : (known : Option Account × Option (Voidable Payment)) (t : Tables) (s : State)
      → StandsFor t s → ReadsPayment name number known t
      → first_of (void_payment_checks name number (entries_of s name).account
      (kept_at number (entries_of s name).payments)) ≡ first_of
      (void_payment_checks name number known.0 known.1)
  void_checks_are known t s stands knows =
      rw (knows.0 s stands, kept_payment name t s stands number known.1 knows.1) refl

  abbrev Voided : State → State
  Voided s = record s { payments = with_voided s.payments name number }

  voided_stands : (t : Tables) (s : State) → StandsFor t s
      → StandsFor (with_void_payment name number t) (Voided s)
  voided_stands t s stands =
      paid_stands t s _ (with_voided s.payments name number)
      (ap (map (changed (is_payment name (pos number)) voided_payment)) stands.entries.paid.payments
      ∙ rows_voided s.payments) stands

  -- a check decides
  pub void_decided : (known : Option Account × Option (Voidable Payment)) (answer : Answer)
      → first_of (void_payment_checks name number known.0 known.1) ≡ Some answer
      → (t : Tables) (s : State) → StandsFor t s → IsSound s → ReadsPayment name number known t
      → Step s (VoidPay name number) answer s
  void_decided known answer is t s stands sound knows = decided _ s answer _
      (void_checks_are known t s stands knows ∙ is)

  -- all checks pass
  pub void_done : (known : Option Account × Option (Voidable Payment))
      → first_of (void_payment_checks name number known.0 known.1) ≡ None
      → (t : Tables) (s : State) → StandsFor t s → IsSound s → ReadsPayment name number known t
      → (next : State) × Step s (VoidPay name number) (Ok Done) next
      × StandsFor (with_void_payment name number t) next
  void_done known is t s stands sound knows = (
    Voided s,
    passed _ s (Ok Done) (Voided s) _ (void_checks_are known t s stands knows ∙ is)
        (refl, refl),
    voided_stands t s stands,
  )
