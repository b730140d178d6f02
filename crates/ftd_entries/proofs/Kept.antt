-- What the rows of a table of entries tell of the entries of an account.
use Rattle.std.proofs.Common.{◌≡◌, refl, sym, ap, ◌∙◌, ℕ, suc, ◌==◌, ◌&&◌, pos, Bool, true, false}
use Rattle.std.proofs.Common.{if◌then◌else◌, List, [], ◌∷◌, map, length, Option, None, Some, arith}
use Rattle.std.specs.Prelude.{filter, find, bytes_eq, option_map}
use Rattle.std.specs.Ordering.{int_eq}
use Rattle.std.proofs.lemmas.Bool.Decides.{Decides-eqb, Decides-like, Decides-and}
use Rattle.std.proofs.lemmas.Bool.Decides.{same_from_decides}
use Rattle.ftd_days.specs.Calendar.{quarter_year, quarter_number}
use Rattle.ftd_days.specs.declared.cents.Cents.{Cents}
use Rattle.ftd_rules.specs.declared.payment.Payment.{Payment}
use Rattle.ftd_rules.specs.declared.run.PayRun.{PayRun}
use Rattle.ftd_rules.specs.declared.run.Voidable.{Voidable}
use Rattle.ftd_sql.specs.Rows.{ReportedQuarterRow, ReportedYearRow, RunRow, PaymentRow}
use Rattle.ftd_sql.specs.Standing.{Tables}
use Rattle.ftd_sql.specs.Tests.{is_reported, is_reported_year, is_run, is_run_of, is_payment}
use Rattle.ftd_sql.specs.Tests.{is_payment_of}
use Rattle.ftd_store.specs.Rows.{reported_row, reported_year_row, run_row, payment_row}
use Rattle.ftd_store.specs.Reading.{rows_of}
use Rattle.ftd_store.specs.Finds.{FindsReported, FindsReportedYear, FindsRun, FindsPayment}
use Rattle.ftd_store.specs.Finds.{CountsRuns, CountsPayments}
use Rattle.ftd_machine.specs.State.{State, Entry, entries_of, is_of, has_key, content_of, kept_at}
use Rattle.ftd_machine.specs.Step.{is_under}
use Rattle.ftd_entries.specs.Standing.{StandsFor, KeepsFigures, quarter_entry, year_entry}
use Rattle.ftd_entries.specs.Standing.{run_entry, payment_entry}
use Rattle.ftd_entries.proofs.Found.{day_is, flag_is}
use Rattle.ftd_entries.proofs.CalendarRows.{year_cell}

-- ---- any table of entries

module _ {X R : Type 0} (row : Entry X → R) (test : R → Bool) where
  -- the row that passes a test on an account and a key is that of what the account's entries keep
  -- there
  pub kept_is : (name : List ℕ) (key : ℕ) (of : X → R)
      → ((e : Entry X) → test (row e) ≡ is_under name key e)
      → ((e : Entry X) (x : X) → row e ≡ of x → e.content ≡ x)
      → (found : Option X) (xs : List (Entry X)) → filter test (map row xs) ≡ rows_of of found
      → kept_at key (filter (is_of name) xs) ≡ found
  kept_is name key of tests content None [] h = refl
  kept_is name key of tests content (Some x) [] h = absurd cc
  kept_is name key of tests content found (e ∷ xs) h = by_name (bytes_eq e.name name) found
      (kept_is name key of tests content found xs) (rw (tests e) at h)
    where
      by_key : (has : Bool) (found : Option X) → (filter test (map row xs) ≡ rows_of of found
          → kept_at key (filter (is_of name) xs) ≡ found)
          → (if has then row e ∷ filter test (map row xs) else filter test (map row xs))
          ≡ rows_of of found
          → option_map content_of (if has then Some e else find (has_key key)
          (filter (is_of name) xs)) ≡ found
      by_key true None more h = absurd cc
      by_key true (Some x) more h = let is : row e ≡ of x = cc in ap Some (content e x is)
      by_key false found more h = more h

      by_name : (mine : Bool) (found : Option X) → (filter test (map row xs) ≡ rows_of of found
          → kept_at key (filter (is_of name) xs) ≡ found)
          → (if mine && (e.key == key) then row e ∷ filter test (map row xs) else filter test
          (map row xs)) ≡ rows_of of found
          → kept_at key (if mine then e ∷ filter (is_of name) xs else filter (is_of name) xs)
          ≡ found
      by_name true found more h = by_key (e.key == key) found more h
      by_name false found more h = more h

  -- there are as many rows of an account as entries
  pub count_is : (name : List ℕ) → ((e : Entry X) → test (row e) ≡ is_of name e)
      → (xs : List (Entry X)) → length (filter test (map row xs)) ≡ length (filter (is_of name) xs)
  count_is name tests [] = refl
  count_is name tests (e ∷ xs) = rw (tests e) (step (is_of name e) (count_is name tests xs))
    where
      step : (mine : Bool) → length (filter test (map row xs)) ≡ length (filter (is_of name) xs)
          → length (if mine then row e ∷ filter test (map row xs) else filter test (map row xs))
          ≡ length (if mine then e ∷ filter (is_of name) xs else filter (is_of name) xs)
      step true same = ap suc same
      step false same = same

-- ---- equal keys

pub same_nat : (a b : ℕ) → pos a ≡ pos b → a ≡ b
same_nat a b is = cc

pub quarter_is : (a b : ℕ) → quarter_year a ≡ quarter_year b → quarter_number a ≡ quarter_number b
    → a ≡ b
quarter_is a b year number = omega arith

pub same_quarter : (a b : ℕ) → (int_eq (pos (quarter_year a)) (pos (quarter_year b)) && int_eq
    (pos (quarter_number a)) (pos (quarter_number b))) ≡ (a == b)
same_quarter a b =
    let years = Decides-eqb (quarter_year a) (quarter_year b) in
    let numbers = Decides-eqb (quarter_number a) (quarter_number b) in
    let both = Decides-and (quarter_year a == quarter_year b) (quarter_number a == quarter_number b)
    years numbers in
    rw (
      year_cell (quarter_year a) (quarter_year b),
      year_cell (quarter_number a)
          (quarter_number b),
    )
    (same_from_decides _ (a == b) (Decides-like _ (λ is. quarter_is a b is.0 is.1)
    (λ is. (ap quarter_year is, ap quarter_number is)) both) (Decides-eqb a b))

-- ---- equal contents

pub cents_is : (a b : Cents) → pos a.0 ≡ pos b.0 → a ≡ b
cents_is a b is =
    let make : ℕ → Cents = λ n. record { 0 = n } in
    ap make (same_nat a.0 b.0 is)

payment_as : (v : Voidable Payment) (paid for_day : ℕ) (cents : Cents) (voided : Bool)
    → v.value.paid ≡ paid → v.value.for_day ≡ for_day → v.value.cents ≡ cents → v.voided ≡ voided
    → v ≡ record {
      value = record { paid = paid; for_day = for_day; cents = cents };
      voided = voided;
    }
payment_as v paid for_day cents voided a b c d = rw (sym a, sym b, sym c, sym d) refl

pub payment_is : (name : List ℕ) (number : ℕ) (e : Entry (Voidable Payment)) (x : Voidable Payment)
    → payment_entry e ≡ payment_row name (pos number) x.value x.voided → e.content ≡ x
payment_is name number e x is =
    payment_as e.content x.value.paid x.value.for_day x.value.cents x.voided
    (day_is e.content.value.paid x.value.paid (ap (λ (r : PaymentRow). r.paid) is))
    (day_is e.content.value.for_day x.value.for_day (ap (λ (r : PaymentRow). r.for_day) is))
    (cents_is e.content.value.cents x.value.cents (ap (λ (r : PaymentRow). r.cents) is))
    (flag_is e.content.voided x.voided (ap (λ (r : PaymentRow). r.voided) is))

run_as : (v : Voidable PayRun) (payday : ℕ) (fit ss medicare : Cents) (voided : Bool)
    → v.value.payday ≡ payday → v.value.fit ≡ fit → v.value.ss ≡ ss → v.value.medicare ≡ medicare
    → v.voided ≡ voided
    → v ≡ record {
      value = record { payday = payday; fit = fit; ss = ss; medicare = medicare };
      voided = voided;
    }
run_as v payday fit ss medicare voided a b c d e = rw (sym a, sym b, sym c, sym d, sym e) refl

pub run_is : (name : List ℕ) (number : ℕ) (e : Entry (Voidable PayRun)) (x : Voidable PayRun)
    → run_entry e ≡ run_row name (pos number) x.value x.voided → e.content ≡ x
run_is name number e x is =
    run_as e.content x.value.payday x.value.fit x.value.ss x.value.medicare x.voided
    (day_is e.content.value.payday x.value.payday (ap (λ (r : RunRow). r.payday) is))
    (cents_is e.content.value.fit x.value.fit (ap (λ (r : RunRow). r.fit) is))
    (cents_is e.content.value.ss x.value.ss (ap (λ (r : RunRow). r.ss) is))
    (cents_is e.content.value.medicare x.value.medicare (ap (λ (r : RunRow). r.medicare) is))
    (flag_is e.content.voided x.voided (ap (λ (r : RunRow). r.voided) is))

-- ---- what is found, and counted

module _ (name : List ℕ) (t : Tables) (s : State) (keeps : KeepsFigures t s) where
  pub first_kept : (quarter : ℕ) (found : Option Cents) → FindsReported name quarter found t
      → kept_at quarter (entries_of s name).reported ≡ found
  first_kept quarter found finds =
      let test : ReportedQuarterRow → Bool = is_reported name (pos (quarter_year quarter))
      (pos (quarter_number quarter)) in
      kept_is quarter_entry test name quarter (reported_row name quarter)
      (λ e. ap (λ b. bytes_eq e.name name && b) (same_quarter e.key quarter))
      (λ e x is. cents_is e.content x (ap (λ (r : ReportedQuarterRow). r.cents) is)) found
      s.reported (ap (filter test) (sym keeps.reported) ∙ finds)

  pub first_year_kept : (year : ℕ) (found : Option Cents) → FindsReportedYear name year found t
      → kept_at year (entries_of s name).reported_years ≡ found
  first_year_kept year found finds =
      let test : ReportedYearRow → Bool = is_reported_year name (pos year) in
      kept_is year_entry test name year (reported_year_row name year)
      (λ e. ap (λ b. bytes_eq e.name name && b) (year_cell e.key year))
      (λ e x is. cents_is e.content x (ap (λ (r : ReportedYearRow). r.cents) is)) found
      s.reported_years (ap (filter test) (sym keeps.reported_years) ∙ finds)

module _ (name : List ℕ) (t : Tables) (s : State) (stands : StandsFor t s) where
  pub kept_reported : (quarter : ℕ) (found : Option Cents) → FindsReported name quarter found t
      → kept_at quarter (entries_of s name).reported ≡ found
  kept_reported = first_kept name t s stands.entries.figures

  pub kept_reported_year : (year : ℕ) (found : Option Cents) → FindsReportedYear name year found t
      → kept_at year (entries_of s name).reported_years ≡ found
  kept_reported_year = first_year_kept name t s stands.entries.figures

  pub kept_run : (number : ℕ) (found : Option (Voidable PayRun)) → FindsRun name number found t
      → kept_at number (entries_of s name).runs ≡ found
  kept_run number found finds =
      let test : RunRow → Bool = is_run name (pos number) in
      kept_is run_entry test name number (λ r. run_row name (pos number) r.value r.voided)
      (λ e. ap (λ b. bytes_eq e.name name && b) (year_cell e.key number))
      (run_is name number) found s.runs (ap (filter test) (sym stands.entries.paid.runs) ∙ finds)

  pub kept_payment : (number : ℕ) (found : Option (Voidable Payment))
      → FindsPayment name number found t → kept_at number (entries_of s name).payments ≡ found
  kept_payment number found finds =
      let test : PaymentRow → Bool = is_payment name (pos number) in
      kept_is payment_entry test name number (λ p. payment_row name (pos number) p.value p.voided)
      (λ e. ap (λ b. bytes_eq e.name name && b) (year_cell e.key number))
      (payment_is name number) found s.payments (ap (filter test)
      (sym stands.entries.paid.payments) ∙ finds)

  pub counted_runs : (count : ℕ) → CountsRuns name count t → length (entries_of s name).runs ≡ count
  counted_runs count counts =
      sym (count_is run_entry (is_run_of name) name (λ e. refl) s.runs)
      ∙ ap (λ (rows : List RunRow). length (filter (is_run_of name) rows))
      (sym stands.entries.paid.runs)
      ∙ sym counts

  pub counted_payments : (count : ℕ) → CountsPayments name count t
      → length (entries_of s name).payments ≡ count
  counted_payments count counts =
      sym (count_is payment_entry (is_payment_of name) name (λ e. refl) s.payments)
      ∙ ap (λ (rows : List PaymentRow). length (filter (is_payment_of name) rows))
      (sym stands.entries.paid.payments) ∙ sym counts
