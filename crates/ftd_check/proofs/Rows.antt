-- The rows of entries, as rows of which some count those before them.
use Rattle.std.proofs.Common.{◌≡◌, ◌+◌, ℕ, pos, ap, Bool, List, map, filter}
use Rattle.std.proofs.Common.{length}
use Rattle.std.specs.Prelude.{bytes_eq}
use Rattle.ftd_days.specs.declared.cents.Cents.{Cents}
use Rattle.ftd_days.specs.Calendar.{quarter_year, quarter_number}
use Rattle.ftd_rules.specs.declared.run.PayRun.{PayRun}
use Rattle.ftd_rules.specs.declared.run.Voidable.{Voidable}
use Rattle.ftd_rules.specs.declared.payment.Payment.{Payment}
use Rattle.ftd_sql.specs.Rows.{ReportedQuarterRow, ReportedYearRow, RunRow, PaymentRow}
use Rattle.ftd_sql.specs.Rows.{CorrectedQuarterRow, CorrectedYearRow, CorrectedAccountRow}
use Rattle.ftd_machine.specs.State.{Entry, Move, beginning_of, all_at, is_of, is_move_of}
use Rattle.ftd_machine.proofs.SameMembers.{same_entry}
use Rattle.ftd_store.specs.Rows.{correction_row, year_correction_row, account_correction_row}
use Rattle.ftd_entries.specs.Standing.{quarter_entry, year_entry, run_entry, payment_entry}
use Rattle.ftd_entries.specs.Standing.{correction_entry, year_correction_entry}
use Rattle.ftd_entries.specs.Standing.{account_correction_entry}
use Rattle.ftd_entries.proofs.Found.{day_is, flag_is}
use Rattle.ftd_entries.proofs.Kept.{same_nat, quarter_is, cents_is, run_is, payment_is}
use Rattle.ftd_check.proofs.Singles.{filter_twice}

abbrev pub entry_name : {X : Type 0} → Entry X → List ℕ
entry_name e = e.name

abbrev pub move_name : Move → List ℕ
move_name m = m.name

-- ---- rows that rest on their entry alone

abbrev pub quarter_row : List (Entry Cents) × Entry Cents → ReportedQuarterRow
quarter_row p = quarter_entry p.1

abbrev pub year_total_row : List (Entry Cents) × Entry Cents → ReportedYearRow
year_total_row p = year_entry p.1

abbrev pub kept_run_row : List (Entry (Voidable PayRun)) × Entry (Voidable PayRun) → RunRow
kept_run_row p = run_entry p.1

abbrev pub kept_payment_row : List (Entry (Voidable Payment)) × Entry (Voidable Payment)
    → PaymentRow
kept_payment_row p = payment_entry p.1

-- ---- an entry by its row

quarter_of : (a b : ℕ) → pos (quarter_year a) ≡ pos (quarter_year b)
    → pos (quarter_number a) ≡ pos (quarter_number b) → a ≡ b
quarter_of a b years numbers =
    quarter_is a b (same_nat (quarter_year a) (quarter_year b) years)
    (same_nat (quarter_number a) (quarter_number b) numbers)

pub one_quarter : (before earlier : List (Entry Cents)) (e d : Entry Cents)
    → quarter_row (before, e) ≡ quarter_row (earlier, d) → e ≡ d
one_quarter before earlier e d is =
    same_entry e d (ap (λ (r : ReportedQuarterRow). r.account) is)
    (quarter_of e.key d.key (ap (λ (r : ReportedQuarterRow). r.year) is)
    (ap (λ (r : ReportedQuarterRow). r.quarter) is))
    (cents_is e.content d.content (ap (λ (r : ReportedQuarterRow). r.cents) is))

pub one_year_total : (before earlier : List (Entry Cents)) (e d : Entry Cents)
    → year_total_row (before, e) ≡ year_total_row (earlier, d) → e ≡ d
one_year_total before earlier e d is =
    same_entry e d (ap (λ (r : ReportedYearRow). r.account) is)
    (same_nat e.key d.key (ap (λ (r : ReportedYearRow). r.year) is))
    (cents_is e.content d.content (ap (λ (r : ReportedYearRow). r.cents) is))

pub one_run : (before earlier : List (Entry (Voidable PayRun))) (e d : Entry (Voidable PayRun))
    → kept_run_row (before, e) ≡ kept_run_row (earlier, d) → e ≡ d
one_run before earlier e d is =
    same_entry e d (ap (λ (r : RunRow). r.account) is)
    (same_nat e.key d.key (ap (λ (r : RunRow). r.number) is))
    (run_is d.name d.key e d.content is)

pub one_payment : (before earlier : List (Entry (Voidable Payment)))
    (e d : Entry (Voidable Payment)) → kept_payment_row (before, e) ≡ kept_payment_row (earlier, d)
    → e ≡ d
one_payment before earlier e d is =
    same_entry e d (ap (λ (r : PaymentRow). r.account) is)
    (same_nat e.key d.key (ap (λ (r : PaymentRow). r.number) is))
    (payment_is d.name d.key e d.content is)

pub one_correction : (before earlier : List (Entry Cents)) (e d : Entry Cents)
    → correction_entry (before, e) ≡ correction_entry (earlier, d) → e ≡ d
one_correction before earlier e d is =
    same_entry e d (ap (λ (r : CorrectedQuarterRow). r.account) is)
    (quarter_of e.key d.key (ap (λ (r : CorrectedQuarterRow). r.year) is)
    (ap (λ (r : CorrectedQuarterRow). r.quarter) is))
    (cents_is e.content d.content (ap (λ (r : CorrectedQuarterRow). r.cents) is))

pub one_year_correction : (before earlier : List (Entry Cents)) (e d : Entry Cents)
    → year_correction_entry (before, e) ≡ year_correction_entry (earlier, d) → e ≡ d
one_year_correction before earlier e d is =
    same_entry e d (ap (λ (r : CorrectedYearRow). r.account) is)
    (same_nat e.key d.key (ap (λ (r : CorrectedYearRow). r.year) is))
    (cents_is e.content d.content (ap (λ (r : CorrectedYearRow). r.cents) is))

same_move : (m n : Move) → m.name ≡ n.name → m.beginning.start ≡ n.beginning.start
    → m.beginning.carried ≡ n.beginning.carried → m ≡ n
same_move m n name start carried =
    λ i. record { name = name i; beginning = record { start = start i; carried = carried i } }

pub one_move : (before earlier : List Move) (m n : Move)
    → account_correction_entry (before, m) ≡ account_correction_entry (earlier, n) → m ≡ n
one_move before earlier m n is =
    same_move m n (ap (λ (r : CorrectedAccountRow). r.account) is)
    (day_is m.beginning.start n.beginning.start (ap (λ (r : CorrectedAccountRow). r.start) is))
    (flag_is m.beginning.carried n.beginning.carried
    (ap (λ (r : CorrectedAccountRow). r.carried) is))

-- ---- a row counts those before it of its own account

again : {X : Type 0} (p : X → Bool) (xs : List X) → filter p (filter p xs) ≡ filter p xs
again p xs = filter_twice p p (λ x is. is) xs

pub alone_correction : (before : List (Entry Cents)) (e : Entry Cents)
    → correction_entry (filter (λ d. bytes_eq d.name e.name) before, e)
    ≡ correction_entry (before, e)
alone_correction before e =
    let f : List (Entry Cents) → CorrectedQuarterRow = λ ds. correction_row e.name e.key (record {
      number = length (all_at e.key ds) + 1;
      cents = e.content;
    }) in
    ap f (again (is_of e.name) before)

pub alone_year_correction : (before : List (Entry Cents)) (e : Entry Cents)
    → year_correction_entry (filter (λ d. bytes_eq d.name e.name) before, e)
    ≡ year_correction_entry (before, e)
alone_year_correction before e =
    let f : List (Entry Cents) → CorrectedYearRow = λ ds. year_correction_row e.name e.key
    (record { number = length (all_at e.key ds) + 1; cents = e.content }) in
    ap f (again (is_of e.name) before)

pub alone_move : (before : List Move) (m : Move)
    → account_correction_entry (filter (λ n. bytes_eq n.name m.name) before, m)
    ≡ account_correction_entry (before, m)
alone_move before m =
    let f : List Move → CorrectedAccountRow = λ ms. account_correction_row m.name (record {
      number = length (map beginning_of ms) + 1;
      account = record { start = m.beginning.start; carried = m.beginning.carried };
    }) in
    ap f (again (is_move_of m.name) before)
