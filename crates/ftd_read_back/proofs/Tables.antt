-- The lists that are told as CSV are read back.
use Rattle.std.proofs.Common.{◌≡◌, ◌∙◌, refl, ap, ℕ, ◌^◌, ◌<◌, true, List, []}
use Rattle.std.proofs.Common.{◌∷◌, map, filter, not, arith}
use Rattle.std.specs.Fmt.{decimal}
use Rattle.csv.specs.Reading.{strip_bom}
use Rattle.ftd_days.specs.Text.{day_text, cents_text}
use Rattle.ftd_rules.specs.Accounts.{is_account_name}
use Rattle.ftd_rules.specs.Text.{rule_text}
use Rattle.ftd_rules.specs.Verdicts.{verdict_text}
use Rattle.ftd_rules.specs.declared.verdict.DueRow.{DueRow}
use Rattle.ftd_machine.specs.Agenda.{left_of}
use Rattle.ftd_machine.specs.declared.kept.KeptPayment.{KeptPayment}
use Rattle.ftd_machine.specs.declared.kept.KeptRows.TheVariants as rows
use Rattle.ftd_machine.specs.declared.lists.AgendaRow.{AgendaRow}
use Rattle.ftd_answers.specs.Agendas.{form_number}
use Rattle.ftd_answers.specs.Dues.{agenda_csv, agenda_fields, due_csv, due_fields}
use Rattle.ftd_answers.specs.Fields.{cells, columns, none_void}
use Rattle.ftd_answers.specs.KeptForms.{payment_fields, rows_csv}
use Rattle.ftd_read_back.specs.Cells.{table_read}
use Rattle.ftd_read_back.specs.Rows.{IsDueRowInRange, AreDueRowsInRange, IsAgendaRowInRange}
use Rattle.ftd_read_back.specs.Rows.{AreAgendaRowsInRange, IsPaymentInRange, ArePaymentsInRange}
use Rattle.ftd_read_back.specs.Tables.{agenda_cells, agenda_read, due_cells, due_read}
use Rattle.ftd_read_back.specs.Tables.{payment_cells, payment_read}
use Rattle.ftd_read_back.proofs.Spelled.{cents_reread, day_reread, form_reread, number_reread}
use Rattle.ftd_read_back.proofs.Spelled.{rule_reread, verdict_reread}
use Rattle.ftd_read_back.proofs.Values.{unquoted, plain_cents, plain_day_text, plain_form}
use Rattle.ftd_read_back.proofs.Values.{plain_name, plain_number, plain_rule, plain_verdict}
use Rattle.ftd_read_back.proofs.Written.{IsRead, IsUnquoted, list_read, unquoted_row}

-- ---- each text calls for no quotes

pub day : (n : ℕ) → IsUnquoted (day_text n)
day n = unquoted (day_text n) (plain_day_text n)

pub cents : (n : ℕ) → IsUnquoted (cents_text n)
cents n = unquoted (cents_text n) (plain_cents n)

pub none_left_out : {X : Type 0} (xs : List X) → filter (λ x. not (none_void x)) xs ≡ xs
none_left_out [] = refl
none_left_out (x ∷ xs) = ap (λ zs. x ∷ zs) (none_left_out xs)

-- ---- what is due over all accounts

pub left_small : (row : DueRow) → IsDueRowInRange row → left_of row < 2 ^ 64
left_small row is = let most = is.amount in omega arith

agenda_row : (x : AgendaRow) → IsAgendaRowInRange x
    → IsRead none_void agenda_fields agenda_read agenda_cells x
agenda_row x is =
    let left = left_small x.row is.row in (
      unquoted_row (cells agenda_fields x) (
        day x.row.obligation.due,
        (
          unquoted x.account (plain_name x.account is.name),
          (
            unquoted (form_number x.form) (plain_form x.form),
            (
              day x.row.obligation.first,
              (
                day x.row.obligation.last,
                (
                  unquoted (rule_text x.row.obligation.rule) (plain_rule x.row.obligation.rule),
                  (
                    cents x.row.obligation.cents.0,
                    (
                      cents x.row.paid.0,
                      (
                        cents (left_of x.row),
                        (
                          day x.pay_by,
                          (
                            unquoted (verdict_text x.row.verdict) (plain_verdict x.row.verdict),
                            tt,
                          ),
                        ),
                      ),
                    ),
                  ),
                ),
              ),
            ),
          ),
        ),
      ) (omega arith),
      rw (
        day_reread x.row.obligation.due is.row.due,
        form_reread x.form,
        day_reread x.row.obligation.first is.row.first,
        day_reread x.row.obligation.last is.row.last,
        rule_reread x.row.obligation.rule,
        cents_reread x.row.obligation.cents.0 is.row.amount,
        cents_reread x.row.paid.0 is.row.paid,
        cents_reread (left_of x.row) left,
        day_reread x.pay_by is.pay_by,
        verdict_reread x.row.verdict,
      ) refl,
    )

pub agenda_table : (listed : List AgendaRow) → AreAgendaRowsInRange listed
    → table_read agenda_read (agenda_csv listed) ≡ map agenda_cells listed
unfolding agenda_csv strip_bom
agenda_table listed are =
    list_read none_void agenda_fields agenda_read agenda_cells listed
    (unquoted_row (columns agenda_fields)
    (refl, (refl, (refl, (refl, (refl, (refl, (refl, (refl, (refl, (refl, (refl, tt)))))))))))
    (omega arith))
    refl (λ x has. agenda_row x (are x has))
    ∙ ap (λ (xs : List AgendaRow). map agenda_cells xs) (none_left_out listed)

-- ---- an account's due list

due_row : (account : List ℕ) (row : DueRow) → is_account_name account ≡ true → IsDueRowInRange row
    → IsRead none_void (due_fields account) due_read (due_cells account) row
due_row account row name is =
    let left = left_small row is in (
      unquoted_row (cells (due_fields account) row) (
        day row.obligation.due,
        (
          unquoted account (plain_name account name),
          (
            day row.obligation.first,
            (
              day row.obligation.last,
              (
                unquoted (rule_text row.obligation.rule) (plain_rule row.obligation.rule),
                (
                  cents row.obligation.cents.0,
                  (
                    cents row.paid.0,
                    (
                      cents (left_of row),
                      (
                        day row.makeup,
                        (unquoted (verdict_text row.verdict) (plain_verdict row.verdict), tt),
                      ),
                    ),
                  ),
                ),
              ),
            ),
          ),
        ),
      ) (omega arith),
      rw (
        day_reread row.obligation.due is.due,
        day_reread row.obligation.first is.first,
        day_reread row.obligation.last is.last,
        rule_reread row.obligation.rule,
        cents_reread row.obligation.cents.0 is.amount,
        cents_reread row.paid.0 is.paid,
        cents_reread (left_of row) left,
        day_reread row.makeup is.makeup,
        verdict_reread row.verdict,
      ) refl,
    )

pub due_table : (account : List ℕ) (listed : List DueRow) → is_account_name account ≡ true
    → AreDueRowsInRange listed
    → table_read due_read (due_csv account listed) ≡ map (due_cells account) listed
unfolding due_csv strip_bom
due_table account listed name are =
    list_read none_void (due_fields account) due_read (due_cells account) listed
    (unquoted_row (columns (due_fields account))
    (refl, (refl, (refl, (refl, (refl, (refl, (refl, (refl, (refl, (refl, tt))))))))))
    (omega arith))
    refl (λ row has. due_row account row name (are row has))
    ∙ ap (λ (xs : List DueRow). map (due_cells account) xs) (none_left_out listed)

-- ---- the payments of an account

payment_row : (account : List ℕ) (x : KeptPayment) → is_account_name account ≡ true
    → IsPaymentInRange x
    → IsRead (λ y. y.voided) (payment_fields account) payment_read (payment_cells account) x
payment_row account x name is = (
  unquoted_row (cells (payment_fields account) x) (
    unquoted account (plain_name account name),
    (
      unquoted (decimal x.number) (plain_number x.number),
      (
        day x.payment.paid,
        (day x.payment.for_day, (cents x.payment.cents.0, tt)),
      ),
    ),
  ) (omega arith),
  rw (
    number_reread x.number is.number,
    day_reread x.payment.paid is.paid,
    day_reread x.payment.for_day is.for_day,
    cents_reread x.payment.cents.0 is.amount,
  ) refl,
)

pub payment_table : (account : List ℕ) (quarter : ℕ) (listed : List KeptPayment)
    → is_account_name account ≡ true → ArePaymentsInRange listed
    → table_read payment_read (rows_csv (rows.Payments account quarter listed))
    ≡ map (payment_cells account) (filter (λ x. not x.voided) listed)
unfolding rows_csv strip_bom
payment_table account quarter listed name are =
    list_read (λ (y : KeptPayment). y.voided) (payment_fields account) payment_read
    (payment_cells account) listed
    (unquoted_row (columns (payment_fields account)) (refl, (refl, (refl, (refl, (refl, tt)))))
    (omega arith))
    refl (λ x has. payment_row account x name (are x has))
