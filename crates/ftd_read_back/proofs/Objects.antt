-- Lists that are told as JSON are read back: what is due, and payments.
use Rattle.std.proofs.Common.{◌≡◌, ◌∙◌, refl, ap, ℕ, ◌^◌, ◌<◌, List, true, [], ◌∷◌, map, Some}
use Rattle.std.proofs.Common.{arith}
use Rattle.std.specs.Prelude.{codes}
use Rattle.std.specs.List.{sum_by}
use Rattle.json.specs.Print.{escape_byte}
use Rattle.json.proofs.Printed.Decimals.{IsNumber-decimal}
use Rattle.serde_json.proofs.Numbers.{number_of-decimal}
use Rattle.serde_json.specs.Data.{Data, array, object, Items, boolean, number, unsigned}
use Rattle.serde_json.specs.Read.{read}
use Rattle.ftd_days.specs.Text.{day_text, cents_text}
use Rattle.ftd_rules.specs.Accounts.{is_account_name}
use Rattle.ftd_rules.specs.Text.{rule_text}
use Rattle.ftd_rules.specs.Verdicts.{amount_of, verdict_text}
use Rattle.ftd_rules.specs.declared.verdict.DueRow.{DueRow}
use Rattle.ftd_machine.specs.Agenda.{left_of}
use Rattle.ftd_machine.specs.declared.kept.KeptPayment.{KeptPayment}
use Rattle.ftd_machine.specs.declared.kept.KeptRows.TheVariants as rows
use Rattle.ftd_machine.specs.declared.lists.AgendaRow.{AgendaRow}
use Rattle.ftd_answers.specs.Agendas.{form_number, left_cents}
use Rattle.ftd_answers.specs.Dues.{agenda_fields, agenda_json, due_fields, due_json, sum_member}
use Rattle.ftd_answers.specs.Fields.{members_of, told_by}
use Rattle.ftd_answers.specs.KeptForms.{payment_fields, rows_json}
use Rattle.ftd_read_back.specs.Objects.{elements, agenda_object_read, due_object_read}
use Rattle.ftd_read_back.specs.Objects.{objects_read, payment_object, payment_object_read}
use Rattle.ftd_read_back.specs.Objects.{sum_read}
use Rattle.ftd_read_back.specs.Rows.{IsDueRowInRange, AreDueRowsInRange, IsAgendaRowInRange}
use Rattle.ftd_read_back.specs.Rows.{AreAgendaRowsInRange, IsPaymentInRange, ArePaymentsInRange}
use Rattle.ftd_read_back.specs.Tables.{agenda_cells, due_cells}
use Rattle.ftd_read_back.proofs.Listed.{AreNames, IsFlat, IsFound, IsObject, Pairs}
use Rattle.ftd_read_back.proofs.Listed.{list_is, member_text, members_from, objects, rows_of}
use Rattle.ftd_read_back.proofs.Listed.{sorted}
use Rattle.ftd_read_back.proofs.Listed.{sum_under, text_value, value_of}
use Rattle.ftd_read_back.proofs.Members.{cents_kept, day_as_read, day_flat, day_in, day_kept}
use Rattle.ftd_read_back.proofs.Members.{day_told, day_value, flag_text}
use Rattle.ftd_read_back.proofs.Spelled.{cents_reread, day_reread, form_reread, rule_reread}
use Rattle.ftd_read_back.proofs.Spelled.{verdict_reread}
use Rattle.ftd_read_back.proofs.Tables.{left_small}
use Rattle.ftd_read_back.proofs.Values.{unescaped, plain_form, plain_name, plain_rule}
use Rattle.ftd_read_back.proofs.Values.{plain_verdict}

-- ---- what is due over all accounts

abbrev agenda_pairs : AgendaRow → Pairs
agenda_pairs x =
    let o = x.row.obligation in
    text_value (codes "due") (day_text o.due) ∷ text_value (codes "account") x.account
    ∷ text_value (codes "form") (form_number x.form) ∷ text_value (codes "first") (day_text o.first)
    ∷ text_value (codes "last") (day_text o.last) ∷ text_value (codes "rule") (rule_text o.rule)
    ∷ text_value (codes "amount") (cents_text o.cents.0)
    ∷ text_value (codes "paid") (cents_text x.row.paid.0)
    ∷ text_value (codes "left") (cents_text (left_of x.row))
    ∷ text_value (codes "pay_by") (day_text x.pay_by)
    ∷ text_value (codes "verdict") (verdict_text x.row.verdict) ∷ []

agenda_names : (x : AgendaRow) → AreNames (agenda_pairs x)
unfolding escape_byte
agenda_names x =
    (refl, (refl, (refl, (refl, (refl, (refl, (refl, (refl, (refl, (refl, (refl, tt)))))))))))

agenda_members : (x : AgendaRow) → IsAgendaRowInRange x
    → map member_text (agenda_pairs x) ≡ members_of (told_by agenda_fields x)
agenda_members x is = rw (
  day_kept x.row.obligation.due,
  unescaped x.account (plain_name x.account is.name),
  unescaped (form_number x.form) (plain_form x.form),
  day_kept x.row.obligation.first,
  day_kept x.row.obligation.last,
  unescaped (rule_text x.row.obligation.rule) (plain_rule x.row.obligation.rule),
  cents_kept x.row.obligation.cents.0,
  cents_kept x.row.paid.0,
  cents_kept (left_of x.row),
  day_kept x.pay_by,
  unescaped (verdict_text x.row.verdict) (plain_verdict x.row.verdict),
) refl

agenda_found : (x : AgendaRow) → IsAgendaRowInRange x
    → IsFound (value_of agenda_fields agenda_pairs agenda_object_read agenda_cells)
    agenda_object_read agenda_cells x
agenda_found x is =
    let left = left_small x.row is.row in (
      sorted (object (members_from (agenda_pairs x))),
      refl,
      rw (
        day_reread x.row.obligation.due is.row.due,
        form_reread x.form,
        day_reread x.row.obligation.first is.row.first,
        day_reread x.row.obligation.last is.row.last,
        rule_reread x.row.obligation.rule,
        cents_reread x.row.obligation.cents.0 is.row.amount,
        cents_reread x.row.paid.0 is.row.paid,
        cents_reread (left_of x.row) left,
        day_reread x.pay_by is.pay_by,
        verdict_reread x.row.verdict,
      ) refl,
    )

agenda_flat : (x : AgendaRow)
    → IsFlat (value_of agenda_fields agenda_pairs agenda_object_read agenda_cells) x
agenda_flat x =
    (omega arith, (tt, (tt, (tt, (tt, (tt, (tt, (tt, (tt, (tt, (tt, (tt, tt))))))))))))

agenda_row : (x : AgendaRow) → IsAgendaRowInRange x
    → IsObject agenda_fields agenda_pairs agenda_object_read agenda_cells x
agenda_row x is = (agenda_members x is, agenda_names x, agenda_flat x, agenda_found x is)

-- what is left stands behind the rows
abbrev agenda_sums : List AgendaRow → Pairs
agenda_sums listed =
    text_value (codes "left") (cents_text (sum_by left_cents listed)) ∷ []

abbrev agenda_as : List AgendaRow → Items → Data
agenda_as listed items =
    object (members_from (text_value (codes "left") (cents_text (sum_by left_cents listed))
    ∷ (codes "rows", array items) ∷ []))

agenda_sum_names : (listed : List AgendaRow) → AreNames (agenda_sums listed)
unfolding escape_byte
agenda_sum_names listed = (refl, tt)

agenda_is : (listed : List AgendaRow) → AreAgendaRowsInRange listed
    → (items : Items) × (read (agenda_json listed) ≡ Some (agenda_as listed items))
    × (map agenda_object_read (elements items) ≡ map agenda_cells listed)
unfolding agenda_json
agenda_is listed are =
    let total : ℕ = sum_by left_cents listed in
    list_is agenda_fields agenda_pairs agenda_object_read agenda_cells (agenda_sums listed)
    (sum_member (codes "left") total ∷ []) (agenda_as listed) listed
    (λ x has. agenda_row x (are x has)) (
      rw (cents_kept total) refl,
      agenda_sum_names listed,
      omega arith,
      (tt, tt),
      λ inside items is. (rw is refl),
    )

pub agenda_objects : (listed : List AgendaRow) → AreAgendaRowsInRange listed
    → objects_read agenda_object_read (agenda_json listed) ≡ Some (map agenda_cells listed)
agenda_objects listed are =
    let own = agenda_is listed are in
    ap (rows_of agenda_object_read) own.1 ∙ ap Some own.2

pub agenda_left : (listed : List AgendaRow) → AreAgendaRowsInRange listed
    → sum_by left_cents listed < 2 ^ 64
    → sum_read (codes "left") (agenda_json listed) ≡ Some (sum_by left_cents listed)
agenda_left listed are small =
    ap (sum_under (codes "left")) (agenda_is listed are).1
    ∙ cents_reread (sum_by left_cents listed) small

-- ---- an account's due list

module _ (account : List ℕ) (name : is_account_name account ≡ true) where
  abbrev due_pairs : DueRow → Pairs
  due_pairs row =
      let o = row.obligation in
      text_value (codes "due") (day_text o.due) ∷ text_value (codes "account") account
      ∷ text_value (codes "first") (day_text o.first)
      ∷ text_value (codes "last") (day_text o.last) ∷ text_value (codes "rule") (rule_text o.rule)
      ∷ text_value (codes "amount") (cents_text o.cents.0)
      ∷ text_value (codes "paid") (cents_text row.paid.0)
      ∷ text_value (codes "left") (cents_text (left_of row))
      ∷ text_value (codes "makeup") (day_text row.makeup)
      ∷ text_value (codes "verdict") (verdict_text row.verdict) ∷ []

  due_names : (row : DueRow) → AreNames (due_pairs row)
  unfolding escape_byte
  due_names row =
      (refl, (refl, (refl, (refl, (refl, (refl, (refl, (refl, (refl, (refl, tt))))))))))

  due_members : (row : DueRow)
      → map member_text (due_pairs row) ≡ members_of (told_by (due_fields account) row)
  due_members row = rw (
    day_kept row.obligation.due,
    unescaped account (plain_name account name),
    day_kept row.obligation.first,
    day_kept row.obligation.last,
    unescaped (rule_text row.obligation.rule) (plain_rule row.obligation.rule),
    cents_kept row.obligation.cents.0,
    cents_kept row.paid.0,
    cents_kept (left_of row),
    day_kept row.makeup,
    unescaped (verdict_text row.verdict) (plain_verdict row.verdict),
  ) refl

  due_found : (row : DueRow) → IsDueRowInRange row
      → IsFound (value_of (due_fields account) due_pairs due_object_read (due_cells account))
      due_object_read (due_cells account) row
  due_found row is =
      let left = left_small row is in (
        sorted (object (members_from (due_pairs row))),
        refl,
        rw (
          day_reread row.obligation.due is.due,
          day_reread row.obligation.first is.first,
          day_reread row.obligation.last is.last,
          rule_reread row.obligation.rule,
          cents_reread row.obligation.cents.0 is.amount,
          cents_reread row.paid.0 is.paid,
          cents_reread (left_of row) left,
          day_reread row.makeup is.makeup,
          verdict_reread row.verdict,
        ) refl,
      )

  due_row : (row : DueRow) → IsDueRowInRange row
      → IsObject (due_fields account) due_pairs due_object_read (due_cells account) row
  due_row row is = (
    due_members row,
    due_names row,
    (omega arith, (tt, (tt, (tt, (tt, (tt, (tt, (tt, (tt, (tt, (tt, tt))))))))))),
    due_found row is,
  )

  -- the amounts, and what is left, stand behind the rows
  abbrev due_sums : List DueRow → Pairs
  due_sums listed =
      text_value (codes "amount") (cents_text (sum_by amount_of listed))
      ∷ text_value (codes "left") (cents_text (sum_by left_of listed)) ∷ []

  abbrev due_as : List DueRow → Items → Data
  due_as listed items =
      object (members_from (text_value (codes "amount") (cents_text (sum_by amount_of listed))
      ∷ text_value (codes "left") (cents_text (sum_by left_of listed))
      ∷ (codes "rows", array items) ∷ []))

  due_sum_names : (listed : List DueRow) → AreNames (due_sums listed)
  unfolding escape_byte
  due_sum_names listed = (refl, (refl, tt))

  due_is : (listed : List DueRow) → AreDueRowsInRange listed
      → (items : Items) × (read (due_json account listed) ≡ Some (due_as listed items))
      × (map due_object_read (elements items) ≡ map (due_cells account) listed)
  unfolding due_json
  due_is listed are =
      let amount : ℕ = sum_by amount_of listed in
      let left : ℕ = sum_by left_of listed in
      list_is (due_fields account) due_pairs due_object_read (due_cells account) (due_sums listed)
      (sum_member (codes "amount") amount ∷ sum_member (codes "left") left ∷ []) (due_as listed)
      listed (λ row has. due_row row (are row has)) (
        rw (cents_kept amount, cents_kept left) refl,
        due_sum_names listed,
        omega arith,
        (tt, (tt, tt)),
        λ inside items is. (rw is refl),
      )

  pub due_objects : (listed : List DueRow) → AreDueRowsInRange listed
      → objects_read due_object_read (due_json account listed)
      ≡ Some (map (due_cells account) listed)
  due_objects listed are =
      let own = due_is listed are in
      ap (rows_of due_object_read) own.1 ∙ ap Some own.2

  pub due_amount : (listed : List DueRow) → AreDueRowsInRange listed
      → sum_by amount_of listed < 2 ^ 64
      → sum_read (codes "amount") (due_json account listed) ≡ Some (sum_by amount_of listed)
  due_amount listed are small =
      ap (sum_under (codes "amount")) (due_is listed are).1
      ∙ cents_reread (sum_by amount_of listed) small

  pub due_left : (listed : List DueRow) → AreDueRowsInRange listed
      → sum_by left_of listed < 2 ^ 64
      → sum_read (codes "left") (due_json account listed) ≡ Some (sum_by left_of listed)
  due_left listed are small =
      ap (sum_under (codes "left")) (due_is listed are).1
      ∙ cents_reread (sum_by left_of listed) small

-- ---- the payments of an account

module _ (account : List ℕ) (name : is_account_name account ≡ true) where
  -- a payment, with what its obligation is said to be
  abbrev pub payment_pairs : KeptPayment → Pairs
  payment_pairs x =
      text_value (codes "account") account ∷ (codes "payment", number (unsigned x.number))
      ∷ text_value (codes "paid") (day_text x.payment.paid)
      ∷ text_value (codes "for") (day_text x.payment.for_day)
      ∷ text_value (codes "amount") (cents_text x.payment.cents.0)
      ∷ (codes "obligation", day_value x.obligation) ∷ (codes "void", boolean x.voided) ∷ []

  payment_names : (x : KeptPayment) → AreNames (payment_pairs x)
  unfolding escape_byte
  payment_names x = (refl, (refl, (refl, (refl, (refl, (refl, (refl, tt)))))))

  payment_members : (x : KeptPayment)
      → map member_text (payment_pairs x) ≡ members_of (told_by (payment_fields account) x)
  payment_members x = rw (
    unescaped account (plain_name account name),
    day_kept x.payment.paid,
    day_kept x.payment.for_day,
    cents_kept x.payment.cents.0,
    day_told x.obligation,
    flag_text x.voided,
  ) refl

  -- as it is read
  abbrev payment_as : KeptPayment → Data
  payment_as x =
      object (members_from (text_value (codes "account") account
      ∷ text_value (codes "amount") (cents_text x.payment.cents.0)
      ∷ text_value (codes "for") (day_text x.payment.for_day)
      ∷ (codes "obligation", day_value x.obligation)
      ∷ text_value (codes "paid") (day_text x.payment.paid)
      ∷ (codes "payment", number (unsigned x.number)) ∷ (codes "void", boolean x.voided) ∷ []))

  payment_found : (x : KeptPayment) → IsPaymentInRange x
      → IsFound (value_of (payment_fields account) payment_pairs payment_object_read
      (payment_object account))
      payment_object_read (payment_object account) x
  payment_found x is = (
    payment_as x,
    rw (number_of-decimal x.number is.number, day_as_read x.obligation) refl,
    rw (
      day_reread x.payment.paid is.paid,
      day_reread x.payment.for_day is.for_day,
      cents_reread x.payment.cents.0 is.amount,
      day_in x.obligation is.obligation,
    ) refl,
  )

  pub payment_row : (x : KeptPayment) → IsPaymentInRange x
      → IsObject (payment_fields account) payment_pairs payment_object_read
      (payment_object account) x
  payment_row x is =
      let low = day_flat x.obligation in (
        payment_members x,
        payment_names x,
        (
          omega arith,
          (tt, (IsNumber-decimal x.number is.number, (tt, (tt, (tt, (low.1, (tt, tt))))))),
        ),
        payment_found x is,
      )

  pub payment_objects : (quarter : ℕ) (listed : List KeptPayment) → ArePaymentsInRange listed
      → objects_read payment_object_read (rows_json (rows.Payments account quarter listed))
      ≡ Some (map (payment_object account) listed)
  unfolding rows_json
  payment_objects quarter listed are =
      objects (payment_fields account) payment_pairs payment_object_read (payment_object account)
      listed (λ x has. payment_row x (are x has))
