-- What is due: over all accounts, and in an account's due list.
use Rattle.std.specs.Prelude.{ℕ, List, [], ◌∷◌, ◌++◌, codes, Option, None, Some}
use Rattle.std.specs.Prelude.{if◌then◌else◌}
use Rattle.std.specs.List.{sum_by}
use Rattle.std.specs.Str.{bytes_eq}
use Rattle.ftd_days.specs.Text.{day_text, quarter_text}
use Rattle.ftd_rules.specs.Verdicts.{amount_of}
use Rattle.ftd_rules.specs.declared.verdict.DueRow.{DueRow}
use Rattle.ftd_machine.specs.Agenda.{left_of}
use Rattle.ftd_machine.specs.declared.facts.Agenda.{Agenda}
use Rattle.ftd_machine.specs.declared.facts.DueList.{DueList}
use Rattle.ftd_machine.specs.declared.facts.OwedList.{OwedList}
use Rattle.ftd_machine.specs.declared.lists.AgendaRow.{AgendaRow}
use Rattle.ftd_answers.specs.Agendas.{left_cents}
use Rattle.ftd_answers.specs.Dues.{agenda_fields, due_fields}
use Rattle.ftd_pages.specs.Links.{account_address, pay_if, reason_address}
use Rattle.ftd_pages.specs.Pages.{due_sums, foot_of, left_sum, titled}
use Rattle.ftd_pages.specs.Rows.{Shape}
use Rattle.ftd_pages.specs.Sections.{list_at}
use Rattle.ftd_pages.specs.declared.frames.Place.{Place}
use Rattle.ftd_pages.specs.declared.rows.Class.TheVariants.{Stands}

-- the words of the fields of an obligation
abbrev pub deposit_words : List (List ℕ)
deposit_words =
    codes "Deposit period from" ∷ codes "Deposit period to" ∷ codes "Rule" ∷ codes "Amount"
    ∷ codes "Paid" ∷ codes "Left" ∷ []

-- ---- over all accounts

abbrev pub agenda_words : List (List ℕ)
agenda_words =
    codes "Due" ∷ codes "Account" ∷ codes "Form"
    ∷ (deposit_words ++ (codes "Pay by" ∷ codes "Verdict" ∷ []))

-- the account leads to its page, the first day of the deposit period to why the obligation is so,
-- and what is left to the form of a payment of that
abbrev pub agenda_address : AgendaRow → List ℕ → Option (List ℕ)
agenda_address x name =
    if bytes_eq name (codes "account") then Some (account_address x.account)
    else if bytes_eq name (codes "first") then Some (reason_address x.account
    x.row.obligation.first)
    else if bytes_eq name (codes "left") then pay_if x.account x.row.obligation.first
    (left_cents x)
    else None

-- the fields of CSV and JSON, and the verdict as the class of a row
abbrev pub agenda_shape : Shape AgendaRow
agenda_shape = record {
  fields = agenda_fields;
  words = agenda_words;
  class = λ x. Stands x.row.verdict;
  address = agenda_address;
}

abbrev pub owed_title : ℕ → ℕ → List ℕ
owed_title until as_of =
    titled (codes "Deposits owed until " ∷ day_text until ∷ codes ", as of " ∷ day_text as_of ∷ [])

abbrev pub agenda_title : ℕ → ℕ → ℕ → List ℕ
agenda_title from to as_of =
    titled (codes "Deposits due from " ∷ day_text from ∷ codes " to " ∷ day_text to
    ∷ codes ", as of " ∷ day_text as_of ∷ [])

-- the rows, with the sum of what is left of them
abbrev pub agenda_list : Place → List ℕ → List ℕ → List AgendaRow → List ℕ
agenda_list place title sentence rows =
    list_at place [] agenda_shape title sentence (foot_of (left_sum (sum_by left_cents rows))) rows

-- what is due until a day and not paid, as of a day
abbrev pub owed_at : Place → OwedList → List ℕ
owed_at place x =
    let title = owed_title x.until x.as_of in
    agenda_list place title (codes "Nothing is owed.") x.rows

-- what is due between two days, as of a day
abbrev pub agenda_at : Place → Agenda → List ℕ
agenda_at place x =
    let title = agenda_title x.from x.to x.as_of in
    agenda_list place title (codes "Nothing is due.") x.rows

-- ---- the due list of an account's quarter

abbrev pub due_words : List (List ℕ)
due_words =
    codes "Due" ∷ codes "Account"
    ∷ (deposit_words ++ (codes "Make up by" ∷ codes "Verdict" ∷ []))

-- the first day of the deposit period leads to why the obligation is so, and what is left to the
-- form of a payment of that
abbrev pub due_address : List ℕ → DueRow → List ℕ → Option (List ℕ)
due_address account x name =
    if bytes_eq name (codes "first") then Some (reason_address account x.obligation.first)
    else if bytes_eq name (codes "left") then pay_if account x.obligation.first (left_of x)
    else None

abbrev pub due_shape : List ℕ → Shape DueRow
due_shape account = record {
  fields = due_fields account;
  words = due_words;
  class = λ x. Stands x.verdict;
  address = due_address account;
}

abbrev pub due_title : List ℕ → ℕ → ℕ → List ℕ
due_title account quarter as_of =
    titled (codes "Due list of " ∷ account ∷ codes ", " ∷ quarter_text quarter
    ∷ codes ", as of " ∷ day_text as_of ∷ [])

-- the rows, with the sums of their amounts and of what is left of them
abbrev pub due_at : Place → DueList → List ℕ
due_at place x =
    let title = due_title x.account x.quarter x.as_of in
    let foot = foot_of (due_sums (sum_by amount_of x.rows) (sum_by left_of x.rows)) in
    list_at place x.account (due_shape x.account) title (codes "The quarter has no deposits.") foot
    x.rows
