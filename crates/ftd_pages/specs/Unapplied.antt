-- Money that counts for nothing.
use Rattle.std.specs.Prelude.{ℕ, List, [], ◌∷◌, codes}
use Rattle.ftd_days.specs.Text.{day_text}
use Rattle.ftd_machine.specs.declared.facts.UnappliedList.{UnappliedList}
use Rattle.ftd_machine.specs.declared.lists.UnappliedRow.{UnappliedRow}
use Rattle.ftd_answers.specs.Unapplied.{unapplied_fields}
use Rattle.ftd_pages.specs.Links.{to_account}
use Rattle.ftd_pages.specs.Pages.{titled}
use Rattle.ftd_pages.specs.Rows.{Shape}
use Rattle.ftd_pages.specs.Sections.{list_at}
use Rattle.ftd_pages.specs.declared.frames.Place.{Place}
use Rattle.ftd_pages.specs.declared.rows.Class.TheVariants.{Plain}

-- the fields of CSV and JSON, each with a word; the account leads to its page
abbrev pub unapplied_shape : Shape UnappliedRow
unapplied_shape = record {
  fields = unapplied_fields;
  words = codes "Account" ∷ codes "Payment" ∷ codes "Deposit period from"
      ∷ codes "Deposit period to" ∷ codes "Amount" ∷ codes "Paid" ∷ codes "Over" ∷ [];
  class = λ x. Plain;
  address = λ x. to_account x.account;
}

abbrev pub unapplied_at : Place → UnappliedList → List ℕ
unapplied_at place x =
    let title = titled (codes "Money that counts for nothing until " ∷ day_text x.until ∷ []) in
    list_at place [] unapplied_shape title (codes "All money counts for a deposit.") [] x.rows
