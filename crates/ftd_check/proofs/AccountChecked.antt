-- What is found of an account, from what was read of it.
use Rattle.std.proofs.Common.{◌≡◌, ◌∙◌, ℕ, sym, ap, subst, true, false, List, Some, None}
use Rattle.std.specs.Prelude.{◌↔◌, IsTrue}
use Rattle.std.proofs.lemmas.Bool.{false≢true}
use Rattle.ftd_sql.specs.Rows.{AccountRow}
use Rattle.ftd_sql.specs.Standing.{Tables}
use Rattle.ftd_store.specs.Added.{named_account_row}
use Rattle.ftd_store.specs.Rows.{account_row}
use Rattle.ftd_store.specs.declared.kept_cells.NamedAccount.{NamedAccount}
use Rattle.ftd_machine.specs.State.{Enrolled}
use Rattle.ftd_entries.specs.Standing.{enrolled_row}
use Rattle.ftd_entries.proofs.Found.{day_is, flag_is}
use Rattle.ftd_check.specs.Account.{IsSoundOwn}
use Rattle.ftd_check.specs.Accounts.{ChecksAccount, name_read}
use Rattle.ftd_check.specs.OwnRows.{AreRowsOf, AreUnsoundRows}
use Rattle.ftd_check.specs.Parts.{HasEntered, HasSettled}
use Rattle.ftd_check.specs.Sizes.{sizes_of, AreSizesOf}
use Rattle.ftd_check.specs.declared.own_rows.OwnRows.{OwnRows}
use Rattle.ftd_check.specs.declared.sizes.Sizes.{Sizes}
use Rattle.ftd_check.proofs.AccountRead.{sound_there, sound_here}
use Rattle.ftd_check.proofs.SizesRead.{sizes_are}

module _ (a : NamedAccount) (given holidays : List ℕ) (t : Tables) where
  abbrev name : List ℕ
  name = name_read a

  name_is : (e : Enrolled) → enrolled_row e ≡ named_account_row a → e.name ≡ name
  name_is e row = ap (λ (r : AccountRow). r.name) row

  pub unreadable : AreUnsoundRows name t → ChecksAccount a given holidays None t
  unreadable unsound e row few is = unsound is.own given holidays (record {
    entered = subst (λ (n : List ℕ). HasEntered t n is.own) (name_is e row) is.entered;
    sound = is.sound;
    few = few;
    settled = subst (λ (n : List ℕ). HasSettled t n is.own holidays) (name_is e row) is.settled;
  })

  module _ (rows : OwnRows) (are : AreRowsOf t name a.account rows) (sound : _)
      (decided : IsTrue sound ↔ IsSoundOwn name given holidays rows) where
    pub found_unsound : sound ≡ false → ChecksAccount a given holidays None t
    found_unsound fails e row few is =
        false≢true (sym fails ∙ decided.1
        (sound_here t name a.account rows are given holidays is.own
        (subst (λ (n : List ℕ). HasEntered t n is.own) (name_is e row) is.entered) is.sound
        (subst (λ (n : List ℕ). HasSettled t n is.own holidays) (name_is e row) is.settled)
        e.account is.enrolled
        (day_is e.account.start a.account.start (ap (λ (r : AccountRow). r.start) row))
        (flag_is e.account.carried a.account.carried (ap (λ (r : AccountRow). r.carried) row))))

    pub found_right : sound ≡ true → (sizes : Sizes) → sizes ≡ sizes_of rows
        → ChecksAccount a given holidays (Some sizes) t
    found_right holds sizes same named = (
      (
        record { name = name; account = rows.own.account },
        sound_there t name a.account rows are given holidays named (decided.0 holds),
      ),
      (λ i. account_row name (record { start = are.start i; carried = are.carried i })),
      subst (AreSizesOf t name) (sym same) (sizes_are t name a.account rows are),
    )
