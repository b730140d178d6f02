-- Money that counts for nothing, in each sound state for which the tables stand.
use Rattle.std.proofs.Common.{◌≡◌, ◌∙◌, ◌⊎◌, inl, inr, refl, sym, ap, subst, ℕ, ◌+◌, ◌<◌, ◌≤◌}
use Rattle.std.proofs.Common.{List, ◌++◌, length, take, get_or, Option, None, Some, Ok}
use Rattle.std.proofs.Common.{true, false, arith}
use Rattle.std.proofs.lemmas.Bool.{leb-true, and_parts}
use Rattle.std.specs.Prelude.{◌↔◌, filter, nat_le}
use Rattle.ftd_days.specs.Calendar.{last_day}
use Rattle.ftd_days.specs.declared.cents.Cents.{Cents}
use Rattle.ftd_rules.specs.declared.Obligation.{Obligation}
use Rattle.ftd_rules.specs.declared.payment.Payment.{Payment}
use Rattle.ftd_rules.specs.Lists.{Has}
use Rattle.ftd_rules.specs.Obligations.{begins_on}
use Rattle.ftd_rules.proofs.Members.{has_kept}
use Rattle.ftd_rules.proofs.Owed.{has_append, has_left, has_right}
use Rattle.ftd_rules.proofs.Quarters.{one_quarter}
use Rattle.ftd_rules.proofs.Stated.{piece_owed}
use Rattle.ftd_sql.specs.Orders.{PaymentsRise}
use Rattle.ftd_sql.specs.Standing.{Tables}
use Rattle.ftd_sql.specs.Tests.{is_payment_between}
use Rattle.ftd_sql.specs.declared.TableName.TheVariants.{Payments}
use Rattle.ftd_store.specs.Cells.{day_number}
use Rattle.ftd_store.specs.Lists.{Lists}
use Rattle.ftd_store.specs.declared.kept_cells.NumberedPayment.{NumberedPayment}
use Rattle.ftd_store.specs.Kept.{IsNumberedPayment}
use Rattle.ftd_store.proofs.Items.{has_more, has_now, has_still}
use Rattle.ftd_store.proofs.Replaced.{all_taken}
use Rattle.ftd_machine.specs.Agenda.{EachToLater}
use Rattle.ftd_machine.specs.Checks.{Answer, first_of}
use Rattle.ftd_machine.specs.History.{form_of, live_sums}
use Rattle.ftd_machine.specs.Kept.{IsHeldBy}
use Rattle.ftd_machine.specs.Requests.{unapplied_checks}
use Rattle.ftd_machine.specs.Sound.{IsSound}
use Rattle.ftd_machine.specs.State.{State, Entries, entries_of, holidays}
use Rattle.ftd_machine.specs.Step.{Step}
use Rattle.ftd_machine.specs.Unapplied.{all_paid, IsUnappliedOf, IsUnappliedRow, IsUnappliedBefore}
use Rattle.ftd_machine.specs.declared.kept.KeptAccount.{KeptAccount}
use Rattle.ftd_machine.specs.declared.lists.UnappliedRow.{UnappliedRow}
use Rattle.ftd_machine.specs.Told.{unapplied_answer}
use Rattle.ftd_machine.specs.declared.requests.Question.TheVariants as asked
use Rattle.ftd_machine.specs.declared.requests.Request.TheVariants.{Question}
use Rattle.ftd_machine.proofs.Deciding.{decided, passed}
use Rattle.ftd_machine.proofs.Members.{has_filtered}
use Rattle.ftd_machine.proofs.Single.{owed_one}
use Rattle.ftd_machine.proofs.Soundness.{sound_once}
use Rattle.ftd_entries.specs.Owed.{KnowsObligations}
use Rattle.ftd_entries.specs.Standing.{StandsFor}
use Rattle.ftd_entries.proofs.Settling.{owes}
use Rattle.ftd_entries.specs.Accounts.{KnowsAccounts}
use Rattle.ftd_entries.specs.Returns.{KnowsPayments}
use Rattle.ftd_kept.specs.Unapplied.{paid_for, obligation_row, stray_row, IsOfOne}
use Rattle.ftd_kept.specs.Unapplied.{IsOverpaidRow, IsStrayRow}
use Rattle.ftd_kept.specs.Unapplied.{KnowsOwnUnapplied, KnowsUnapplied}
use Rattle.ftd_kept.proofs.PaymentsTold.{begun_by, held_all, is_kept_on, found_on}

cents_same : (a b : Cents) → a.0 ≡ b.0 → a ≡ b
cents_same a b e = rw e refl

-- ---- one account

module _ (name : List ℕ) (until : ℕ) (t : Tables) (s : State) (stands : StandsFor t s)
    (sound : IsSound s) (found : List NumberedPayment)
    (lists : Lists PaymentsRise (IsNumberedPayment name)
    (filter (is_payment_between name (day_number 0) (day_number until)) (t Payments)) found)
    (owed : List Obligation) (is_owed : owed ≡ filter (begins_on 0 until) (stands.settled name).owed)
    (payments : List Payment) (counts : KnowsPayments name 0 last_day payments t)
    (rows : List UnappliedRow) (are_rows : (x : UnappliedRow) → Has rows x
    ↔ (IsOfOne (IsOverpaidRow name payments) owed x ⊎ IsOfOne (IsStrayRow name owed) found x)) where
  abbrev all : List Obligation
  all = (stands.settled name).owed

  abbrev own : Entries
  own = entries_of s name

  -- an obligation ends by the last day
  ends : (o : Obligation) → Has all o → o.last ≤ last_day
  ends o has =
      let piece = piece_owed (form_of own.account) (stands.settled name).lines (live_sums own)
      (holidays s) o (((stands.settled name).are_owed.all o).0 has) in
      (one_quarter (form_of own.account) (stands.settled name).lines (live_sums own) (holidays s) o
      (stands.settled name).are_lines.schedules piece).1

  -- what was read counts for it all that was paid for it
  same_paid : (o : Obligation) → Has all o → paid_for payments o ≡ all_paid own o
  same_paid o has = counts s stands o.first o.last last_day last_day (omega arith) (ends o has)

  abbrev Is : UnappliedRow → Type 0
  Is x = (x.account ≡ name) × IsUnappliedOf own all x.payment x × (x.first ≤ until)

  from_overpaid : (x : UnappliedRow) → IsOfOne (IsOverpaidRow name payments) owed x → Is x
  from_overpaid x (o, has, so) =
      let more = so.0 in
      let is = so.1 in
      let kept = has_filtered (begins_on 0 until) all o (subst (λ os. Has os o) is_owed has) in
      let paid = same_paid o kept.0 in
      subst Is (sym is) (
        refl,
        record {
          obligation = o;
          is_owed = kept.0;
          first = refl;
          last = refl;
          amount = refl;
          paid = paid;
          more = more;
        },
        begins_by o kept.1,
      )
    where
      begins_by : (o : Obligation) → begins_on 0 until o ≡ true → o.first ≤ until
      begins_by o e = leb-true o.first until (and_parts (nat_le 0 o.first) (nat_le o.first until) e).1

  from_stray : (x : UnappliedRow) → IsOfOne (IsStrayRow name owed) found x → Is x
  from_stray x (row, has, so) =
      let live = so.0 in
      let none = so.1 in
      let is = so.2 in
      let on = is_kept_on name 0 until t s stands sound found lists row has in
      subst Is (sym is) (
        refl,
        record {
          payment = row.payment.value;
          kept = on.0 ∙ ap Some (as_live row live);
          for_none = held_all all until row.payment.value.for_day None on.2
              (subst (λ os. IsHeldBy os row.payment.value.for_day None) is_owed none);
          first = refl;
          last = refl;
          amount = refl;
          paid = refl;
        },
        on.2,
      )
    where
      as_live : (row : NumberedPayment) → row.payment.voided ≡ false
          → row.payment ≡ record { value = row.payment.value; voided = false }
      as_live row live = rw live refl

  to_row : (x : UnappliedRow) (number : Option ℕ) → x.payment ≡ number → x.account ≡ name
      → IsUnappliedOf own all number x → x.first ≤ until
      → IsOfOne (IsOverpaidRow name payments) owed x ⊎ IsOfOne (IsStrayRow name owed) found x
  to_row x None is named g soon =
      let o : Obligation = g.obligation in
      let begins : begins_on 0 until o ≡ true = begun_by until o (subst (λ d. d ≤ until) g.first soon)
      in
      let has : Has owed o = subst (λ os. Has os o) (sym is_owed)
      (has_kept (begins_on 0 until) all o g.is_owed begins) in
      let same : paid_for payments o ≡ all_paid own o = same_paid o g.is_owed in
      let amount : x.amount.0 ≡ o.cents.0 = ap (λ (c : Cents). c.0) g.amount in
      let paid = g.paid in let more = g.more in
      inl (
        o,
        has,
        (
          omega arith,
          whole o is named g.first g.last g.amount
              (cents_same x.paid (record { 0 = paid_for payments o }) (g.paid ∙ sym same)),
        ),
      )
    where
      whole : (o : Obligation) → x.payment ≡ None → x.account ≡ name → x.first ≡ o.first
          → x.last ≡ o.last
          → x.amount ≡ o.cents → x.paid ≡ record { 0 = paid_for payments o }
          → x ≡ obligation_row name o (record { 0 = paid_for payments o })
      whole o a b c d e f = rw (a, b, c, d, e, f) refl
  to_row x (Some number) is named g soon =
      let z : NumberedPayment = record {
        number = number;
        payment = record { value = g.payment; voided = false };
      } in
      let day : g.payment.for_day ≤ until = subst (λ d. d ≤ until) g.first soon in
      let has = found_on name 0 until t s stands sound found lists z (g.kept, omega arith, day) in
      inr (
        z,
        has,
        (
          refl,
          (λ o holds covers. g.for_none o
              (has_filtered (begins_on 0 until) all o (subst (λ os. Has os o) is_owed holds)).0 covers),
          whole g.payment is named g.first g.last (cents_same x.amount (record { 0 = 0 }) g.amount) g.paid,
        ),
      )
    where
      whole : (p : Payment) → x.payment ≡ Some number → x.account ≡ name → x.first ≡ p.for_day
          → x.last ≡ p.for_day
          → x.amount ≡ record { 0 = 0 } → x.paid ≡ p.cents
          → x ≡ stray_row name (record {
            number = number;
            payment = record { value = p; voided = false };
          })
      whole p a b c d e f = rw (a, b, c, d, e, f) refl

  pub own_are : (x : UnappliedRow) → Has rows x ↔ Is x
  own_are x = (
    (λ has. elim ((are_rows x).0 has) [
      | inl over ↦ from_overpaid x over
      | inr stray ↦ from_stray x stray
    ]),
    (λ is. (are_rows x).1 (to_row x x.payment refl is.0 is.1 is.2)),
  )

-- so of what was read from the first day on
pub own_known : (name : List ℕ) (first until last : ℕ) (owed : List Obligation)
    (payments : List Payment) (found : List NumberedPayment) (rows : List UnappliedRow) (t : Tables)
    → first ≡ 0 → last ≡ last_day → KnowsObligations name first until owed t
    → KnowsPayments name first last payments t
    → Lists PaymentsRise (IsNumberedPayment name)
    (filter (is_payment_between name (day_number first) (day_number until)) (t Payments)) found
    → ((x : UnappliedRow) → Has rows x ↔ (IsOfOne (IsOverpaidRow name payments) owed x
    ⊎ IsOfOne (IsStrayRow name owed) found x)) → KnowsOwnUnapplied name until rows t
own_known name first until last owed payments found rows t begin end owes counts lists are s stands
    sound =
    own_are name until t s stands sound found
    (subst (λ d. Lists PaymentsRise (IsNumberedPayment name)
    (filter (is_payment_between name (day_number d) (day_number until)) (t Payments)) found) begin
    lists) owed
    (subst (λ d. owed ≡ filter (begins_on d until) (stands.settled name).owed) begin
    (owes s stands)) payments
    (subst (λ d. KnowsPayments name 0 d payments t) end
    (subst (λ d. KnowsPayments name d last payments t) begin counts)) rows are

-- ---- account after account

module _ (until : ℕ) (t : Tables) (s : State) (stands : StandsFor t s) where
  abbrev pub IsRowOf : KeptAccount → UnappliedRow → Type 0
  IsRowOf a x =
      (x.account ≡ a.name)
      × IsUnappliedOf (entries_of s a.name) (stands.settled a.name).owed x.payment x
      × (x.first ≤ until)

  -- they are the rows of the accounts
  abbrev pub AreRowsOf : List KeptAccount → List UnappliedRow → Type 0
  AreRowsOf accounts rows = (x : UnappliedRow) → Has rows x ↔ IsOfOne IsRowOf accounts x

  pub rows_next : (accounts : List KeptAccount) (i : ℕ) (a : KeptAccount) → i < length accounts
      → a ≡ get_or accounts i a → (rows own : List UnappliedRow)
      → AreRowsOf (take i accounts) rows → ((x : UnappliedRow) → Has own x ↔ IsRowOf a x)
      → AreRowsOf (take (i + 1) accounts) (rows ++ own)
  rows_next accounts i a some is rows own so_far are x = (
    (λ has. elim (has_append rows own x has) [
      | inl before ↦ (let of = (so_far x).0 before in
          (of.0, has_still accounts i a of.0 some is of.1, of.2))
      | inr here ↦ (a, has_now accounts i a some is, (are x).0 here)
    ]),
    (λ of. elim (has_more accounts i a of.0 some is of.1) [
      | inl before ↦ has_left rows own x ((so_far x).1 (of.0, before, of.2))
      | inr same ↦ has_right rows own x ((are x).1 (subst (λ b. IsRowOf b x) same of.2))
    ]),
  )

  -- of all accounts
  pub rows_all : IsSound s → (accounts : List KeptAccount) (rows : List UnappliedRow)
      → KnowsAccounts accounts t → AreRowsOf accounts rows → (x : UnappliedRow)
      → Has rows x ↔ (IsUnappliedRow s x × (x.first ≤ until))
  rows_all sound accounts rows known are x = (
    (λ has. (let of = (are x).0 has in of_account of.0 x ((known.all s stands sound of.0).0 of.1)
        of.2)),
    (λ h. (let is = h.0 in
        let a : KeptAccount = record { name = x.account; account = is.account } in
        let same : is.owed ≡ (stands.settled x.account).owed =
        owed_one (holidays s) (entries_of s x.account) is.owed (stands.settled x.account).owed
        (sound_once s sound x.account) is.are_owed (owes (stands.settled x.account)) in
        (are x).1 (
          a,
          (known.all s stands sound a).1 is.enrolled,
          (
            refl,
            subst (λ os. IsUnappliedOf (entries_of s x.account) os x.payment x) same is.is_row,
            h.1,
          ),
        ))),
  )
    where
      of_account : (a : KeptAccount) (x : UnappliedRow)
          → (entries_of s a.name).account ≡ Some a.account → IsRowOf a x
          → IsUnappliedRow s x × (x.first ≤ until)
      of_account a x enrolled of =
          subst (λ n. (entries_of s n).account ≡ Some a.account → IsUnappliedOf (entries_of s n)
          (stands.settled n).owed x.payment x → IsUnappliedRow s x × (x.first ≤ until)) of.0
          (λ e row. (
            record {
              account = a.account;
              enrolled = e;
              owed = (stands.settled x.account).owed;
              are_owed = owes (stands.settled x.account);
              is_row = row;
            },
            of.2,
          )) enrolled of.1

-- as far as a loop over the accounts has come
pub record SoFarUnapplied (until : ℕ) (accounts : List KeptAccount) (i : ℕ)
    (rows : List UnappliedRow) (t : Tables) : Type 0 where
  pub known : KnowsAccounts accounts t
  pub are : (s : State) (stands : StandsFor t s) → IsSound s
      → AreRowsOf until t s stands (take i accounts) rows

pub so_far_more : (until : ℕ) (accounts : List KeptAccount) (i : ℕ) (a : KeptAccount)
    (name : List ℕ) (rows own after : List UnappliedRow) (t : Tables) → i < length accounts
    → a ≡ get_or accounts i a → name ≡ a.name → after ≡ rows ++ own
    → SoFarUnapplied until accounts i rows t → KnowsOwnUnapplied name until own t
    → SoFarUnapplied until accounts (i + 1) after t
so_far_more until accounts i a name rows own after t some is named made so_far knows = record {
  known = so_far.known;
  are = λ s stands sound.
      subst (AreRowsOf until t s stands (take (i + 1) accounts)) (sym made)
      (rows_next until t s stands accounts i a some is rows own (so_far.are s stands sound)
      (subst (λ n. KnowsOwnUnapplied n until own t) named knows s stands sound));
}

pub all_known : (until : ℕ) (accounts : List KeptAccount) (i : ℕ) (rows : List UnappliedRow)
    (t : Tables) → length accounts ≤ i → SoFarUnapplied until accounts i rows t
    → KnowsUnapplied until rows t
all_known until accounts i rows t over so_far s stands sound =
    rows_all until t s stands sound accounts rows so_far.known
    (subst (λ l. AreRowsOf until t s stands l rows) (all_taken accounts i over)
    (so_far.are s stands sound))

-- ---- what is answered

pub unapplied_answered : (until : ℕ) (rows : List UnappliedRow) (t : Tables) (s : State)
    → StandsFor t s → IsSound s → KnowsUnapplied until rows t
    → first_of (unapplied_checks until) ≡ None → EachToLater IsUnappliedBefore rows
    → Step s (Question (asked.Unapplied until)) (unapplied_answer until rows) s
unapplied_answered until rows t s stands sound knows passes order =
    passed _ s (unapplied_answer until rows) s _ passes (
      refl,
      record {
        listed = rows;
        in_order = order;
        all = knows s stands sound;
        told = refl;
      },
    )

pub unapplied_refused : (until : ℕ) (answer : Answer)
    → first_of (unapplied_checks until) ≡ Some answer
    → (s : State) → Step s (Question (asked.Unapplied until)) answer s
unapplied_refused until answer is s = decided _ s answer _ is
