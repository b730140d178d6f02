-- The rows of the tables that are due over all accounts, account by account, whatever else the
-- tables hold.
use Rattle.std.proofs.Common.{◌≡◌, ◌∙◌, ◌⊎◌, inl, inr, refl, sym, ap, subst, ℕ, pos, ◌+◌, ◌-◌, ◌<◌}
use Rattle.std.proofs.Common.{◌&&◌, ◌||◌, ◌++◌, Bool, true, false, List, [], ◌∷◌, length, take, get_or}
use Rattle.std.proofs.Common.{map, Option, None, Some, arith}
use Rattle.std.specs.Prelude.{bytes_eq, filter, int_le, int_lt, min, nat_le}
use Rattle.std.specs.List.{list_any, sum_by}
use Rattle.std.specs.List.Sorted.{IsPermutation}
use Rattle.std.proofs.lemmas.Bool.{cases_Bool, true≢false}
use Rattle.std.proofs.lemmas.List.{map-append}
use Rattle.std.proofs.lemmas.List.Elements.{filter_agree}
use Rattle.std.proofs.lemmas.List.Folds.{list_any-append}
use Rattle.std.proofs.lemmas.List.Sorted.{IsPermutation-append, IsPermutation-cons}
use Rattle.std.proofs.lemmas.List.Sorted.{IsPermutation-middle, IsPermutation-refl}
use Rattle.std.proofs.lemmas.List.Sorted.{IsPermutation-sym, IsPermutation-trans}
use Rattle.std.proofs.lemmas.List.Sorted.{list_any-IsPermutation, sum_by-IsPermutation}
use Rattle.std.proofs.lemmas.List.Sums.{sum_by-cons}
use Rattle.ftd_days.specs.Calendar.{year_of, year_start}
use Rattle.ftd_days.proofs.Spelling.{same_text}
use Rattle.ftd_rules.specs.declared.Obligation.{Obligation}
use Rattle.ftd_rules.specs.declared.payment.Payment.{Payment}
use Rattle.ftd_rules.specs.Payments.{counts_by, paid_by}
use Rattle.ftd_rules.proofs.Members.{any_has, filter_in, filter_out, some_pass}
use Rattle.ftd_sql.specs.Orders.{ObligationsRise, PaymentsRise}
use Rattle.ftd_sql.specs.Rows.{ObligationRow, PaymentRow}
use Rattle.ftd_sql.specs.Standing.{Tables}
use Rattle.ftd_sql.specs.Tests.{is_due_between, is_live_payment_between}
use Rattle.ftd_sql.specs.declared.TableName.TheVariants.{Accounts, Obligations, Payments}
use Rattle.ftd_store.specs.Cells.{day_number}
use Rattle.ftd_store.specs.Finds.{IsLivePayment, IsObligation}
use Rattle.ftd_store.specs.Lists.{Lists, Pairs}
use Rattle.ftd_store.specs.Rows.{obligation_row}
use Rattle.ftd_store.specs.declared.obligation_cells.AccountObligation.{AccountObligation}
use Rattle.ftd_store.proofs.Items.{has_now, taken}
use Rattle.ftd_store.proofs.Sifted.{both_are, sifted}
use Rattle.ftd_machine.specs.Agenda.{EachToLater}
use Rattle.ftd_machine.specs.Kept.{IsAccountBefore}
use Rattle.ftd_machine.specs.declared.kept.KeptAccount.{KeptAccount}
use Rattle.ftd_machine.proofs.Adding.{other_name, own_name}
use Rattle.ftd_machine.proofs.AgendaOrder.{name_once}
use Rattle.ftd_entries.specs.Accounts.{KnowsAccounts, name_in_row, name_of}
use Rattle.ftd_entries.proofs.DayCells.{day_le, day_lt}
use Rattle.ftd_entries.proofs.DayChanges.{filter_both}
use Rattle.ftd_entries.proofs.ListedRows.{kept_seen}
use Rattle.ftd_entries.proofs.OwedRows.{begins, paired}
use Rattle.ftd_questions.specs.Listing.{IsOwedBy, counts_for, has_account, is_due_in, is_due_on}
use Rattle.ftd_questions.specs.Listing.{is_left, is_own, is_own_due, is_unpaid, owed_row, paid_in}
use Rattle.ftd_questions.proofs.EachLater.{each_at}

-- ---- tests

-- what passes one of two tests that nothing passes both of
sieved : {X : Type 0} (p q r : X → Bool)
    → ((x : X) → ((p x ≡ false) × (r x ≡ q x)) ⊎ ((q x ≡ false) × (r x ≡ p x)))
    → (xs : List X) → IsPermutation (filter r xs) (filter p xs ++ filter q xs)
sieved p q r each [] = IsPermutation-refl []
sieved {X = X} p q r each (x ∷ xs) =
    let P : List X = filter p xs in
    let Q : List X = filter q xs in
    let R : List X = filter r xs in
    let rest : IsPermutation R (P ++ Q) = sieved p q r each xs in
    elim (each x) [
      | inl h ↦
          (let first : filter p (x ∷ xs) ++ filter q (x ∷ xs) ≡ P ++ filter q (x ∷ xs) =
          ap (λ (l : List X). l ++ filter q (x ∷ xs)) (filter_out p x xs h.0) in
          elim (cases_Bool (q x)) [
            | inl kept ↦ both_are (filter r (x ∷ xs)) (filter p (x ∷ xs) ++ filter q (x ∷ xs))
                (x ∷ R) (P ++ x ∷ Q) (filter_in r x xs (h.1 ∙ kept))
                (first ∙ ap (λ (l : List X). P ++ l) (filter_in q x xs kept))
                (IsPermutation-trans (x ∷ R) (x ∷ (P ++ Q)) (P ++ x ∷ Q)
                (IsPermutation-cons x R (P ++ Q) rest)
                (IsPermutation-sym (P ++ x ∷ Q) (x ∷ (P ++ Q)) (IsPermutation-middle P x Q)))
            | inr left ↦ both_are (filter r (x ∷ xs)) (filter p (x ∷ xs) ++ filter q (x ∷ xs)) R
                (P ++ Q) (filter_out r x xs (h.1 ∙ left))
                (first ∙ ap (λ (l : List X). P ++ l) (filter_out q x xs left)) rest
          ])
      | inr h ↦
          (let last : filter p (x ∷ xs) ++ filter q (x ∷ xs) ≡ filter p (x ∷ xs) ++ Q =
          ap (λ (l : List X). filter p (x ∷ xs) ++ l) (filter_out q x xs h.0) in
          elim (cases_Bool (p x)) [
            | inl kept ↦ both_are (filter r (x ∷ xs)) (filter p (x ∷ xs) ++ filter q (x ∷ xs))
                (x ∷ R) (x ∷ (P ++ Q)) (filter_in r x xs (h.1 ∙ kept))
                (last ∙ ap (λ (l : List X). l ++ Q) (filter_in p x xs kept))
                (IsPermutation-cons x R (P ++ Q) rest)
            | inr left ↦ both_are (filter r (x ∷ xs)) (filter p (x ∷ xs) ++ filter q (x ∷ xs)) R
                (P ++ Q) (filter_out r x xs (h.1 ∙ left))
                (last ∙ ap (λ (l : List X). l ++ Q) (filter_out p x xs left)) rest
          ])
    ]

any_mapped : {X Y : Type 0} (see : X → Y) (test : Y → Bool) (xs : List X)
    → list_any test (map see xs) ≡ list_any (λ x. test (see x)) xs
any_mapped see test [] = refl
any_mapped see test (x ∷ xs) = ap (λ b. test (see x) || b) (any_mapped see test xs)

or_none : (b : Bool) → (b || false) ≡ b
or_none true = refl
or_none false = refl

-- ---- one account

module _ (name : List ℕ) (from to : ℕ) (t : Tables) where
  abbrev row : Obligation → ObligationRow
  row = obligation_row name

  abbrev first : ℕ
  first = year_start (year_of from - 1)

  abbrev all : List ObligationRow
  all = t Obligations

  abbrev Begins : ObligationRow → Bool
  Begins = begins name first to

  -- what was read, of which these are left, is the account's
  left_rows : (unpaid : Option ℕ) (U : Obligation → Bool)
      → ((o : Obligation) → is_left unpaid to t (row o) ≡ U o) → (found left : List Obligation)
      → left ≡ filter U found
      → Lists ObligationsRise (IsObligation name) (filter Begins all) found
      → IsPermutation (filter (is_own unpaid from to t name) all) (map row left)
  left_rows unpaid U same found left left_is lists =
      let L : ObligationRow → Bool = is_left unpaid to t in
      let read : IsPermutation (filter Begins all) (map row found) =
      subst (λ l. IsPermutation (filter Begins all) l)
      (paired name first to lists.ordered found lists.pairs) lists.same in
      subst (λ l. IsPermutation l (map row left)) (filter_both L Begins all)
      (subst (λ l. IsPermutation (filter L (filter Begins all)) l)
      (kept_seen row L U same found ∙ ap (map row) (sym left_is))
      (sifted L (filter Begins all) (map row found) read))

  all_left : (os : List Obligation) → os ≡ filter (λ o. true) os
  all_left [] = refl
  all_left (o ∷ os) = ap (λ (l : List Obligation). o ∷ l) (all_left os)

  pub own_rows : (found : List Obligation)
      → Lists ObligationsRise (IsObligation name) (filter Begins all) found
      → IsPermutation (filter (is_own None from to t name) all) (map row found)
  own_rows found lists = left_rows None (λ o. true) (λ o. refl) found found (all_left found) lists

  -- ---- payments

  abbrev live : PaymentRow → Bool
  live = is_live_payment_between name (day_number 0) (day_number to)

  one_counts : (o : Obligation) (as_of : ℕ) (r : PaymentRow) (p : Payment)
      → IsLivePayment name r p
      → counts_for (row o) (day_number as_of) r ≡ counts_by o.first o.last (min as_of as_of) p
  one_counts o as_of r p is =
      let by : min as_of as_of ≡ as_of = grind arith in
      ap (counts_for (row o) (day_number as_of)) is.1
      ∙ rw (day_lt p.for_day o.first, day_lt o.last p.for_day, day_lt as_of p.paid, by) refl

  rows_count : (o : Obligation) (as_of : ℕ) (rows : List PaymentRow) (ps : List Payment)
      → Pairs (IsLivePayment name) rows ps → sum_by (counts_for (row o) (day_number as_of)) rows
      ≡ paid_by ps o.first o.last as_of as_of
  rows_count o as_of [] [] pairs = refl
  rows_count o as_of [] (p ∷ ps) pairs = absurd pairs
  rows_count o as_of (r ∷ rows) [] pairs = absurd pairs
  rows_count o as_of (r ∷ rows) (p ∷ ps) pairs =
      let one = one_counts o as_of r p pairs.0 in
      let more = rows_count o as_of rows ps pairs.1 in
      let left = sum_by-cons (counts_for (row o) (day_number as_of)) r rows in
      let right = sum_by-cons (counts_by o.first o.last (min as_of as_of)) p ps in
      omega arith

  left_is : (as_of : ℕ) (payments : List Payment)
      → Lists PaymentsRise (IsLivePayment name) (filter live (t Payments)) payments
      → (o : Obligation) → is_left (Some as_of) to t (row o) ≡ is_unpaid payments as_of o
  left_is as_of payments lists o =
      let paid : paid_in as_of to t (row o) ≡ paid_by payments o.first o.last as_of as_of =
      sym (sum_by-IsPermutation (counts_for (row o) (day_number as_of)) (filter live (t Payments))
      lists.ordered lists.same) ∙ rows_count o as_of lists.ordered payments lists.pairs in
      ap (λ n. int_lt (pos n) (pos o.cents.0)) paid

  pub own_left_rows : (as_of : ℕ) (payments : List Payment)
      → Lists PaymentsRise (IsLivePayment name) (filter live (t Payments)) payments
      → (found left : List Obligation) → left ≡ filter (is_unpaid payments as_of) found
      → Lists ObligationsRise (IsObligation name) (filter Begins all) found
      → IsPermutation (filter (is_own (Some as_of) from to t name) all) (map row left)
  own_left_rows as_of payments paid found left is lists =
      left_rows (Some as_of) (is_unpaid payments as_of) (left_is as_of payments paid) found left is
      lists

  -- ---- those that are due

  due_cells : (o : Obligation) → is_due_between (day_number from) (day_number to) (row o)
      ≡ is_due_on from to o
  due_cells o =
      ap (λ b. b && int_le (day_number o.due) (day_number to)) (day_le from o.due)
      ∙ ap (λ b. nat_le from o.due && b) (day_le o.due to)

  owed_rows : (os : List Obligation) (xs : List AccountObligation) → Pairs (IsOwedBy name) os xs
      → map row os ≡ map owed_row xs
  owed_rows [] [] pairs = refl
  owed_rows [] (x ∷ xs) pairs = absurd pairs
  owed_rows (o ∷ os) [] pairs = absurd pairs
  owed_rows (o ∷ os) (x ∷ xs) pairs =
      let one : row o ≡ owed_row x = ap (obligation_row name) (sym pairs.0.1)
      ∙ ap (λ n. obligation_row n x.obligation) (sym pairs.0.0) in
      ap (λ (r : ObligationRow). r ∷ map row os) one
      ∙ ap (λ (l : List ObligationRow). owed_row x ∷ l) (owed_rows os xs pairs.1)

  pub due_rows : (unpaid : Option ℕ) (found : List Obligation) (more : List AccountObligation)
      → IsPermutation (filter (is_own unpaid from to t name) all) (map row found)
      → Pairs (IsOwedBy name) (filter (is_due_on from to) found) more
      → IsPermutation (filter (is_own_due unpaid from to t name) all) (map owed_row more)
  due_rows unpaid found more own pairs =
      let D : ObligationRow → Bool = is_due_between (day_number from) (day_number to) in
      let Own : ObligationRow → Bool = is_own unpaid from to t name in
      subst (λ l. IsPermutation l (map owed_row more)) (filter_both D Own all)
      (subst (λ l. IsPermutation (filter D (filter Own all)) l)
      (kept_seen row D (is_due_on from to) due_cells found
      ∙ owed_rows (filter (is_due_on from to) found) more pairs)
      (sifted D (filter Own all) (map row found) own))

-- ---- account after account

abbrev is_called : List ℕ → KeptAccount → Bool
is_called name a = bytes_eq a.name name

-- an account of this name is among these
abbrev are_among : List KeptAccount → List ℕ → Bool
are_among accounts name = list_any (is_called name) accounts

module _ (unpaid : Option ℕ) (from to : ℕ) (t : Tables) where
  -- the row is due, of an account among these
  abbrev pub is_due_among : List KeptAccount → ObligationRow → Bool
  is_due_among accounts r =
      are_among accounts r.account && is_own_due unpaid from to t r.account r

  module _ (accounts : List KeptAccount) (by_name : EachToLater IsAccountBefore accounts) (i : ℕ)
      (a : KeptAccount) (some : i < length accounts) (is : a ≡ get_or accounts i a) where
    not_before : are_among (take i accounts) a.name ≡ false
    not_before = elim (cases_Bool (are_among (take i accounts) a.name)) [
      | inl there ↦ absurd (
          let b = some_pass (is_called a.name) (take i accounts) there in
          name_once b.0.name a.name (same_text b.0.name a.name b.2)
          (each_at IsAccountBefore accounts i a b.0 by_name some is b.1))
      | inr none ↦ none
    ]

    abbrev Before : ObligationRow → Bool
    Before = is_due_among (take i accounts)

    abbrev Own : ObligationRow → Bool
    Own = is_own_due unpaid from to t a.name

    abbrev After : ObligationRow → Bool
    After = is_due_among (take (i + 1) accounts)

    own_one : (r : ObligationRow) → bytes_eq r.account a.name ≡ true
        → (Before r ≡ false) × (After r ≡ Own r)
    own_one r same =
        let named : r.account ≡ a.name = same_text r.account a.name same in
        let off : are_among (take i accounts) r.account ≡ false =
        ap (are_among (take i accounts)) named ∙ not_before in
        let on : are_among (take (i + 1) accounts) r.account ≡ true =
        any_has (is_called r.account) (take (i + 1) accounts) a (has_now accounts i a some is)
        (ap (bytes_eq a.name) named ∙ own_name a.name) in (
          ap (λ b. b && is_own_due unpaid from to t r.account r) off,
          ap (λ b. b && is_own_due unpaid from to t r.account r) on
              ∙ ap (λ n. is_own_due unpaid from to t n r) named,
        )

    other_one : (r : ObligationRow) → bytes_eq r.account a.name ≡ false
        → (Own r ≡ false) × (After r ≡ Before r)
    other_one r apart =
        let off : is_called r.account a ≡ false =
        other_name a.name r.account (λ same. true≢false (sym (own_name a.name)
        ∙ (ap (λ n. bytes_eq n a.name) same ∙ apart))) in
        let same : are_among (take (i + 1) accounts) r.account
        ≡ are_among (take i accounts) r.account =
        ap (λ those. are_among those r.account) (taken accounts i a some is)
        ∙ (list_any-append (is_called r.account) (take i accounts) (a ∷ [])
        ∙ (ap (λ b. are_among (take i accounts) r.account || (b || false)) off
        ∙ or_none (are_among (take i accounts) r.account))) in (
          rw apart refl,
          ap (λ b. b && is_own_due unpaid from to t r.account r) same,
        )

    -- with the rows of one account more
    pub more_rows : (listed more : List AccountObligation)
        → IsPermutation (filter Before (t Obligations)) (map owed_row listed)
        → IsPermutation (filter Own (t Obligations)) (map owed_row more)
        → IsPermutation (filter After (t Obligations)) (map owed_row (listed ++ more))
    more_rows listed more so_far own =
        subst (λ l. IsPermutation (filter After (t Obligations)) l)
        (sym (map-append owed_row listed more))
        (IsPermutation-trans _ _ _ (sieved Before Own After each (t Obligations))
        (IsPermutation-append _ _ _ _ so_far own))
      where
        each : (r : ObligationRow) → ((Before r ≡ false) × (After r ≡ Own r))
            ⊎ ((Own r ≡ false) × (After r ≡ Before r))
        each r = elim (cases_Bool (bytes_eq r.account a.name)) [
          | inl same ↦ inl (own_one r same)
          | inr apart ↦ inr (other_one r apart)
        ]

  -- ---- all accounts

  among_is : (accounts : List KeptAccount) → KnowsAccounts accounts t → (name : List ℕ)
      → are_among accounts name ≡ has_account t name
  among_is accounts known name =
      let test : List ℕ → Bool = λ n. bytes_eq n name in
      sym (any_mapped name_of test accounts)
      ∙ (sym (list_any-IsPermutation test (map name_in_row (t Accounts)) (map name_of accounts)
      known.in_table) ∙ any_mapped name_in_row test (t Accounts))

  pub all_rows : (accounts : List KeptAccount) (listed : List AccountObligation)
      → KnowsAccounts accounts t
      → IsPermutation (filter (is_due_among accounts) (t Obligations)) (map owed_row listed)
      → IsPermutation (filter (is_due_in unpaid from to t) (t Obligations)) (map owed_row listed)
  all_rows accounts listed known rows =
      subst (λ l. IsPermutation l (map owed_row listed))
      (filter_agree (is_due_among accounts) (is_due_in unpaid from to t)
      (λ r. ap (λ b. b && is_own_due unpaid from to t r.account r)
      (among_is accounts known r.account)) (t Obligations)) rows

  -- no row is due of no account
  pub none_rows : (rows : List ObligationRow) → filter (is_due_among []) rows ≡ []
  none_rows [] = refl
  none_rows (r ∷ rows) = none_rows rows
