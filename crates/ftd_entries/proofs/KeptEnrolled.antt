-- The accounts that are told by the rows of the table are all that are enrolled.
use Rattle.std.proofs.Common.{◌≡◌, ◌∙◌, refl, sym, ap, subst, ℕ, List, [], ◌∷◌, Some, None}
use Rattle.std.proofs.Common.{Option, ◌++◌, ◌+◌, ◌<◌, ◌≤◌, take, length, get_or, inl, inr, map, true}
use Rattle.std.specs.List.{list_all}
use Rattle.std.specs.List.Sorted.{IsPermutation}
use Rattle.std.proofs.lemmas.Bool.{and_parts}
use Rattle.std.proofs.lemmas.List.Sorted.{IsPermutation-map}
use Rattle.ftd_store.specs.Lists.{Lists, Pairs}
use Rattle.ftd_store.proofs.Items.{taken, pairs_more, paired_from, paired_to}
use Rattle.ftd_store.proofs.Replaced.{all_taken}
use Rattle.ftd_entries.specs.Known.{KnowsAccount}
use Rattle.std.specs.Prelude.{filter, string_bytes, unwrap_or}
use Rattle.ftd_days.proofs.Spelling.{same_text}
use Rattle.ftd_rules.specs.Accounts.{is_account_name}
use Rattle.ftd_rules.specs.Lists.{Has}
use Rattle.ftd_rules.proofs.Members.{mapped_has}
use Rattle.ftd_sql.specs.Orders.{NamesRise}
use Rattle.ftd_sql.specs.Rows.{AccountRow}
use Rattle.ftd_sql.specs.Standing.{Tables}
use Rattle.ftd_sql.specs.Tests.{is_any_account}
use Rattle.ftd_sql.specs.declared.TableName.TheVariants.{Accounts}
use Rattle.ftd_store.specs.Rows.{account_row}
use Rattle.ftd_store.specs.declared.kept_cells.NamedAccount.{NamedAccount}
use Rattle.ftd_store.specs.Kept.{IsNamedAccount}
use Rattle.ftd_machine.specs.Agenda.{EachToLater}
use Rattle.ftd_machine.specs.Kept.{IsAccountBefore, IsEnrolled}
use Rattle.ftd_machine.specs.State.{State, Enrolled, account_of, is_named, enrolled_in, moves_in}
use Rattle.ftd_machine.specs.State.{account_in_force, entries_of}
use Rattle.ftd_machine.specs.declared.entries.Account.{Account}
use Rattle.ftd_machine.specs.declared.entries.Beginning.{Beginning}
use Rattle.ftd_machine.specs.declared.kept.KeptAccount.{KeptAccount}
use Rattle.ftd_machine.proofs.Members.{found_some}
use Rattle.ftd_entries.specs.Standing.{StandsFor, enrolled_row}
use Rattle.ftd_entries.proofs.ListedRows.{passing_value}
use Rattle.ftd_entries.specs.Accounts.{AreToldAccounts, IsToldAccount, KnowsAccounts, kept_account}
use Rattle.ftd_entries.specs.Accounts.{has_account_name, name_in_row, name_of}

abbrev name_read : NamedAccount → List ℕ
name_read a = string_bytes a.name

abbrev row_of : NamedAccount → AccountRow
row_of a = account_row (string_bytes a.name) a.account

-- what is in force was enrolled
was_enrolled : (o : Option Account) (moves : List Beginning) (a : Account)
    → account_in_force o moves ≡ Some a → (first : Account) × (o ≡ Some first)
was_enrolled None moves a is = absurd cc
was_enrolled (Some first) moves a is = (first, refl)

same_some : (a b : Account) → Some a ≡ Some b → a ≡ b
same_some a b is = ap (λ o. unwrap_or o a) is

same_row : (x y : KeptAccount) → x.name ≡ y.name → x.account ≡ y.account → x ≡ y
same_row x y name account = λ i. record { name = name i; account = account i }

module _ (rows : List KeptAccount) (t : Tables) (told : AreToldAccounts rows t) (s : State)
    (stands : StandsFor t s) where
  told_is : (x : KeptAccount) → Has rows x → IsEnrolled s x
  told_is x has =
      let from = paired_from (IsToldAccount t) told.named rows x told.are_told has in
      ap (λ n. (entries_of s n).account) from.2.0 ∙ from.2.1 s stands

  is_told : (x : KeptAccount) → IsEnrolled s x → Has rows x
  is_told x is =
      let first = was_enrolled (enrolled_in s x.name) (moves_in s x.name) x.account is in
      let found = found_some account_of (is_named x.name) s.accounts first.0 first.1 in
      let e : Enrolled = found.0 in
      let row : Has (t Accounts) (enrolled_row e) =
      subst (λ rs. Has rs (enrolled_row e)) (sym stands.entries.enrolled.accounts)
      (mapped_has enrolled_row s.accounts e found.1) in
      let item = passing_value row_of NamesRise is_any_account (t Accounts) told.named
      told.are_named (enrolled_row e) row refl in
      let own : string_bytes item.0.name ≡ x.name =
      ap (λ (r : AccountRow). r.name) (sym item.2) ∙ same_text e.name x.name found.2 in
      let as_told = paired_to (IsToldAccount t) told.named rows item.0 told.are_told item.1 in
      let name : as_told.0.name ≡ x.name = as_told.2.0 ∙ own in
      let account : as_told.0.account ≡ x.account =
      same_some as_told.0.account x.account (sym (as_told.2.1 s stands)
      ∙ ap (λ n. (entries_of s n).account) own ∙ is) in
      subst (Has rows) (same_row as_told.0 x name account) as_told.1

-- ---- their names

-- each row is kept where any account is
all_kept : (rows : List AccountRow) → filter is_any_account rows ≡ rows
all_kept [] = refl
all_kept (r ∷ rows) = ap (λ (rs : List AccountRow). r ∷ rs) (all_kept rows)

row_names : (ordered : List AccountRow) (named : List NamedAccount)
    → Pairs IsNamedAccount ordered named → map name_in_row ordered ≡ map name_read named
row_names [] [] pairs = refl
row_names [] (x ∷ named) pairs = absurd pairs
row_names (r ∷ ordered) [] pairs = absurd pairs
row_names (r ∷ ordered) (x ∷ named) pairs =
    ap (λ n. n ∷ map name_in_row ordered) (ap name_in_row pairs.0)
    ∙ ap (λ ns. name_read x ∷ ns) (row_names ordered named pairs.1)

told_names : (t : Tables) (named : List NamedAccount) (rows : List KeptAccount)
    → Pairs (IsToldAccount t) named rows → map name_read named ≡ map name_of rows
told_names t [] [] pairs = refl
told_names t [] (x ∷ rows) pairs = absurd pairs
told_names t (n ∷ named) [] pairs = absurd pairs
told_names t (n ∷ named) (x ∷ rows) pairs =
    ap (λ m. m ∷ map name_read named) (sym pairs.0.0)
    ∙ ap (λ ns. name_of x ∷ ns) (told_names t named rows pairs.1)

-- they are the names of the table's rows
same_names : (rows : List KeptAccount) (t : Tables) → AreToldAccounts rows t
    → IsPermutation (map name_in_row (t Accounts)) (map name_of rows)
same_names rows t told =
    subst (λ ns. IsPermutation (map name_in_row (t Accounts)) ns)
    (row_names told.are_named.ordered told.named told.are_named.pairs
    ∙ told_names t told.named rows told.are_told)
    (IsPermutation-map name_in_row (t Accounts) told.are_named.ordered
    (subst (λ rs. IsPermutation rs told.are_named.ordered) (all_kept (t Accounts))
    told.are_named.same))

-- where all have the name of an account, each does
each_named : (rows : List KeptAccount) → list_all has_account_name rows ≡ true → (x : KeptAccount)
    → Has rows x → is_account_name x.name ≡ true
each_named [] all x has = absurd has
each_named (y ∷ rows) all x (inl is) =
    ap has_account_name is ∙ (and_parts (has_account_name y) (list_all has_account_name rows) all).0
each_named (y ∷ rows) all x (inr has) =
    each_named rows (and_parts (has_account_name y) (list_all has_account_name rows) all).1 x has

-- they are all accounts, by name
pub knows_accounts : (rows : List KeptAccount) (t : Tables)
    → list_all has_account_name rows ≡ true → EachToLater IsAccountBefore rows
    → AreToldAccounts rows t → KnowsAccounts rows t
knows_accounts rows t names rise told = record {
  in_table = same_names rows t told;
  names = each_named rows names;
  by_name = rise;
  all = λ s stands sound x. (told_is rows t told s stands x, is_told rows t told s stands x);
}

-- ---- row after row

abbrev pub SoFarTold : List NamedAccount → ℕ → List KeptAccount → Tables → Type 0
SoFarTold items i rows t =
    Lists NamesRise IsNamedAccount (filter is_any_account (t Accounts)) items
    × Pairs (IsToldAccount t) (take i items) rows

pub told_more : (items : List NamedAccount) (i : ℕ) (row : NamedAccount) (name again : List ℕ)
    (found : Option Account) (account : Account) (rows new : List KeptAccount) (t : Tables)
    → i < length items → row ≡ get_or items i row → name ≡ string_bytes row.name
    → again ≡ string_bytes row.name → found ≡ Some account
    → new ≡ rows ++ kept_account again account ∷ []
    → SoFarTold items i rows t → KnowsAccount name found t → SoFarTold items (i + 1) new t
told_more items i row name again found account rows new t some is named same there added so_far
    knows =
    let known : KnowsAccount (string_bytes row.name) (Some account) t =
    subst (λ n. KnowsAccount n (Some account) t) named
    (subst (λ f. KnowsAccount name f t) there knows) in (
      so_far.0,
      subst (λ l. Pairs (IsToldAccount t) l new) (sym (taken items i row some is))
          (subst (Pairs (IsToldAccount t) (take i items ++ row ∷ [])) (sym added)
          (pairs_more (IsToldAccount t) (take i items) rows row (kept_account again account)
          so_far.1 (same, known))),
    )

pub told_all : (items : List NamedAccount) (i : ℕ) (rows : List KeptAccount) (t : Tables)
    → length items ≤ i → SoFarTold items i rows t → AreToldAccounts rows t
told_all items i rows t through so_far = record {
  named = items;
  are_named = so_far.0;
  are_told = subst (λ l. Pairs (IsToldAccount t) l rows) (all_taken items i through) so_far.1;
}
