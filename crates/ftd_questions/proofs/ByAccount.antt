-- The obligations that are due on some days, read account by account.
use Rattle.std.proofs.Common.{◌≡◌, ◌∙◌, inl, inr, refl, sym, ap, subst, ℕ, ◌+◌, ◌<◌, ◌≤◌, ◌++◌}
use Rattle.std.proofs.Common.{true, false, List, [], ◌∷◌, length, take, get_or, map}
use Rattle.std.proofs.Common.{Option, Some, arith}
use Rattle.std.specs.Prelude.{filter, nat_le, string_bytes}
use Rattle.std.specs.List.Sorted.{IsPermutation}
use Rattle.std.proofs.lemmas.List.Sorted.{IsPermutation-refl}
use Rattle.std.proofs.lemmas.List.{append-nil, append_assoc}
use Rattle.std.proofs.lemmas.Bool.{leb-true, le-leb, and_parts}
use Rattle.ftd_days.proofs.Spelling.{same_text}
use Rattle.ftd_rules.specs.declared.Obligation.{Obligation}
use Rattle.ftd_rules.specs.Accounts.{is_account_name}
use Rattle.ftd_rules.specs.Lists.{Has}
use Rattle.ftd_rules.specs.Obligations.{ByFirstDay}
use Rattle.ftd_rules.proofs.Owed.{has_append, has_left, has_right}
use Rattle.ftd_rules.proofs.Members.{has_mapped, mapped_has, has_kept}
use Rattle.ftd_sql.specs.Standing.{Tables}
use Rattle.ftd_sql.specs.declared.TableName.TheVariants.{Obligations}
use Rattle.ftd_store.specs.Lists.{Pairs}
use Rattle.ftd_store.specs.declared.obligation_cells.AccountObligation.{AccountObligation}
use Rattle.ftd_store.proofs.Items.{has_at, has_more, has_now, has_still, paired_from, paired_to}
use Rattle.ftd_store.proofs.Items.{kept_pair, left_pair}
use Rattle.ftd_store.proofs.Replaced.{all_taken}
use Rattle.ftd_machine.specs.Agenda.{EachToLater, IsNameBefore}
use Rattle.ftd_machine.specs.History.{year_of_entry, year_of_line}
use Rattle.ftd_machine.specs.Kept.{IsAccountBefore}
use Rattle.ftd_machine.specs.Sound.{IsSound}
use Rattle.ftd_machine.specs.State.{State, entries_of, is_of}
use Rattle.ftd_machine.specs.declared.entries.Account.{Account}
use Rattle.ftd_machine.specs.declared.kept.KeptAccount.{KeptAccount}
use Rattle.ftd_machine.proofs.Members.{has_filtered, some_of}
use Rattle.ftd_entries.specs.Standing.{StandsFor}
use Rattle.ftd_entries.proofs.OwedRows.{kept_by_first_day}
use Rattle.ftd_entries.specs.Accounts.{KnowsAccounts}
use Rattle.ftd_questions.specs.Listing.{AddsDue, AreDue, AreOwn, HasOwed, IsOwedBefore, IsOwedBy}
use Rattle.ftd_questions.specs.Listing.{IsUnpaidBy, ListsDue, ListsOwn, is_due_on, owed_row}
use Rattle.ftd_questions.proofs.EachLater.{each_at}
use Rattle.ftd_questions.proofs.OwedDays.{piece}
use Rattle.ftd_questions.proofs.TablesDue.{all_rows, due_rows, is_due_among, more_rows, none_rows}

-- ---- orders

pub each_append : {X : Type 0} (R : X → X → Type 0) (xs ys : List X) → EachToLater R xs
    → EachToLater R ys → ((x y : X) → Has xs x → Has ys y → R x y) → EachToLater R (xs ++ ys)
each_append R [] ys first second across = second
each_append R (x ∷ xs) ys first second across = (
  (λ later has. elim (has_append xs ys later has) [
    | inl own ↦ first.0 later own
    | inr other ↦ across x later (inl refl) other
  ]),
  each_append R xs ys first.1 second (λ a b h k. across a b (inr h) k),
)

-- obligations of one account, by first day
own_in_order : (name : List ℕ) (os : List Obligation) (xs : List AccountObligation)
    → Pairs (IsOwedBy name) os xs → ByFirstDay os → EachToLater IsOwedBefore xs
own_in_order name [] [] pairs rise = tt
own_in_order name [] (x ∷ xs) pairs rise = absurd pairs
own_in_order name (o ∷ os) [] pairs rise = absurd pairs
own_in_order name (o ∷ os) (x ∷ xs) pairs rise = (
  (λ later has.
      (let p = paired_from (IsOwedBy name) os xs later pairs.1 has in
      let less : o.first < p.0.first = rise.0 p.0 p.1 in
      let here : x.obligation.first ≡ o.first = ap (λ (q : Obligation). q.first) pairs.0.1 in
      let there : later.obligation.first ≡ p.0.first =
      ap (λ (q : Obligation). q.first) p.2.1 in
      inr (pairs.0.0 ∙ sym p.2.0, omega arith))),
  own_in_order name os xs pairs.1 rise.1,
)

-- ---- one account's

module _ (from to : ℕ) (name : List ℕ) (os : List Obligation) (i : ℕ) (o : Obligation)
    (some : i < length os) (is : o ≡ get_or os i o) (before listed : List AccountObligation)
    (so_far : AddsDue from to name (take i os) before listed) where
  -- one obligation more that is due on the days, or one that is not
  pub adds_kept : (x : AccountObligation) → is_due_on from to o ≡ true → IsOwedBy name o x
      → AddsDue from to name (take (i + 1) os) before (listed ++ x ∷ [])
  adds_kept x its owed = (
    so_far.0 ++ x ∷ [],
    kept_pair (IsOwedBy name) (is_due_on from to) os so_far.0 i o some is so_far.1 x its owed,
    ap (λ (l : List AccountObligation). l ++ x ∷ []) so_far.2
        ∙ append_assoc before so_far.0 (x ∷ []),
  )

  pub adds_left : is_due_on from to o ≡ false
      → AddsDue from to name (take (i + 1) os) before listed
  adds_left other = (
    so_far.0,
    left_pair (IsOwedBy name) (is_due_on from to) os so_far.0 i o some is so_far.1 other,
    so_far.2,
  )

pub adds_none : (from to : ℕ) (name : List ℕ) (before : List AccountObligation)
    → AddsDue from to name [] before before
adds_none from to name before = ([], tt, sym (append-nil before))

-- ---- account after account

-- an account of this name is among these
abbrev pub IsAmong : List KeptAccount → List ℕ → Type 0
IsAmong accounts name = (a : KeptAccount) × Has accounts a × (a.name ≡ name)

module _ (unpaid : Option ℕ) (from to : ℕ) (t : Tables) (s : State) (stands : StandsFor t s)
    (sound : IsSound s) where
  abbrev owed : List ℕ → List Obligation
  owed name = (stands.settled name).owed

  -- the obligations of the accounts among these that are due on the days and not paid
  pub record AreDueOf (accounts : List KeptAccount) (listed : List AccountObligation)
      : Type 0 where
    pub in_order : EachToLater IsOwedBefore listed
    pub owes : (name : List ℕ) (o : Obligation) → HasOwed listed name o
        → IsAmong accounts name × Has (owed name) o × (from ≤ o.due) × (o.due ≤ to)
        × IsUnpaidBy unpaid s name o
    pub all : (name : List ℕ) (o : Obligation) → IsAmong accounts name → Has (owed name) o
        → from ≤ o.due → o.due ≤ to → IsUnpaidBy unpaid s name o → HasOwed listed name o

  pub of_none : AreDueOf [] []
  of_none = record {
    in_order = tt;
    owes = λ name o h. absurd h.1;
    all = λ name o among has since until is_unpaid. absurd among.1;
  }

  module _ (accounts : List KeptAccount) (by_name : EachToLater IsAccountBefore accounts) (i : ℕ)
      (a : KeptAccount) (some : i < length accounts) (is : a ≡ get_or accounts i a)
      (found : List Obligation) (own : AreOwn unpaid from to s a.name (owed a.name) found)
      (listed after : List AccountObligation) (adds : AddsDue from to a.name found listed after)
      (so_far : AreDueOf (take i accounts) listed) where
    abbrev more : List AccountObligation
    more = adds.0

    -- one that was added is owed by the account
    of_more : (x : AccountObligation) → Has more x → (string_bytes x.account ≡ a.name)
        × Has (owed a.name) x.obligation × (from ≤ x.obligation.due) × (x.obligation.due ≤ to)
        × IsUnpaidBy unpaid s a.name x.obligation
    of_more x has =
        let p = paired_from (IsOwedBy a.name) (filter (is_due_on from to) found) more x adds.1 has
        in
        let kept = has_filtered (is_due_on from to) found p.0 p.1 in
        let days = and_parts (nat_le from p.0.due) (nat_le p.0.due to) kept.1 in
        let until = leb-true p.0.due to days.1 in
        subst (λ o. (string_bytes x.account ≡ a.name) × Has (owed a.name) o × (from ≤ o.due)
        × (o.due ≤ to) × IsUnpaidBy unpaid s a.name o) (sym p.2.1) (
          p.2.0,
          own.owes p.0 kept.0,
          leb-true from p.0.due days.0,
          until,
          own.left p.0 kept.0 until,
        )

    -- and each that the account owes and has not paid was added
    to_more : (o : Obligation) → Has (owed a.name) o → from ≤ o.due → o.due ≤ to
        → IsUnpaidBy unpaid s a.name o → HasOwed more a.name o
    to_more o has since until is_unpaid =
        let low : nat_le from o.due ≡ true = le-leb from o.due since in
        let high : nat_le o.due to ≡ true = le-leb o.due to until in
        let its : is_due_on from to o ≡ true = rw (low, high) refl in
        paired_to (IsOwedBy a.name) (filter (is_due_on from to) found) more o adds.1
        (has_kept (is_due_on from to) found o (own.all o has since until is_unpaid) its)

    more_in_order : EachToLater IsOwedBefore more
    more_in_order = own_in_order a.name (filter (is_due_on from to) found) more adds.1
        (kept_by_first_day (is_due_on from to) found own.by_first_day)

    across : (x y : AccountObligation) → Has listed x → Has more y → IsOwedBefore x y
    across x y hx hy =
        let among = (so_far.owes (string_bytes x.account) x.obligation (x, hx, (refl, refl))).0 in
        let before = each_at IsAccountBefore accounts i a among.0 by_name some is among.1 in
        inl (subst (λ n. IsNameBefore n (string_bytes y.account)) among.2
        (subst (IsNameBefore among.0.name) (sym (of_more y hy).0) before))

    forth : (name : List ℕ) (o : Obligation) → HasOwed (listed ++ more) name o
        → IsAmong (take (i + 1) accounts) name × Has (owed name) o × (from ≤ o.due) × (o.due ≤ to)
        × IsUnpaidBy unpaid s name o
    forth name o (x, has, is_owed) = elim (has_append listed more x has) [
      | inl here ↦
          (let h = so_far.owes name o (x, here, is_owed) in
          ((h.0.0, has_still accounts i a h.0.0 some is h.0.1, h.0.2), h.1, h.2, h.3, h.4))
      | inr new ↦
          (let h = of_more x new in
          let same : a.name ≡ name = sym h.0 ∙ is_owed.0 in
          let its : x.obligation ≡ o = is_owed.1 in (
            (a, has_now accounts i a some is, same),
            subst (λ n. Has (owed n) o) same (subst (Has (owed a.name)) its h.1),
            subst (λ (p : Obligation). from ≤ p.due) its h.2,
            subst (λ (p : Obligation). p.due ≤ to) its h.3,
            subst (λ n. IsUnpaidBy unpaid s n o) same
                (subst (IsUnpaidBy unpaid s a.name) its h.4),
          ))
    ]

    back : (name : List ℕ) (o : Obligation) → IsAmong (take (i + 1) accounts) name
        → Has (owed name) o → from ≤ o.due → o.due ≤ to → IsUnpaidBy unpaid s name o
        → HasOwed (listed ++ more) name o
    back name o among has since until is_unpaid =
        elim (has_more accounts i a among.0 some is among.1) [
          | inl before ↦
              (let h = so_far.all name o (among.0, before, among.2) has since until is_unpaid in
              (h.0, has_left listed more h.0 h.1, h.2))
          | inr here ↦
              (let same : a.name ≡ name = ap (λ (k : KeptAccount). k.name) (sym here) ∙ among.2 in
              let h = to_more o (subst (λ n. Has (owed n) o) (sym same) has) since until
              (subst (λ n. IsUnpaidBy unpaid s n o) (sym same) is_unpaid) in
              (h.0, has_right listed more h.0 h.1, (h.2.0 ∙ same, h.2.1)))
        ]

    -- with those of one account more
    pub of_more_accounts : AreDueOf (take (i + 1) accounts) after
    of_more_accounts =
        subst (AreDueOf (take (i + 1) accounts)) (sym adds.2) (record {
          in_order = each_append IsOwedBefore listed more so_far.in_order more_in_order across;
          owes = forth;
          all = back;
        })

  -- ---- all accounts

  -- who owes is enrolled
  owes_enrolled : (name : List ℕ) (o : Obligation) → Has (owed name) o
      → (account : Account) × ((entries_of s name).account ≡ Some account)
  owes_enrolled name o has =
      let own = entries_of s name in
      let settled = stands.settled name in
      let its = piece name t s stands o has in
      let year = has_mapped year_of_entry own.open_years (year_of_line its.line)
      (subst (λ ys. Has ys (year_of_line its.line)) settled.are_lines.years
      (mapped_has year_of_line settled.lines its.line its.open_year)) in
      let kept = has_filtered (is_of name) s.open_years year.0 year.1 in
      let same : year.0.name ≡ name = same_text year.0.name name kept.1 in
      let there = some_of (entries_of s year.0.name).account (sound.enrolled year.0 kept.0) in
      (there.0, subst (λ n. (entries_of s n).account ≡ Some there.0) same there.1)

  of_all : (accounts : List KeptAccount) (listed : List AccountObligation)
      → KnowsAccounts accounts t → AreDueOf accounts listed
      → AreDue unpaid from to listed t s stands
  of_all accounts listed known due = record {
    in_order = due.in_order;
    all = λ name o. (
      (λ h. let k = due.owes name o h in (k.1, k.2, k.3, k.4)),
      (λ h.
          (let enrolled = owes_enrolled name o h.0 in
          let a : KeptAccount = record { name = name; account = enrolled.0 } in
          let among : IsAmong accounts name =
          (a, (known.all s stands sound a).1 enrolled.1, refl) in
          due.all name o among h.0 h.1 h.2 h.3)),
    );
  }

-- ---- as far as a loop has come

-- these are all accounts, and the obligations of those before the place, in the tables too
pub record SoFarDue (unpaid : Option ℕ) (from to : ℕ) (accounts : List KeptAccount) (i : ℕ)
    (listed : List AccountObligation) (t : Tables) : Type 0 where
  pub known : KnowsAccounts accounts t
  pub due : (s : State) (stands : StandsFor t s) (sound : IsSound s)
      → AreDueOf unpaid from to t s stands sound (take i accounts) listed
  pub rows : IsPermutation (filter (is_due_among unpaid from to t (take i accounts))
      (t Obligations)) (map owed_row listed)
  pub names : (x : AccountObligation) → Has listed x
      → is_account_name (string_bytes x.account) ≡ true

pub so_far_due_none : (unpaid : Option ℕ) (from to : ℕ) (accounts : List KeptAccount) (t : Tables)
    → KnowsAccounts accounts t → SoFarDue unpaid from to accounts 0 [] t
so_far_due_none unpaid from to accounts t known = record {
  known = known;
  due = λ s stands sound. of_none unpaid from to t s stands sound;
  rows = subst (λ l. IsPermutation l []) (sym (none_rows unpaid from to t (t Obligations)))
      (IsPermutation-refl []);
  names = λ x has. absurd has;
}

-- those that were added have the name of the account
names_more : (from to : ℕ) (name : List ℕ) (found : List Obligation)
    (listed more : List AccountObligation)
    → Pairs (IsOwedBy name) (filter (is_due_on from to) found) more → is_account_name name ≡ true
    → ((x : AccountObligation) → Has listed x → is_account_name (string_bytes x.account) ≡ true)
    → (x : AccountObligation) → Has (listed ++ more) x
    → is_account_name (string_bytes x.account) ≡ true
names_more from to name found listed more pairs its so_far x has =
    elim (has_append listed more x has) [
      | inl before ↦ so_far x before
      | inr new ↦ ap is_account_name (paired_from (IsOwedBy name)
          (filter (is_due_on from to) found) more x pairs new).2.0 ∙ its
    ]

pub so_far_due_more : (unpaid : Option ℕ) (from to : ℕ) (accounts : List KeptAccount) (i : ℕ)
    (a : KeptAccount) (name : List ℕ) (given found : List Obligation)
    (listed after : List AccountObligation) (t : Tables) → i < length accounts
    → a ≡ get_or accounts i a → name ≡ a.name → given ≡ found
    → AddsDue from to name given listed after → SoFarDue unpaid from to accounts i listed t
    → ListsOwn unpaid from to name found t → SoFarDue unpaid from to accounts (i + 1) after t
so_far_due_more unpaid from to accounts i a name given found listed after t some is named its adds
    so_far own =
    let added : AddsDue from to a.name found listed after =
    subst (λ n. AddsDue from to n found listed after) named
    (subst (λ os. AddsDue from to name os listed after) its adds) in
    let listed_own : ListsOwn unpaid from to a.name found t =
    subst (λ n. ListsOwn unpaid from to n found t) named own in
    record {
      known = so_far.known;
      due = λ s stands sound. of_more_accounts unpaid from to t s stands sound accounts
          so_far.known.by_name i a some is found (listed_own.known s stands sound) listed after
          added (so_far.due s stands sound);
      rows = subst (λ l. IsPermutation
          (filter (is_due_among unpaid from to t (take (i + 1) accounts)) (t Obligations))
          (map owed_row l)) (sym added.2) (more_rows unpaid from to t accounts
          so_far.known.by_name i a some is listed added.0 so_far.rows
          (due_rows a.name from to t unpaid found added.0 listed_own.rows added.1));
      names = subst (λ l. (x : AccountObligation) → Has l x
          → is_account_name (string_bytes x.account) ≡ true) (sym added.2)
          (names_more from to a.name found listed added.0 added.1
          (so_far.known.names a (has_at accounts i a some is)) so_far.names);
    }

pub due_known_all : (unpaid : Option ℕ) (from to : ℕ) (accounts : List KeptAccount) (i : ℕ)
    (listed : List AccountObligation) (t : Tables) → length accounts ≤ i
    → SoFarDue unpaid from to accounts i listed t → ListsDue unpaid from to listed t
due_known_all unpaid from to accounts i listed t all so_far = record {
  known = λ s stands sound. of_all unpaid from to t s stands sound accounts listed so_far.known
      (subst (λ xs. AreDueOf unpaid from to t s stands sound xs listed)
      (all_taken accounts i all) (so_far.due s stands sound));
  rows = all_rows unpaid from to t accounts listed so_far.known
      (subst (λ xs. IsPermutation (filter (is_due_among unpaid from to t xs) (t Obligations))
      (map owed_row listed)) (all_taken accounts i all) so_far.rows);
  names = so_far.names;
}
