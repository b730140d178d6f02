-- The rows of obligations in the table, of which those of an account that begin on some days were
-- replaced.
use Rattle.std.proofs.Common.{◌≡◌, ◌≢◌, ℕ, ◌+◌, ◌<◌, ◌≤◌, ◌↔◌, inl, inr, List, [], ◌∷◌, ◌++◌, map}
use Rattle.std.proofs.Common.{append_assoc, append-nil, Bool, true, false, not, ◌&&◌, refl, sym, ap}
use Rattle.std.proofs.Common.{◌∙◌, subst, arith}
use Rattle.std.specs.Prelude.{filter, nat_le, bytes_eq, int_le}
use Rattle.std.specs.List.Sorted.{IsPermutation}
use Rattle.std.proofs.lemmas.Bool.{cases_Bool, lt-ltb, le-ltb, le-leb, lt-leb, leb-true, and_parts}
use Rattle.std.proofs.lemmas.Bool.{cases_lt}
use Rattle.std.proofs.lemmas.List.{map-append}
use Rattle.std.proofs.lemmas.List.Elements.{filter-append}
use Rattle.std.proofs.lemmas.List.Sorted.{IsPermutation-refl, IsPermutation-trans}
use Rattle.std.proofs.lemmas.List.Sorted.{IsPermutation-sym, IsPermutation-cons}
use Rattle.std.proofs.lemmas.List.Sorted.{IsPermutation-middle, IsPermutation-append_left}
use Rattle.std.proofs.lemmas.List.Sorted.{IsPermutation-append_right, IsPermutation-append_comm}
use Rattle.ftd_days.proofs.Spelling.{same_text}
use Rattle.ftd_rules.specs.declared.Obligation.{Obligation}
use Rattle.ftd_rules.specs.Lists.{Has}
use Rattle.ftd_rules.proofs.Rising.{has_permuted}
use Rattle.ftd_rules.proofs.Members.{has_mapped, mapped_has, filter_in, filter_out, has_kept}
use Rattle.ftd_rules.specs.Obligations.{begins_on}
use Rattle.ftd_sql.specs.Rows.{ObligationRow}
use Rattle.ftd_sql.specs.Tests.{is_obligation_between}
use Rattle.ftd_store.specs.Cells.{day_number}
use Rattle.ftd_store.specs.Rows.{obligation_row}
use Rattle.ftd_store.proofs.Sifted.{both_tests, both_are, sifted}
use Rattle.ftd_machine.proofs.Adding.{own_name, other_name}
use Rattle.ftd_machine.proofs.Members.{has_filtered}
use Rattle.ftd_entries.specs.Standing.{is_obligation_of}
use Rattle.ftd_entries.proofs.OwedRows.{obligation_is}
use Rattle.ftd_entries.proofs.DayCells.{day_le}
use Rattle.ftd_repairs.specs.Replaced.{begins_before, begins_after, patched}
use Rattle.ftd_posting.proofs.Differing.{BeginsWithin}

-- what passes a test is among what passes a wider one
pub filter_within : {X : Type 0} (p q : X → Bool) → ((x : X) → p x ≡ true → q x ≡ true)
    → (xs : List X) → filter p (filter q xs) ≡ filter p xs
filter_within p q wider [] = refl
filter_within {X = X} p q wider (x ∷ xs) =
    let rest = filter_within p q wider xs in
    elim (cases_Bool (p x)) [
      | inl its ↦ ap (filter p) (filter_in q x xs (wider x its))
          ∙ (filter_in p x (filter q xs) its
          ∙ (ap (λ (l : List X). x ∷ l) rest ∙ sym (filter_in p x xs its)))
      | inr off ↦ elim (cases_Bool (q x)) [
        | inl kept ↦ ap (filter p) (filter_in q x xs kept)
            ∙ (filter_out p x (filter q xs) off ∙ (rest ∙ sym (filter_out p x xs off)))
        | inr left ↦ ap (filter p) (filter_out q x xs left) ∙ (rest ∙ sym (filter_out p x xs off))
      ]
    ]

module _ (account : List ℕ) (from to : ℕ) where
  abbrev pub goes : ObligationRow → Bool
  goes = is_obligation_between account (day_number from) (day_number to)

  -- a row that stays
  abbrev pub stays : ObligationRow → Bool
  stays o = not (goes o)

  abbrev row : Obligation → ObligationRow
  row = obligation_row account

  abbrev own : ObligationRow → Bool
  own = is_obligation_of account

  -- of the account's rows those go that begin on the days
  goes_is : (o : Obligation) → goes (row o) ≡ (nat_le from o.first && nat_le o.first to)
  goes_is o =
      ap (λ b. b && (int_le (day_number from) (day_number o.first) && int_le (day_number o.first)
      (day_number to))) (own_name account)
      ∙ ap (λ b. b && int_le (day_number o.first) (day_number to)) (day_le from o.first)
      ∙ ap (λ b. nat_le from o.first && b) (day_le o.first to)

  goes_within : (o : Obligation) → goes (row o) ≡ true → BeginsWithin from to o
  goes_within o e =
      let k = and_parts (nat_le from o.first) (nat_le o.first to) (sym (goes_is o) ∙ e) in
      (leb-true from o.first k.0, leb-true o.first to k.1)

  within_goes : (o : Obligation) → BeginsWithin from to o → goes (row o) ≡ true
  within_goes o within =
      let low : nat_le from o.first ≡ true = le-leb from o.first within.0 in
      let high : nat_le o.first to ≡ true = le-leb o.first to within.1 in
      goes_is o ∙ rw (low, high) refl

  before_stays : (o : Obligation) → o.first < from → stays (row o) ≡ true
  before_stays o l =
      let low : nat_le from o.first ≡ false = lt-leb from o.first l in
      let off : goes (row o) ≡ false = goes_is o ∙ rw low refl in
      ap not off

  after_stays : (o : Obligation) → from ≤ o.first → to < o.first → stays (row o) ≡ true
  after_stays o l m =
      let low : nat_le from o.first ≡ true = le-leb from o.first l in
      let high : nat_le o.first to ≡ false = lt-leb o.first to m in
      let off : goes (row o) ≡ false = goes_is o ∙ rw (low, high) refl in
      ap not off

  -- ---- the account's rows

  own_rows : (os : List Obligation) → filter own (map row os) ≡ map row os
  own_rows [] = refl
  own_rows (o ∷ os) = filter_in own (row o) (map row os) (own_name account)
      ∙ ap (λ rows. row o ∷ rows) (own_rows os)

  -- of the rows of some obligations those stay that begin before the days, and those that begin
  -- after them
  parts : (os : List Obligation) → from ≤ to + 1
      → IsPermutation (filter stays (map row os))
      (map row (filter (begins_before from) os) ++ map row (filter (begins_after to) os))
  parts [] some = IsPermutation-refl []
  parts (o ∷ os) some =
      let front : List ObligationRow = map row (filter (begins_before from) os) in
      let back : List ObligationRow = map row (filter (begins_after to) os) in
      let rest : IsPermutation (filter stays (map row os)) (front ++ back) = parts os some in
      let as_left : List ObligationRow = filter stays (map row (o ∷ os)) in
      let as_right : List ObligationRow = map row (filter (begins_before from) (o ∷ os)) ++ map row
      (filter (begins_after to) (o ∷ os)) in
      elim (cases_lt o.first from) [
        | inl before ↦
            (let first : begins_before from o ≡ true = lt-ltb o.first from before in
            let not_last : begins_after to o ≡ false = le-ltb to o.first (omega arith) in
            both_are as_left as_right (row o ∷ filter stays (map row os)) (row o ∷ (front ++ back))
            (filter_in stays (row o) (map row os) (before_stays o before))
            (ap (λ l. map row l ++ map row (filter (begins_after to) (o ∷ os)))
            (filter_in (begins_before from) o os first) ∙ ap (λ l. row o ∷ (front ++ map row l))
            (filter_out (begins_after to) o os not_last))
            (IsPermutation-cons (row o) (filter stays (map row os)) (front ++ back) rest))
        | inr not_before ↦
            (let not_first : begins_before from o ≡ false = le-ltb o.first from not_before in
            let no_front = ap (λ l. map row l ++ map row (filter (begins_after to) (o ∷ os)))
            (filter_out (begins_before from) o os not_first) in
            elim (cases_lt to o.first) [
              | inl after ↦
                  both_are as_left as_right (row o ∷ filter stays (map row os))
                  (front ++ (row o ∷ back))
                  (filter_in stays (row o) (map row os) (after_stays o not_before after))
                  (no_front ∙ ap (λ l. front ++ map row l)
                  (filter_in (begins_after to) o os (lt-ltb to o.first after)))
                  (IsPermutation-trans (row o ∷ filter stays (map row os)) (row o ∷ (front ++ back))
                  (front ++ (row o ∷ back))
                  (IsPermutation-cons (row o) (filter stays (map row os)) (front ++ back) rest)
                  (IsPermutation-sym (front ++ (row o ∷ back)) (row o ∷ (front ++ back))
                  (IsPermutation-middle front (row o) back)))
              | inr within ↦
                  both_are as_left as_right (filter stays (map row os)) (front ++ back)
                  (filter_out stays (row o) (map row os)
                  (ap not (within_goes o (not_before, within))))
                  (no_front ∙ ap (λ l. front ++ map row l)
                  (filter_out (begins_after to) o os (le-ltb to o.first within)))
                  rest
            ])
      ]

  -- where the account's rows were those of some obligations, they are those of the patched ones now
  pub placed_rows : (rows : List ObligationRow) (os patch : List Obligation) → from ≤ to + 1
      → IsPermutation (filter own rows) (map row os)
      → IsPermutation (filter own (filter stays rows ++ map row patch))
      (map row (patched from to os patch))
  placed_rows rows os patch some had =
      let front : List ObligationRow = map row (filter (begins_before from) os) in
      let back : List ObligationRow = map row (filter (begins_after to) os) in
      let new : List ObligationRow = map row patch in
      let kept : List ObligationRow = filter stays (filter own rows) in
      let left : IsPermutation kept (front ++ back) =
      IsPermutation-trans kept (filter stays (map row os)) (front ++ back)
      (sifted stays (filter own rows) (map row os) had) (parts os some) in
      let moved : IsPermutation (kept ++ new) (front ++ (new ++ back)) =
      IsPermutation-trans (kept ++ new) ((front ++ back) ++ new) (front ++ (new ++ back))
      (IsPermutation-append_left new kept (front ++ back) left)
      (subst (λ l. IsPermutation l (front ++ (new ++ back))) (sym (append_assoc front back new))
      (IsPermutation-append_right front (back ++ new) (new ++ back)
      (IsPermutation-append_comm back new))) in
      both_are (filter own (filter stays rows ++ new)) (map row (patched from to os patch))
      (kept ++ new) (front ++ (new ++ back))
      (filter-append own (filter stays rows) new
      ∙ (ap (λ l. l ++ filter own new) (both_tests own stays rows)
      ∙ ap (λ l. kept ++ l) (own_rows patch)))
      (map-append row (filter (begins_before from) os) (patch ++ filter (begins_after to) os)
      ∙ ap (λ l. front ++ l) (map-append row patch (filter (begins_after to) os)))
      moved

  -- the rows that went are those of the obligations that begin on the days
  pub gone_are : (rows : List ObligationRow) (os gone : List Obligation)
      → IsPermutation (filter own rows) (map row os) → IsPermutation (filter goes rows)
      (map row gone)
      → (o : Obligation) → Has gone o ↔ (Has os o × BeginsWithin from to o)
  gone_are rows os gone had went o = (
    (λ has.
        (let there = has_filtered goes rows (row o)
        (has_permuted (filter goes rows) (map row gone) went (row o) (mapped_has row gone o has)) in
        let mine = has_permuted (map row os) (filter own rows)
        (IsPermutation-sym (filter own rows) (map row os) had) (row o)
        (has_kept own rows (row o) there.0 (own_name account)) in
        let its = has_mapped row os (row o) mine in
        (subst (Has os) (sym (obligation_is account o its.0 its.2)) its.1, goes_within o there.1))),
    (λ k.
        (let mine = has_filtered own rows (row o) (has_permuted (filter own rows) (map row os) had
        (row o) (mapped_has row os o k.0)) in
        let went_too = has_permuted (map row gone) (filter goes rows)
        (IsPermutation-sym (filter goes rows) (map row gone) went) (row o)
        (has_kept goes rows (row o) mine.0 (within_goes o k.1)) in
        let its = has_mapped row gone (row o) went_too in
        subst (Has gone) (sym (obligation_is account o its.0 its.2)) its.1)),
  )

  -- the account's rows that begin on the days are those of the obligations that do
  on_rows : (os : List Obligation) → filter goes (map row os) ≡ map row
      (filter (begins_on from to) os)
  on_rows [] = refl
  on_rows (o ∷ os) =
      elim (cases_Bool (begins_on from to o)) [
        | inl on ↦ filter_in goes (row o) (map row os) (goes_is o ∙ on)
            ∙ (ap (λ l. row o ∷ l) (on_rows os)
            ∙ sym (ap (map row) (filter_in (begins_on from to) o os on)))
        | inr off ↦ filter_out goes (row o) (map row os) (goes_is o ∙ off)
            ∙ (on_rows os ∙ sym (ap (map row) (filter_out (begins_on from to) o os off)))
      ]

  goes_own : (r : ObligationRow) → goes r ≡ true → own r ≡ true
  goes_own r its =
      (and_parts (bytes_eq r.account account) (int_le (day_number from) r.first && int_le r.first
      (day_number to)) its).0

  pub rows_between : (rows : List ObligationRow) (os : List Obligation)
      → IsPermutation (filter own rows) (map row os) → IsPermutation (filter goes rows)
      (map row (filter (begins_on from to) os))
  rows_between rows os had =
      both_are (filter goes rows) (map row (filter (begins_on from to) os))
      (filter goes (filter own rows)) (filter goes (map row os))
      (sym (filter_within goes own goes_own rows)) (sym (on_rows os))
      (sifted goes (filter own rows) (map row os) had)

  -- ---- the rows of other accounts

  none_of : (other : List ℕ) → other ≢ account → (os : List Obligation)
      → filter (is_obligation_of other) (map row os) ≡ []
  none_of other apart [] = refl
  none_of other apart (o ∷ os) = filter_out (is_obligation_of other) (row o) (map row os)
      (other_name account other (λ same. apart (sym same))) ∙ none_of other apart os

  other_stays : (other : List ℕ) → other ≢ account → (r : ObligationRow)
      → is_obligation_of other r ≡ true → stays r ≡ true
  other_stays other apart r its =
      let off : bytes_eq r.account account ≡ false = other_name r.account account
      (λ same. apart (sym (same_text r.account other its) ∙ same)) in
      rw off refl

  others_stay : (other : List ℕ) → other ≢ account → (rows : List ObligationRow)
      → filter (is_obligation_of other) (filter stays rows) ≡ filter (is_obligation_of other) rows
  others_stay other apart rows = filter_within (is_obligation_of other) stays
      (other_stays other apart) rows

  -- stay as they are
  pub others_placed : (other : List ℕ) → other ≢ account → (rows : List ObligationRow)
      (patch : List Obligation)
      → filter (is_obligation_of other) (filter stays rows ++ map row patch) ≡ filter
      (is_obligation_of other) rows
  others_placed other apart rows patch =
      filter-append (is_obligation_of other) (filter stays rows) (map row patch)
      ∙ (ap (λ l. filter (is_obligation_of other) (filter stays rows) ++ l)
      (none_of other apart patch)
      ∙ (append-nil (filter (is_obligation_of other) (filter stays rows))
      ∙ others_stay other apart rows))
