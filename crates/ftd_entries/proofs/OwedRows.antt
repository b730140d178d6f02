-- Rows of obligations: an obligation is known by its row, and those that were read are the
-- account's that begin on the days.
use Rattle.std.proofs.Common.{◌≡◌, ℕ, pos, inl, inr, List, [], ◌∷◌, ◌++◌, map, Bool, false, ◌&&◌}
use Rattle.std.proofs.Common.{Vec, refl, sym, ap, ◌∙◌, subst, arith}
use Rattle.std.proofs.Math.IntN.{◌+ℤ◌, -ℤ-+ℤ_cancel}
use Rattle.std.specs.Prelude.{filter, nat_le, int_le}
use Rattle.std.specs.List.Sorted.{IsPermutation}
use Rattle.std.proofs.lemmas.Bool.{cases_Bool}
use Rattle.std.proofs.lemmas.List.Sorted.{IsPermutation-trans, IsPermutation-sym}
use Rattle.ftd_rules.specs.declared.Rule.{Rule}
use Rattle.ftd_rules.specs.declared.Rule.TheVariants.{Monthly, Semiweekly, NextDay}
use Rattle.ftd_rules.specs.declared.Obligation.{Obligation}
use Rattle.ftd_rules.specs.Lists.{KeysRise}
use Rattle.ftd_rules.specs.Obligations.{ByFirstDay, begins_on}
use Rattle.ftd_rules.proofs.Rising.{sorted_is, next_do_not_fall}
use Rattle.ftd_rules.proofs.Members.{has_mapped, filter_in, filter_out}
use Rattle.ftd_sql.specs.Order.{EachToNext}
use Rattle.ftd_sql.specs.Rows.{ObligationRow}
use Rattle.ftd_sql.specs.Orders.{ObligationsRise}
use Rattle.ftd_sql.specs.Tests.{is_obligation_between}
use Rattle.ftd_store.specs.Cells.{day_number, rule_number}
use Rattle.ftd_store.specs.Lists.{Pairs, Lists, ListsFirst}
use Rattle.ftd_store.specs.Rows.{obligation_row}
use Rattle.ftd_sql.specs.declared.TableName.TheVariants.{Obligations}
use Rattle.ftd_sql.specs.Standing.{Tables}
use Rattle.ftd_store.specs.Finds.{IsObligation, ListsObligations}
use Rattle.ftd_store.proofs.Sifted.{sifted}
use Rattle.ftd_machine.proofs.Adding.{own_name}
use Rattle.ftd_machine.proofs.Members.{has_filtered}
use Rattle.ftd_entries.specs.Owed.{KnowsObligations}
use Rattle.ftd_entries.specs.Standing.{is_obligation_of}
use Rattle.ftd_entries.proofs.CalendarRows.{whole, key_rises}
use Rattle.ftd_entries.proofs.DayCells.{day_le}
use Rattle.ftd_entries.proofs.Found.{day_is}

-- ---- one row

rule_is : (a b : Rule) → rule_number a ≡ rule_number b → a ≡ b
rule_is Monthly Monthly e = refl
rule_is Monthly Semiweekly e = absurd cc
rule_is Monthly NextDay e = absurd cc
rule_is Semiweekly Monthly e = absurd cc
rule_is Semiweekly Semiweekly e = refl
rule_is Semiweekly NextDay e = absurd cc
rule_is NextDay Monthly e = absurd cc
rule_is NextDay Semiweekly e = absurd cc
rule_is NextDay NextDay e = refl

pub obligation_is : (account : List ℕ) (o p : Obligation)
    → obligation_row account o ≡ obligation_row account p → o ≡ p
obligation_is account o p e =
    let first = day_is o.first p.first (ap (λ (r : ObligationRow). r.first) e) in
    let last = day_is o.last p.last (ap (λ (r : ObligationRow). r.last) e) in
    let rule = rule_is o.rule p.rule (ap (λ (r : ObligationRow). r.rule) e) in
    let amounts : pos o.cents.0 ≡ pos p.cents.0 = ap (λ (r : ObligationRow). r.cents) e in
    let cents : o.cents.0 ≡ p.cents.0 = cc in
    let due = day_is o.due p.due (ap (λ (r : ObligationRow). r.due) e) in
    λ i. record {
      first = first i;
      last = last i;
      rule = rule i;
      cents = record { 0 = cents i };
      due = due i;
    }

-- the first day of a row
abbrev pub first_key : ObligationRow → ℕ
first_key r = whole (r.first +ℤ pos 25_567)

-- what a test keeps of obligations by first day is by first day
pub kept_by_first_day : (p : Obligation → Bool) (os : List Obligation) → ByFirstDay os
    → ByFirstDay (filter p os)
kept_by_first_day p [] rise = tt
kept_by_first_day p (o ∷ os) rise =
    elim (cases_Bool (p o)) [
      | inl kept ↦ subst ByFirstDay (sym (filter_in p o os kept)) (
        (λ later has. rise.0 later (has_filtered p os later has).0),
        kept_by_first_day p os rise.1,
      )
      | inr left ↦ subst ByFirstDay (sym (filter_out p o os left)) (kept_by_first_day p os rise.1)
    ]

module _ (account : List ℕ) (first last : ℕ) where
  abbrev pub begins : ObligationRow → Bool
  begins = is_obligation_between account (day_number first) (day_number last)

  abbrev pub row : Obligation → ObligationRow
  row = obligation_row account

  abbrev own : ObligationRow → Bool
  own = is_obligation_of account

  pub begins_is : (o : Obligation) → begins (row o) ≡ begins_on first last o
  begins_is o =
      ap (λ b. b && (int_le (day_number first) (day_number o.first) && int_le (day_number o.first)
      (day_number last))) (own_name account)
      ∙ ap (λ b. b && int_le (day_number o.first) (day_number last)) (day_le first o.first)
      ∙ ap (λ b. nat_le first o.first && b) (day_le o.first last)

  one_more : (r : ObligationRow) (xs ys : List ObligationRow) → filter begins xs ≡ filter begins ys
      → filter begins (r ∷ xs) ≡ filter begins (r ∷ ys)
  one_more r xs ys e =
      elim (cases_Bool (begins r)) [
        | inl kept ↦ filter_in begins r xs kept
            ∙ (ap (λ l. r ∷ l) e ∙ sym (filter_in begins r ys kept))
        | inr left ↦ filter_out begins r xs left ∙ (e ∙ sym (filter_out begins r ys left))
      ]

  other_out : (r : ObligationRow) → own r ≡ false → begins r ≡ false
  other_out r off = rw off refl

  -- they are rows of the account
  own_begin : (rows : List ObligationRow) → filter begins (filter own rows) ≡ filter begins rows
  own_begin [] = refl
  own_begin (r ∷ rows) =
      elim (cases_Bool (own r)) [
        | inl its ↦ ap (filter begins) (filter_in own r rows its)
            ∙ one_more r (filter own rows) rows (own_begin rows)
        | inr off ↦ ap (filter begins) (filter_out own r rows off)
            ∙ (own_begin rows ∙ sym (filter_out begins r rows (other_out r off)))
      ]

  pub rows_begin : (os : List Obligation) → filter begins (map row os) ≡ map row
      (filter (begins_on first last) os)
  rows_begin [] = refl
  rows_begin (o ∷ os) =
      elim (cases_Bool (begins_on first last o)) [
        | inl kept ↦
            filter_in begins (row o) (map row os) (begins_is o ∙ kept)
            ∙ (ap (λ l. row o ∷ l) (rows_begin os)
            ∙ sym (ap (map row) (filter_in (begins_on first last) o os kept)))
        | inr left ↦
            filter_out begins (row o) (map row os) (begins_is o ∙ left)
            ∙ (rows_begin os ∙ sym (ap (map row) (filter_out (begins_on first last) o os left)))
      ]

  pub key_is : (o : Obligation) → first_key (row o) ≡ o.first
  key_is o = ap whole (-ℤ-+ℤ_cancel (pos o.first) (pos 25_567))

  rows_rise : (os : List Obligation) → ByFirstDay os → KeysRise first_key (map row os)
  rows_rise [] rise = tt
  rows_rise (o ∷ os) rise = (
    (λ later has.
        (let its = has_mapped row os later has in
        let less = rise.0 its.0 its.1 in
        let here = key_is o in
        let there : first_key later ≡ its.0.first = ap first_key its.2 ∙ key_is its.0 in
        omega arith)),
    rows_rise os rise.1,
  )

  obligations_same : (xs ys : List Obligation) → map row xs ≡ map row ys → xs ≡ ys
  obligations_same [] [] e = refl
  obligations_same [] (y ∷ ys) e = absurd cc
  obligations_same (x ∷ xs) [] e = absurd cc
  obligations_same (x ∷ xs) (y ∷ ys) e =
      let head_rows : row x ≡ row y = cc in
      let tail_rows : map row xs ≡ map row ys = cc in
      let head : x ≡ y = obligation_is account x y head_rows in
      let tail : xs ≡ ys = obligations_same xs ys tail_rows in
      cc

  pub paired : (rows : List ObligationRow) (os : List Obligation)
      → Pairs (IsObligation account) rows os
      → rows ≡ map row os
  paired [] [] pairs = refl
  paired [] (o ∷ os) pairs = absurd pairs
  paired (r ∷ rows) [] pairs = absurd pairs
  paired (r ∷ rows) (o ∷ os) pairs = ap (λ x. x ∷ rows) pairs.0
      ∙ ap (λ rs. row o ∷ rs) (paired rows os pairs.1)

  -- the rows in order that begin on the days are those of the obligations that do
  sorted_so : (rows ordered : List ObligationRow) (owed : List Obligation) → ByFirstDay owed
      → IsPermutation (filter own rows) (map row owed)
      → IsPermutation (filter begins rows) ordered → EachToNext ObligationsRise ordered
      → ordered ≡ map row (filter (begins_on first last) owed)
  sorted_so rows ordered owed rise had same rises =
      let kept : List Obligation = filter (begins_on first last) owed in
      let moved : IsPermutation (filter begins rows) (map row kept) =
      subst (λ l. IsPermutation l (map row kept)) (own_begin rows)
      (subst (λ l. IsPermutation (filter begins (filter own rows)) l) (rows_begin owed)
      (sifted begins (filter own rows) (map row owed) had)) in
      sorted_is first_key (map row kept) ordered
      (rows_rise kept (kept_by_first_day (begins_on first last) owed rise))
      (next_do_not_fall first_key ordered (λ k d less. key_rises _ _ (rises k d less)))
      (IsPermutation-trans _ _ _ (IsPermutation-sym _ _ moved) same)

  -- what was listed of the rows of some obligations are those that begin on the days
  pub obligations_listed : (rows : List ObligationRow) (owed found : List Obligation)
      → ByFirstDay owed → IsPermutation (filter own rows) (map row owed)
      → Lists ObligationsRise (IsObligation account) (filter begins rows) found
      → found ≡ filter (begins_on first last) owed
  obligations_listed rows owed found rise had lists =
      obligations_same found (filter (begins_on first last) owed)
      (sym (paired lists.ordered found lists.pairs)
      ∙ sorted_so rows lists.ordered owed rise had lists.same lists.rise)

  -- rows that begin with those of some obligations
  front : (os kept : List Obligation) (rest : List ObligationRow)
      → map row os ++ rest ≡ map row kept → (more : List Obligation) × (kept ≡ os ++ more)
  front [] kept rest e = (kept, refl)
  front (o ∷ os) [] rest e = absurd cc
  front (o ∷ os) (k ∷ kept) rest e =
      let heads : row o ≡ row k = cc in
      let tails : map row os ++ rest ≡ map row kept = cc in
      let more = front os kept rest tails in (
        more.0,
        ap (λ x. x ∷ kept) (sym (obligation_is account o k heads))
            ∙ ap (λ xs. o ∷ xs) more.1,
      )

  -- the first that were listed are the first of those that begin on the days
  pub first_listed : (rows : List ObligationRow) (owed found : List Obligation) → ByFirstDay owed
      → IsPermutation (filter own rows) (map row owed)
      → ListsFirst ObligationsRise (IsObligation account) (filter begins rows) found
      → (more : List Obligation) × (filter (begins_on first last) owed ≡ found ++ more)
  first_listed rows owed found rise had lists =
      front found (filter (begins_on first last) owed) lists.rest
      (ap (λ xs. xs ++ lists.rest) (sym (paired lists.first found lists.pairs))
      ∙ sorted_so rows (lists.first ++ lists.rest) owed rise had lists.same lists.rise)

-- the obligations that were listed are the account's that begin on the days
pub obligations_known : {A : Type 0} (name : List ℕ) (first last : ℕ) (found : Vec Obligation A)
    (t : Tables) → ListsObligations name first last found t
    → KnowsObligations name first last found.items t
obligations_known name first last found t lists s stands =
    obligations_listed name first last (t Obligations) (stands.settled name).owed found.items
    (stands.settled name).are_owed.by_first_day (stands.settled name).owed_rows lists
