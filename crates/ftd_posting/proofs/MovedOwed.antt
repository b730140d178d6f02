-- The rows of an account's obligations after due dates were moved are those of its obligations by
-- the new holidays.
use Rattle.std.proofs.Common.{◌≡◌, ◌⊎◌, ℕ, zero, suc, ℤ, pos, ◌<◌, ◌≤◌, Bool, true, false, List, []}
use Rattle.std.proofs.Common.{◌∷◌, map, inl, inr, refl, sym, ap, ◌∙◌, subst}
use Rattle.std.specs.Prelude.{◌&&◌, filter, bytes_eq, int_le, nat_lt, nat_le, string_bytes}
use Rattle.std.specs.List.Sorted.{IsPermutation}
use Rattle.std.specs.Ordering.{int_eq}
use Rattle.std.proofs.Math.IntN.{◌+ℤ◌, -ℤ-+ℤ_cancel}
use Rattle.std.proofs.lemmas.Bool.{cases_Bool, eqb-true, ltb-true, leb-true, lt-ltb, le-leb}
use Rattle.std.proofs.lemmas.Bool.{true≢false, and_parts, cases_lt}
use Rattle.std.proofs.lemmas.List.Sorted.{IsPermutation-map, IsPermutation-sym}
use Rattle.ftd_days.proofs.Years.{eq_same}
use Rattle.ftd_days.proofs.Spelling.{same_text}
use Rattle.ftd_rules.specs.declared.Rule.{Rule}
use Rattle.ftd_rules.specs.declared.Rule.TheVariants.{Monthly, Semiweekly, NextDay}
use Rattle.ftd_rules.specs.declared.Obligation.{Obligation}
use Rattle.ftd_rules.specs.Due.{IsDue}
use Rattle.ftd_rules.specs.Lists.{Has}
use Rattle.ftd_rules.specs.Obligations.{ByFirstDay}
use Rattle.ftd_rules.proofs.DueDates.{due_some}
use Rattle.ftd_rules.proofs.Rising.{has_permuted}
use Rattle.ftd_rules.proofs.Members.{has_mapped, filter_in, filter_out, has_kept}
use Rattle.ftd_sql.specs.Rows.{ObligationRow}
use Rattle.ftd_sql.specs.Orders.{AccountsRise}
use Rattle.ftd_sql.specs.Tests.{is_due_over, with_due}
use Rattle.ftd_store.specs.declared.obligation_cells.AccountObligation.{AccountObligation}
use Rattle.ftd_store.specs.Cells.{day_number, rule_number}
use Rattle.ftd_store.specs.Lists.{Pairs, Lists}
use Rattle.ftd_store.specs.Rows.{obligation_row}
use Rattle.ftd_store.specs.Finds.{IsAccountObligation}
use Rattle.ftd_store.proofs.Sifted.{both_are}
use Rattle.ftd_machine.proofs.Adding.{own_name}
use Rattle.ftd_machine.proofs.AgendaOrder.{first_one}
use Rattle.ftd_entries.specs.Standing.{is_obligation_of}
use Rattle.ftd_entries.proofs.CalendarRows.{whole}
use Rattle.ftd_entries.proofs.DayCells.{day_le, day_lt, same_day}
use Rattle.ftd_entries.proofs.ListedRows.{row_of, listed_passes, passing_listed}
use Rattle.ftd_entries.proofs.OwedRows.{obligation_is}
use Rattle.ftd_posting.specs.Moved.{is_row_of, IsDueThen, IsAfter}
use Rattle.ftd_posting.proofs.DueAgain.{due_again, again}

-- ---- a row by its cells

abbrev rule_at : ℤ → Rule
rule_at (pos zero) = Monthly
rule_at (pos (suc zero)) = Semiweekly
rule_at n = NextDay

rule_back : (rule : Rule) → rule_at (rule_number rule) ≡ rule
rule_back Monthly = refl
rule_back Semiweekly = refl
rule_back NextDay = refl

abbrev day_at : ℤ → ℕ
day_at n = whole (n +ℤ pos 25_567)

day_back : (day : ℕ) → day_at (day_number day) ≡ day
day_back day = ap whole (-ℤ-+ℤ_cancel (pos day) (pos 25_567))

-- the row with the due date that the holidays give it
abbrev redated : List ℕ → ObligationRow → ObligationRow
redated holidays r = with_due (day_number (due_some holidays (rule_at r.rule) (day_at r.last)).0) r

redated_is : (holidays name : List ℕ) (o : Obligation) → redated holidays (obligation_row name o)
    ≡ obligation_row name (again holidays o)
redated_is holidays name o =
    let date : Rule → ℕ → ℕ = λ rule last. (due_some holidays rule last).0 in
    let due : date (rule_at (rule_number o.rule)) (day_at (day_number o.last)) ≡ due_again holidays
    o =
    ap (λ rule. date rule (day_at (day_number o.last))) (rule_back o.rule)
    ∙ ap (date o.rule) (day_back o.last) in
    ap (λ (d : ℕ). with_due (day_number d) (obligation_row name o)) due

all_redated : (holidays name : List ℕ) (os : List Obligation)
    → map (redated holidays) (map (obligation_row name) os) ≡ map (obligation_row name)
    (map (again holidays) os)
all_redated holidays name [] = refl
all_redated holidays name (o ∷ os) =
    ap (λ r. r ∷ map (redated holidays) (map (obligation_row name) os)) (redated_is holidays name o)
    ∙ ap (λ rs. obligation_row name (again holidays o) ∷ rs) (all_redated holidays name os)

-- where each of the account's rows is redated, and each row stays one of its account, the account's
-- rows are redated
redated_rows : (holidays name : List ℕ) (R : ObligationRow → ObligationRow → Type 0)
    (rows news : List ObligationRow) → Pairs R rows news
    → ((r s : ObligationRow) → Has rows r → R r s → (s.account ≡ r.account)
    × (is_obligation_of name r ≡ true → s ≡ redated holidays r))
    → filter (is_obligation_of name) news ≡ map (redated holidays)
    (filter (is_obligation_of name) rows)
redated_rows holidays name R [] [] pairs each = refl
redated_rows holidays name R [] (s ∷ news) pairs each = absurd pairs
redated_rows holidays name R (r ∷ rows) [] pairs each = absurd pairs
redated_rows holidays name R (r ∷ rows) (s ∷ news) pairs each =
    let own : ObligationRow → Bool = is_obligation_of name in
    let here = each r s (inl refl) pairs.0 in
    let test : own s ≡ own r = ap (λ account. bytes_eq account name) here.0 in
    let rest = redated_rows holidays name R rows news pairs.1 (λ a b has. each a b (inr has)) in
    elim (cases_Bool (own r)) [
      | inl its ↦
          filter_in own s news (test ∙ its) ∙ (ap (λ x. x ∷ filter own news) (here.1 its)
          ∙ (ap (λ xs. redated holidays r ∷ xs) rest
          ∙ sym (ap (map (redated holidays)) (filter_in own r rows its))))
      | inr other ↦ filter_out own s news (test ∙ other)
          ∙ (rest ∙ sym (ap (map (redated holidays)) (filter_out own r rows other)))
    ]

-- ---- obligations that were listed

row_its : (x : AccountObligation) → is_row_of x (row_of x) ≡ true
row_its x =
    ap (λ b. b && int_eq (day_number x.obligation.first) (day_number x.obligation.first))
    (own_name (string_bytes x.account))
    ∙ (same_day x.obligation.first x.obligation.first
    ∙ eq_same x.obligation.first x.obligation.first refl)

-- an obligation begins before the day and is due on it or later
abbrev pub IsOver : ℕ → Obligation → Type 0
IsOver day o = (o.first < day) × (day ≤ o.due)

over_is : (day : ℕ) (name : List ℕ) (o : Obligation) → is_due_over (day_number day)
    (obligation_row name o) ≡ (nat_lt o.first day && nat_le day o.due)
over_is day name o = ap (λ b. b && int_le (day_number day) (day_number o.due)) (day_lt o.first day)
    ∙ ap (λ b. nat_lt o.first day && b) (day_le day o.due)

is_over : (day : ℕ) (name : List ℕ) (o : Obligation) → is_due_over (day_number day)
    (obligation_row name o) ≡ true → IsOver day o
is_over day name o e =
    let k = and_parts (nat_lt o.first day) (nat_le day o.due) (sym (over_is day name o) ∙ e) in
    (ltb-true o.first day k.0, leb-true day o.due k.1)

not_over : (day : ℕ) (name : List ℕ) (o : Obligation) → is_due_over (day_number day)
    (obligation_row name o) ≡ false → (day ≤ o.first) ⊎ (o.due < day)
not_over day name o e =
    elim (cases_lt o.first day) [
      | inr late ↦ inl late
      | inl early ↦ elim (cases_lt o.due day) [
        | inl passed ↦ inr passed
        | inr due ↦
            (let on : (nat_lt o.first day && nat_le day o.due) ≡ true =
            ap (λ b. b && nat_le day o.due) (lt-ltb o.first day early) ∙ le-leb day o.due due in
            absurd (true≢false (sym (over_is day name o ∙ on) ∙ e)))
      ]
    ]

-- ---- one account

module _ (day : ℕ) (read after : List ℕ) (given : List AccountObligation)
    (rows news : List ObligationRow)
    (listed : Lists AccountsRise IsAccountObligation (filter (is_due_over (day_number day)) rows)
    given) (moved : Pairs (IsAfter read given) rows news)
    (name : List ℕ) (owed : List Obligation) (by : ByFirstDay owed)
    (had : IsPermutation (filter (is_obligation_of name) rows) (map (obligation_row name) owed))
    (agree : (o : Obligation) → Has owed o → IsOver day o → (due : ℕ) → IsDue read o.rule o.last due
    → due ≡ due_again after o)
    (stay : (o : Obligation) → Has owed o → (day ≤ o.first) ⊎ (o.due < day)
    → due_again after o ≡ o.due) where
  abbrev own : ObligationRow → Bool
  own = is_obligation_of name

  -- a row of the account is that of one of its obligations
  owed_row : (r : ObligationRow) → Has rows r → own r ≡ true → (o : Obligation) × Has owed o
      × (r ≡ obligation_row name o)
  owed_row r has its =
      has_mapped (obligation_row name) owed r
      (has_permuted (map (obligation_row name) owed) (filter own rows)
      (IsPermutation-sym (filter own rows) (map (obligation_row name) owed) had) r
      (has_kept own rows r has its))

  -- so is that of an obligation that was listed for it
  owed_listed : (x : AccountObligation) → Has given x → string_bytes x.account ≡ name
      → Has owed x.obligation × IsOver day x.obligation
  owed_listed x has its =
      let there = listed_passes AccountsRise (is_due_over (day_number day)) rows given listed x has
      in
      let mine : own (row_of x) ≡ true = ap (λ account. bytes_eq account name) its
      ∙ own_name name in
      let found = owed_row (row_of x) there.0 mine in
      let same : x.obligation ≡ found.0 = obligation_is name x.obligation found.0
      (ap (λ account. obligation_row account x.obligation) (sym its) ∙ found.2) in (
        subst (Has owed) (sym same) found.1,
        is_over day (string_bytes x.account) x.obligation
            there.1,
      )

  again_where : (o : Obligation) → o.due ≡ due_again after o → obligation_row name o ≡ redated after
      (obligation_row name o)
  again_where o same = ap (λ (d : ℕ). obligation_row name (record o { due = d })) same
      ∙ sym (redated_is after name o)

  row_redated : (r s : ObligationRow) → Has rows r → IsAfter read given r s → own r ≡ true
      → s ≡ redated after r
  row_redated r s has (inl m) its =
      let x = m.0 in
      let found = owed_row r has its in
      let o = found.0 in
      let parts = and_parts (bytes_eq r.account (string_bytes x.account))
      (int_eq r.first (day_number x.obligation.first)) m.2 in
      let account : string_bytes x.account ≡ name =
      sym (same_text r.account (string_bytes x.account) parts.0) ∙ same_text r.account name its in
      let first : o.first ≡ x.obligation.first =
      eqb-true o.first x.obligation.first (sym (same_day o.first x.obligation.first)
      ∙ (ap (λ (q : ObligationRow). int_eq q.first (day_number x.obligation.first)) (sym found.2)
      ∙ parts.1)) in
      let mine = owed_listed x m.1 account in
      let same : x.obligation ≡ o = first_one owed by x.obligation o mine.0 found.1
      (sym first) in
      let due : m.3.0 ≡ due_again after x.obligation =
      agree x.obligation mine.0 mine.1 m.3.0 m.3.1 in
      let date : m.3.0 ≡ due_again after o = due ∙ ap (due_again after) same in
      m.3.2 ∙ (ap (with_due (day_number m.3.0)) found.2
      ∙ (ap (λ (d : ℕ). obligation_row name (record o { due = d })) date
      ∙ (sym (redated_is after name o) ∙ ap (redated after) (sym found.2))))
  row_redated r s has (inr left) its =
      let found = owed_row r has its in
      let o = found.0 in
      let date : o.due ≡ due_again after o =
      elim (cases_Bool (is_due_over (day_number day) (obligation_row name o))) [
        | inl over ↦
            (let item = passing_listed AccountsRise (is_due_over (day_number day)) rows given
            listed r has (ap (is_due_over (day_number day)) found.2 ∙ over) in
            let x = item.0 in
            let account : string_bytes x.account ≡ name =
            sym (ap (λ (q : ObligationRow). q.account) item.2)
            ∙ ap (λ (q : ObligationRow). q.account) found.2 in
            let same : x.obligation ≡ o = obligation_is name x.obligation o
            (ap (λ a. obligation_row a x.obligation) (sym account) ∙ (sym item.2 ∙ found.2)) in
            let due : IsDueThen read x x.obligation.due = left.1 x item.1 (ap (is_row_of x) item.2
            ∙ row_its x) in
            agree o found.1 (is_over day name o over) o.due
            (subst (λ (p : Obligation). IsDue read p.rule p.last p.due) same due))
        | inr out ↦ sym (stay o found.1 (not_over day name o out))
      ] in
      left.0 ∙ (found.2 ∙ (again_where o date ∙ ap (redated after) (sym found.2)))

  same_account : (r s : ObligationRow) → IsAfter read given r s → s.account ≡ r.account
  same_account r s (inl m) = ap (λ (q : ObligationRow). q.account) m.3.2
  same_account r s (inr left) = ap (λ (q : ObligationRow). q.account) left.0

  pub owed_after : IsPermutation (filter (is_obligation_of name) news)
      (map (obligation_row name) (map (again after) owed))
  owed_after =
      both_are (filter own news) (map (obligation_row name) (map (again after) owed))
      (map (redated after) (filter own rows)) (map (redated after) (map (obligation_row name) owed))
      (redated_rows after name (IsAfter read given) rows news moved
      (λ r s has is. (same_account r s is, row_redated r s has is)))
      (sym (all_redated after name owed))
      (IsPermutation-map (redated after) (filter own rows) (map (obligation_row name) owed) had)
