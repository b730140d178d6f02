-- The rows that were read are what is due over all accounts, in each sound state for which the
-- tables stand.
use Rattle.std.proofs.Common.{◌≡◌, ◌∙◌, inl, inr, sym, ap, subst, ℕ, ◌<◌, ◌≤◌}
use Rattle.std.proofs.Common.{List, [], ◌∷◌, map, Option, Some, None, Ok, refl, arith}
use Rattle.std.specs.Prelude.{filter, string_bytes}
use Rattle.std.specs.List.Sorted.{IsPermutation}
use Rattle.std.proofs.lemmas.List.Sorted.{IsPermutation-map, IsPermutation-sym}
use Rattle.std.proofs.lemmas.List.Sorted.{IsPermutation-trans}
use Rattle.ftd_rules.specs.declared.Obligation.{Obligation}
use Rattle.ftd_rules.specs.Accounts.{is_account_name}
use Rattle.ftd_rules.specs.Lists.{Has, KeysDoNotFall}
use Rattle.ftd_rules.proofs.Rising.{has_permuted}
use Rattle.ftd_sql.specs.Rows.{ObligationRow}
use Rattle.ftd_sql.specs.Standing.{Tables}
use Rattle.ftd_sql.specs.declared.TableName.TheVariants.{Obligations}
use Rattle.ftd_store.specs.Lists.{Pairs}
use Rattle.ftd_store.specs.Rows.{obligation_row}
use Rattle.ftd_store.specs.declared.obligation_cells.AccountObligation.{AccountObligation}
use Rattle.ftd_machine.specs.State.{State, entries_of, holidays}
use Rattle.ftd_machine.specs.Sound.{IsSound}
use Rattle.ftd_machine.specs.Agenda.{due_date_of, first_day_of, left_of, IsAgendaRow, IsAgenda}
use Rattle.ftd_machine.specs.Agenda.{EachToLater, IsOwnBefore, ComesBefore, IsNameBefore}
use Rattle.ftd_machine.specs.Agenda.{IsDueBetween, IsLeftBy}
use Rattle.ftd_machine.specs.Checks.{Answer, first_of}
use Rattle.ftd_machine.specs.Requests.{agenda_checks, owed_checks}
use Rattle.ftd_machine.specs.Step.{Step}
use Rattle.ftd_machine.specs.declared.facts.Agenda.{Agenda}
use Rattle.ftd_machine.specs.declared.facts.Facts.TheVariants as facts
use Rattle.ftd_machine.specs.declared.facts.OwedList.{OwedList}
use Rattle.ftd_machine.specs.declared.lists.AgendaRow.{AgendaRow}
use Rattle.ftd_machine.specs.declared.replies.Reply.TheVariants.{Told}
use Rattle.ftd_machine.specs.declared.requests.Question.TheVariants as asked
use Rattle.ftd_machine.specs.declared.requests.Request.TheVariants.{Question}
use Rattle.ftd_machine.specs.Told.{agenda_answer, owed_answer}
use Rattle.ftd_machine.proofs.AgendaOrder.{agenda_row_one}
use Rattle.ftd_machine.proofs.Deciding.{decided, passed}
use Rattle.ftd_machine.proofs.Refusing.{Refuses, refuses_needs, refuses_none}
use Rattle.ftd_machine.proofs.Single.{IsOnce, owed_one}
use Rattle.ftd_machine.proofs.Soundness.{sound_once}
use Rattle.ftd_entries.specs.Standing.{StandsFor}
use Rattle.ftd_questions.specs.Agendas.{KnowsRow, KnowsRowsDue}
use Rattle.ftd_questions.specs.Listing.{AreDue, IsOwedBefore, IsUnpaidBy, is_due_in, owed_row}
use Rattle.ftd_questions.specs.Shown.{ShowsDue, owed_shown}
use Rattle.ftd_entries.proofs.InOrder.{paired_rise}
use Rattle.ftd_entries.proofs.Settling.{owes}
use Rattle.ftd_store.proofs.Items.{paired_from, paired_to}

-- ---- the order of the rows

own_before : (as_of : ℕ) (t : Tables) (o p : AccountObligation) (x y : AgendaRow)
    → KnowsRow as_of t o x → KnowsRow as_of t p y → IsOwedBefore o p → IsOwnBefore x y
own_before as_of t o p x y k l (inl less) =
    inl (subst (λ n. IsNameBefore x.account n) (sym l.account)
    (subst (λ n. IsNameBefore n (string_bytes p.account)) (sym k.account) less))
own_before as_of t o p x y k l (inr (same, less)) =
    let a : first_day_of x ≡ o.obligation.first = ap (λ (q : Obligation). q.first) k.obligation in
    let b : first_day_of y ≡ p.obligation.first = ap (λ (q : Obligation). q.first) l.obligation in
    let first : first_day_of x < first_day_of y = omega arith in
    inr (k.account ∙ (same ∙ sym l.account), first)

-- ---- the rows

module _ (unpaid : Option ℕ) (from to as_of : ℕ) (rows : List AgendaRow) (t : Tables) (s : State)
    (stands : StandsFor t s) (sound : IsSound s)
    (knows : KnowsRowsDue unpaid from to as_of rows t) where
  once : (name : List ℕ) → IsOnce (entries_of s name)
  once name = sound_once s sound name

  -- what a row's account owes is what is settled
  owed_settled : (x : AgendaRow) (r : IsAgendaRow s as_of x)
      → r.owed ≡ (stands.settled x.account).owed
  owed_settled x r =
      owed_one (holidays s) (entries_of s x.account) r.owed (stands.settled x.account).owed
      (once x.account) r.are_owed (owes (stands.settled x.account))

  due : AreDue unpaid from to knows.owed t s stands
  due = knows.listed.known s stands sound

  -- an obligation that was listed is owed
  listed_owed : (o : AccountObligation) → Has knows.owed o
      → Has (stands.settled (string_bytes o.account)).owed o.obligation
      × (from ≤ o.obligation.due) × (o.obligation.due ≤ to)
      × IsUnpaidBy unpaid s (string_bytes o.account) o.obligation
  listed_owed o has = (due.all (string_bytes o.account) o.obligation).0 (o, has, (refl, refl))

  -- a row is one of an agenda, due on one of the days and not paid
  of_row : (x : AgendaRow) → Has rows x → IsAgendaRow s as_of x × IsDueBetween from to x
      × IsUnpaidBy unpaid s x.account x.row.obligation
  of_row x has =
      let p = paired_from (KnowsRow as_of t) knows.owed rows x knows.are_rows has in
      let o = p.0 in
      let r = p.2.is_row s stands sound in
      let owed = listed_owed o p.1 in
      let is : x.row.obligation ≡ o.obligation = p.2.obligation in
      let due : due_date_of x ≡ o.obligation.due = ap (λ (q : Obligation). q.due) is in
      let a = owed.1 in let b = owed.2 in
      let low : from ≤ due_date_of x = omega arith in
      let high : due_date_of x ≤ to = omega arith in (
        r,
        (low, high),
        subst (λ n. IsUnpaidBy unpaid s n x.row.obligation) (sym p.2.account)
            (subst (IsUnpaidBy unpaid s (string_bytes o.account)) (sym is) owed.3),
      )

  -- each row of an agenda that is due on one of the days, and not paid, is there
  to_row : (x : AgendaRow) → IsAgendaRow s as_of x → IsDueBetween from to x
      → IsUnpaidBy unpaid s x.account x.row.obligation → Has rows x
  to_row x r between is_unpaid =
      let own : Has (stands.settled x.account).owed x.row.obligation =
      subst (λ os. Has os x.row.obligation) (owed_settled x r) r.is_row.owed in
      let item = (due.all x.account x.row.obligation).1
      (own, between.0, between.1, is_unpaid) in
      let p = paired_to (KnowsRow as_of t) knows.owed rows item.0 knows.are_rows item.1 in
      let named : x.account ≡ p.0.account = sym item.2.0 ∙ sym p.2.account in
      let first : first_day_of x ≡ first_day_of p.0 =
      ap (λ (q : Obligation). q.first) (sym item.2.1 ∙ sym p.2.obligation) in
      subst (Has rows)
      (sym (agenda_row_one s as_of once x p.0 named first r (p.2.is_row s stands sound))) p.1

  rows_own : EachToLater IsOwnBefore rows
  rows_own = paired_rise (KnowsRow as_of t) (own_before as_of t) knows.owed rows knows.are_rows
      due.in_order

  -- they are what is due, once they are by due date
  pub agenda_told : unpaid ≡ None → (sorted : List AgendaRow) → IsPermutation rows sorted
      → (EachToLater IsOwnBefore rows → EachToLater ComesBefore sorted)
      → IsAgenda s (IsDueBetween from to) as_of (agenda_answer from to as_of)
      (agenda_answer from to as_of sorted)
  agenda_told none sorted same order = record {
    listed = sorted;
    in_order = order rows_own;
    all = λ x. (
      (λ has. let r = of_row x (has_permuted rows sorted same x has) in (r.0, r.1)),
      (λ h. has_permuted sorted rows (IsPermutation-sym rows sorted same) x
          (to_row x h.0 h.1
          (subst (λ u. IsUnpaidBy u s x.account x.row.obligation) (sym none) tt))),
    );
    told = refl;
  }

  -- where they are not paid as of the day, they are what is owed until the last day
  pub owed_told : unpaid ≡ Some as_of → from ≡ 0 → (sorted : List AgendaRow)
      → IsPermutation rows sorted
      → (EachToLater IsOwnBefore rows → EachToLater ComesBefore sorted)
      → IsAgenda s (IsLeftBy to) as_of (owed_answer to as_of) (owed_answer to as_of sorted)
  owed_told asked first sorted same order = record {
    listed = sorted;
    in_order = order rows_own;
    all = λ x. (
      (λ has.
          (let r = of_row x (has_permuted rows sorted same x has) in
          let paid = r.0.is_row.paid in
          let less : IsUnpaidBy (Some as_of) s x.account x.row.obligation =
          subst (λ u. IsUnpaidBy u s x.account x.row.obligation) asked r.2 in
          let some : 0 < left_of x.row = omega arith in
          (r.0, (r.1.1, some)))),
      (λ h.
          (let some = h.1.1 in
          let low : from ≤ due_date_of x = omega arith in
          let paid = h.0.is_row.paid in
          let less : IsUnpaidBy (Some as_of) s x.account x.row.obligation = omega arith in
          has_permuted sorted rows (IsPermutation-sym rows sorted same) x
          (to_row x h.0 (low, h.1.0)
          (subst (λ u. IsUnpaidBy u s x.account x.row.obligation) (sym asked) less)))),
    );
    told = refl;
  }

  -- ---- what is answered

  pub agenda_answered : unpaid ≡ None → first_of (agenda_checks from to as_of) ≡ None
      → (sorted : List AgendaRow) → IsPermutation rows sorted
      → (EachToLater IsOwnBefore rows → EachToLater ComesBefore sorted)
      → Step s (Question (asked.Agenda from to as_of)) (agenda_answer from to as_of sorted) s
  agenda_answered none passes sorted same order =
      passed _ s (agenda_answer from to as_of sorted) s _ passes (refl, agenda_told none sorted same order)

  pub owed_answered : unpaid ≡ Some as_of → from ≡ 0 → first_of (owed_checks to as_of) ≡ None
      → (sorted : List AgendaRow) → IsPermutation rows sorted
      → (EachToLater IsOwnBefore rows → EachToLater ComesBefore sorted)
      → Step s (Question (asked.Owed to as_of)) (owed_answer to as_of sorted) s
  owed_answered left first passes sorted same order =
      passed _ s (owed_answer to as_of sorted) s _ passes
      (refl, owed_told left first sorted same order)

-- a check decides
pub agenda_refused : (from to as_of : ℕ) (answer : Answer)
    → first_of (agenda_checks from to as_of) ≡ Some answer
    → (s : State) → Step s (Question (asked.Agenda from to as_of)) answer s
agenda_refused from to as_of answer is s = decided _ s answer _ is

pub owed_refused : (until as_of : ℕ) (answer : Answer)
    → first_of (owed_checks until as_of) ≡ Some answer
    → (s : State) → Step s (Question (asked.Owed until as_of)) answer s
owed_refused until as_of answer is s = decided _ s answer _ is

-- ---- the rows of the tables, whatever else these hold

-- checks of days never answer with a list
pub agenda_refuses : (from to as_of : ℕ) → Refuses (agenda_checks from to as_of)
agenda_refuses from to as_of = refuses_needs _ _ _ (refuses_needs _ _ [] refuses_none)

pub owed_refuses : (until as_of : ℕ) → Refuses (owed_checks until as_of)
owed_refuses until as_of = refuses_needs _ _ _ (refuses_needs _ _ [] refuses_none)

shown_rows : (as_of : ℕ) (t : Tables) (owed : List AccountObligation) (rows : List AgendaRow)
    → Pairs (KnowsRow as_of t) owed rows → map owed_row owed ≡ map owed_shown rows
shown_rows as_of t [] [] pairs = refl
shown_rows as_of t [] (x ∷ rows) pairs = absurd pairs
shown_rows as_of t (o ∷ owed) [] pairs = absurd pairs
shown_rows as_of t (o ∷ owed) (x ∷ rows) pairs =
    let one : owed_row o ≡ owed_shown x =
    ap (obligation_row (string_bytes o.account)) (sym pairs.0.obligation)
    ∙ ap (λ n. obligation_row n x.row.obligation) (sym pairs.0.account) in
    ap (λ (r : ObligationRow). r ∷ map owed_row owed) one
    ∙ ap (λ (l : List ObligationRow). owed_shown x ∷ l) (shown_rows as_of t owed rows pairs.1)

-- once they are by due date
pub due_shown : (unpaid : Option ℕ) (from to as_of : ℕ) (rows sorted : List AgendaRow) (t : Tables)
    → KnowsRowsDue unpaid from to as_of rows t → IsPermutation rows sorted
    → KeysDoNotFall due_date_of sorted → ShowsDue unpaid from to sorted t
due_shown unpaid from to as_of rows sorted t knows same by_due_date = record {
  all = IsPermutation-trans _ _ _
      (subst (λ l. IsPermutation (filter (is_due_in unpaid from to t) (t Obligations)) l)
      (shown_rows as_of t knows.owed rows knows.are_rows) knows.listed.rows)
      (IsPermutation-map owed_shown rows sorted same);
  by_due_date = by_due_date;
  names = λ x has.
      let p = paired_from (KnowsRow as_of t) knows.owed rows x knows.are_rows
      (has_permuted rows sorted same x has) in
      ap is_account_name p.2.account ∙ knows.listed.names p.0 p.1;
}

-- the rows that were told
pub told_agenda : (from to as_of : ℕ) (rows : List AgendaRow) (other : Agenda)
    → agenda_answer from to as_of rows ≡ Ok (Told (facts.Agenda other)) → rows ≡ other.rows
told_agenda from to as_of rows other e = cc

pub told_owed : (until as_of : ℕ) (rows : List AgendaRow) (other : OwedList)
    → owed_answer until as_of rows ≡ Ok (Told (facts.Owed other)) → rows ≡ other.rows
told_owed until as_of rows other e = cc
