-- Rows that are told are rows of the due list.
use Rattle.std.proofs.Common.{◌≡◌, ℕ, Err}
use Rattle.std.proofs.Common.{inl, inr, List, [], ◌∷◌, ◌++◌, refl, sym, ap, ◌∙◌, subst, rules}
use Rattle.std.proofs.lemmas.List.{append_assoc}
use Rattle.ftd_days.specs.Holidays.{holidays_of}
use Rattle.ftd_days.specs.declared.cents.Cents.{Cents}
use Rattle.ftd_rules.specs.declared.Obligation.{Obligation}
use Rattle.ftd_rules.specs.declared.verdict.Case.{Case}
use Rattle.ftd_rules.specs.declared.verdict.DueRow.{DueRow}
use Rattle.ftd_rules.specs.Payments.{paid_by}
use Rattle.ftd_store.specs.Lists.{Pairs}
use Rattle.ftd_store.specs.declared.faults.StoreFault.{StoreFault}
use Rattle.ftd_store.specs.declared.faults.StoreFault.TheVariants as fault
use Rattle.ftd_sql.specs.Standing.{Tables}
use Rattle.ftd_machine.specs.Runs.{IsFault}
use Rattle.ftd_machine.specs.declared.replies.Refusal.{Refusal}
use Rattle.ftd_machine.specs.declared.replies.Refusal.TheVariants.{Store}
use Rattle.ftd_machine.specs.State.{State}
use Rattle.ftd_machine.specs.Sound.{IsSound}
use Rattle.ftd_machine.proofs.DueSome.{makeup_some, verdict_some}
use Rattle.ftd_entries.specs.Standing.{StandsFor}
use Rattle.ftd_questions.specs.DueRows.{IsRowBy}
use Rattle.ftd_questions.specs.Faults.{refusal_of}
use Rattle.ftd_questions.specs.declared.faults.DueFault.{DueFault}
use Rattle.ftd_questions.specs.declared.faults.DueFault.TheVariants.{Refused, Sink}
use Rattle.ftd_questions.specs.Telling.{HasTaken, TakesAll, TakesFirst, BreaksOff, Tells, KnowsRows}
use Rattle.ftd_questions.specs.Walks.{begun}
use Rattle.ftd_questions.specs.declared.due_rows.QuarterReturn.{QuarterReturn}

-- ---- rows

module _ (of_return : QuarterReturn) (as_of : ℕ) where
  row_some : (o : Obligation) → (row : DueRow) × IsRowBy of_return as_of o row
  row_some o =
      let makeup = makeup_some of_return.form (holidays_of of_return.holidays) o.rule o.last
      o.due in
      let paid : ℕ → Cents =
      λ day. record { 0 = paid_by of_return.payments.items o.first o.last as_of day } in
      let c : Case = record {
        cents = o.cents;
        due = o.due;
        makeup = makeup.0;
        return_due = of_return.due;
        as_of = as_of;
        paid_due = paid o.due;
        paid_makeup = paid makeup.0;
        small = of_return.small;
        quarter_paid = of_return.paid;
      } in
      let verdict = verdict_some c in (
        record { obligation = o; makeup = makeup.0; paid = paid as_of; verdict = verdict.0 },
        record {
          obligation = refl;
          makeup = makeup.1;
          paid = refl;
          of_case = c;
          is_case = search rules;
          verdict = verdict.1;
        },
      )

  rows_some : (os : List Obligation) → (rows : List DueRow) × Pairs (IsRowBy of_return as_of) os
      rows
  rows_some [] = ([], tt)
  rows_some (o ∷ os) = let one = row_some o in let rest = rows_some os in
      (one.0 ∷ rest.0, (one.1, rest.1))

pairs_append : {X Y : Type 0} (R : X → Y → Type 0) (xs os : List X) (ys rows : List Y)
    → Pairs R xs ys → Pairs R os rows → Pairs R (xs ++ os) (ys ++ rows)
pairs_append R [] os [] rows h k = k
pairs_append R [] os (y ∷ ys) rows h k = absurd h
pairs_append R (x ∷ xs) os [] rows h k = absurd h
pairs_append R (x ∷ xs) os (y ∷ ys) rows h k = (h.0, pairs_append R xs os ys rows h.1 k)

-- a fault of the store is one of the desk
pub is_fault : (fault : StoreFault) → IsFault (Err (refusal_of fault))
is_fault fault.Memory = inl refl
is_fault fault.Failed = inr refl

-- ---- a sink that takes them

pub taken_more : {K : Type 0} (took : K → DueRow → K → Type 0) (old mid new : K)
    (rows : List DueRow) (row : DueRow) → HasTaken took old rows mid → took mid row new
    → HasTaken took old (rows ++ row ∷ []) new
taken_more took old mid new [] row taken more = (new, subst (λ k. took k row new) taken more, refl)
taken_more took old mid new (r ∷ rows) row taken more =
    (taken.0, taken.1, taken_more took taken.0 mid new rows row taken.2 more)

-- so many of the account's obligations that begin in the quarter were told, by what is known of its
-- return
module _ {K : Type 0} (took broke : K → DueRow → K → Type 0) (name : List ℕ) (quarter as_of : ℕ)
    (of_return : QuarterReturn) (t : Tables) (knows : KnowsRows name quarter as_of of_return t)
    (s : State) (stands : StandsFor t s) (sound : IsSound s) (listed : List Obligation)
    (told : List DueRow) (pairs : Pairs (IsRowBy of_return as_of) listed told) (old new : K) where
  pub tells_all : begun stands name quarter ≡ listed → HasTaken took old told new
      → TakesAll took broke s name quarter as_of old new
  tells_all all taken = (
    told,
    knows s stands sound told
        (subst (λ (os : List Obligation). Pairs (IsRowBy of_return as_of) os told) (sym all) pairs),
    taken,
  )

  pub tells_first : (rest : List Obligation) → begun stands name quarter ≡ listed ++ rest
      → HasTaken took old told new → TakesFirst took broke s name quarter as_of old new
  tells_first rest first taken =
      let more = rows_some of_return as_of rest in
      let all = pairs_append (IsRowBy of_return as_of) listed rest told more.0 pairs more.1 in (
        told,
        more.0,
        knows s stands sound (told ++ more.0)
            (subst (λ (os : List Obligation). Pairs (IsRowBy of_return as_of) os (told ++ more.0))
            (sym first) all),
        taken,
      )

  pub breaks_off : (o : Obligation) (row : DueRow) (rest : List Obligation) (mid : K)
      → begun stands name quarter ≡ (listed ++ o ∷ []) ++ rest → IsRowBy of_return as_of o row
      → HasTaken took old told mid → broke mid row new
      → BreaksOff took broke s name quarter as_of old new
  breaks_off o row rest mid first is taken broken =
      let more = rows_some of_return as_of rest in
      let all = pairs_append (IsRowBy of_return as_of) listed (o ∷ rest) told (row ∷ more.0) pairs
      (is, more.1) in
      let whole : begun stands name quarter ≡ listed ++ o ∷ rest = first
      ∙ append_assoc listed (o ∷ []) rest in (
        told,
        row,
        more.0,
        knows s stands sound (told ++ row ∷ more.0)
            (subst (λ (os : List Obligation). Pairs (IsRowBy of_return as_of) os
            (told ++ row ∷ more.0)) (sym whole) all),
        mid,
        taken,
        broken,
      )

  -- the row of the next one was not taken
  pub row_failed : (o : Obligation) (rest : List Obligation) (mid : K)
      → begun stands name quarter ≡ (listed ++ o ∷ []) ++ rest → HasTaken took old told mid
      → (fault : DueFault) → ((refusal : Refusal) → fault ≡ Refused refusal → (refusal ≡ Store)
      × (new ≡ mid))
      → (fault ≡ Sink → (row : DueRow) × IsRowBy of_return as_of o row × broke mid row new)
      → Tells took broke s name quarter as_of old new (Err fault)
  row_failed o rest mid first taken (Refused refusal) refused broken =
      let is = refused refusal refl in
      inr (
        inr (ap Err is.0),
        inr (tells_first (o ∷ rest) (first ∙ append_assoc listed (o ∷ []) rest)
            (subst (λ (k : K). HasTaken took old told k) (sym is.1) taken)),
      )
  row_failed o rest mid first taken Sink refused broken = let is = broken refl in
      breaks_off o is.0 rest mid first is.1 taken is.2

  -- the store failed
  pub store_failed : (rest : List Obligation) → begun stands name quarter ≡ listed ++ rest
      → HasTaken took old told new → (fault : StoreFault)
      → Tells took broke s name quarter as_of old new (Err (Refused (refusal_of fault)))
  store_failed rest first taken fault = inr (is_fault fault, inr (tells_first rest first taken))
