-- The runs and the payments of a journal's account: each is taken, and voided where it is void.
use Rattle.std.proofs.Common.{◌≡◌, ◌∙◌, inl, inr, refl, sym, ap, subst, ℕ, suc, ◌+◌, ◌==◌, ◌≤◌}
use Rattle.std.proofs.Common.{◌<◌, Bool, true, false, List, [], ◌∷◌, ◌++◌, map, filter}
use Rattle.std.proofs.Common.{length}
use Rattle.std.proofs.Common.{None, arith, append-nil, append_assoc, length-append}
use Rattle.std.specs.Prelude.{is_some, flat_map, bytes_eq, nat_le}
use Rattle.std.proofs.lemmas.Bool.{and_from, cases_Bool, eqb-true, lt-ltb}
use Rattle.std.proofs.lemmas.List.{map-append}
use Rattle.std.proofs.lemmas.List.Elements.{filter-append}
use Rattle.std.proofs.lemmas.List.Sums.{length-filter, count_by-le-length}
use Rattle.ftd_days.specs.Calendar.{year_of}
use Rattle.ftd_days.proofs.Spelling.{same_text}
use Rattle.ftd_rules.specs.Accounts.{is_account_name}
use Rattle.ftd_rules.specs.Lists.{Has}
use Rattle.ftd_rules.specs.declared.run.PayRun.{PayRun}
use Rattle.ftd_rules.specs.declared.payment.Payment.{Payment}
use Rattle.ftd_rules.specs.declared.run.Voidable.{Voidable}
use Rattle.ftd_rules.proofs.Owed.{has_append}
use Rattle.ftd_machine.specs.declared.limits.TheConstants.{MOST_ENTRIES}
use Rattle.ftd_machine.specs.Limits.{can_be_opened, can_have_calendar, is_number, is_amount}
use Rattle.ftd_machine.specs.Limits.{are_amounts}
use Rattle.ftd_machine.specs.Checks.{meets}
use Rattle.ftd_machine.specs.Requests.{post_checks, void_checks, pay_checks, void_payment_checks}
use Rattle.ftd_machine.specs.Requests.{has_started}
use Rattle.ftd_machine.specs.Sound.{AreDistinct, place_of}
use Rattle.ftd_machine.specs.State.{State, Entry, entries_of, kept_at, is_of, is_open}
use Rattle.ftd_machine.specs.Step.{taken, with_voided, voided_if}
use Rattle.ftd_machine.specs.Journal.{run_posted, payment_made, void_if}
use Rattle.ftd_machine.specs.declared.requests.Request.{Request}
use Rattle.ftd_machine.specs.declared.requests.Request.TheVariants.{Post, Void, Pay, VoidPay}
use Rattle.ftd_machine.proofs.Adding.{own_name}
use Rattle.ftd_machine.proofs.Found.{IsAbsent, absent_kept, not_before, has_here}
use Rattle.ftd_machine.proofs.Entered.{same_place}
use Rattle.ftd_machine.proofs.Keeping.{kept_own, same_key}
use Rattle.ftd_machine.proofs.Passing.{Pass, pass_end, pass_needs, pass_done, pass_finds, pass_new}
use Rattle.ftd_machine.proofs.Since.{meets_some, not_of}
use Rattle.ftd_machine.proofs.Taken.{Leads, all_lead}

-- ---- the last one is voided

abbrev entry_of : {X : Type 0} → List ℕ → ℕ → X → Bool → Entry (Voidable X)
entry_of name key value voided =
    record { name = name; key = key; content = record { value = value; voided = voided } }

void_none : {X : Type 0} (xs : List (Entry (Voidable X))) (name : List ℕ) (key : ℕ)
    → IsAbsent xs name key → with_voided xs name key ≡ xs
void_none [] name key none = refl
void_none (z ∷ xs) name key none =
    let rest = void_none xs name key (λ d has. none d (inr has)) in
    let here : voided_if name key z ≡ z = elim (cases_Bool (bytes_eq z.name name)) [
      | inr other ↦ rw other refl
      | inl mine ↦ elim (cases_Bool (z.key == key)) [
        | inl same ↦ absurd (none z (inl refl) (same_text z.name name mine)
            (eqb-true z.key key same))
        | inr apart ↦ rw (mine, apart) refl
      ]
    ] in
    rw (here, rest) refl

void_last : {X : Type 0} (xs : List (Entry (Voidable X))) (name : List ℕ) (key : ℕ) (value : X)
    → IsAbsent xs name key
    → with_voided (xs ++ entry_of name key value false ∷ []) name key
    ≡ xs ++ entry_of name key value true ∷ []
void_last xs name key value none =
    map-append (voided_if name key) xs _
    ∙ ap (λ ys. ys ++ map (voided_if name key) (entry_of name key value false ∷ []))
    (void_none xs name key none)
    ∙ ap (λ ys. xs ++ ys) (rw (own_name name, same_key key) refl)

-- ---- along the runs or the payments of an account, on a desk that has none of it yet

abbrev each_asked : {X : Type 0} → (List ℕ → ℕ → X → Request) → (List ℕ → ℕ → Request)
    → Entry (Voidable X) → List Request
each_asked take void e =
    take e.name e.key e.content.value ∷ void_if e.content.voided (void e.name e.key)

module _ {X : Type 0} (take : List ℕ → ℕ → X → Request) (void : List ℕ → ℕ → Request)
    (put : List (Entry (Voidable X)) → State) (before : List (Entry (Voidable X)))
    (name : List ℕ) (all : List (Entry (Voidable X)))
    (apart : AreDistinct place_of all)
    (own : (e : Entry (Voidable X)) → Has all e → e.name ≡ name)
    (few : length all ≤ MOST_ENTRIES)
    (none : filter (is_of name) before ≡ [])
    (taken_one : (xs : List (Entry (Voidable X))) (e : Entry (Voidable X)) → Has all e
    → IsAbsent xs e.name e.key → length (filter (is_of e.name) xs) < MOST_ENTRIES
    → Leads (each_asked take void e) (put xs) (put (xs ++ e ∷ []))) where
  room : (xs : List (Entry (Voidable X))) (e : Entry (Voidable X))
      (rest : List (Entry (Voidable X))) → all ≡ xs ++ e ∷ rest
      → length (filter (is_of name) (before ++ xs)) < MOST_ENTRIES
  room xs e rest is =
      let split : length (filter (is_of name) (before ++ xs))
      ≡ length (filter (is_of name) before) + length (filter (is_of name) xs) =
      ap length (filter-append (is_of name) before xs)
      ∙ length-append (filter (is_of name) before) (filter (is_of name) xs) in
      let empty : length (filter (is_of name) before) ≡ 0 =
      ap (λ (ys : List (Entry (Voidable X))). length ys) none in
      let counted = length-filter (is_of name) xs in
      let short = count_by-le-length (is_of name) xs in
      let long : length all ≡ length xs + suc (length rest) =
      ap (λ (ys : List (Entry (Voidable X))). length ys) is ∙ length-append xs (e ∷ rest) in
      omega arith

  one : (xs : List (Entry (Voidable X))) (e : Entry (Voidable X))
      (rest : List (Entry (Voidable X))) → all ≡ xs ++ e ∷ rest
      → Leads (each_asked take void e) (put (before ++ xs)) (put (before ++ (xs ++ e ∷ [])))
  one xs e rest is =
      let mine : Has all e = subst (λ ys. Has ys e) (sym is) (has_here xs e rest) in
      let here = own e mine in
      let absent : IsAbsent (before ++ xs) e.name e.key =
      λ d has names keys. elim (has_append before xs d has) [
        | inl was ↦ not_of name before d none was (sym (names ∙ here))
        | inr there ↦ not_before place_of xs e rest (subst (AreDistinct place_of) is apart) d there
            (same_place d e names keys)
      ] in
      subst (λ ys. Leads (each_asked take void e) (put (before ++ xs)) (put ys))
      (append_assoc before xs (e ∷ []))
      (taken_one (before ++ xs) e mine absent
      (subst (λ n. length (filter (is_of n) (before ++ xs)) < MOST_ENTRIES) (sym here)
      (room xs e rest is)))

  pub entries_lead : Leads (flat_map (each_asked take void) all) (put before) (put (before ++ all))
  entries_lead =
      subst (λ ys. Leads (flat_map (each_asked take void) all) (put ys) (put (before ++ all)))
      (append-nil before)
      (all_lead (each_asked take void) (λ xs. put (before ++ xs)) all one)

-- ---- runs

pub record MayPost (t : State) (name : List ℕ) (key : ℕ) (run : PayRun) : Type 0 where
  pub named : is_account_name name ≡ true
  pub in_years : can_be_opened (year_of run.payday) ≡ true
  pub amounts : are_amounts run ≡ true
  pub numbered : is_number key ≡ true
  pub started : meets (has_started run.payday) (entries_of t name).account ≡ true
  pub opened : is_open (entries_of t name) (year_of run.payday) ≡ true

one_posted : (t : State) (name : List ℕ) (key : ℕ) (run : PayRun) (voided : Bool)
    (xs : List (Entry (Voidable PayRun))) → MayPost t name key run → IsAbsent xs name key
    → length (filter (is_of name) xs) < MOST_ENTRIES
    → Leads (Post name key run ∷ void_if voided (Void name key)) (record t { runs = xs })
    (record t { runs = xs ++ entry_of name key run voided ∷ [] })
one_posted t name key run voided xs may none few =
    let own = filter (is_of name) xs in
    let unknown : kept_at key own ≡ None = absent_kept xs name key none in
    let there = meets_some _ (entries_of t name).account may.started in
    let pass : Pass (post_checks name key run (entries_of t name).account (kept_at key own)
    (is_open (entries_of t name) (year_of run.payday)) (length own)) =
    pass_needs _ _ _ may.named (pass_needs _ _ _ may.in_years (pass_needs _ _ _ may.amounts
    (pass_needs _ _ _ may.numbered (pass_finds _ _ _ there (pass_new _ _ _ _ unknown
    (pass_needs _ _ _ may.started (pass_needs _ _ _ may.opened
    (pass_needs _ _ _ (lt-ltb (length own) MOST_ENTRIES few) pass_end)))))))) in
    elim voided as (λ v. Leads (Post name key run ∷ void_if v (Void name key))
    (record t { runs = xs }) (record t { runs = xs ++ entry_of name key run v ∷ [] })) [
      | false ↦ record { pass = (pass.ok, tt); ends = refl }
      | true ↦ (let known = kept_own xs name key (taken run) unknown in
          let known_is : is_some (kept_at key (filter (is_of name)
          (xs ++ entry_of name key run false ∷ []))) ≡ true = ap is_some known in
          let live : meets (λ (v : Voidable PayRun). v.voided) (kept_at key (filter (is_of name)
          (xs ++ entry_of name key run false ∷ []))) ≡ false =
          ap (meets (λ (v : Voidable PayRun). v.voided)) known in
          let pass_void : Pass (void_checks name key (entries_of t name).account
          (kept_at key (filter (is_of name) (xs ++ entry_of name key run false ∷ [])))) =
          pass_needs _ _ _ may.named (pass_needs _ _ _ may.numbered
          (pass_finds _ _ _ there (pass_done _ _ live (pass_finds _ _ _ known_is pass_end)))) in
          record {
            pass = (pass.ok, (pass_void.ok, tt));
            ends = ap (λ ys. record t { runs = ys }) (void_last xs name key run none);
          })
    ]

pub runs_lead : (t : State) (name : List ℕ) (all : List (Entry (Voidable PayRun)))
    → AreDistinct place_of all → ((e : Entry (Voidable PayRun)) → Has all e → e.name ≡ name)
    → ((e : Entry (Voidable PayRun)) → Has all e → MayPost t e.name e.key e.content.value)
    → length all ≤ MOST_ENTRIES → filter (is_of name) t.runs ≡ []
    → Leads (flat_map run_posted all) t (record t { runs = t.runs ++ all })
runs_lead t name all apart own may few none =
    entries_lead Post Void (λ xs. record t { runs = xs }) t.runs name all apart own few none
    (λ xs e has absent room. one_posted t e.name e.key e.content.value e.content.voided xs
    (may e has) absent room)

-- ---- payments

pub record MayPay (t : State) (name : List ℕ) (key : ℕ) (payment : Payment) : Type 0 where
  pub named : is_account_name name ≡ true
  pub made : can_have_calendar (year_of payment.paid) ≡ true
  pub in_years : can_be_opened (year_of payment.for_day) ≡ true
  pub something : nat_le 1 payment.cents.0 ≡ true
  pub fits : is_amount payment.cents ≡ true
  pub numbered : is_number key ≡ true
  pub started : meets (has_started payment.for_day) (entries_of t name).account ≡ true
  pub opened : is_open (entries_of t name) (year_of payment.for_day) ≡ true

one_paid : (t : State) (name : List ℕ) (key : ℕ) (payment : Payment) (voided : Bool)
    (xs : List (Entry (Voidable Payment))) → MayPay t name key payment → IsAbsent xs name key
    → length (filter (is_of name) xs) < MOST_ENTRIES
    → Leads (Pay name key payment ∷ void_if voided (VoidPay name key)) (record t { payments = xs })
    (record t { payments = xs ++ entry_of name key payment voided ∷ [] })
one_paid t name key payment voided xs may none few =
    let own = filter (is_of name) xs in
    let unknown : kept_at key own ≡ None = absent_kept xs name key none in
    let there = meets_some _ (entries_of t name).account may.started in
    let pass : Pass (pay_checks name key payment (entries_of t name).account (kept_at key own)
    (is_open (entries_of t name) (year_of payment.for_day)) (length own)) =
    pass_needs _ _ _ may.named (pass_needs _ _ _ (and_from _ _ may.made may.in_years)
    (pass_needs _ _ _ (and_from _ _ may.something may.fits)
    (pass_needs _ _ _ may.numbered (pass_finds _ _ _ there (pass_new _ _ _ _ unknown
    (pass_needs _ _ _ may.started (pass_needs _ _ _ may.opened
    (pass_needs _ _ _ (lt-ltb (length own) MOST_ENTRIES few) pass_end)))))))) in
    elim voided as (λ v. Leads (Pay name key payment ∷ void_if v (VoidPay name key))
    (record t { payments = xs }) (record t { payments = xs ++ entry_of name key payment v ∷ [] })) [
      | false ↦ record { pass = (pass.ok, tt); ends = refl }
      | true ↦ (let known = kept_own xs name key (taken payment) unknown in
          let known_is : is_some (kept_at key (filter (is_of name)
          (xs ++ entry_of name key payment false ∷ []))) ≡ true = ap is_some known in
          let live : meets (λ (v : Voidable Payment). v.voided) (kept_at key (filter (is_of name)
          (xs ++ entry_of name key payment false ∷ []))) ≡ false =
          ap (meets (λ (v : Voidable Payment). v.voided)) known in
          let pass_void : Pass (void_payment_checks name key (entries_of t name).account
          (kept_at key (filter (is_of name) (xs ++ entry_of name key payment false ∷ [])))) =
          pass_needs _ _ _ may.named (pass_needs _ _ _ may.numbered
          (pass_finds _ _ _ there (pass_done _ _ live (pass_finds _ _ _ known_is pass_end)))) in
          record {
            pass = (pass.ok, (pass_void.ok, tt));
            ends = ap (λ ys. record t { payments = ys }) (void_last xs name key payment none);
          })
    ]

pub payments_lead : (t : State) (name : List ℕ) (all : List (Entry (Voidable Payment)))
    → AreDistinct place_of all → ((e : Entry (Voidable Payment)) → Has all e → e.name ≡ name)
    → ((e : Entry (Voidable Payment)) → Has all e → MayPay t e.name e.key e.content.value)
    → length all ≤ MOST_ENTRIES → filter (is_of name) t.payments ≡ []
    → Leads (flat_map payment_made all) t (record t { payments = t.payments ++ all })
payments_lead t name all apart own may few none =
    entries_lead Pay VoidPay (λ xs. record t { payments = xs }) t.payments name all apart own few
    none (λ xs e has absent room. one_paid t e.name e.key e.content.value e.content.voided xs
    (may e has) absent room)
