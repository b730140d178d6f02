-- What a row of a due list shows as paid is what the payments of its explanation come to.
use Rattle.std.proofs.Common.{◌≡◌, ◌∙◌, ◌↔◌, inl, inr, refl, sym, ap, subst, ℕ, ◌+◌, ◌≤◌, Bool}
use Rattle.std.proofs.Common.{true, false, not, ◌&&◌, ◌||◌, List, [], ◌∷◌, map, filter, Some}
use Rattle.std.proofs.Common.{arith}
use Rattle.std.specs.Prelude.{option_map, min, nat_lt, if◌then◌else◌}
use Rattle.std.specs.List.{sum_by}
use Rattle.std.specs.List.Sorted.{IsPermutation}
use Rattle.std.proofs.lemmas.Bool.{cases_Bool, cases_lt, and_parts, lt-ltb, le-ltb, eqb-true}
use Rattle.std.proofs.lemmas.Bool.{true≢false}
use Rattle.std.proofs.lemmas.List.Sorted.{sum_by-IsPermutation}
use Rattle.std.proofs.lemmas.List.Sums.{sum_by-cons}
use Rattle.std.proofs.lemmas.Option.{same_Some}
use Rattle.std.proofs.Math.Bool.{and-false}
use Rattle.ftd_days.proofs.Years.{eq_same}
use Rattle.ftd_rules.specs.declared.Obligation.{Obligation}
use Rattle.ftd_rules.specs.declared.payment.Payment.{Payment}
use Rattle.ftd_rules.specs.declared.run.Voidable.{Voidable}
use Rattle.ftd_rules.specs.Laws.{Covers}
use Rattle.ftd_rules.specs.Lists.{Has}
use Rattle.ftd_rules.specs.Payments.{counts_by, paid_by}
use Rattle.ftd_rules.proofs.Members.{filter_in, filter_out, has_kept, has_mapped, mapped_has}
use Rattle.ftd_machine.specs.State.{Entry, has_key, content_of, kept_at}
use Rattle.ftd_machine.specs.History.{is_live, live, value_of}
use Rattle.ftd_machine.specs.Sound.{AreDistinct}
use Rattle.ftd_machine.specs.Agenda.{EachToLater}
use Rattle.ftd_machine.specs.Kept.{IsPaymentBefore}
use Rattle.ftd_machine.specs.declared.kept.KeptPayment.{KeptPayment}
use Rattle.ftd_machine.proofs.Found.{filter_apart, find_one}
use Rattle.ftd_machine.proofs.KeptOne.{payment_number}
use Rattle.ftd_machine.proofs.Members.{found_some, has_filtered}
use Rattle.ftd_machine.proofs.SameMembers.{moved_by, key_of_entry}
use Rattle.ftd_cases.specs.Laws.{made_by}
use Rattle.ftd_cases.proofs.Listing.{distinct_map}

abbrev Kept : Type 0
Kept = Entry (Voidable Payment)

-- ---- entries with keys that differ

found_at : (es : List Kept) (e : Kept) → AreDistinct key_of_entry es → Has es e
    → kept_at e.key es ≡ Some e.content
found_at es e apart has =
    ap (option_map content_of)
    (find_one (has_key e.key) key_of_entry es e apart has (eq_same e.key e.key refl)
    (λ x there is. sym (eqb-true x.key e.key is)))

there_at : (es : List Kept) (number : ℕ) (v : Voidable Payment) → AreDistinct key_of_entry es
    → kept_at number es ≡ Some v → (e : Kept) × Has es e × (e.key ≡ number) × (e.content ≡ v)
there_at es number v apart is =
    let found = found_some content_of (has_key number) es v is in
    let key = eqb-true found.0.key number found.2 in (
      found.0,
      found.1,
      key,
      same_Some found.0.content v
          (sym (found_at es found.0 apart found.1) ∙ ap (λ k. kept_at k es) key ∙ is),
    )

-- ---- the payments of an obligation

module _ (o : Obligation) where
  abbrev outside : Kept → Bool
  outside e =
      nat_lt e.content.value.for_day o.first || nat_lt o.last e.content.value.for_day

  abbrev is_its : Kept → Bool
  is_its e = is_live e && not (outside e)

  abbrev as_kept : Kept → KeptPayment
  as_kept e = record {
    number = e.key;
    payment = e.content.value;
    voided = e.content.voided;
    obligation = Some o.first;
  }

  abbrev IsIts : List Kept → KeptPayment → Type 0
  IsIts es x =
      (kept_at x.number es ≡ Some (record { value = x.payment; voided = false }))
      × Covers o x.payment.for_day × (x.voided ≡ false) × (x.obligation ≡ Some o.first)

  abbrev its : List Kept → List KeptPayment
  its es = map as_kept (filter is_its es)

  -- ---- what they come to

  its_in : (e : Kept) (es : List Kept) → is_its e ≡ true → its (e ∷ es) ≡ as_kept e ∷ its es
  its_in e es is = ap (map as_kept) (filter_in is_its e es is)

  its_out : (e : Kept) (es : List Kept) → is_its e ≡ false → its (e ∷ es) ≡ its es
  its_out e es is = ap (map as_kept) (filter_out is_its e es is)

  live_in : (e : Kept) (es : List Kept) → is_live e ≡ true
      → live (e ∷ es) ≡ e.content.value ∷ live es
  live_in e es is = ap (map value_of) (filter_in is_live e es is)

  live_out : (e : Kept) (es : List Kept) → is_live e ≡ false → live (e ∷ es) ≡ live es
  live_out e es is = ap (map value_of) (filter_out is_live e es is)

  its_sum : (as_of : ℕ) (es : List Kept)
      → sum_by (made_by as_of) (its es) ≡ sum_by (counts_by o.first o.last as_of) (live es)
  its_sum as_of [] = refl
  its_sum as_of (e ∷ es) =
      let rest = its_sum as_of es in
      let p = e.content.value in
      let f = made_by as_of in
      let g = counts_by o.first o.last as_of in
      elim (cases_Bool (is_live e)) [
        | inr void ↦
            let none : is_its e ≡ false = ap (λ b. b && not (outside e)) void in
            ap (sum_by f) (its_out e es none) ∙ rest ∙ sym (ap (sum_by g) (live_out e es void))
        | inl alive ↦
            let right : sum_by g (live (e ∷ es)) ≡ g p + sum_by g (live es) =
            ap (sum_by g) (live_in e es alive) ∙ sum_by-cons g p (live es) in
            elim (cases_Bool (outside e)) [
              | inl out ↦
                  let none : is_its e ≡ false =
                  ap (λ b. is_live e && not b) out ∙ and-false (is_live e) in
                  let left : sum_by f (its (e ∷ es)) ≡ sum_by f (its es) =
                  ap (sum_by f) (its_out e es none) in
                  let nothing : g p ≡ 0 =
                  ap (λ b. if b || nat_lt as_of p.paid then 0 else p.cents.0) out in
                  omega arith
              | inr within ↦
                  let is : is_its e ≡ true =
                  ap (λ b. b && not (outside e)) alive ∙ ap not within in
                  let left : sum_by f (its (e ∷ es)) ≡ f (as_kept e) + sum_by f (its es) =
                  ap (sum_by f) (its_in e es is) ∙ sum_by-cons f (as_kept e) (its es) in
                  let same : g p ≡ f (as_kept e) =
                  ap (λ b. if b || nat_lt as_of p.paid then 0 else p.cents.0) within in
                  omega arith
            ]
      ]

  -- ---- which they are

  covers_it : (e : Kept) → outside e ≡ false → Covers o e.content.value.for_day
  covers_it e within =
      let day = e.content.value.for_day in
      (not_before day o.first (or_left _ _ within), not_before o.last day (or_right _ _ within))
    where
      or_left : (a b : Bool) → (a || b) ≡ false → a ≡ false
      or_left false b e = refl
      or_left true b e = absurd cc

      or_right : (a b : Bool) → (a || b) ≡ false → b ≡ false
      or_right false b e = e
      or_right true b e = absurd cc

      not_before : (a b : ℕ) → nat_lt a b ≡ false → b ≤ a
      not_before a b e = elim (cases_lt a b) [
        | inl less ↦ absurd (true≢false (sym (lt-ltb a b less) ∙ e))
        | inr from ↦ from
      ]

  within_it : (e : Kept) → Covers o e.content.value.for_day → outside e ≡ false
  within_it e covers =
      let day = e.content.value.for_day in
      let first : nat_lt day o.first ≡ false = le-ltb day o.first covers.0 in
      let last : nat_lt o.last day ≡ false = le-ltb o.last day covers.1 in
      ap (λ b. b || nat_lt o.last day) first ∙ last

  its_are : (es : List Kept) → AreDistinct key_of_entry es → (x : KeptPayment)
      → Has (its es) x ↔ IsIts es x
  its_are es apart x = (
    (λ has.
        (let from = has_mapped as_kept (filter is_its es) x has in
        let e = from.0 in
        let chosen = has_filtered is_its es e from.1 in
        let parts = and_parts (is_live e) (not (outside e)) chosen.1 in
        let alive : e.content.voided ≡ false = not_true e.content.voided parts.0 in
        let within : outside e ≡ false = not_true (outside e) parts.1 in
        subst (IsIts es) (sym from.2) (
          found_at es e apart chosen.0
              ∙ ap (λ v. Some (record { value = e.content.value; voided = v })) alive,
          covers_it e within,
          alive,
          refl,
        ))),
    (λ is.
        (let there = there_at es x.number (record { value = x.payment; voided = false }) apart is.0
        in
        let e = there.0 in
        let value : e.content.value ≡ x.payment =
        ap (λ (v : Voidable Payment). v.value) there.3 in
        let live_still : e.content.voided ≡ false =
        ap (λ (v : Voidable Payment). v.voided) there.3 in
        let covers : Covers o e.content.value.for_day =
        subst (λ (p : Payment). Covers o p.for_day) (sym value) is.1 in
        let passes : is_its e ≡ true =
        ap (λ b. not b && not (outside e)) live_still ∙ ap not (within_it e covers) in
        let whole : as_kept e ≡ x = λ i. record {
          number = there.2 i;
          payment = value i;
          voided = (live_still ∙ sym is.2) i;
          obligation = sym is.3 i;
        } in
        subst (Has (its es)) whole
        (mapped_has as_kept (filter is_its es) e (has_kept is_its es e there.1 passes)))),
  )
    where
      not_true : (b : Bool) → not b ≡ true → b ≡ false
      not_true false e = refl
      not_true true e = absurd cc

  -- two of one number are one
  its_one : (es : List Kept) (x y : KeptPayment) → IsIts es x → IsIts es y → x.number ≡ y.number
      → x ≡ y
  its_one es x y g h same =
      let value : x.payment ≡ y.payment = ap (λ (v : Voidable Payment). v.value)
      (same_Some (record { value = x.payment; voided = false })
      (record { value = y.payment; voided = false })
      (sym g.0 ∙ ap (λ k. kept_at k es) same ∙ h.0)) in
      λ i. record {
        number = same i;
        payment = value i;
        voided = (g.2 ∙ sym h.2) i;
        obligation = (g.3 ∙ sym h.3) i;
      }

  not_itself : (x : KeptPayment) → IsPaymentBefore x x → ⊥
  not_itself x (inl less) = omega arith
  not_itself x (inr more) = let less = more.1 in omega arith

  -- in their order no two have one number
  apart_in_order : (es : List Kept) (xs : List KeptPayment)
      → ((x : KeptPayment) → Has xs x → IsIts es x) → EachToLater IsPaymentBefore xs
      → AreDistinct payment_number xs
  apart_in_order es [] are order = tt
  apart_in_order es (x ∷ xs) are order = (
    (λ later has same.
        (let one = its_one es later x (are later (inr has)) (are x (inl refl)) same in
        not_itself x (subst (IsPaymentBefore x) one (order.0 later has)))),
    apart_in_order es xs (λ y has. are y (inr has)) order.1,
  )

  -- those that are listed are these in another order
  pub payments_come_to : (es : List Kept) (listed : List KeptPayment) (as_of : ℕ)
      → AreDistinct key_of_entry es → EachToLater IsPaymentBefore listed
      → ((x : KeptPayment) → Has listed x ↔ IsIts es x)
      → sum_by (made_by as_of) listed ≡ paid_by (live es) o.first o.last as_of as_of
  payments_come_to es listed as_of apart order are =
      let moved : IsPermutation (its es) listed =
      moved_by payment_number (its es) listed
      (distinct_map as_kept key_of_entry payment_number (λ e. refl) (filter is_its es)
      (filter_apart key_of_entry is_its es apart))
      (apart_in_order es listed (λ x has. (are x).0 has) order)
      (λ x has. (are x).1 ((its_are es apart x).0 has))
      (λ x has. (its_are es apart x).1 ((are x).0 has)) in
      let day : min as_of as_of ≡ as_of = omega arith in
      sum_by-IsPermutation (made_by as_of) (its es) listed moved ∙ its_sum as_of es
      ∙ ap (λ d. sum_by (counts_by o.first o.last d) (live es)) (sym day)
