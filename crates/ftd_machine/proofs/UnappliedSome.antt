-- Money that counts for nothing can be listed, wherever each account has lines.
use Rattle.std.proofs.Common.{◌≡◌, ◌∙◌, ◌⊎◌, inl, inr, refl, sym, ap, subst, ℕ, ◌<◌, ◌≤◌, Bool}
use Rattle.std.proofs.Common.{true, false, List, [], ◌∷◌, ◌++◌, Option, None, Some, arith}
use Rattle.std.specs.Prelude.{◌↔◌}
use Rattle.std.proofs.lemmas.Bool.{cases_lt, eqb-true}
use Rattle.std.proofs.lemmas.Option.{same_Some}
use Rattle.ftd_days.proofs.Spelling.{same_text}
use Rattle.ftd_days.specs.declared.cents.Cents.{Cents}
use Rattle.ftd_rules.specs.declared.Obligation.{Obligation}
use Rattle.ftd_rules.specs.declared.YearLine.{YearLine}
use Rattle.ftd_rules.specs.declared.payment.Payment.{Payment}
use Rattle.ftd_rules.specs.declared.run.Voidable.{Voidable}
use Rattle.ftd_rules.specs.Laws.{Covers}
use Rattle.ftd_rules.specs.Lists.{Has}
use Rattle.ftd_rules.proofs.Owed.{has_append, has_left, has_right}
use Rattle.ftd_machine.specs.State.{State, Enrolled, Entry, Entries, entries_of, holidays, is_named}
use Rattle.ftd_machine.specs.State.{account_of, kept_at, has_key, content_of}
use Rattle.ftd_machine.specs.History.{AreLinesOf, AreOwed}
use Rattle.ftd_machine.specs.Checks.{Answer}
use Rattle.ftd_machine.specs.Unapplied.{all_paid, IsUnappliedOf}
use Rattle.ftd_machine.specs.Unapplied.{IsUnappliedRow, IsUnappliedBefore, IsUnapplied}
use Rattle.ftd_machine.specs.declared.entries.Account.{Account}
use Rattle.ftd_machine.specs.declared.lists.UnappliedRow.{UnappliedRow}
use Rattle.ftd_machine.specs.Told.{unapplied_answer}
use Rattle.ftd_machine.proofs.Members.{enrolled_of, found_some}
use Rattle.ftd_machine.proofs.Single.{IsOnce, owed_one}
use Rattle.ftd_machine.proofs.Lined.{owed_some}
use Rattle.ftd_machine.proofs.DueSome.{le_or, both_or}
use Rattle.ftd_machine.proofs.Ordered.{ordered_some, ordered_one}
use Rattle.ftd_machine.proofs.UnappliedOrder.{not_both, comes_then, rows_total}
use Rattle.ftd_machine.proofs.Choosing.{chosen}

-- what there is of each member of a list, of which there is one or none
found_of : {X Y : Type 0} (IsOf : X → Y → Type 0)
    → ((x : X) → ((y : Y) × IsOf x y × ((z : Y) → IsOf x z → z ≡ y))
    ⊎ ((z : Y) → IsOf x z → ⊥)) → (xs : List X)
    → (ys : List Y) × ((y : Y) → Has ys y ↔ ((x : X) × Has xs x × IsOf x y))
found_of IsOf one [] = ([], λ y. ((λ has. absurd has), (λ h. absurd h.1)))
found_of {Y = Y} IsOf one (x ∷ xs) =
    let rest = found_of IsOf one xs in
    elim (one x) [
      | inl some ↦ (
        some.0 ∷ rest.0,
        λ y. (
          (λ has. elim has [
            | inl is ↦ (x, inl refl, subst (IsOf x) (sym is) some.1)
            | inr more ↦ (let h = (rest.1 y).0 more in (h.0, inr h.1, h.2))
          ]),
          (λ h. elim h.1 [
            | inl is ↦ inl (some.2 y (subst (λ z. IsOf z y) is h.2))
            | inr more ↦ inr ((rest.1 y).1 (h.0, more, h.2))
          ]),
        ),
      )
      | inr none ↦ (
        rest.0,
        λ y. (
          (λ has. (let h = (rest.1 y).0 has in (h.0, inr h.1, h.2))),
          (λ h. elim h.1 [
            | inl is ↦ absurd (none y (subst (λ z. IsOf z y) is h.2))
            | inr more ↦ (rest.1 y).1 (h.0, more, h.2)
          ]),
        ),
      )
    ]

-- one of the obligations has the day, or none does
covers_or : (owed : List Obligation) (day : ℕ) → ((o : Obligation) × Has owed o × Covers o day)
    ⊎ ((o : Obligation) → Has owed o → Covers o day → ⊥)
covers_or [] day = inr (λ o has. absurd has)
covers_or (x ∷ owed) day = elim (both_or (le_or x.first day) (le_or day x.last)) [
  | inl covers ↦ inl (x, inl refl, covers)
  | inr not ↦ elim (covers_or owed day) [
    | inl some ↦ inl (some.0, inr some.1, some.2)
    | inr none ↦ inr (λ o has covers. elim has [
      | inl is ↦ not (subst (λ (p : Obligation). Covers p day) is covers)
      | inr more ↦ none o more covers
    ])
  ]
]

module _ (own : Entries) (name : List ℕ) (owed : List Obligation) where
  abbrev over_row : Obligation → UnappliedRow
  over_row o = record {
    account = name;
    payment = None;
    first = o.first;
    last = o.last;
    amount = o.cents;
    paid = record { 0 = all_paid own o };
  }

  abbrev pay_row : ℕ → Payment → UnappliedRow
  pay_row number p = record {
    account = name;
    payment = Some number;
    first = p.for_day;
    last = p.for_day;
    amount = record { 0 = 0 };
    paid = p.cents;
  }

  -- the row of an obligation that is paid by more than its amount
  abbrev IsOver : Obligation → UnappliedRow → Type 0
  IsOver o x = (o.cents.0 < all_paid own o) × (x ≡ over_row o)

  over_one : (o : Obligation) → ((x : UnappliedRow) × IsOver o x
      × ((z : UnappliedRow) → IsOver o z → z ≡ x)) ⊎ ((z : UnappliedRow) → IsOver o z → ⊥)
  over_one o = elim (cases_lt o.cents.0 (all_paid own o)) [
    | inl more ↦ inl (over_row o, (more, refl), λ z h. h.1)
    | inr less ↦ inr (λ z h. (let more = h.0 in omega arith))
  ]

  -- a payment under a number that counts for none, and its row
  abbrev IsLoose : ℕ → Payment → Type 0
  IsLoose number p =
      (kept_at number own.payments ≡ Some (record { value = p; voided = false }))
      × ((o : Obligation) → Has owed o → Covers o p.for_day → ⊥)

  abbrev IsLooseRow : Entry (Voidable Payment) → UnappliedRow → Type 0
  IsLooseRow e x = (p : Payment) × IsLoose e.key p × (x ≡ pay_row e.key p)

  loose_by : (number : ℕ) (k : Option (Voidable Payment)) → kept_at number own.payments ≡ k
      → ((p : Payment) × IsLoose number p) ⊎ ((p : Payment) → IsLoose number p → ⊥)
  loose_by number None is = inr (λ p h. absurd (none p (sym is ∙ h.0)))
    where
      none : (p : Payment) → ◌≡◌ {A = Option (Voidable Payment)} None
          (Some (record { value = p; voided = false })) → ⊥
      none p e = absurd cc
  loose_by number (Some v) is = by v.voided refl
    where
      live : (p : Payment) → kept_at number own.payments
          ≡ Some (record { value = p; voided = false })
          → v ≡ record { value = p; voided = false }
      live p h = same_Some v (record { value = p; voided = false }) (sym is ∙ h)

      by : (b : Bool) → v.voided ≡ b → ((p : Payment) × IsLoose number p)
          ⊎ ((p : Payment) → IsLoose number p → ⊥)
      by true void = inr (λ p h. (let e : v.voided ≡ false =
          ap (λ (w : Voidable Payment). w.voided) (live p h.0) in
          let f : true ≡ false = sym void ∙ e in absurd cc))
      by false counts = elim (covers_or owed v.value.for_day) [
        | inl some ↦ inr (λ p h. (let e : v.value ≡ p =
            ap (λ (w : Voidable Payment). w.value) (live p h.0) in
            h.1 some.0 some.1 (subst (λ (q : Payment). Covers some.0 q.for_day) e some.2)))
        | inr none ↦ inl (v.value, (is ∙ ap Some (rw counts refl), none))
      ]

  loose_one : (e : Entry (Voidable Payment)) → ((x : UnappliedRow) × IsLooseRow e x
      × ((z : UnappliedRow) → IsLooseRow e z → z ≡ x))
      ⊎ ((z : UnappliedRow) → IsLooseRow e z → ⊥)
  loose_one e = elim (loose_by e.key (kept_at e.key own.payments) refl) [
    | inl some ↦ inl (
      pay_row e.key some.0,
      (some.0, some.1, refl),
      λ z h.
          (let kept = same_Some (record { value = h.0; voided = false })
          (record { value = some.0; voided = false }) (sym h.1.0 ∙ some.1.0) in
          h.2 ∙ ap (pay_row e.key) (ap (λ (w : Voidable Payment). w.value) kept)),
    )
    | inr none ↦ inr (λ z h. none h.0 h.1)
  ]

  -- all rows of the account
  rows_of : (xs : List UnappliedRow) × ((x : UnappliedRow) → Has xs x
      ↔ ((x.account ≡ name) × IsUnappliedOf own owed x.payment x))
  rows_of =
      let over = found_of IsOver over_one owed in
      let loose = found_of IsLooseRow loose_one own.payments in (
        over.0 ++ loose.0,
        λ x. (
          (λ has. elim (has_append over.0 loose.0 x has) [
            | inl here ↦ (let h = (over.1 x).0 here in is_over x h.0 h.1 h.2)
            | inr there ↦ (let h = (loose.1 x).0 there in is_loose x h.0 h.2)
          ]),
          (λ h. of x x.payment refl h.0 h.1 (λ is. has_left over.0 loose.0 x ((over.1 x).1 is))
              (λ is. has_right over.0 loose.0 x ((loose.1 x).1 is))),
        ),
      )
    where
      is_over : (x : UnappliedRow) (o : Obligation) → Has owed o → IsOver o x
          → (x.account ≡ name) × IsUnappliedOf own owed x.payment x
      is_over x o has h = rw h.1 (
        refl,
        record {
          obligation = o;
          is_owed = has;
          first = refl;
          last = refl;
          amount = refl;
          paid = refl;
          more = h.0;
        },
      )

      is_loose : (x : UnappliedRow) (e : Entry (Voidable Payment)) → IsLooseRow e x
          → (x.account ≡ name) × IsUnappliedOf own owed x.payment x
      is_loose x e h = rw h.2 (
        refl,
        record {
          payment = h.0;
          kept = h.1.0;
          for_none = h.1.1;
          first = refl;
          last = refl;
          amount = refl;
          paid = refl;
        },
      )

      cents_same : (a b : Cents) → a.0 ≡ b.0 → a ≡ b
      cents_same a b e = rw e refl

      of : (x : UnappliedRow) (number : Option ℕ) → x.payment ≡ number → x.account ≡ name
          → IsUnappliedOf own owed number x → {R : Type 0}
          → (((o : Obligation) × Has owed o × IsOver o x) → R)
          → (((e : Entry (Voidable Payment)) × Has own.payments e × IsLooseRow e x) → R) → R
      of x None is named g over loose =
          let first = g.first in let last = g.last in let amount = g.amount in
          let paid = cents_same x.paid (record { 0 = all_paid own g.obligation }) g.paid in
          let more : g.obligation.cents.0 < all_paid own g.obligation =
          rw (amount, paid) at g.more in
          over (g.obligation, g.is_owed, (more, rw (named, is, first, last, amount, paid) refl))
      of x (Some number) is named g over loose =
          let found = found_some content_of (has_key number) own.payments
          (record { value = g.payment; voided = false }) g.kept in
          let key : found.0.key ≡ number = eqb-true found.0.key number found.2 in
          let first = g.first in let last = g.last in let paid = g.paid in
          let amount = cents_same x.amount (record { 0 = 0 }) g.amount in
          loose (
            found.0,
            found.1,
            (
              g.payment,
              (rw key g.kept, g.for_none),
              rw (named, is, first, last, amount, paid, key) refl,
            ),
          )

-- ---- over all accounts

module _ (s : State) (once : (name : List ℕ) → IsOnce (entries_of s name))
    (lines : (name : List ℕ) → (lines : List YearLine) × AreLinesOf (entries_of s name) lines) where
  -- the rows of an account
  rows_if : (name : List ℕ) (o : Option Account) → (entries_of s name).account ≡ o
      → (xs : List UnappliedRow) × ((x : UnappliedRow) → Has xs x
      ↔ ((x.account ≡ name) × IsUnappliedRow s x))
  rows_if name None e = (
    [],
    λ x. (
      (λ has. absurd has),
      (λ h. absurd (let some : (entries_of s name).account ≡ Some h.1.account =
          subst (λ n. (entries_of s n).account ≡ Some h.1.account) h.0 h.1.enrolled in
          never h.1.account (sym e ∙ some))),
    ),
  )
    where
      never : (a : Account) → None ≡ Some a → ⊥
      never a e = absurd cc
  rows_if name (Some account) e =
      let owed = owed_some (holidays s) (entries_of s name) (lines name).0 (lines name).1 in
      let rows = rows_of (entries_of s name) name owed.0 in (
        rows.0,
        λ x. (
          (λ has.
              (let h = (rows.1 x).0 has in (
                h.0,
                record {
                  account = account;
                  enrolled = subst (λ n. (entries_of s n).account ≡ Some account) (sym h.0) e;
                  owed = owed.0;
                  are_owed = subst (λ n. AreOwed (holidays s) (entries_of s n) owed.0) (sym h.0)
                      owed.1;
                  is_row = subst (λ n. IsUnappliedOf (entries_of s n) owed.0 x.payment x) (sym h.0)
                      h.1;
                },
              ))),
          (λ h. (let same : h.1.owed ≡ owed.0 =
              owed_one (holidays s) (entries_of s name) h.1.owed owed.0 (once name)
              (subst (λ n. AreOwed (holidays s) (entries_of s n) h.1.owed) h.0 h.1.are_owed)
              owed.1 in
              (rows.1 x).1 (
                h.0,
                subst (λ os. IsUnappliedOf (entries_of s name) os x.payment x) same
                    (subst (λ n. IsUnappliedOf (entries_of s n) h.1.owed x.payment x) h.0
                    h.1.is_row),
              ))),
        ),
      )

  -- the rows of some accounts
  all_rows : (accounts : List Enrolled)
      → (xs : List UnappliedRow) × ((x : UnappliedRow) → Has xs x
      ↔ (((e : Enrolled) × Has accounts e × (x.account ≡ e.name)) × IsUnappliedRow s x))
  all_rows [] = ([], λ x. ((λ has. absurd has), (λ h. absurd h.0.1)))
  all_rows (e ∷ accounts) =
      let own = rows_if e.name (entries_of s e.name).account refl in
      let rest = all_rows accounts in (
        own.0 ++ rest.0,
        λ x. (
          (λ has. elim (has_append own.0 rest.0 x has) [
            | inl here ↦ (let h = (own.1 x).0 here in ((e, inl refl, h.0), h.1))
            | inr there ↦
                (let h = (rest.1 x).0 there in ((h.0.0, inr h.0.1, h.0.2), h.1))
          ]),
          (λ h. elim h.0.1 [
            | inl is ↦ has_left own.0 rest.0 x ((own.1 x).1
                (h.0.2 ∙ ap (λ (k : Enrolled). k.name) is, h.1))
            | inr more ↦ has_right own.0 rest.0 x ((rest.1 x).1 ((h.0.0, more, h.0.2), h.1))
          ]),
        ),
      )

  -- each row is one of an account that is enrolled
  named : (x : UnappliedRow) → IsUnappliedRow s x
      → (e : Enrolled) × Has s.accounts e × (x.account ≡ e.name)
  named x h =
      let was = enrolled_of s x.account h.account h.enrolled in
      let found = found_some account_of (is_named x.account) s.accounts was.0 was.1 in
      (found.0, found.1, sym (same_text found.0.name x.account found.2))

  pub unapplied_some : (until : ℕ) → (answer : Answer) × IsUnapplied s until answer
  unapplied_some until =
      let all = all_rows s.accounts in
      let some = chosen (λ x. x.first ≤ until) (λ x. le_or x.first until) all.0 in
      let each : (x : UnappliedRow) → Has some.0 x → IsUnappliedRow s x =
      λ x has. ((all.1 x).0 ((some.1 x).0 has).0).1 in
      let listed = ordered_some IsUnappliedBefore (IsUnappliedRow s) comes_then
      (rows_total s once) some.0 each in (
        unapplied_answer until listed.0,
        record {
          listed = listed.0;
          in_order = listed.1;
          all = λ x. (
            (λ has. (let in_some = (listed.2 x).0 has in
                (each x in_some, ((some.1 x).0 in_some).1))),
            (λ h. (listed.2 x).1 ((some.1 x).1 ((all.1 x).1 (named x h.0, h.0), h.1))),
          );
          told = refl;
        },
      )

pub unapplied_one : (s : State) (until : ℕ) (a b : Answer) → IsUnapplied s until a
    → IsUnapplied s until b → a ≡ b
unapplied_one s until a b g h =
    let listed : g.listed ≡ h.listed = ordered_one IsUnappliedBefore not_both g.listed h.listed
    g.in_order h.in_order
    (λ x has. (h.all x).1 ((g.all x).0 has)) (λ x has. (g.all x).1 ((h.all x).0 has)) in
    g.told ∙ ap (unapplied_answer until) listed ∙ sym h.told
