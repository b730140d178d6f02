-- Totals that were listed and told are all that the account has.
use Rattle.std.proofs.Common.{◌≡◌, ◌∙◌, ap, refl, sym, subst, ℕ, List, [], ◌∷◌, Some, arith}
use Rattle.std.proofs.Common.{◌++◌, ◌+◌, ◌<◌, ◌≤◌, ◌↔◌, take, length, get_or, Result, Ok, Vec}
use Rattle.ftd_store.proofs.Items.{taken, pairs_more, paired_from, paired_to}
use Rattle.ftd_entries.proofs.InOrder.{paired_rise}
use Rattle.ftd_store.proofs.Replaced.{all_taken}
use Rattle.std.specs.Prelude.{IfOk, unwrap_or}
use Rattle.ftd_days.specs.declared.cents.Cents.{Cents}
use Rattle.ftd_rules.specs.declared.Form.{Form}
use Rattle.ftd_rules.specs.Lists.{Has}
use Rattle.ftd_sql.specs.Standing.{Tables}
use Rattle.ftd_store.specs.Lists.{Pairs}
use Rattle.ftd_machine.specs.Agenda.{EachToLater}
use Rattle.ftd_machine.specs.Kept.{IsTotal, IsTotalBefore, period_number}
use Rattle.ftd_machine.specs.Sound.{IsSound}
use Rattle.ftd_machine.specs.State.{State, entries_of}
use Rattle.ftd_entries.specs.Standing.{StandsFor}
use Rattle.ftd_machine.specs.declared.kept.KeptTotal.{KeptTotal}
use Rattle.ftd_kept.specs.Kept.{KnowsTotals, KnowsFirstTotals, IsFirstTotal, IsInForce}

-- the totals that were told are those that were found, in order
pub first_told : {A E : Type 0} {form other : Form} {result : Result (Vec KeptTotal A) E}
    {found given : List KeptTotal} (name : List ℕ) (rows : Vec KeptTotal A) (t : Tables)
    → form ≡ other → result ≡ Ok rows
    → IfOk result (λ (xs : Vec KeptTotal A). xs.items ≡ given)
    → IfOk result (λ (xs : Vec KeptTotal A). EachToLater IsTotalBefore xs.items) → given ≡ found
    → ((s : State) → StandsFor t s → IsSound s → (x : KeptTotal)
    → Has found x ↔ IsFirstTotal other (entries_of s name) x)
    → KnowsFirstTotals name form rows.items t
first_told {form = form} {found = found} name rows t is done told rise same are = record {
  by_period = rw done at rise;
  all = λ s stands sound x.
      subst (λ xs. Has xs x ↔ IsFirstTotal form (entries_of s name) x)
      (sym ((rw done at told) ∙ same))
      (subst (λ f. Has found x ↔ IsFirstTotal f (entries_of s name) x) (sym is)
      (are s stands sound x));
}

-- ---- as they are in force

same_period : (name : List ℕ) (t : Tables) (first x : KeptTotal) → IsInForce name t first x
    → period_number x.period ≡ period_number first.period
same_period name t first x is = ap (λ (z : KeptTotal). period_number z.period) is.1

in_force_rise : (name : List ℕ) (t : Tables) (firsts xs : List KeptTotal)
    → Pairs (IsInForce name t) firsts xs → EachToLater IsTotalBefore firsts
    → EachToLater IsTotalBefore xs
in_force_rise name t = paired_rise (IsInForce name t) (λ first other x later is was less.
    (let here = same_period name t first x is in
    let there = same_period name t other later was in
    omega (arith, less, here, there)))

same_cents : (a b : Cents) → Some a ≡ Some b → a ≡ b
same_cents a b is = ap (λ o. unwrap_or o a) is

module _ (name : List ℕ) (t : Tables) (s : State) (stands : StandsFor t s) where
  total_is : (form : Form) (first x : KeptTotal) → IsInForce name t first x
      → IsFirstTotal form (entries_of s name) first → IsTotal form (entries_of s name) x
  total_is form first x is was = subst (IsTotal form (entries_of s name)) (sym is.1) (record {
    of_form = was.of_form;
    in_force = is.2 s stands.entries.figures;
    first_reported = was.first_reported;
  })

  module _ (firsts xs : List KeptTotal) (pairs : Pairs (IsInForce name t) firsts xs) where
    is_there : (form : Form)
        → ((first : KeptTotal) → IsFirstTotal form (entries_of s name) first → Has firsts first)
        → (x : KeptTotal) → IsTotal form (entries_of s name) x → Has xs x
    is_there form there x is =
        let first : KeptTotal = record x { cents = x.first } in
        let to = paired_to (IsInForce name t) firsts xs first pairs (there first (record {
          of_form = is.of_form;
          same = refl;
          first_reported = is.first_reported;
        })) in
        let amount : to.2.0 ≡ x.cents =
        same_cents to.2.0 x.cents (sym (to.2.2 s stands.entries.figures) ∙ is.in_force) in
        subst (Has xs) (to.2.1 ∙ ap (λ c. record first { cents = c }) amount) to.1

pub knows_totals : (name : List ℕ) (form : Form) (t : Tables) (firsts xs : List KeptTotal)
    → KnowsFirstTotals name form firsts t → Pairs (IsInForce name t) firsts xs
    → KnowsTotals name form xs t
knows_totals name form t firsts xs known pairs = record {
  by_period = in_force_rise name t firsts xs pairs known.by_period;
  all = λ s stands sound x. (
    (λ has.
        (let from = paired_from (IsInForce name t) firsts xs x pairs has in
        total_is name t s stands form from.0 x from.2
        ((known.all s stands sound from.0).0 from.1))),
    is_there name t s stands firsts xs pairs form
        (λ first was. (known.all s stands sound first).1 was) x,
  );
}

-- ---- total after total

abbrev pub SoFarTotals : List ℕ → Form → List KeptTotal → ℕ → List KeptTotal → Tables → Type 0
SoFarTotals name form firsts i xs t =
    KnowsFirstTotals name form firsts t × Pairs (IsInForce name t) (take i firsts) xs

pub total_more : (name : List ℕ) (form : Form) (firsts : List KeptTotal) (i : ℕ)
    (first told : KeptTotal) (xs new : List KeptTotal) (t : Tables)
    → i < length firsts → first ≡ get_or firsts i first → new ≡ xs ++ told ∷ []
    → SoFarTotals name form firsts i xs t → IsInForce name t first told
    → SoFarTotals name form firsts (i + 1) new t
total_more name form firsts i first told xs new t some is added so_far its = (
  so_far.0,
  subst (λ l. Pairs (IsInForce name t) l new) (sym (taken firsts i first some is))
      (subst (Pairs (IsInForce name t) (take i firsts ++ first ∷ [])) (sym added)
      (pairs_more (IsInForce name t) (take i firsts) xs first told so_far.1 its)),
)

pub totals_all : (name : List ℕ) (form : Form) (firsts : List KeptTotal) (i : ℕ)
    (xs : List KeptTotal) (t : Tables) → length firsts ≤ i → SoFarTotals name form firsts i xs t
    → KnowsTotals name form xs t
totals_all name form firsts i xs t through so_far =
    knows_totals name form t firsts xs so_far.0
    (subst (λ l. Pairs (IsInForce name t) l xs) (all_taken firsts i through) so_far.1)
