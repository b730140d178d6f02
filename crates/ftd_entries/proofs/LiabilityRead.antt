-- The day sums that were read make up the account's liability of their days.
use Rattle.std.proofs.Common.{◌≡◌, ℕ, ◌≤◌, List, [], ◌∷◌, Vec, inl, inr, refl, sym, ◌∙◌, arith}
use Rattle.std.specs.List.{sum_by}
use Rattle.std.proofs.lemmas.List.Sums.{sum_by-cons}
use Rattle.ftd_rules.specs.declared.DaySum.{DaySum}
use Rattle.ftd_rules.specs.Liability.{liability, cents_of}
use Rattle.ftd_rules.specs.Lists.{Has}
use Rattle.ftd_rules.proofs.Adding.{runs_same}
use Rattle.ftd_rules.proofs.Walk.{liability-cons, share_in}
use Rattle.ftd_sql.specs.Standing.{Tables}
use Rattle.ftd_store.specs.Finds.{ListsLiability}
use Rattle.ftd_machine.specs.State.{State, entries_of}
use Rattle.ftd_machine.specs.History.{live_sums}
use Rattle.ftd_entries.specs.Standing.{StandsFor}
use Rattle.ftd_entries.proofs.LiableDays.{liable_in, sum_is}

-- the liability of days that hold all sums is their amount
all_within : (sums : List DaySum) (first last : ℕ)
    → ((x : DaySum) → Has sums x → (first ≤ x.day) × (x.day ≤ last))
    → liability sums first last ≡ sum_by cents_of sums
all_within [] first last within = refl
all_within (x ∷ sums) first last within =
    let its = within x (inl refl) in
    let here = share_in x first last its.0 its.1 in
    let rest = all_within sums first last (λ y has. within y (inr has)) in
    let left = liability-cons x sums first last in
    let right = sum_by-cons cents_of x sums in
    omega arith

pub liability_known : {A : Type 0} (name : List ℕ) (first last : ℕ) (sums : Vec DaySum A)
    (t : Tables) → ListsLiability name first last sums t
    → (s : State) → StandsFor t s → sum_by cents_of sums.items ≡ liability
    (live_sums (entries_of s name)) first last
liability_known name first last sums t lists s stands =
    sym (all_within sums.items first last
    (λ x has. let its = sum_is name first last sums t s stands lists x has in (its.0, its.1)))
    ∙ runs_same (live_sums (entries_of s name)) sums.items first last
    (λ day low high. liable_in name first last sums t s stands lists day low high)
