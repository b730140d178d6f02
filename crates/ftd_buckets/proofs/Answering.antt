-- What the answer to a feed promises, clause by clause.
use Rattle.std.proofs.Common.{◌≡◌, ℕ, ◌+◌, ◌≤◌, List}
use Rattle.std.specs.Prelude.{IfOk, Result, Ok, Err}
use Rattle.std.specs.List.{sum_by}
use Rattle.ftd_rules.specs.declared.DaySum.{DaySum}
use Rattle.ftd_rules.specs.Liability.{cents_of}
use Rattle.ftd_buckets.specs.declared.state.Next.{Next}
use Rattle.ftd_buckets.specs.declared.Window.{Window}
use Rattle.ftd_buckets.specs.declared.state.Next.TheVariants.{Done, Need}
use Rattle.ftd_buckets.specs.Histories.{History}
use Rattle.ftd_buckets.specs.Windows.{IsNext, IsLastNeeded}
use Rattle.ftd_buckets.specs.Patches.{AreSumsOf, IsPatch}
use Rattle.ftd_buckets.specs.Ready.{Repairing}
use Rattle.ftd_buckets.specs.Standing.{Stands, IfDone, IfNeed, amount_held}
use Rattle.ftd_buckets.specs.Private.Answered.{Answers}
use Rattle.ftd_buckets.proofs.Needed.{fed_needed}

-- what an answer that holds says of a further window that it asks for
if_need : {E : Type 0} {P : Repairing → Window → Type 0} (r : Repairing) (sums : List DaySum)
    (answer : Result Next E)
    → ((repair : Repairing) (window : Window) → Answers r sums (Need repair window)
    → P repair window)
    → IfOk answer (Answers r sums) → IfOk answer (λ next. IfNeed next P)
if_need r sums (Ok (Done patch)) says h = tt
if_need r sums (Ok (Need repair window)) says h = says repair window h
if_need r sums (Err e) says h = tt

module _ {E : Type 0} (r : Repairing) (sums : List DaySum) (answer : Result Next E)
    (answers : IfOk answer (Answers r sums)) where
  pub answer_asked : IfOk answer (λ next. IfNeed next (λ repair window. repair.asked ≡ window))
  answer_asked = if_need r sums answer (λ repair window h. h.holds.0) answers

  pub answer_form : IfOk answer (λ next. IfNeed next (λ repair window. repair.form ≡ r.form))
  answer_form = if_need r sums answer (λ repair window h. h.holds.2) answers

  pub answer_held : IfOk answer (λ next. IfNeed next (λ repair window. amount_held repair
      ≤ amount_held r + sum_by cents_of sums))
  answer_held = if_need r sums answer (λ repair window h. h.holds.1) answers

  pub answer_need : IfOk answer
      (λ next. IfNeed next (λ repair window. (day : ℕ) (holidays : List ℕ) (before after : History)
      → Stands r.form day holidays before after r → AreSumsOf after r.asked sums
      → Stands r.form day holidays before after repair × IsNext r.form day before after r.asked
      window))
  answer_need = if_need r sums answer (λ repair window h. h.serves) answers

pub answer_done : {E : Type 0} (r : Repairing) (sums : List DaySum) (answer : Result Next E)
    → IfOk answer (Answers r sums)
    → IfOk answer
    (λ next. IfDone next (λ patch. (day : ℕ) (holidays : List ℕ) (before after : History)
    → Stands r.form day holidays before after r → AreSumsOf after r.asked sums
    → IsPatch r.form day before after holidays r.asked patch × IsLastNeeded r.form day before after
    r.asked))
answer_done r sums (Ok (Done patch)) h = λ day holidays before after st agree.
    (let right = h.serves day holidays before after st agree in (
      right.0,
      record {
        needed = fed_needed r.form day holidays before after r st;
        none_after =
            right.1;
      },
    ))
answer_done r sums (Ok (Need repair window)) h = tt
answer_done r sums (Err e) h = tt
