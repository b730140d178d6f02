-- A request by which a holiday is taken back: the day is a holiday no more, and due dates move so.
use Rattle.std.proofs.Common.{◌≡◌, ◌∙◌, inl, inr, refl, sym, ap, subst, ℕ, Bool, true, false, cond}
use Rattle.std.proofs.Common.{List, [], ◌∷◌, ◌++◌, filter, Option, None, Some, Ok, ◌&&◌, ◌||◌}
use Rattle.std.specs.Prelude.{◌==◌, if◌then◌else◌, Err, length}
use Rattle.ftd_days.specs.Calendar.{year_of}
use Rattle.ftd_machine.specs.Requests.{change_holiday_checks}
use Rattle.ftd_machine.specs.State.{calendar_at, added_in, numbered}
use Rattle.std.specs.List.{AllZip}
use Rattle.std.proofs.lemmas.Bool.{cases_Bool}
use Rattle.std.proofs.Math.Bool.{or-false, or-true, and-false}
use Rattle.ftd_days.specs.Business.{is_holiday}
use Rattle.ftd_days.specs.Holidays.{IsWithHoliday}
use Rattle.ftd_days.proofs.Years.{same_or_not, eq_same, eq_not}
use Rattle.ftd_rules.specs.declared.Obligation.{Obligation}
use Rattle.ftd_rules.specs.Obligations.{AreObligations}
use Rattle.ftd_machine.specs.State.{State, DayChange, changes_of, latest, is_in_force}
use Rattle.ftd_machine.specs.State.{all_days, holidays, entries_of}
use Rattle.ftd_machine.specs.History.{form_of, live_sums, AreOwed}
use Rattle.ftd_machine.specs.Checks.{Answer, first_of, needs, finds, is_new}
use Rattle.ftd_machine.specs.Sound.{IsSound}
use Rattle.ftd_machine.specs.Step.{Step}
use Rattle.ftd_machine.specs.declared.replies.Refusal.{Refusal}
use Rattle.ftd_machine.specs.declared.replies.Reply.TheVariants.{Done, Already}
use Rattle.ftd_machine.specs.declared.requests.Correction.TheVariants as correction
use Rattle.ftd_machine.specs.declared.requests.Request.TheVariants.{Correct}
use Rattle.ftd_machine.proofs.Deciding.{either}
use Rattle.ftd_machine.proofs.Single.{lines_of_one}
use Rattle.ftd_machine.proofs.Soundness.{sound_once}
use Rattle.ftd_cases.specs.Laws.{IsMovedBack}
use Rattle.ftd_cases.proofs.TakenBack.{rows_move_back}

-- ---- the holidays that are in force

-- a day that is left of some days is one of them that passes
in_filter : (test : ℕ → Bool) (xs : List ℕ) (day : ℕ)
    → is_holiday (filter test xs) day ≡ (is_holiday xs day && test day)
in_filter test [] day = refl
in_filter test (x ∷ xs) day =
    let rest = in_filter test xs day in
    elim (same_or_not x day) [
      | inl same ↦ elim (cases_Bool (test x)) [
        | inl kept ↦ rw (kept, eq_same x day same) (sym kept ∙ ap test same)
        | inr left ↦ rw (left, eq_same x day same)
            (rest ∙ ap (λ b. is_holiday xs day && b) (ap test (sym same) ∙ left)
            ∙ and-false (is_holiday xs day) ∙ sym left ∙ ap test same)
      ]
      | inr apart ↦ elim (cases_Bool (test x)) [
        | inl kept ↦ rw (kept, eq_not x day apart) rest
        | inr left ↦ rw (left, eq_not x day apart) rest
      ]
    ]

-- the last change of a day is in force
last_change : (day : ℕ) (c : DayChange) (first : Bool) (changes : List DayChange)
    → latest first (changes_of day (changes ++ c ∷ []))
    ≡ cond (c.day == day) c.is_holiday (latest first (changes_of day changes))
last_change day c first [] = elim (cases_Bool (c.day == day)) [
  | inl on ↦ rw on refl
  | inr off ↦ rw off refl
]
last_change day c first (x ∷ changes) = elim (cases_Bool (x.day == day)) [
  | inl on ↦ rw on (last_change day c x.is_holiday changes)
  | inr off ↦ rw off (last_change day c first changes)
]

abbrev taken_back : State → ℕ → State
taken_back s day = record s {
  changed_days = s.changed_days ++ record { day = day; is_holiday = false } ∷ [];
}

one_less : (s : State) (day : ℕ) → is_holiday (holidays s) day ≡ true
    → IsWithHoliday (holidays (taken_back s day)) day (holidays s)
one_less s day there d =
    let was = in_filter (is_in_force s.changed_days) (all_days s) d in
    let is = in_filter (is_in_force (taken_back s day).changed_days) (all_days s) d in
    let change = last_change d (record { day = day; is_holiday = false }) true s.changed_days in
    elim (same_or_not day d) [
      | inl same ↦ ap (is_holiday (holidays s)) (sym same) ∙ there
          ∙ sym (ap (λ b. is_holiday (holidays (taken_back s day)) d || b) (eq_same day d same)
          ∙ or-true (is_holiday (holidays (taken_back s day)) d))
      | inr apart ↦
          let as_before = change ∙ ap (λ b. cond b false (is_in_force s.changed_days d))
          (eq_not day d apart) in
          was ∙ sym (ap (λ b. is_holiday (all_days s) d && b) as_before) ∙ sym is
          ∙ sym (ap (λ b. is_holiday (holidays (taken_back s day)) d || b) (eq_not day d apart)
          ∙ or-false (is_holiday (holidays (taken_back s day)) d))
    ]

-- ---- the request

-- checks that never answer that the request is done
record NotDone (checks : List (Option Answer)) : Type 0 where
  never : first_of checks ≡ Some (Ok Done) → ⊥

not_done_none : NotDone []
not_done_none = record { never = λ e. absurd cc }

not_done_needs : (holds : Bool) (refusal : Refusal) (checks : List (Option Answer))
    → NotDone checks → NotDone (needs holds refusal ∷ checks)
not_done_needs true refusal checks not = record { never = λ e. not.never e }
not_done_needs false refusal checks not = record { never = λ e. absurd cc }

not_done_finds : {X : Type 0} (o : Option X) (refusal : Refusal) (checks : List (Option Answer))
    → NotDone checks → NotDone (finds o refusal ∷ checks)
not_done_finds (Some x) refusal checks not = record { never = λ e. not.never e }
not_done_finds None refusal checks not = record { never = λ e. absurd cc }

known_before : (is : Bool) (refusal : Refusal)
    → Some (if is then Ok Already else Err refusal) ≡ Some (Ok Done) → ⊥
known_before true refusal e = absurd cc
known_before false refusal e = absurd cc

not_done_new : {X : Type 0} (o : Option X) (same : X → Bool) (refusal : Refusal)
    (checks : List (Option Answer)) → NotDone checks → NotDone (is_new o same refusal ∷ checks)
not_done_new None same refusal checks not = record { never = λ e. not.never e }
not_done_new (Some x) same refusal checks not =
    record { never = λ e. known_before (same x) refusal e }

abbrev IsDoneSo : Answer → State → State → Type 0
IsDoneSo answer next after = (answer ≡ Ok Done) × (next ≡ after)

done_so : (s next : State) (number day : ℕ)
    → Step s (Correct number (correction.Holiday day false)) (Ok Done) next
    → next ≡ taken_back s day
done_so s next number day step =
    let year = year_of day in
    let known = changes_of day s.changed_days in
    let checks = change_holiday_checks day number false (calendar_at s year) (added_in s year)
    (numbered number known) (length known) in
    let not : NotDone checks =
    not_done_needs _ _ _
    (not_done_needs _ _ _
    (not_done_finds _ _ _
    (not_done_needs _ _ _
    (not_done_new _ _ _ _ (not_done_needs _ _ _ not_done_none))))) in
    elim (either (first_of checks) s (Ok Done) next (IsDoneSo (Ok Done) next (taken_back s day))
    step) [
      | inl same ↦ absurd (not.never same.0)
      | inr done ↦ done.1.1
    ]

pub taken_back_moves : (s next : State) (number day : ℕ) (name : List ℕ)
    (rows others : List Obligation) → IsSound s → is_holiday (holidays s) day ≡ true
    → Step s (Correct number (correction.Holiday day false)) (Ok Done) next
    → AreOwed (holidays s) (entries_of s name) rows
    → AreOwed (holidays next) (entries_of next name) others
    → AllZip (IsMovedBack (holidays next) day) rows others
taken_back_moves s next number day name rows others sound there step owed owed_after =
    let is = done_so s next number day step in
    let own = entries_of s name in
    let after = taken_back s day in
    let again : AreOwed (holidays after) own others =
    subst (λ m. AreOwed (holidays m) (entries_of m name) others) is owed_after in
    let lines = lines_of_one own again.0 owed.0 (sound_once s sound name) again.1 owed.1 in
    let rows_again : AreObligations (form_of own.account) owed.0 (live_sums own) (holidays after)
    others =
    subst
    (λ ls. AreObligations (form_of own.account) ls (live_sums own) (holidays after) others) lines
    again.2 in
    subst (λ m. AllZip (IsMovedBack (holidays m) day) rows others) (sym is)
    (rows_move_back (form_of own.account) owed.0 (live_sums own) (holidays s) (holidays after) day
    rows others (one_less s day there) owed.2 rows_again)
