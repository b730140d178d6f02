-- What is explained is a row of a due list.
use Rattle.std.proofs.Common.{◌≡◌, ◌∙◌, refl, sym, ap, subst, ℕ, List, [], Option, None, Some, Ok}
use Rattle.std.specs.Prelude.{IsSomeAnd}
use Rattle.std.specs.List.{sum_by}
use Rattle.ftd_days.specs.Calendar.{quarter_of}
use Rattle.ftd_rules.specs.declared.Obligation.{Obligation}
use Rattle.ftd_rules.specs.declared.verdict.DueRow.{DueRow}
use Rattle.ftd_rules.specs.Laws.{Covers}
use Rattle.ftd_rules.specs.Lists.{Has}
use Rattle.ftd_rules.proofs.Covering.{covering_one}
use Rattle.ftd_rules.proofs.Stated.{piece_owed}
use Rattle.ftd_machine.specs.State.{State, Entries, entries_of, holidays}
use Rattle.ftd_machine.specs.Sound.{IsSound}
use Rattle.ftd_machine.specs.History.{form_of, live_sums, AreOwed}
use Rattle.ftd_machine.specs.Checks.{Answer}
use Rattle.ftd_machine.specs.Asking.{IsDueList, paid_for}
use Rattle.ftd_machine.specs.Explaining.{IsExplained}
use Rattle.ftd_machine.specs.Step.{Step}
use Rattle.ftd_machine.specs.Told.{due_answer, due_facts, explained_answer}
use Rattle.ftd_machine.specs.declared.explained.Explanation.{Explanation}
use Rattle.ftd_machine.specs.declared.facts.DueList.{DueList as Lists}
use Rattle.ftd_machine.specs.declared.facts.Facts.TheVariants as facts
use Rattle.ftd_machine.specs.declared.replies.Reply.TheVariants as reply
use Rattle.ftd_machine.specs.declared.requests.Question.TheVariants.{Explain, DueList}
use Rattle.ftd_machine.specs.declared.requests.Request.TheVariants.{Question}
use Rattle.ftd_machine.proofs.DueSome.{row_some}
use Rattle.ftd_machine.proofs.Refusing.{refuses_none, refuses_needs, refuses_finds}
use Rattle.ftd_machine.proofs.Single.{owed_one}
use Rattle.ftd_machine.proofs.SameMembers.{own_apart}
use Rattle.ftd_machine.proofs.Soundness.{sound_once}
use Rattle.ftd_cases.specs.Laws.{made_by}
use Rattle.ftd_cases.proofs.ExplainedPayments.{payments_come_to}
use Rattle.ftd_cases.proofs.Explained.{told, told_by, explanation_told, found_is}

-- ---- what a due list is answered with

abbrev list_of : Lists → Answer
list_of x = Ok (reply.Told (facts.Due x))

same_list : (a b : Lists) → list_of a ≡ list_of b → a ≡ b
same_list a b e = cc

list_is : (name : List ℕ) (quarter as_of : ℕ) (due listed : List DueRow)
    → due_answer name quarter as_of due ≡ due_answer name quarter as_of listed → due ≡ listed
list_is name quarter as_of due listed e = ap (λ (x : Lists). x.rows) (same_list _ _ e)

list_told : (s next : State) (name : List ℕ) (quarter as_of : ℕ) (due : List DueRow)
    → Step s (Question (DueList name quarter as_of)) (due_answer name quarter as_of due) next
    → IsDueList (holidays s) (entries_of s name) name quarter as_of
    (due_answer name quarter as_of due)
list_told s next name quarter as_of due step =
    told_by s (DueList name quarter as_of) (reply.Told (due_facts name quarter as_of due)) next
    (refuses_needs _ _ _
    (refuses_needs _ _ _
    (refuses_needs _ _ _ (refuses_finds _ _ _ (refuses_needs _ _ [] refuses_none))))) step

-- ---- the laws

pub explained_row : (s after next : State) (name : List ℕ) (day as_of : ℕ) (e : Explanation)
    (due : List DueRow) → IsSound s
    → Step s (Question (Explain name day)) (explained_answer name day (Some e)) after
    → Step s (Question (DueList name (quarter_of e.obligation.first) as_of))
    (due_answer name (quarter_of e.obligation.first) as_of due) next
    → (row : DueRow) × Has due row × (row.obligation ≡ e.obligation)
    × (row.paid.0 ≡ sum_by (made_by as_of) e.payments)
explained_row s after next name day as_of e due sound asked listing =
    let own = entries_of s name in
    let quarter = quarter_of e.obligation.first in
    let is = told s after name day e asked in
    let list = list_told s next name quarter as_of due listing in
    let due_is : due ≡ list.listed = list_is name quarter as_of due list.listed list.told in
    let rows : is.owed ≡ list.rows = owed_one (holidays s) own is.owed list.rows
    (sound_once s sound name) is.are_owed list.owed in
    let has : Has list.rows e.obligation =
    subst (λ os. Has os e.obligation) rows is.explains.is_owed in
    let row = row_some (holidays s) own list.rows quarter as_of e.obligation has refl in (
      row.0,
      subst (λ xs. Has xs row.0) (sym due_is) ((list.all row.0).1 row.2),
      row.1,
      row.2.paid ∙ ap (λ o. paid_for own o as_of as_of) row.1
          ∙ sym (payments_come_to e.obligation own.payments e.payments as_of
          (own_apart name s.payments sound.payments) is.explains.in_order is.explains.payments),
    )

-- the obligation that covers a day is the one that is explained
explained_so : (days : List ℕ) (own : Entries) (owed : List Obligation) (day : ℕ) (o : Obligation)
    (found : Option Explanation) → AreOwed days own owed → Has owed o → Covers o day
    → IsExplained days own owed day found → IsSomeAnd found (λ e. e.obligation ≡ o)
explained_so days own owed day o None are has covers none = none o has covers
explained_so days own owed day o (Some e) are has covers is =
    let form = form_of own.account in
    let sums = live_sums own in
    covering_one form are.0 sums days day e.obligation o are.1.schedules
    (piece_owed form are.0 sums days e.obligation ((are.2.all e.obligation).0 is.0.is_owed))
    (piece_owed form are.0 sums days o ((are.2.all o).0 has)) is.1 covers

pub row_explained : (s after next : State) (name : List ℕ) (day quarter as_of : ℕ)
    (found : Option Explanation) (due : List DueRow) (row : DueRow) → IsSound s
    → Step s (Question (Explain name day)) (explained_answer name day found) after
    → Step s (Question (DueList name quarter as_of)) (due_answer name quarter as_of due) next
    → Has due row → Covers row.obligation day
    → IsSomeAnd found (λ e. e.obligation ≡ row.obligation)
row_explained s after next name day quarter as_of found due row sound asked listing has covers =
    let own = entries_of s name in
    let is = explanation_told s after name day found asked in
    let list = list_told s next name quarter as_of due listing in
    let due_is : due ≡ list.listed = list_is name quarter as_of due list.listed list.told in
    let its = (list.all row).0 (subst (λ xs. Has xs row) due_is has) in
    let rows : list.rows ≡ is.owed = owed_one (holidays s) own list.rows is.owed
    (sound_once s sound name) list.owed is.are_owed in
    let there : Has is.owed row.obligation =
    subst (λ os. Has os row.obligation) rows its.owed in
    let same : is.explained ≡ found = sym (found_is name day found is.explained is.told) in
    explained_so (holidays s) own is.owed day row.obligation found is.are_owed there covers
    (subst (IsExplained (holidays s) own is.owed day) same is.is_explained)
