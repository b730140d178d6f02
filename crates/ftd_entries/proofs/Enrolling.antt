-- An account that is enrolled: what is answered, and the tables stand for the machine's next state.
use Rattle.std.proofs.Common.{◌≡◌, ℕ, true, List, [], ◌∷◌, ◌++◌, map, Option, None, Some, Ok}
use Rattle.std.proofs.Common.{refl, sym, ap, subst, ◌∙◌, inl}
use Rattle.std.proofs.lemmas.Bool.{true≢false}
use Rattle.std.proofs.lemmas.List.{map-append}
use Rattle.std.proofs.lemmas.List.Sorted.{IsPermutation-append_left}
use Rattle.std.specs.Prelude.{filter, is_some, IsPermutation}
use Rattle.ftd_days.proofs.Spelling.{same_text}
use Rattle.ftd_rules.specs.Lists.{Has}
use Rattle.ftd_sql.specs.declared.TableName.TheVariants.{Forms}
use Rattle.ftd_sql.specs.Standing.{Tables}
use Rattle.ftd_machine.specs.declared.entries.Account.{Account}
use Rattle.ftd_machine.specs.declared.requests.Request.{Request}
use Rattle.ftd_machine.specs.declared.requests.Request.TheVariants.{Enter}
use Rattle.ftd_machine.specs.declared.requests.Entry.TheVariants as entry
use Rattle.ftd_machine.specs.declared.replies.Reply.TheVariants.{Done}
use Rattle.ftd_machine.specs.State.{State, Enrolled, Entry, entries_of, is_of, moves_in}
use Rattle.ftd_machine.specs.State.{account_in_force, enrolled_in}
use Rattle.ftd_machine.specs.Checks.{Answer, first_of}
use Rattle.ftd_machine.specs.Requests.{enrol_checks}
use Rattle.ftd_machine.specs.Step.{Step, with_account}
use Rattle.ftd_machine.specs.Sound.{IsSound}
use Rattle.ftd_machine.proofs.Members.{has_filtered}
use Rattle.ftd_machine.proofs.Others.{others}
use Rattle.ftd_machine.proofs.Deciding.{decided, passed}
use Rattle.ftd_machine.proofs.Heads.{Gives, gives_new, skip_needs}
use Rattle.ftd_entries.specs.Standing.{StandsFor, IsSettled, enrolled_row, enrolled_form}
use Rattle.ftd_entries.specs.Known.{KnowsEnrolled, with_enrolled}
use Rattle.ftd_entries.proofs.Entered.{entered, row_more}
use Rattle.ftd_entries.proofs.Settling.{each_name, names_apart, same_rows, settled_as}
use Rattle.ftd_entries.proofs.Settling.{settled_unopened}

no_entry : (name : List ℕ) (s : State) → IsSound s → (entries_of s name).account ≡ None
    → filter (is_of name) s.open_years ≡ []
no_entry name s sound none = go (filter (is_of name) s.open_years) refl
  where
    go : (xs : List (Entry (Unit {0}))) → filter (is_of name) s.open_years ≡ xs
        → filter (is_of name) s.open_years ≡ []
    go [] is = is
    go (e ∷ xs) is =
        let from = has_filtered (is_of name) s.open_years e
        (subst (λ ys. Has ys e) (sym is) (inl refl)) in
        let there = sound.enrolled e from.0 in
        let own : e.name ≡ name = same_text e.name name from.1 in
        absurd (true≢false (sym (subst (λ n. is_some (entries_of s n).account ≡ true) own there)
        ∙ ap is_some none))

module _ (name : List ℕ) (account : Account) where
  abbrev Asked : Request
  Asked = Enter (entry.Account name account)

  checks_are : (known : Option Account) (t : Tables) (s : State) → StandsFor t s
      → KnowsEnrolled name known t → first_of (enrol_checks name account (enrolled_in s name))
      ≡ first_of (enrol_checks name account known)
  checks_are known t s stands knows =
      ap (λ its. first_of (enrol_checks name account its)) (knows s stands)

  -- a check decides
  pub enrol_decided : (known : Option Account) (answer : Answer)
      → first_of (enrol_checks name account known) ≡ Some answer
      → (t : Tables) (s : State) → StandsFor t s → IsSound s → KnowsEnrolled name known t
      → Step s Asked answer s
  enrol_decided known answer is t s stands sound knows =
      decided _ s answer _ (checks_are known t s stands knows ∙ is)

  abbrev Next : State → State
  Next s = record s { accounts = with_account s.accounts name account }

  -- all checks pass
  pub enrol_done : (known : Option Account) → first_of (enrol_checks name account known) ≡ None
      → (t : Tables) (s : State) → StandsFor t s → IsSound s → KnowsEnrolled name known t
      → (next : State) × Step s Asked (Ok Done) next × StandsFor (with_enrolled name account t) next
  enrol_done known is t s stands sound knows =
      let answer : Answer = Ok Done in
      let new_one : Enrolled = record { name = name; account = account } in
      let step : Step s Asked answer (Next s) =
      passed _ s answer (Next s) _ (checks_are known t s stands knows ∙ is) (refl, refl) in
      let new : Gives (enrol_checks name account known) (known ≡ None) =
      skip_needs _ _ _ _ (skip_needs _ _ _ _ (gives_new _ _ _ _)) in
      let none : (entries_of s name).account ≡ None =
      ap (λ o. account_in_force o (moves_in s name)) (knows s stands ∙ new.fact is) in
      let unopened = no_entry name s sound none in
      let after : Tables = with_enrolled name account t in (
        Next s,
        step,
        record {
          entries = (let e = stands.entries in entered e.meta (record {
            accounts = row_more enrolled_row s.accounts new_one e.enrolled.accounts;
            forms = subst (IsPermutation (t Forms ++ enrolled_form new_one ∷ []))
                (sym (map-append enrolled_form s.accounts (new_one ∷ [])))
                (IsPermutation-append_left (enrolled_form new_one ∷ []) (t Forms)
                (map enrolled_form s.accounts) e.enrolled.forms);
            moved = e.enrolled.moved;
          }) e.figures e.days e.paid);
          settled = each_name (IsSettled after (Next s)) name
              (settled_unopened t after s (Next s) name unopened unopened refl
              (same_rows name t after refl refl) (stands.settled name))
              (λ other apart. settled_as t after s (Next s) other (others s Asked answer (Next s)
              other step (names_apart name other apart)) refl (same_rows other t after refl refl)
              (stands.settled other));
        },
      )
