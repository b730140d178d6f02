-- Years that are opened of each account that has the year before open.
use Rattle.std.proofs.Common.{◌≡◌, ◌∙◌, ◌+◌, ◌-◌, ◌<◌, ◌++◌, ◌∷◌, [], ℕ, Bool, true, false, List}
use Rattle.std.proofs.Common.{refl, sym, ap, subst, inl, inr, length, map, take, get_or, arith, Ok}
use Rattle.std.proofs.Common.{Err, All, length-append, Some, None, Option, drop, ◌≤◌}
use Rattle.std.proofs.Common.{add-one, drop-cons}
use Rattle.std.proofs.KnownBytes.{Appends-nil, Appends-trans}
use Rattle.std.specs.Prelude.{◌==◌, ◌||◌, IfOk, Result, Vec, filter, is_some}
use Rattle.std.specs.List.{flat_map, list_any}
use Rattle.std.proofs.lemmas.Bool.{cases_Bool, true≢false}
use Rattle.std.proofs.lemmas.Grind.{flat_map-append}
use Rattle.std.proofs.lemmas.List.{append-nil, map-append, take-append-drop, take_more}
use Rattle.std.proofs.lemmas.List.Elements.{All-head, filter-append}
use Rattle.std.proofs.lemmas.List.Folds.{list_any-append}
use Rattle.std.specs.Io.KnownBytes.{Appends}
use Rattle.sqlite.specs.State.{HasCleanDisk}
use Rattle.sqlite.specs.Store as store
use Rattle.ftd_machine.specs.Checks.{Answer, first_of}
use Rattle.ftd_machine.specs.History.{year_of_entry, year_of_line}
use Rattle.ftd_machine.specs.Kept.{AreAccounts, AreYears, TellsKept, kept_checks, line_of}
use Rattle.ftd_machine.specs.Questions.{kept_asked}
use Rattle.ftd_machine.specs.Refusals.{is_failure}
use Rattle.ftd_machine.specs.Runs.{IsFault}
use Rattle.ftd_machine.specs.declared.replies.Refusal.{Refusal}
use Rattle.ftd_machine.specs.State.{State, Entry, entries_of, is_open, kept_at}
use Rattle.ftd_machine.specs.Told.{kept_answer}
use Rattle.ftd_machine.specs.declared.kept.KeptAccount.{KeptAccount}
use Rattle.ftd_machine.specs.declared.kept.KeptRows.{KeptRows}
use Rattle.ftd_machine.specs.declared.kept.KeptRows.TheVariants as rows
use Rattle.ftd_machine.specs.declared.kept.KeptYear.{KeptYear}
use Rattle.ftd_machine.specs.declared.requests.KeptList.{KeptList}
use Rattle.ftd_machine.specs.declared.requests.Request.{Request}
use Rattle.ftd_machine.proofs.Deciding.{either}
use Rattle.ftd_machine.proofs.KeptChecks.{kept_refuses}
use Rattle.ftd_desk.specs.Desks.{Held, Keeps, KeepsIfOpen}
use Rattle.ftd_desk.specs.Trials.{Tries}
use Rattle.ftd_desk.specs.Words.{AreSteps, is_fault}
use Rattle.ftd_desk.specs.declared.desk.Desk.{Desk}
use Rattle.ftd_program.specs.OpenYears.{has_open, year_request_if}
use Rattle.ftd_program.specs.OpenYears.{AreYearRequests, year_request_of, year_requests}
use Rattle.ftd_program.specs.OpenYears.{AnswersEach, AsksEach, AsksOne, PrintsLine, YearAnswer}
use Rattle.ftd_program.specs.OpenYears.{answer_line, count_of, failure_in, line_text, one_if, tally}
use Rattle.ftd_imports.specs.Outcomes.{is_already, is_posted, is_refused}
use Rattle.ftd_program.specs.declared.open_years.OpenCounts.{OpenCounts}

-- ---- what is kept, as it is told

-- the one answer of a list
pub one_answer : (answers before : List Answer) (answer : Answer) → answers ≡ before ++ answer ∷ []
    → length answers ≡ 1 → answers ≡ answer ∷ []
one_answer answers [] answer is one = is
one_answer answers (a ∷ before) answer is one =
    absurd (let long = ap length is in
    let more = length-append before (answer ∷ []) in omega (arith, long, more, one))

-- no check of what is kept answers with a list
no_check : (s : State) (kept : KeptList) (told : KeptRows)
    → first_of (kept_checks s kept) ≡ Some (kept_answer told) → ⊥
no_check s kept told is = elim (kept_refuses s kept).told [
  | inl none ↦ absurd (let k = sym none ∙ is in cc)
  | inr some ↦ absurd (let k = sym some.1 ∙ is in cc)
]

-- nor is a list a fault
not_faulty : (told : KeptRows) → IsFault (kept_answer told) → ⊥
not_faulty told (inl is) = absurd cc
not_faulty told (inr is) = absurd cc

module _ (a b : Held) (kept : KeptList) (told : KeptRows) (answers : List Answer)
    (one : answers ≡ kept_answer told ∷ []) (tries : Tries a b (kept_asked kept ∷ []) (Ok answers))
  where
    so_kept : HasCleanDisk b.db → (s : State) → Keeps a s → TellsKept s kept (kept_answer told)
    so_kept clean s keeps =
        let done = tries.answered clean s keeps in
        let steps = subst (λ (xs : List Answer). AreSteps s (kept_asked kept ∷ []) xs done.0) one
        done.1 in
        elim (either (first_of (kept_checks s kept)) s (kept_answer told) steps.0
        ((steps.0 ≡ s) × TellsKept s kept (kept_answer told)) steps.1) [
          | inl checked ↦ absurd (no_check s kept told checked.0)
          | inr tells ↦ tells.1.1
        ]

    -- it is so of each state that the desk stood for
    told_so : HasCleanDisk b.db → (s : State) → KeepsIfOpen a s
        → TellsKept s kept (kept_answer told)
    told_so clean s keeps = elim (cases_Bool a.db.is_open) [
      | inl is_open ↦ so_kept clean s (keeps is_open)
      | inr closed ↦
          let faults = subst (All IsFault) one
          (tries.shut clean (λ is_open. true≢false (sym is_open ∙ closed))) in
          absurd (not_faulty told (All-head IsFault (kept_answer told) [] faults))
    ]

-- what the one answer tells, if it tells of what is kept
pub told_by : (a b : Held) (kept : KeptList) (answers : List Answer)
    (made : Result KeptRows Refusal) → Tries a b (kept_asked kept ∷ []) (Ok answers)
    → IfOk made (λ told. answers ≡ kept_answer told ∷ []) → HasCleanDisk b.db → (s : State)
    → KeepsIfOpen a s → IfOk made (λ told. TellsKept s kept (kept_answer told))
told_by a b kept answers (Ok told) tries one = told_so a b kept told answers one tries
told_by a b kept answers (Err fault) tries one = λ clean s keeps. tt

-- ---- open years

-- a year is among the rows where it is among the years
among_rows : (year : ℕ) (kept : List KeptYear) → list_any (λ row. row.line.year == year) kept
    ≡ list_any (λ at. at == year) (map year_of_line (map line_of kept))
among_rows year [] = refl
among_rows year (row ∷ kept) = ap (λ rest. (row.line.year == year) || rest) (among_rows year kept)

-- and where it is open
among_open : (year : ℕ) (entries : List (Entry (Unit {0})))
    → list_any (λ at. at == year) (map year_of_entry entries) ≡ is_some (kept_at year entries)
among_open year [] = refl
among_open year (e ∷ entries) = go (e.key == year) refl (among_open year entries) where
  go : (is : Bool) → (e.key == year) ≡ is
      → list_any (λ at. at == year) (map year_of_entry entries) ≡ is_some (kept_at year entries)
      → list_any (λ at. at == year) (map year_of_entry (e ∷ entries))
      ≡ is_some (kept_at year (e ∷ entries))
  go true is later = rw is refl
  go false is later = rw is later

pub years_open : (s : State) (name owner : List ℕ) (year : ℕ) (kept : List KeptYear)
    → AreYears (entries_of s name) name (kept_answer (rows.Years owner kept))
    → list_any (λ row. row.line.year == year) kept ≡ is_open (entries_of s name) year
years_open s name owner year kept are =
    let same : kept ≡ are.listed = cc (are.told) in
    among_rows year kept
    ∙ ap (λ (xs : List KeptYear). list_any (λ at. at == year) (map year_of_line (map line_of xs)))
    same
    ∙ ap (list_any (λ at. at == year)) are.are_lines.years
    ∙ among_open year (entries_of s name).open_years

-- ---- the requests

one_request : (s : State) (year : ℕ) (account : KeptAccount)
    → year_requests s year (account ∷ []) ≡ year_request_if s year account.name
one_request s year account = go (has_open s (year - 1) account) refl where
  go : (is : Bool) → has_open s (year - 1) account ≡ is
      → year_requests s year (account ∷ []) ≡ year_request_if s year account.name
  go true is = rw is refl
  go false is = rw is refl

pub requests_more : (s : State) (year i : ℕ) (accounts : List KeptAccount) (account : KeptAccount)
    (before after : List Request) → i < length accounts → account ≡ get_or accounts i account
    → before ≡ year_requests s year (take i accounts)
    → after ≡ before ++ year_request_if s year account.name
    → after ≡ year_requests s year (take (i + 1) accounts)
requests_more s year i accounts account before after some is so_far added =
    let more : take (i + 1) accounts ≡ take i accounts ++ account ∷ [] =
    take_more accounts i account some
    ∙ ap (λ (x : KeptAccount). take i accounts ++ x ∷ []) (sym is) in
    let all : year_requests s year (take (i + 1) accounts)
    ≡ year_requests s year (take i accounts) ++ year_request_if s year account.name =
    ap (year_requests s year) more
    ∙ ap (map (year_request_of year))
    (filter-append (has_open s (year - 1)) (take i accounts) (account ∷ []))
    ∙ map-append (year_request_of year) (filter (has_open s (year - 1)) (take i accounts))
    (filter (has_open s (year - 1)) (account ∷ []))
    ∙ ap (λ (xs : List Request). year_requests s year (take i accounts) ++ xs)
    (one_request s year account) in
    added
    ∙ ap (λ (xs : List Request). xs ++ year_request_if s year account.name) so_far
    ∙ sym all

-- those of all accounts, if they were made
pub are_requests : {A : Type 0} (s : State) (year : ℕ) (accounts : List KeptAccount)
    (made : Result (Vec Request A) Refusal) → AreAccounts s (kept_answer (rows.Accounts accounts))
    → IfOk made (λ requests. requests.items ≡ year_requests s year accounts)
    → IfOk made (λ requests. AreYearRequests s year requests.items)
are_requests s year accounts (Ok requests) all are =
    record { accounts = accounts; are_all = all; requests_are = are }
are_requests s year accounts (Err fault) all are = tt

-- ---- one after the other

module _ {S E : Type 0} (g : store.Ghosts S) (e_taken : E → Option (List ℕ)) (e_failed : E → Bool)
  where
    -- one more was asked
    pub asks_more : (err told said : E) (a b c : Desk S) (db : List ℕ) (answers : List YearAnswer)
        (request : Request) (answer : Answer)
        → AsksEach g e_taken e_failed err told a b db answers
        → AsksOne g e_taken e_failed told said b c db request answer
        → AsksEach g e_taken e_failed err said a c db (answers ++ (request, answer) ∷ [])
    asks_more err told said a b c db [] request answer none one =
        (c, said, rw (sym none.0, sym none.1) one, (refl, refl))
    asks_more err told said a b c db (it ∷ answers) request answer each one = (
      each.0,
      each.1,
      each.2,
      asks_more each.1 told said each.0 b c db answers request answer each.3 one,
    )

-- ---- what was answered so far

count_one : (test : Answer → Bool) (it : YearAnswer)
    → count_of test (it ∷ []) ≡ one_if (test it.1)
count_one test it = go (test it.1) refl where
  go : (is : Bool) → test it.1 ≡ is → count_of test (it ∷ []) ≡ one_if (test it.1)
  go true is = rw is refl
  go false is = rw is refl

count_more : (test : Answer → Bool) (answers : List YearAnswer) (it : YearAnswer) (before after : ℕ)
    → before ≡ count_of test answers → after ≡ before + one_if (test it.1)
    → after ≡ count_of test (answers ++ it ∷ [])
count_more test answers it before after is adds =
    adds
    ∙ ap (λ (n : ℕ). n + one_if (test it.1)) is
    ∙ ap (λ (n : ℕ). count_of test answers + n) (sym (count_one test it))
    ∙ sym (ap length (filter-append (λ (x : YearAnswer). test x.1) answers (it ∷ []))
    ∙ length-append (filter (λ (x : YearAnswer). test x.1) answers)
    (filter (λ (x : YearAnswer). test x.1) (it ∷ [])))

-- an answer in which there is no failure is no fault
pub no_failure : (answer : Answer) → failure_in answer ≡ None → is_fault answer ≡ false
no_failure (Ok reply) none = refl
no_failure (Err refusal) none = go (is_failure refusal) refl none where
  go : (is : Bool) → is_failure refusal ≡ is → failure_in (Err refusal) ≡ None
      → is_failure refusal ≡ false
  go true is none = absurd (let some = rw is at none in cc)
  go false is none = is

abbrev refused_by : Refusal → Answer
refused_by refusal = Err refusal

-- and one in which there is one is that
pub failure_is : (answer : Answer) (refusal : Refusal) → failure_in answer ≡ Some refusal
    → (answer ≡ Err refusal) × (is_failure refusal ≡ true)
failure_is (Ok reply) refusal some = absurd cc
failure_is (Err why) refusal some = go (is_failure why) refl some where
  go : (is : Bool) → is_failure why ≡ is → failure_in (Err why) ≡ Some refusal
      → (refused_by why ≡ refused_by refusal) × (is_failure refusal ≡ true)
  go true is some =
      let found = rw is at some in
      let same : why ≡ refusal = cc in
      (ap refused_by same, rw (← same) is)
  go false is some = absurd (let none = rw is at some in cc)

-- the requests before a place, the one there, and those after it
pub split_at : {X : Type 0} (xs : List X) (i : ℕ) (x : X) → i < length xs → x ≡ get_or xs i x
    → xs ≡ take i xs ++ x ∷ drop (i + 1) xs
split_at {X} xs i x some is =
    sym (take-append-drop i xs)
    ∙ ap (λ (later : List X). take i xs ++ later)
    (rw add-one (drop-cons xs i x some) ∙ ap (λ (y : X). y ∷ drop (i + 1) xs) (sym is))

module _ {S O E : Type 0} (g : store.Ghosts S) (o_taken : O → Option (List ℕ)) (o_failed : O → Bool)
    (e_taken : E → Option (List ℕ)) (e_failed : E → Bool) (out : O) (err : E) (old : Desk S)
    (db : List ℕ) (requests : List Request) where
  -- so many of the requests were asked, and these are the counts of their answers
  pub record AreAsked (shown : O) (told : E) (new : Desk S) (counts : OpenCounts) (i : ℕ)
      : Type 0 where
    pub answers : List YearAnswer
    pub asked : map (λ it. it.0) answers ≡ take i requests
    pub each : AnswersEach g o_taken o_failed e_taken e_failed out shown err told old new db answers
    pub opened : counts.opened ≡ count_of is_posted answers
    pub already : counts.already ≡ count_of is_already answers
    pub refused : counts.refused ≡ count_of is_refused answers
    pub grows : tally counts ≤ i

  pub none_asked : (counts : OpenCounts) → counts.opened ≡ 0 → counts.already ≡ 0
      → counts.refused ≡ 0 → AreAsked out err old counts 0
  none_asked counts opened already refused = record {
    answers = [];
    asked = refl;
    each = record { asks = (refl, refl); lines = Appends-nil (o_taken out); no_fault = refl };
    opened = opened;
    already = already;
    refused = refused;
    grows = omega arith;
  }

  pub one_asked : (above shown : O) (told said : E) (mid new : Desk S) (before after : OpenCounts)
      (i : ℕ) (request : Request) (answer : Answer)
      → AreAsked above told mid before i → i < length requests
      → request ≡ get_or requests i request
      → PrintsLine g o_taken o_failed e_taken e_failed above shown told said mid new db request
      (Ok answer)
      → failure_in answer ≡ None → after.opened ≡ before.opened + one_if (is_posted answer)
      → after.already ≡ before.already + one_if (is_already answer)
      → after.refused ≡ before.refused + one_if (is_refused answer)
      → tally after ≤ tally before + 1 → AreAsked shown said new after (i + 1)
  one_asked above shown told said mid new before after i request answer so_far some is prints none
      opened already refused grows =
      let it : YearAnswer = (request, answer) in
      let more : take (i + 1) requests ≡ take i requests ++ request ∷ [] =
      take_more requests i request some
      ∙ ap (λ (x : Request). take i requests ++ x ∷ []) (sym is) in
      let each = so_far.each in
      record {
        answers = so_far.answers ++ it ∷ [];
        asked = map-append (λ (x : YearAnswer). x.0) so_far.answers (it ∷ [])
            ∙ ap (λ (xs : List Request). xs ++ request ∷ []) so_far.asked ∙ sym more;
        each = record {
          asks = asks_more g e_taken e_failed err told said old mid new db so_far.answers request
              answer each.asks prints.0;
          lines = subst (λ (text : List ℕ). Appends (o_taken out) (o_taken shown) text)
              (sym (flat_map-append answer_line so_far.answers (it ∷ [])
              ∙ ap (λ (text : List ℕ). flat_map answer_line so_far.answers ++ text)
              (append-nil (answer_line it))))
              (Appends-trans (o_taken out) (o_taken above) (o_taken shown)
              (flat_map answer_line so_far.answers) (line_text request answer) each.lines prints.1);
          no_fault = list_any-append (λ (x : YearAnswer). is_fault x.1) so_far.answers (it ∷ [])
              ∙ rw (each.no_fault, no_failure answer none) refl;
        };
        opened = count_more is_posted so_far.answers it before.opened after.opened so_far.opened
            opened;
        already = count_more is_already so_far.answers it before.already after.already
            so_far.already already;
        refused = count_more is_refused so_far.answers it before.refused after.refused
            so_far.refused refused;
        grows = let was = so_far.grows in omega arith;
      }
