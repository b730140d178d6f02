-- What the words of a command ask that names the file, by what each of them is.
use Rattle.std.proofs.Common.{◌≡◌, ℕ, true, false, List, [], ◌∷◌, map, Option, Some, Ok, cond}
use Rattle.std.proofs.Common.{refl, sym, ap, ◌∙◌}
use Rattle.std.specs.Prelude.{codes, option_and_then}
use Rattle.clap.specs.Faults.{level_fault}
use Rattle.clap.specs.Kinds.{Kinds}
use Rattle.clap.specs.Simple.{Shape, built, built_leaf, inherited, marked_built, with_leaf_noted}
use Rattle.clap.specs.Walk.{Row, Text, finished, first_of, nothing_held}
use Rattle.ftd_cli.specs.Apps.{app_for, program, single}
use Rattle.ftd_cli.specs.Asking.{Wanted, ask, ask_next, asked_as, asked_by, asked_next, then_with}
use Rattle.ftd_cli.specs.Asking.{wanted_of, wants_next}
use Rattle.ftd_cli.specs.Tasks.{by_value, command_named, task_of, wanted_as, wanted_in}
use Rattle.ftd_cli.specs.Values.{format_in, needed, whole_in}
use Rattle.ftd_cli.specs.Words.{told, words_said}
use Rattle.ftd_cli.specs.declared.table.Name.TheVariants as name
use Rattle.ftd_cli.specs.declared.table.Word.TheVariants as word
use Rattle.ftd_cli.proofs.Named.{entered_named, fault_named, faults_of, named}
use Rattle.ftd_cli.proofs.Single.{single_reads}
use Rattle.ftd_cli.proofs.TaskFacts.{parsed_task}
use Rattle.ftd_days.specs.Spelling.{whole_number}
use Rattle.ftd_machine.specs.declared.requests.Request.{Request}
use Rattle.ftd_verbs.specs.Asked.{asked as asked_of}
use Rattle.ftd_verbs.specs.Formats.{as_text}
use Rattle.ftd_verbs.specs.Rows.{row_of}
use Rattle.ftd_verbs.specs.declared.formats.Formats.TheVariants as formats
use Rattle.ftd_verbs.specs.declared.rows.Verb.{Verb}
use Rattle.ftd_hinted.specs.Hinted.{of_desk}
use Rattle.ftd_replies.proofs.Walked.{Item, are_items, end_fault, flag, items_fault, level_by_items}
use Rattle.ftd_replies.proofs.Walked.{place, read_all, rows_by_items, start, text_of}

-- the subcommand of a verb as it is built beneath the program
abbrev pub shape : Verb → Shape
shape verb =
    built_leaf (inherited (with_leaf_noted (marked_built (record program.top { is_leaf = false })))
    (app_for (name.Verb verb)).top)

-- the words behind its name: the file, and others
abbrev pub on_file : Text → List Item → List Item
on_file db items = flag (codes "--db") ∷ place db ∷ items

abbrev pub command_on : Verb → Text → List Item → List Text
command_on verb db items = codes "ftd" ∷ (row_of verb).command ∷ map text_of (on_file db items)

-- the faults of these words, and the values that they give
abbrev pub faults_in : Verb → Text → List Item → Kinds
faults_in verb db items =
    end_fault (shape verb) (items_fault (shape verb) start (on_file db items))
    (read_all (shape verb).rules start (on_file db items)).held

abbrev pub rows_in : Verb → Text → List Item → List Row
rows_in verb db items =
    finished (shape verb).rules (read_all (shape verb).rules start (on_file db items)).held

-- the command line with one subcommand alone, as it is built, knows the verb by its name, and fails
-- by nothing of its own
pub record IsCommand (verb : Verb) : Type 0 where
  pub known : command_named (row_of verb).command ≡ Some (name.Verb verb)
  pub found : named (row_of verb).command (built (single (name.Verb verb))).subs
      ≡ Some (shape verb)
  pub same : (shape verb).name ≡ (row_of verb).command
  pub quiet : (rest : List Text) → level_fault (shape verb) [] nothing_held rest false [] ≡ []
      → faults_of (built (single (name.Verb verb))).top (shape verb) (row_of verb).command rest
      ≡ []

-- its words ask what their values want, where they have no fault
asks_by : (today : Option ℕ) (verb : Verb) (db : Text) (items : List Item) (wanted : Wanted)
    → IsCommand verb → are_items (on_file db items) ≡ true → faults_in verb db items ≡ []
    → wanted_of today (name.Verb verb) (rows_in verb db items) ≡ Ok wanted
    → task_of today (command_on verb db items) ≡ Ok wanted
unfolding wanted_in
asks_by today verb db items wanted c are faults wants =
    let text : Text = (row_of verb).command in
    let whole : List Item = on_file db items in
    let rest : List Text = map text_of whole in
    let one = built (single (name.Verb verb)) in
    let reads = single_reads text (name.Verb verb) c.known (codes "ftd") rest in
    let none = sym reads.faults ∙ fault_named one text (shape verb) c.found c.same rest
    ∙ c.quiet rest (level_by_items (shape verb) whole are ∙ faults) in
    let called = sym reads.called ∙ entered_named one text (shape verb) c.found c.same rest
    ∙ ap Some (rows_by_items (shape verb) whole are) in
    let rows = rows_in verb db items in
    parsed_task today _ (Some ((shape verb).name, rows)) none (sym called)
    ∙ ap (λ text. by_value (wanted_as today (command_named text) rows)) c.same
    ∙ ap (λ o. by_value (wanted_as today o rows)) c.known
    ∙ ap by_value wants

-- the wait of 0 seconds is read
no_wait : whole_number (codes "0") ≡ Some 0
unfolding whole_number
no_wait = refl

-- what a verb with one format asks by values
pub record AsksBy (today : Option ℕ) (db : Text) (verb : Verb) (rows : List Row)
    (asked : Request) : Type 0 where
  pub request : asked_of verb (words_said today rows) ≡ Ok asked
  pub fixed : (row_of verb).formats ≡ formats.Fixed
  pub file : first_of (codes "db") rows ≡ Some db
  pub wait : first_of (codes "wait") rows ≡ Some (codes "0")

module _ (today : Option ℕ) (db : Text) (verb : Verb) (rows : List Row) (asked : Request)
    (by : AsksBy today db verb rows asked) where
  -- the file and the wait are there, whatever is made of them
  on_desk : (make : Text → ℕ → Wanted)
      → then_with (needed word.Db (first_of (codes "db") rows)) (λ file.
      then_with (whole_in word.Wait rows) (λ wait. Ok (make file wait)))
      ≡ Ok (make db 0)
  on_desk make =
      ap (λ o. then_with (needed word.Db o) (λ file.
      then_with (whole_in word.Wait rows) (λ wait. Ok (make file wait)))) by.file
      ∙ ap (λ o. then_with (needed word.Wait (option_and_then whole_number o)) (λ wait.
      Ok (make db wait))) by.wait
      ∙ ap (λ o. then_with (needed word.Wait o) (λ wait. Ok (make db wait))) no_wait

  -- where no value takes the next number, it asks the request
  wants : wants_next verb rows ≡ false
      → wanted_of today (name.Verb verb) rows ≡ Ok (of_desk db asked)
  unfolding wanted_of
  wants own =
      ap (λ r. then_with (told r) (asked_by verb rows)) by.request
      ∙ ap (λ b. cond b (asked_next rows asked)
      (then_with (format_in (row_of verb).formats rows) (λ format. asked_as rows format asked)))
      own
      ∙ ap (λ f. then_with (format_in f rows) (λ format. asked_as rows format asked)) by.fixed
      ∙ on_desk (λ file wait. ask file wait as_text asked)

  -- else it asks it under the next number
  wants_numbered : wants_next verb rows ≡ true
      → wanted_of today (name.Verb verb) rows ≡ Ok (ask_next db 0 asked)
  unfolding wanted_of
  wants_numbered next =
      ap (λ r. then_with (told r) (asked_by verb rows)) by.request
      ∙ ap (λ b. cond b (asked_next rows asked)
      (then_with (format_in (row_of verb).formats rows) (λ format. asked_as rows format asked)))
      next
      ∙ on_desk (λ file wait. ask_next file wait asked)

-- so its words ask it
pub verb_asks : (today : Option ℕ) (db : Text) (verb : Verb) (items : List Item) (asked : Request)
    → IsCommand verb → are_items (on_file db items) ≡ true → faults_in verb db items ≡ []
    → wants_next verb (rows_in verb db items) ≡ false
    → AsksBy today db verb (rows_in verb db items) asked
    → task_of today (command_on verb db items) ≡ Ok (of_desk db asked)
verb_asks today db verb items asked c are faults own by =
    asks_by today verb db items (of_desk db asked) c are faults
    (wants today db verb (rows_in verb db items) asked by own)

pub verb_asks_next : (today : Option ℕ) (db : Text) (verb : Verb) (items : List Item)
    (asked : Request)
    → IsCommand verb → are_items (on_file db items) ≡ true → faults_in verb db items ≡ []
    → wants_next verb (rows_in verb db items) ≡ true
    → AsksBy today db verb (rows_in verb db items) asked
    → task_of today (command_on verb db items) ≡ Ok (ask_next db 0 asked)
verb_asks_next today db verb items asked c are faults next by =
    asks_by today verb db items (ask_next db 0 asked) c are faults
    (wants_numbered today db verb (rows_in verb db items) asked by next)
