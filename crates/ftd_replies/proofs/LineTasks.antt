-- What the words of a line ask, by what each of them is.
use Rattle.std.proofs.Common.{◌≡◌, ℕ, true, false, List, [], ◌∷◌, ◌++◌, map, Option, Some, Ok, cond}
use Rattle.std.proofs.Common.{refl, sym, ap, ◌∙◌}
use Rattle.std.specs.Prelude.{codes, option_and_then}
use Rattle.clap.specs.Faults.{level_fault}
use Rattle.clap.specs.Kinds.{Kinds}
use Rattle.clap.specs.Simple.{Shape, built, built_leaf, inherited, marked_built, with_leaf_noted}
use Rattle.clap.specs.Walk.{Row, Text, finished, first_of, nothing_held}
use Rattle.ftd_cli.specs.Apps.{app_for, program, single}
use Rattle.ftd_cli.specs.Asking.{Wanted, ask, asked_as, asked_by, asked_next, then_with, wanted_of}
use Rattle.ftd_cli.specs.Asking.{wants_next}
use Rattle.ftd_cli.specs.Table.{name_text}
use Rattle.ftd_cli.specs.Values.{format_in, needed, whole_in}
use Rattle.ftd_cli.specs.Words.{told, words_said}
use Rattle.ftd_cli.specs.declared.table.Name.TheVariants as name
use Rattle.ftd_cli.specs.declared.table.Word.TheVariants as word
use Rattle.ftd_days.specs.Spelling.{whole_number}
use Rattle.ftd_machine.specs.declared.requests.Request.{Request}
use Rattle.ftd_verbs.specs.Asked.{asked as asked_of}
use Rattle.ftd_verbs.specs.Formats.{as_text}
use Rattle.ftd_verbs.specs.Rows.{row_of}
use Rattle.ftd_verbs.specs.declared.formats.Formats.TheVariants as formats
use Rattle.ftd_verbs.specs.declared.rows.Verb.{Verb}
use Rattle.ftd_cli.specs.Tasks.{by_value, command_named, task_of, wanted_as, wanted_in}
use Rattle.ftd_cli.specs.declared.table.Name.{Name}
use Rattle.ftd_cli.proofs.Named.{entered_named, fault_named, faults_of, named}
use Rattle.ftd_cli.proofs.Single.{single_reads}
use Rattle.ftd_cli.proofs.TaskFacts.{parsed_task}
use Rattle.ftd_replies.proofs.Walked.{Item, are_items, end_fault, flag, items_fault, level_by_items}
use Rattle.ftd_replies.proofs.Walked.{read_all, rows_by_items, start, text_of}

-- a subcommand as it is built beneath the program
abbrev pub leaf : Name → Shape
leaf name =
    built_leaf (inherited (with_leaf_noted (marked_built (record program.top { is_leaf = false })))
    (app_for name).top)

-- the command line with one subcommand alone, as it is built, knows the subcommand by its name, and
-- fails by nothing of its own
pub record IsCommand (name : Name) : Type 0 where
  pub known : command_named (name_text name) ≡ Some name
  pub found : named (name_text name) (built (single name)).subs ≡ Some (leaf name)
  pub same : (leaf name).name ≡ name_text name
  pub quiet : (rest : List Text) → level_fault (leaf name) [] nothing_held rest false [] ≡ []
      → faults_of (built (single name)).top (leaf name) (name_text name) rest ≡ []

-- words that begin with the name of a subcommand ask what its values want, where they have no fault
pub asks_by : (today : Option ℕ) (name : Name) (items : List Item) (asked : Wanted)
    → IsCommand name → are_items items ≡ true
    → end_fault (leaf name) (items_fault (leaf name) start items)
    (read_all (leaf name).rules start items).held ≡ []
    → wanted_of today name
    (finished (leaf name).rules (read_all (leaf name).rules start items).held) ≡ Ok asked
    → task_of today (codes "ftd" ∷ name_text name ∷ map text_of items) ≡ Ok asked
unfolding wanted_in
asks_by today name items asked c are faults wants =
    let rest : List Text = map text_of items in
    let reads = single_reads (name_text name) name c.known (codes "ftd") rest in
    let none = sym reads.faults
    ∙ fault_named (built (single name)) (name_text name) (leaf name) c.found c.same rest
    ∙ c.quiet rest (level_by_items (leaf name) items are ∙ faults) in
    let called = sym reads.called
    ∙ entered_named (built (single name)) (name_text name) (leaf name) c.found c.same rest
    ∙ ap Some (rows_by_items (leaf name) items are) in
    let rows = finished (leaf name).rules (read_all (leaf name).rules start items).held in
    parsed_task today _ (Some ((leaf name).name, rows)) none (sym called)
    ∙ ap (λ text. by_value (wanted_as today (command_named text) rows)) c.same
    ∙ ap (λ o. by_value (wanted_as today o rows)) c.known
    ∙ ap by_value wants

-- ---- verbs

-- the words of a command, with the desk's file put among them
abbrev pub in_file : Text → List Item → List Item
in_file db items = flag (codes "--db=" ++ db) ∷ flag (codes "--wait=0") ∷ items

-- the words of a verb ask this of the desk in the file
abbrev pub Asks : Option ℕ → Text → Verb → List Item → Request → Type 0
Asks today db verb items asked =
    task_of today (codes "ftd" ∷ name_text (name.Verb verb) ∷ map text_of (in_file db items))
    ≡ Ok (ask db 0 as_text asked)

-- what is known of a verb behind its words: the faults of these, and the values that they give
abbrev pub verb_shape : Verb → Shape
verb_shape verb = leaf (name.Verb verb)

abbrev pub faults_in : Text → Verb → List Item → Kinds
faults_in db verb items =
    end_fault (verb_shape verb) (items_fault (verb_shape verb) start (in_file db items))
    (read_all (verb_shape verb).rules start (in_file db items)).held

abbrev pub rows_in : Text → Verb → List Item → List Row
rows_in db verb items = finished (verb_shape verb).rules
    (read_all (verb_shape verb).rules start (in_file db items)).held

-- the wait of 0 seconds is read
no_wait : whole_number (codes "0") ≡ Some 0
unfolding whole_number
no_wait = refl

-- what a verb with one format asks by values, of which none takes the next number
pub record AsksBy (today : Option ℕ) (db : Text) (verb : Verb) (rows : List Row)
    (asked : Request) : Type 0 where
  pub request : asked_of verb (words_said today rows) ≡ Ok asked
  pub own_number : wants_next verb rows ≡ false
  pub fixed : (row_of verb).formats ≡ formats.Fixed
  pub file : first_of (codes "db") rows ≡ Some db
  pub wait : first_of (codes "wait") rows ≡ Some (codes "0")

-- by such values it asks the request
verb_wants : (today : Option ℕ) (db : Text) (verb : Verb) (rows : List Row) (asked : Request)
    → AsksBy today db verb rows asked
    → wanted_of today (name.Verb verb) rows ≡ Ok (ask db 0 as_text asked)
unfolding wanted_of
verb_wants today db verb rows asked by =
    ap (λ r. then_with (told r) (asked_by verb rows)) by.request
    ∙ ap (λ b. cond b (asked_next rows asked)
    (then_with (format_in (row_of verb).formats rows) (λ format. asked_as rows format asked)))
    by.own_number
    ∙ ap (λ f. then_with (format_in f rows) (λ format. asked_as rows format asked)) by.fixed
    ∙ ap (λ o. then_with (needed word.Db o) (λ file.
    then_with (whole_in word.Wait rows) (λ wait. Ok (ask file wait as_text asked))))
    by.file
    ∙ ap (λ o. then_with (needed word.Wait (option_and_then whole_number o)) (λ wait.
    Ok (ask db wait as_text asked))) by.wait
    ∙ ap (λ o. then_with (needed word.Wait o) (λ wait.
    Ok (ask db wait as_text asked))) no_wait

-- and so its words ask it, where they have no fault
pub verb_asks : (today : Option ℕ) (db : Text) (verb : Verb) (items : List Item) (asked : Request)
    → IsCommand (name.Verb verb) → are_items items ≡ true → faults_in db verb items ≡ []
    → AsksBy today db verb (rows_in db verb items) asked → Asks today db verb items asked
verb_asks today db verb items asked c are faults by =
    asks_by today (name.Verb verb) (in_file db items) (ask db 0 as_text asked) c are
    faults (verb_wants today db verb (rows_in db verb items) asked by)
