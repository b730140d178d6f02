-- What follows of the line of a request, by the words that it is made of.
use Rattle.std.proofs.Common.{subst, ◌≢◌, length-append, length, ◌≤◌, ◌≡◌}
use Rattle.std.proofs.Common.{ℕ, true, false, List, [], ◌∷◌, ◌++◌, map, Option}
use Rattle.std.proofs.Common.{sym, ap, ◌∙◌, arith, append-nil, append_assoc, cond}
use Rattle.std.proofs.lemmas.List.{length-map}
use Rattle.ftd_replies.specs.LineLaws.{AsksInTurn, IsAskedBy, AsksIt, IsCommandLine}
use Rattle.ftd_replies.specs.LineLaws.{IsOneLine, IsShort}
use Rattle.ftd_replies.specs.LineLaws.{words_of_line}
use Rattle.ftd_replies.specs.RequestLines.{request_line}
use Rattle.std.specs.Prelude.{codes}
use Rattle.std.specs.Str.{bytes_eq}
use Rattle.clap.specs.Walk.{Text}
use Rattle.ftd_cli.specs.Lines.{after_line, are_texts, asks_nothing, begins_comment, command_words}
use Rattle.ftd_cli.specs.Lines.{first_line, is_with_file, line_of, without_file, without_program}
use Rattle.ftd_cli.specs.declared.lines.TheConstants.{MOST_LINE}
use Rattle.ftd_cli.specs.Tasks.{task_of}
use Rattle.ftd_machine.specs.declared.requests.Request.{Request}
use Rattle.ftd_verbs.specs.Rows.{row_of}
use Rattle.ftd_verbs.specs.declared.rows.Verb.{Verb}
use Rattle.ftd_replies.proofs.CutLines.{after_back, are_words, first_back, inner_line}
use Rattle.ftd_replies.proofs.CutLines.{short_line, spaced, words_are_texts, words_back}
use Rattle.ftd_replies.proofs.LineTasks.{Asks}
use Rattle.ftd_replies.proofs.Walked.{Item, text_of}

-- ---- what a line is

-- the line of the request: the command of a verb, and words that ask the request with it
pub record IsLineOf (asked : Request) : Type 0 where
  pub verb : Verb
  pub items : List Item
  pub line : request_line asked
      ≡ (row_of verb).command ++ (spaced (map text_of items) ++ codes "\n")
  pub words : are_words ((row_of verb).command ∷ map text_of items) ≡ true
  pub other : bytes_eq (row_of verb).command (codes "ftd") ≡ false
  pub no_comment : begins_comment (row_of verb).command ≡ false
  pub file : is_with_file (row_of verb).command ≡ true
  pub no_file : (db : Text) → without_file db (map text_of items) ≡ map text_of items
  pub few : IsShort asked → length items ≤ 100
  pub asks : (today : Option ℕ) (db : Text) → Asks today db verb items asked

module _ (asked : Request) (l : IsLineOf asked) where
  -- its command, its other words, and what it is without its end
  abbrev command : Text
  command = (row_of l.verb).command

  abbrev texts : List Text
  texts = map text_of l.items

  abbrev inner : Text
  inner = command ++ spaced texts

  -- the line, and what comes behind it
  before : (rest : Text) → request_line asked ++ rest ≡ inner ++ 10 ∷ rest
  before rest =
      ap (λ line. line ++ rest) (l.line ∙ sym (append_assoc command (spaced texts) (codes "\n")))
      ∙ append_assoc inner (codes "\n") rest

  -- the line without its end
  first_is : (rest : Text) → first_line (request_line asked ++ rest) ≡ inner
  first_is rest = ap first_line (before rest)
      ∙ first_back inner rest (inner_line command texts l.words)

  -- the same where nothing comes behind it
  alone : first_line (request_line asked) ≡ inner
  alone = ap first_line (sym (append-nil (request_line asked))) ∙ first_is []

  -- it is one line, whatever comes behind it
  pub is_one_line : (rest : Text) → IsOneLine (request_line asked) rest
  is_one_line rest = record {
    first = first_is rest ∙ sym alone;
    after = ap after_line (before rest) ∙ after_back inner rest (inner_line command texts l.words);
  }

  -- the words that a shell takes from it
  words_are : words_of_line asked ≡ command ∷ texts
  words_are =
      ap line_of alone ∙ ap without_program (words_back command texts l.words)
      ∙ ap (λ b. cond b texts (command ∷ texts)) l.other

  -- the line is not too long for a shell
  pub is_short_line : IsShort asked → length (first_line (request_line asked)) ≤ MOST_LINE
  is_short_line h =
      let long = short_line command texts l.words in
      let items = length-map l.items text_of in
      let few = l.few h in
      rw alone (omega arith)

  -- the words are those of a command
  pub is_command_line : IsCommandLine (words_of_line asked)
  is_command_line = record {
    asks = ap asks_nothing words_are ∙ l.no_comment;
    texts = ap are_texts words_are ∙ words_are_texts (command ∷ texts) l.words;
  }

  -- they ask the request
  pub asks_it : (today : Option ℕ) (db : Text) → AsksIt today db asked
  asks_it today db =
      ap (λ words. task_of today (command_words db words)) words_are
      ∙ ap (λ b. task_of today (codes "ftd" ∷ command
      ∷ cond b ((codes "--db=" ++ db) ∷ codes "--wait=0" ∷ without_file db texts) texts)) l.file
      ∙ ap (λ words. task_of today (codes "ftd" ∷ command
      ∷ (codes "--db=" ++ db) ∷ codes "--wait=0" ∷ words)) (l.no_file db)
      ∙ l.asks today db

  -- a script that begins with the line is not empty
  not_empty : (rest : Text) → request_line asked ++ rest ≢ []
  not_empty rest e =
      let none : length (inner ++ 10 ∷ rest) ≡ 0 = ap length (sym (before rest) ∙ e) in
      omega (arith, length-append inner (10 ∷ rest))

  -- its first line asks the request
  pub first_asks : (today : Option ℕ) (db rest : Text) → IsShort asked
      → IsAskedBy today db (first_line (request_line asked ++ rest)) asked
  first_asks today db rest h =
      let own : IsAskedBy today db (first_line (request_line asked)) asked = record {
        short = is_short_line h;
        command = is_command_line;
        asks = asks_it today db;
      } in
      subst (λ line. IsAskedBy today db line asked) (alone ∙ sym (first_is rest)) own

  -- with it the script asks what it asks without it, and the request before that
  pub then_asks : (today : Option ℕ) (db rest : Text) (others : List Request) → IsShort asked
      → AsksInTurn today db rest others
      → AsksInTurn today db (request_line asked ++ rest) (asked ∷ others)
  then_asks today db rest others h more = (
    not_empty rest,
    first_asks today db rest h,
    subst (λ script. AsksInTurn today db script others) (sym (is_one_line rest).after) more,
  )
