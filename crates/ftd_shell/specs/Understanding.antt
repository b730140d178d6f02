-- How the lines of a script are understood, and listed.
use Rattle.std.specs.Prelude.{◌≡◌, ◌+◌, ◌++◌, ℕ, false, true, List, [], ◌∷◌, Ok, Result}
use Rattle.std.specs.Prelude.{Option, None, Some, flat_map, is_some, map}
use Rattle.std.specs.String.{string_bytes}
use Rattle.ftd_machine.specs.Questions.{question_of}
use Rattle.ftd_cli.specs.Clocks.{DecidesOn}
use Rattle.ftd_cli.specs.Lines.{are_texts, asks_nothing, command_words, line_of, shown_words}
use Rattle.ftd_cli.specs.declared.lines.Piece.{Piece}
use Rattle.ftd_cli.specs.declared.lines.Piece.TheVariants as piece
use Rattle.ftd_cli.specs.declared.tasks.CliFault.{CliFault}
use Rattle.ftd_cli.specs.declared.tasks.Job.{Job}
use Rattle.ftd_cli.specs.declared.tasks.Job.TheVariants as job
use Rattle.ftd_cli.specs.declared.tasks.Task.{Task}
use Rattle.ftd_machine.specs.declared.requests.Request.{Request}
use Rattle.ftd_replies.specs.Notes.{asked_when_done}
use Rattle.ftd_shell.specs.Listed.{Asked, IsAsked, in_list, requests_of}
use Rattle.ftd_script.specs.Jobs.{job_asked}
use Rattle.ftd_shell.specs.Shells.{Ways}
use Rattle.ftd_shell.specs.declared.listed.Listed.{Listed}
use Rattle.ftd_shell.specs.declared.listed.ListedLine.{ListedLine}
use Rattle.ftd_shell.specs.declared.understood.Entry.{Entry}
use Rattle.ftd_shell.specs.declared.understood.Understood.{Understood}
use Rattle.ftd_shell.specs.declared.understood.Understood.TheVariants as understood
use Rattle.ftd_shell.specs.declared.understood.Words.{Words}

-- ---- what words ask

-- what asks this alone
abbrev pub words_of : Entry → Words
words_of entry = record {
  shown = entry.shown;
  asked = Ok (Some (job.Ask entry.format entry.request));
}

-- words that ask a request that is no question; or something else
abbrev pub UnderstoodAs : Words → Understood → Type 0
UnderstoodAs given (understood.Enters entry) =
    (given ≡ words_of entry) × (question_of entry.request ≡ None)
UnderstoodAs given (understood.Asks words) = words ≡ given
UnderstoodAs given other = ⊥

-- the words of a line ask this, on a day that the clock told
pub record AsksJob (ways : Ways) (words : List (List ℕ)) (asked : Result (Option Job) CliFault)
    : Type 0 where
  pub decided : Result Task CliFault
  pub today : Option ℕ
  pub decides : DecidesOn today (command_words ways.db words) decided
  pub asked_is : asked ≡ job_asked ways.does_imports decided

-- ---- what lines ask

abbrev pub UnderstandsWords : Ways → List (List ℕ) → Understood → Type 0
UnderstandsWords ways words (understood.Enters entry) =
    (string_bytes entry.shown ≡ shown_words words)
    × AsksJob ways words (Ok (Some (job.Ask entry.format entry.request)))
    × (question_of entry.request ≡ None)
UnderstandsWords ways words (understood.Asks given) =
    (string_bytes given.shown ≡ shown_words words) × AsksJob ways words given.asked
UnderstandsWords ways words understood.NoMemory = Unit
UnderstandsWords ways words other = ⊥

abbrev pub UnderstandsLine : Ways → List (List ℕ) → Understood → Type 0
UnderstandsLine ways words understood.Nothing = asks_nothing words ≡ true
UnderstandsLine ways words understood.NoText = are_texts words ≡ false
UnderstandsLine ways words understood.TooLong = ⊥
UnderstandsLine ways words understood.NoMemory = Unit
UnderstandsLine ways words (understood.Enters entry) =
    (asks_nothing words ≡ false) × UnderstandsWords ways words (understood.Enters entry)
UnderstandsLine ways words (understood.Asks given) =
    (asks_nothing words ≡ false) × UnderstandsWords ways words (understood.Asks given)

-- what comes next in a script was understood so
abbrev pub Understands : Ways → Piece → Understood → Type 0
Understands ways piece.End given = given ≡ understood.Nothing
Understands ways (piece.Line line) given = UnderstandsLine ways (line_of line.items) given
Understands ways piece.TooLong given = given ≡ understood.TooLong

-- ---- lines that are listed

abbrev pub requests_in : Entry → List Request
requests_in entry = entry.request ∷ in_list (asked_when_done entry.request)

abbrev pub listed_line : ℕ → Piece → Entry → ListedLine
listed_line number line entry = record {
  number = number;
  piece = line;
  shown = entry.shown;
  format = entry.format;
  has_note = is_some (asked_when_done entry.request);
}

-- a line more is listed
pub record Adds (number : ℕ) (line : Piece) (entry : Entry) (old new : Listed) : Type 0 where
  pub lines : new.lines.items ≡ old.lines.items ++ listed_line number line entry ∷ []
  pub requests : new.requests.items ≡ old.requests.items ++ requests_in entry

-- the same lines are listed
pub record StaysListed (old new : Listed) : Type 0 where
  pub lines : new.lines.items ≡ old.lines.items
  pub requests : new.requests.items ≡ old.requests.items

-- a line was listed; or it is given back, to be answered alone
abbrev pub Takes : ℕ → Piece → Understood → Listed → Listed → Option Understood → Type 0
Takes number line given old new None =
    (entry : Entry) × (given ≡ understood.Enters entry) × Adds number line entry old new
Takes number line given old new (Some back) = (back ≡ given) × StaysListed old new

-- a listed line asks this, and has this number
pub record IsListed (ways : Ways) (number : ℕ) (line : ListedLine) (asked : Asked) : Type 0 where
  pub asks : IsAsked ways line.piece asked
  pub number_is : line.number ≡ number
  pub shown_is : string_bytes line.shown ≡ shown_words asked.words
  pub format_is : line.format ≡ asked.format
  pub note_is : line.has_note ≡ is_some (asked_when_done asked.request)

-- each of the lines asks one of these, and they are numbered from here on
abbrev pub AreListed : Ways → ℕ → List ListedLine → List Asked → Type 0
AreListed ways number [] [] = Unit
AreListed ways number [] (asked ∷ later) = ⊥
AreListed ways number (line ∷ lines) [] = ⊥
AreListed ways number (line ∷ lines) (asked ∷ later) =
    IsListed ways number line asked × AreListed ways (number + 1) lines later

pub record Holds (ways : Ways) (number : ℕ) (listed : Listed) (asked : List Asked) : Type 0 where
  pub lines : AreListed ways number listed.lines.items asked
  pub requests : listed.requests.items ≡ flat_map requests_of asked

-- the listed lines, the first first
abbrev pub pieces_in : Listed → List Piece
pieces_in listed = map (λ line. line.piece) listed.lines.items
