-- The values that the words of a subcommand were given.
use Rattle.std.specs.Prelude.{ℕ, ◌^◌, nat_lt, List, [], Option, Some, None, option_and_then}
use Rattle.std.specs.Prelude.{Bool, false, codes, if◌then◌else◌, Result, Ok, Err}
use Rattle.std.specs.Str.{bytes_eq}
use Rattle.std.specs.List.{find}
use Rattle.std.specs.Option.{is_none, option_map_or, unwrap_or}
use Rattle.clap.specs.Words.{Row, Text, all_of, first_of}
use Rattle.ftd_days.specs.Spelling.{day_of, days_of, whole_number}
use Rattle.ftd_verbs.specs.Formats.{as_text, named}
use Rattle.ftd_verbs.specs.declared.formats.AnswerFormat.{AnswerFormat}
use Rattle.ftd_verbs.specs.declared.formats.Formats.{Formats}
use Rattle.ftd_verbs.specs.declared.formats.Formats.TheVariants as formats
use Rattle.ftd_cli.specs.declared.fault.WordFault.{WordFault}
use Rattle.ftd_cli.specs.declared.fault.WordFault.TheVariants as fault
use Rattle.ftd_cli.specs.declared.table.Word.{Word}
use Rattle.ftd_cli.specs.declared.table.Word.TheVariants as word
use Rattle.ftd_cli.specs.Table.{takes_many, takes_of, word_text}

-- the word is there
abbrev pub is_given : Word → List Row → Bool
is_given word rows =
    option_map_or (λ text. bytes_eq text (codes "true")) (first_of (word_text word) rows) false

-- a value, or the word that has none
abbrev pub needed : {X : Type 0} → Word → Option X → Result X WordFault
needed word None = Err (fault.BadWord word)
needed word (Some value) = Ok value

-- the value of a word: its text, and the number that the text spells
abbrev pub text_in : Word → List Row → Result Text WordFault
text_in word rows = needed word (first_of (word_text word) rows)

abbrev pub spelled_in : {X : Type 0} → (Text → Option X) → Word → List Row → Result X WordFault
spelled_in value word rows = needed word (option_and_then value (first_of (word_text word) rows))

abbrev pub whole_in : Word → List Row → Result ℕ WordFault
whole_in word rows = spelled_in whole_number word rows

-- a port: a number below 65,536
abbrev pub port_of : Text → Option ℕ
port_of text =
    option_and_then (λ number. if nat_lt number (2 ^ 16) then Some number else None)
    (whole_number text)

abbrev pub port_in : Word → List Row → Result ℕ WordFault
port_in word rows = spelled_in port_of word rows

-- the values of a word that takes any number of them, of which there may be none
abbrev pub texts_of : Option (List Text) → List Text
texts_of None = []
texts_of (Some texts) = texts

abbrev pub texts_in : Word → List Row → List Text
texts_in word rows = texts_of (all_of (word_text word) rows)

-- the days that the values of a word spell
abbrev pub days_in : Word → List Row → Result (List ℕ) WordFault
days_in word rows = needed word (days_of (texts_in word rows))

-- the first of the texts that spells no day
abbrev pub first_no_day : List Text → Option Text
first_no_day texts = find (λ text. is_none (day_of text)) texts

-- of a word whose value is none of its kind, the first such value: where it takes any number of
-- values, which are days, the first that spells none; else its one value. The empty text where it
-- was given none, which `clap` refuses at each word that must have one.
abbrev pub bad_value : Word → List Row → Text
bad_value word rows =
    unwrap_or
    (if takes_many (takes_of word) then first_no_day (texts_in word rows)
    else first_of (word_text word) rows) []

-- the one of these formats that is asked for
abbrev pub chosen_format : Formats → List Row → Result AnswerFormat WordFault
chosen_format formats rows = spelled_in (named formats) (word.Format formats) rows

-- the format of an answer that is asked for: text, where it is told in one way
abbrev pub format_in : Formats → List Row → Result AnswerFormat WordFault
format_in formats.Fixed rows = Ok as_text
format_in formats.Explanation rows = chosen_format formats.Explanation rows
format_in formats.List rows = chosen_format formats.List rows
format_in formats.Calendar rows = chosen_format formats.Calendar rows
