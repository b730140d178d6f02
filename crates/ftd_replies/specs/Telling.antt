-- What the program prints where words ask nothing.
use Rattle.std.specs.Prelude.{◌≡◌, ◌⊎◌, ◌++◌, ℕ, Bool, true, List, [], ◌∷◌, Option, codes}
use Rattle.std.specs.Io.KnownBytes.{Appends}
use Rattle.std.specs.List.{concat}
use Rattle.std.specs.String.{string_bytes}
use Rattle.ftd_ports.specs.Writing.{WritesPrefix}
use Rattle.ftd_cli.specs.Table.{word_text}
use Rattle.ftd_cli.specs.declared.table.Word.{Word}
use Rattle.ftd_cli.specs.declared.table.Word.TheVariants as word
use Rattle.ftd_cli.specs.declared.tasks.CliFault.{CliFault}
use Rattle.ftd_cli.specs.declared.tasks.CliFault.TheVariants as fault
use Rattle.ftd_verbs.specs.FieldRows.{kind_of}
use Rattle.ftd_verbs.specs.declared.field.Kind.{Kind}
use Rattle.ftd_verbs.specs.declared.field.Kind.TheVariants as kind
use Rattle.ftd_verbs.specs.declared.formats.Formats.{Formats}
use Rattle.ftd_verbs.specs.declared.formats.Formats.TheVariants as formats
use Rattle.ftd_replies.specs.Putting.{IsPut}

-- what is asked for as a value of a kind
abbrev pub day_form : List ℕ
day_form = codes "a date from 1900 to 2199; write it like 2024-05-27"

abbrev pub number_form : List ℕ
number_form = codes "a number from 1 to 999999999"

abbrev pub allowed : List ℕ
allowed = codes "a value that is allowed here"

abbrev pub kind_text : Kind → List ℕ
kind_text kind.Day = day_form
kind_text kind.DayOrOther = day_form
kind_text kind.DayOrToday = day_form
kind_text kind.Days = day_form
kind_text kind.Quarter = codes "a quarter from 1900Q1 to 2199Q4; write it like 2024Q2"
kind_text kind.Amount = codes "an amount up to 999999999.99; write it like 1234.56"
kind_text kind.Account =
    codes "an account name: 1 to 20 bytes, a lower-case letter, "
    ++ codes "then lower-case letters, digits or hyphens"
kind_text kind.Year = codes "a year from 2001 to 2098"
kind_text kind.Number = number_form
kind_text kind.NumberOrNext = number_form
kind_text kind.NewNumber = codes "a number from 1 to 999999999, or next"
kind_text kind.Answer = codes "yes or no"
kind_text kind.Mark = allowed
kind_text kind.Form = allowed

-- what is asked for as a format of an answer
abbrev pub formats_text : Formats → List ℕ
formats_text formats.Fixed = allowed
formats_text formats.Explanation = codes "a format: text, json or html"
formats_text formats.List = codes "a format: text, csv, json or html"
formats_text formats.Calendar = codes "a format: text, csv, json, html or ics"

-- what is asked for as the value of a word
abbrev pub asked_text : Word → List ℕ
asked_text (word.Field at) = kind_text (kind_of at)
asked_text (word.Format formats) = formats_text formats
asked_text word.Holidays = day_form
asked_text word.DueDay = day_form
asked_text word.PaidDay = day_form
asked_text word.Port = codes "a port from 0 to 65535"
asked_text word.Wait = codes "a number of seconds from 0 to 3600"
asked_text other = allowed

-- the value that was given; it is told in words where it is empty
abbrev pub given_text : List ℕ → List ℕ
given_text [] = codes "an empty word"
given_text (byte ∷ bytes) = byte ∷ bytes

-- `bad argument YEAR`, and below it `hint: 2099 is not a year from 2001 to 2098`
abbrev pub bad_text : (name given asked : List ℕ) → List ℕ
bad_text name given asked =
    concat
    (codes "bad argument " ∷ name ∷ codes "\nhint: " ∷ given ∷ codes " is not " ∷ asked
    ∷ (10 ∷ []) ∷ [])

abbrev pub bad_word : Word → List ℕ → List ℕ
bad_word word value = bad_text (word_text word) (given_text value) (asked_text word)

-- today is not known, and this word is to be given
abbrev pub no_today : List ℕ → List ℕ
no_today name =
    concat
    (codes "failed Clock\nhint: today's date can't be read; give " ∷ name ∷ (10 ∷ []) ∷ [])

module _ {O E : Type 0} (o_taken : O → Option (List ℕ)) (o_failed : O → Bool)
    (e_taken : E → Option (List ℕ)) (e_failed : E → Bool)
    (out out' : O) (err err' : E) where
  -- the text on standard error, and nothing on standard output
  pub record TellsFault (text : List ℕ) (meant status : ℕ) : Type 0 where
    pub status_is : status ≡ meant
    pub out_is : out' ≡ out
    pub line : IsPut (e_taken err) (e_taken err') (e_failed err') text

  -- the help on standard output
  pub record HasHelped (text : List ℕ) (status : ℕ) : Type 0 where
    pub status_is : status ≡ 0
    pub err_is : err' ≡ err
    pub whole : Appends (o_taken out) (o_taken out') text

  -- standard output took no more than a prefix of it
  pub record FailsHelp (text : List ℕ) (status : ℕ) : Type 0 where
    pub status_is : status ≡ 3
    pub part : WritesPrefix (o_taken out) (o_taken out') text
    pub failed : o_failed out' ≡ true
    pub line : IsPut (e_taken err) (e_taken err') (e_failed err') (codes "failed Output\n")

  abbrev pub TellsHelp : List ℕ → ℕ → Type 0
  TellsHelp text status = HasHelped text status ⊎ FailsHelp text status

  -- by why the words ask nothing
  abbrev pub Tells : CliFault → ℕ → Type 0
  Tells (fault.BadArgument word value) =
      TellsFault (bad_word word (string_bytes value)) 2
  Tells (fault.NoToday word) = TellsFault (no_today (word_text word)) 3
  Tells (fault.Usage text) = TellsFault (string_bytes text) 2
  Tells (fault.Help text) = TellsHelp (string_bytes text)
  Tells fault.Memory = TellsFault (codes "failed 21 Memory\n") 3
