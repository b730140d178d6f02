-- The command line of the table.
use Rattle.std.specs.Prelude.{List, [], ◌∷◌, Some, None, true, if◌then◌else◌, codes}
use Rattle.std.specs.Prelude.{ℤ, pos}
use Rattle.clap.specs.Words.{App, Rule, Text, new_app, new_rule, with_rule, with_subcommand}
use Rattle.clap.specs.declared.builder.ArgAction.TheVariants.{Append, SetTrue}
use Rattle.clap.specs.declared.builder.value_parser.ValueParser.TheVariants as parser
use Rattle.ftd_cli.specs.declared.command.TheConstants.{MOST_SECONDS}
use Rattle.ftd_cli.specs.declared.table.Name.{Name}
use Rattle.ftd_cli.specs.declared.table.Word.{Word}
use Rattle.ftd_cli.specs.declared.table.Word.TheVariants as word
use Rattle.ftd_cli.specs.declared.table.Takes.{Takes}
use Rattle.ftd_cli.specs.declared.table.Takes.TheVariants as takes
use Rattle.ftd_cli.specs.Table.{all_names, fields_in, is_option, name_text, takes_of, word_text}
use Rattle.ftd_cli.specs.Table.{words_of}
use Rattle.ftd_verbs.specs.declared.field.Field.{Field}

-- a whole number of seconds, from so many to 3,600; so many if none is given
abbrev pub seconds_or : ℤ → Text → Rule → Rule
seconds_or least default rule =
    record rule { defaults = default ∷ []; parser = Some (parser.Signed least MOST_SECONDS) }

-- what a word takes, as `clap` says it
abbrev pub taking : Takes → Rule → Rule
taking takes.Text rule = record rule { required = true }
taking takes.Optional rule = rule
taking (takes.Number low high) rule =
    record rule { required = true; parser = Some (parser.Signed low high) }
taking (takes.OptionalNumber low high) rule =
    record rule { parser = Some (parser.Signed low high) }
taking takes.Texts rule = record rule { action = Some Append }
taking takes.Nothing rule = record rule { action = Some SetTrue }
taking takes.Form rule = record rule { defaults = codes "941" ∷ [] }
taking takes.Format rule = record rule { defaults = codes "text" ∷ [] }
taking takes.Script rule = record rule { defaults = codes "-" ∷ [] }
taking takes.Wait rule = seconds_or (pos 0) (codes "0") rule
taking takes.Idle rule = seconds_or (pos 1) (codes "1") rule
taking takes.Silence rule = seconds_or (pos 1) (codes "10") rule
taking takes.Duration rule = seconds_or (pos 1) (codes "60") rule

-- the word
abbrev pub rule_for : Word → Rule
rule_for word =
    taking (takes_of word)
    (record (new_rule (word_text word)) {
      long = if is_option word then Some (word_text word)
          else None;
      value_names = 1;
    })

-- a command with words more
abbrev pub with_words : App → List Word → App
with_words app [] = app
with_words app (word ∷ words) = with_words (with_rule app (rule_for word)) words

-- a command with the words of fields more
abbrev pub with_fields : App → List Field → App
with_fields app [] = app
with_fields app (at ∷ fields) = with_fields (with_rule app (rule_for (word.Field at))) fields

-- the subcommand
abbrev pub app_for : Name → App
app_for name = with_fields (with_words (new_app (name_text name)) (words_of name)) (fields_in name)

-- a command with subcommands more
unfoldable pub with_names : App → List Name → App
with_names app [] = app
with_names app (name ∷ names) = with_names (with_subcommand app (app_for name).top) names

-- the program, of which a version is printed and a subcommand is asked
abbrev pub program : App
program =
    let app = new_app (codes "ftd") in
    record app { top = record app.top { subcommand_required = true; has_version = true } }

-- the command line with this subcommand alone
abbrev pub single : Name → App
single name = with_subcommand program (app_for name).top

-- the whole command line
unfoldable pub ftd_app : App
ftd_app = with_names program all_names
