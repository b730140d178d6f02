-- What a subcommand asks, and what is told where words ask nothing.
use Rattle.std.proofs.Common.{◌≡◌, ℕ, List, [], ◌∷◌, Option, Some, None, Result, Err, refl, sym, ap}
use Rattle.std.proofs.Common.{◌∙◌, option_map}
use Rattle.std.specs.Box.{box_value}
use Rattle.clap.specs.Words.{IsAmong, Kinds, Row, Text, fault_of, found_of, rows_of}
use Rattle.clap.specs.Words.{subcommand_name_of, subcommand_of, subcommand_rows_of}
use Rattle.clap.specs.declared.ArgMatches.{ArgMatches}
use Rattle.clap.specs.declared.error.ErrorKind.{ErrorKind}
use Rattle.clap.specs.declared.parser.matches.ArgMatches.TheViews.{out-ArgMatches, out-SubCommand}
use Rattle.ftd_cli.specs.Apps.{ftd_app}
use Rattle.ftd_cli.specs.Asking.{TellsAs, Wanted}
use Rattle.ftd_cli.specs.Tasks.{Fails, IsUsage, Refused, ShowsValue, by_value, command_named}
use Rattle.ftd_cli.specs.Tasks.{task_of, task_view, value, wanted_as, wanted_in, without_fault}
use Rattle.ftd_cli.specs.Tasks.{words}
use Rattle.ftd_cli.specs.declared.fault.WordFault.{WordFault}
use Rattle.ftd_cli.specs.declared.fault.WordFault.TheVariants as values
use Rattle.ftd_cli.specs.declared.table.Name.{Name}
use Rattle.ftd_cli.specs.declared.tasks.CliFault.{CliFault}
use Rattle.ftd_cli.specs.declared.tasks.CliFault.TheVariants as fault

-- ---- the subcommand that matches hold
abbrev pair_of : {B : Type 0} → (B → Text) → (B → List Row) → B → Text × List Row
pair_of f g b = (f b, g b)

some_called : {B : Type 0} (f : B → Text) (g : B → List Row) (o : Option B) (name : Text)
    (rows : List Row)
    → Some rows ≡ option_map (λ (p : Text × List Row). p.1) (option_map (pair_of f g) o)
    → Some name ≡ option_map f o → option_map (pair_of f g) o ≡ Some (name, rows)
some_called f g None name rows r n = cc
some_called f g (Some b) name rows r n =
    let same_rows : rows ≡ g b = cc in
    let same_name : name ≡ f b = cc in
    rw (same_name, same_rows) refl

none_called : {B : Type 0} (f : B → Text) (g : B → List Row) (o : Option B) → None ≡ option_map f o
    → option_map (pair_of f g) o ≡ None
none_called f g None n = refl
none_called f g (Some b) n = cc

called : (m : ArgMatches) (name : Text) (rows : List Row)
    → Some rows ≡ option_map (λ (p : Text × List Row). p.1) (subcommand_rows_of m)
    → Some name ≡ subcommand_name_of m
    → subcommand_rows_of m ≡ Some (name, rows)
called m name rows r n = some_called (λ b. (out-SubCommand (box_value b)).name.now)
    (λ b. rows_of (found_of (out-SubCommand (box_value b)).matches)) (out-ArgMatches m).subcommand
    name rows r n

pub none_wanted : (today : Option ℕ) (m : ArgMatches) → None ≡ subcommand_name_of m
    → wanted_in today (subcommand_rows_of m) ≡ Err values.NoCommand
unfolding wanted_in
none_wanted today m n =
    ap (wanted_in today) (none_called (λ b. (out-SubCommand (box_value b)).name.now)
    (λ b. rows_of (found_of (out-SubCommand (box_value b)).matches)) (out-ArgMatches m).subcommand
    n)

pub wanted_by : (today : Option ℕ) (m : ArgMatches) (text : Text) (rows : List Row)
    (o : Option Name) → Some rows ≡ option_map (λ (p : Text × List Row). p.1) (subcommand_rows_of m)
    → Some text ≡ subcommand_name_of m → o ≡ command_named text
    → wanted_in today (subcommand_rows_of m) ≡ wanted_as today o rows
unfolding wanted_in
wanted_by today m text rows o r n e = ap (wanted_in today) (called m text rows r n)
    ∙ ap (λ named. wanted_as today named rows) (sym e)

-- ---- words that parse
pub parsed_task : (today : Option ℕ) (given : List Text) (o : Option (Text × List Row))
    → fault_of ftd_app given ≡ [] → o ≡ subcommand_of ftd_app given
    → task_of today given ≡ by_value (wanted_in today o)
unfolding task_of
parsed_task today given o none e =
    ap (λ kinds. without_fault kinds (wanted_in today (subcommand_of ftd_app given))) none
    ∙ ap (λ c. by_value (wanted_in today c)) (sym e)

pub value_told : (f : WordFault) (r : CliFault) (said : Result Wanted WordFault)
    → TellsAs task_view (Err f) said → Fails r (Err (value f)) → Fails r (by_value said)
value_told (values.BadWord word) r said e h = rw e h
value_told values.NoCommand r said e h = rw e h
value_told values.Memory (fault.BadArgument word text) said e h = cc h
value_told values.Memory (fault.NoToday word) said e h = cc h
value_told values.Memory (fault.Usage text) said e h = absurd h.0
value_told values.Memory (fault.Help text) said e h = absurd h
value_told values.Memory fault.Memory said e h = tt

-- ---- words with a fault
refused_among : (kinds : Kinds) (k : ErrorKind) (r : CliFault) (said : Result Wanted WordFault)
    → IsAmong k kinds → Fails r (Err (words kinds)) → Fails r (without_fault kinds said)
refused_among [] k r said among h = absurd among
refused_among (first ∷ kinds) k r said among h = h

pub refused_task : (today : Option ℕ) (given : List Text) (k : ErrorKind) (r : CliFault)
    → IsAmong k (fault_of ftd_app given) → Fails r (Err (words (fault_of ftd_app given)))
    → Fails r (task_of today given)
unfolding task_of
refused_task today given k r among h = refused_among (fault_of ftd_app given) k r
    (wanted_in today (subcommand_of ftd_app given)) among h

-- ---- what shows no value
pub usage_shows : (rows : List Row) (r : CliFault)
    → ((said : Result Wanted Refused) → IsUsage said → Fails r said) → ShowsValue rows r
usage_shows rows (fault.BadArgument word text) h = cc (h (Err (value values.NoCommand)) tt)
usage_shows rows (fault.NoToday word) h = cc (h (Err (value values.NoCommand)) tt)
usage_shows rows (fault.Usage text) h = tt
usage_shows rows (fault.Help text) h = tt
usage_shows rows fault.Memory h = tt

pub refused_shows : (rows : List Row) (r : CliFault) (kinds : Kinds)
    → Fails r (Err (words kinds)) → ShowsValue rows r
refused_shows rows (fault.BadArgument word text) kinds h = cc h
refused_shows rows (fault.NoToday word) kinds h = cc h
refused_shows rows (fault.Usage text) kinds h = tt
refused_shows rows (fault.Help text) kinds h = tt
refused_shows rows fault.Memory kinds h = tt
