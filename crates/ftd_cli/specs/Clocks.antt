-- What words ask on the day that a clock tells.
use Rattle.std.specs.Prelude.{◌⊎◌, ℕ, List, None, Option, Result, IfErr, ⊤}
use Rattle.clap.specs.Words.{Text}
use Rattle.ftd_cli.specs.Tasks.{Gives, task_of}
use Rattle.ftd_cli.specs.declared.tasks.CliFault.{CliFault}
use Rattle.ftd_cli.specs.declared.tasks.CliFault.TheVariants as fault
use Rattle.ftd_cli.specs.declared.tasks.Task.{Task}

-- the fault is another than a day of today that is not known
abbrev pub IsNotToday : CliFault → Type 0
IsNotToday (fault.NoToday word) = ⊥
IsNotToday other = ⊤

-- the words ask this without a day of today, and want none; or on the day that the clock told,
-- which is none where it knows none
abbrev pub DecidesOn : Option ℕ → List Text → Result Task CliFault → Type 0
DecidesOn told words decided =
    (IfErr decided IsNotToday × Gives decided (task_of None words))
    ⊎ Gives decided (task_of told words)
