-- Pay runs that are told as CSV, as the records of a text say them.
use Rattle.std.specs.Prelude.{◌≡◌, ◌≤◌, ℕ, Bool, true, not, List}
use Rattle.ftd_days.specs.Calendar.{last_day}
use Rattle.ftd_csv.specs.declared.entries.Content.{Content}
use Rattle.ftd_csv.specs.declared.entries.Content.TheVariants as content
use Rattle.ftd_machine.specs.Limits.{is_number, are_amounts}
use Rattle.ftd_machine.specs.declared.kept.KeptRun.{KeptRun}
use Rattle.ftd_machine.specs.declared.requests.Request.TheVariants as request

-- a run that was not voided
abbrev pub is_live : KeptRun → Bool
is_live x = not x.voided

-- a run of the account, as a record says it
abbrev pub said_as : List ℕ → KeptRun → Content
said_as account x = content.Entry (request.Post account x.number x.run)

-- as each run is that was posted: its number, its payday and its amounts are in their limits
pub record IsPosted (x : KeptRun) : Type 0 where
  pub number : is_number x.number ≡ true
  pub payday : x.run.payday ≤ last_day
  pub amounts : are_amounts x.run ≡ true
