-- How the records of an import change the obligations of accounts.
use Rattle.std.specs.Prelude.{ℕ, List, Option, None, Some, Ok}
use Rattle.ftd_machine.specs.Checks.{Answer}
use Rattle.ftd_machine.specs.declared.replies.Difference.{Difference}
use Rattle.ftd_machine.specs.declared.replies.Reply.TheVariants as reply
use Rattle.ftd_machine.specs.declared.requests.Request.{Request}
use Rattle.ftd_machine.specs.declared.requests.Request.TheVariants as request
use Rattle.ftd_imports.specs.declared.changes.AccountChange.{AccountChange}

-- the account, the obligations that were removed and those that were added
abbrev pub account_change : List ℕ → Difference → AccountChange
account_change account d = record { account = account; removed = d.removed; added = d.added }

-- so where the answer to its post tells of a change
abbrev pub change_by : List ℕ → Answer → Option AccountChange
change_by account (Ok (reply.Posted difference)) = Some (account_change account difference)
change_by account other = None

-- how the post of a record that was answered so changed the obligations of its account
abbrev pub change_of : Request → Answer → Option AccountChange
change_of (request.Post account number run) answer = change_by account answer
change_of other answer = None
