-- What becomes of the tables where a run is posted or voided, whatever they hold.
use Rattle.std.specs.Prelude.{◌≡◌, true, ℕ, Bool, List, Some, Ok, ⊤}
use Rattle.sqlite.specs.Effect.{Database}
use Rattle.ftd_days.specs.declared.cents.Cents.{Cents}
use Rattle.ftd_rules.specs.declared.Form.{Form}
use Rattle.ftd_rules.specs.declared.run.PayRun.{PayRun}
use Rattle.ftd_rules.specs.declared.run.Voidable.{Voidable}
use Rattle.ftd_sql.specs.Standing.{Tables, Becomes}
use Rattle.ftd_store.specs.Changes.{with_run, with_void_run}
use Rattle.ftd_store.specs.Finds.{FindsForm, FindsRun}
use Rattle.ftd_machine.specs.declared.entries.Account.{Account}
use Rattle.ftd_machine.specs.Checks.{Answer}
use Rattle.ftd_machine.specs.Laws.{is_change}
use Rattle.ftd_machine.specs.declared.replies.Reply.TheVariants.{Posted}
use Rattle.ftd_machine.specs.declared.requests.Request.{Request}
use Rattle.ftd_machine.specs.declared.requests.Request.TheVariants.{Post, Void, Correct}
use Rattle.ftd_machine.specs.declared.requests.Correction.TheVariants as correction
use Rattle.ftd_machine.specs.declared.entries.ReturnPeriod.{ReturnPeriod}
use Rattle.ftd_machine.specs.declared.replies.Difference.{Difference}
use Rattle.ftd_repairs.specs.Reposted.{IsReposted}
use Rattle.ftd_machine.specs.Step.{first_day_of}
use Rattle.ftd_posting.specs.Correcting.{EntersTotal, IsCountedIn, with_corrected}

-- the rows of the account, whose runs of the day had changed, were repaired by the form of its row,
-- and the answer tells how its obligations differ
pub record IsRepaired (name : List ℕ) (day : ℕ) (old changed new : Tables) (answer : Answer)
    : Type 0 where
  pub form : Form
  pub has_form : FindsForm name (Some form) old
  pub difference : Difference
  pub told : answer ≡ Ok (Posted difference)
  pub reposted : IsReposted name form day old changed new difference

-- a run was posted
abbrev pub PostsRun : List ℕ → ℕ → PayRun → Answer → Tables → Tables → Type 0
PostsRun name number run answer old new =
    IsRepaired name run.payday old (with_run name number run old) new answer

-- the account's run of the number was voided
abbrev pub VoidsRun : List ℕ → ℕ → Answer → Tables → Tables → Type 0
VoidsRun name number answer old new =
    (run : Voidable PayRun) × FindsRun name number (Some run) old
    × IsRepaired name run.value.payday old (with_void_run name number old) new answer

-- a total of the account was corrected: its correction was entered, and where the year is open in
-- whose lookback period it counts, the account's rows were repaired by the form of its row
pub record IsCorrected (name : List ℕ) (first year : ℕ) (enters : Tables → Tables) (answer : Answer)
    (old new : Tables) : Type 0 where
  pub account : Account
  pub has_form : FindsForm name (Some account.form) old
  pub is_open : Bool
  pub difference : Difference
  pub told : answer ≡ Ok (Posted difference)
  pub entered : EntersTotal name account is_open first year enters difference old new

-- that of a quarter or a year
abbrev pub CorrectsTotal
    : List ℕ → ReturnPeriod → ℕ → Cents → Answer → Tables → Tables → Type 0
CorrectsTotal name period number cents answer old new =
    (year : ℕ) × IsCountedIn period year
    × IsCorrected name (first_day_of period) year
    (with_corrected name period (record { number = number; cents = cents })) answer old new

-- where the answer tells of a change, the rows become others, which stand so to them
abbrev pub Becoming : (Answer → Tables → Tables → Type 0)
    → Answer → Database → Database → Tables → Type 0
Becoming So answer before after t =
    is_change answer ≡ true → (u : Tables) × So answer t u × Becomes before after u

-- so of a request that posts or voids a run, or corrects a total; nothing is said here of others
unfoldable pub Repairs : Request → Answer → Database → Database → Tables → Type 0
Repairs (Post name number run) = Becoming (PostsRun name number run)
Repairs (Void name number) = Becoming (VoidsRun name number)
Repairs (Correct number (correction.Total name period cents)) =
    Becoming (CorrectsTotal name period number cents)
Repairs other = λ answer before after t. ⊤
