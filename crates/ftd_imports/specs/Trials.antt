-- What an import would say.
use Rattle.std.specs.Prelude.{◌<◌, ◌≤◌, ℕ, List, length, ⊤}
use Rattle.std.specs.List.{filter_map}
use Rattle.sqlite.specs.State.{HasCleanDisk}
use Rattle.ftd_csv.specs.declared.reading.TheConstants.{MOST_BYTES}
use Rattle.ftd_csv.specs.Records.{HasHeader}
use Rattle.ftd_csv.specs.declared.entries.Content.{Content}
use Rattle.ftd_csv.specs.declared.sheets.Sheet.{Sheet}
use Rattle.ftd_machine.specs.State.{State}
use Rattle.ftd_desk.specs.Desks.{Held, Keeps}
use Rattle.ftd_desk.specs.Words.{AreSteps}
use Rattle.ftd_imports.specs.Outcomes.{Counts, IsNothing, IsSummary, Outcome, answer_in, request_in}
use Rattle.ftd_imports.specs.Imports.{AreOutcomes, numbered_in}
use Rattle.ftd_imports.specs.declared.summary.StopCause.{StopCause}
use Rattle.ftd_imports.specs.declared.summary.StopCause.TheVariants as cause
use Rattle.ftd_imports.specs.declared.summary.ImportStop.{ImportStop}
use Rattle.ftd_imports.specs.declared.summary.Summary.{Summary}

-- in each state that the desk stood for, the machine would answer the posts so, one after the other
abbrev pub WouldAnswer : Held → Held → List Outcome → Type 0
WouldAnswer old new outcomes =
    HasCleanDisk new.db → (s : State) → Keeps old s
    → (end : State) × AreSteps s (filter_map request_in outcomes) (filter_map answer_in outcomes)
    end

-- the records would be posted so, each in its place, and they are counted
pub record WouldPost (old new : Held) (records : List (ℕ × Content)) (before after : Summary)
    : Type 0 where
  pub outcomes : List Outcome
  pub are : AreOutcomes records outcomes
  pub counts : Counts before outcomes after
  pub would : WouldAnswer old new outcomes

-- the entries of the text would be posted so, each in its place, and this is the summary of its
-- records
pub record WouldImport (old new : Held) (kind : Sheet) (text : List ℕ) (summary : Summary)
    : Type 0 where
  pub short : length text ≤ MOST_BYTES
  pub header : HasHeader kind text
  pub outcomes : List Outcome
  pub are : AreOutcomes (numbered_in kind text) outcomes
  pub summary_is : IsSummary outcomes summary
  pub would : WouldAnswer old new outcomes

-- where each cause stands; want of memory and a fault of the store may come at any point
abbrev pub FailsFor : Sheet → List ℕ → StopCause → Type 0
FailsFor kind text cause.TooLong = MOST_BYTES < length text
FailsFor kind text cause.BadHeader = (length text ≤ MOST_BYTES) × ¬ HasHeader kind text
FailsFor kind text cause.Memory = ⊤
FailsFor kind text cause.Store = ⊤

-- nothing is said of the records, for this cause
pub record FailsTrial (kind : Sheet) (text : List ℕ) (stopped : ImportStop) : Type 0 where
  pub nothing : IsNothing stopped.done
  pub reason : FailsFor kind text stopped.cause
