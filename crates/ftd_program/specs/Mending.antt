-- What is asked of the desk for the hints of a refusal.
use Rattle.std.specs.Prelude.{◌≡◌, ◌≤◌, ℕ, nat_lt, Bool, List, Option, None, Some, Result}
use Rattle.std.specs.Prelude.{Ok, Err, ⊤, if◌then◌else◌}
use Rattle.sqlite.specs.State.{HasCleanDisk}
use Rattle.ftd_days.specs.declared.limits.TheConstants.{FIRST_YEAR, LAST_OPEN_YEAR}
use Rattle.ftd_machine.specs.Requests.{is_unused}
use Rattle.ftd_machine.specs.State.{State, calendar_at, enrolled_in, entries_of}
use Rattle.ftd_machine.specs.declared.entries.Account.{Account}
use Rattle.ftd_machine.specs.Checks.{Answer}
use Rattle.ftd_machine.specs.Runs.{Goes, IsFault}
use Rattle.ftd_machine.specs.declared.replies.Refusal.{Refusal}
use Rattle.ftd_machine.specs.declared.replies.Refusal.TheVariants as refusal
use Rattle.ftd_machine.specs.declared.requests.Request.{Request}
use Rattle.ftd_machine.specs.declared.requests.Request.TheVariants as request
use Rattle.ftd_machine.specs.declared.requests.Entry.{Entry}
use Rattle.ftd_machine.specs.declared.requests.Entry.TheVariants as entry
use Rattle.ftd_questions.specs.Missing.{first_year, missing_from}
use Rattle.ftd_questions.specs.Nearest.{IsMeant}
use Rattle.ftd_desk.specs.Desks.{Held, Keeps}
use Rattle.ftd_replies.specs.Hints.{account_in}
use Rattle.ftd_replies.specs.declared.hints.HintFacts.{HintFacts}
use Rattle.ftd_replies.specs.declared.hints.HintFacts.TheVariants.{Nothing, Missing, Given, Begins}
use Rattle.ftd_replies.specs.declared.hints.HintFacts.TheVariants.{Meant, Differs, Enrolled}
use Rattle.ftd_replies.specs.declared.differing.Differing.{Differing}
use Rattle.ftd_program.specs.Differences.{payment_difference, run_difference}

-- these quarters are what is known
abbrev pub ShowsQuarters : List ℕ → HintFacts → Type 0
ShowsQuarters sought (Missing quarters) = quarters.items ≡ sought
ShowsQuarters sought other = ⊥

-- these days are what is known, or nothing is where there are none
abbrev pub ShowsDays : Option (List ℕ) → HintFacts → Type 0
ShowsDays (Some sought) (Given days) = days.items ≡ sought
ShowsDays (Some sought) other = ⊥
ShowsDays None known = known ≡ Nothing

-- where a year could not be opened, the quarters of its lookback period from this one on that are
-- still to be reported
abbrev pub KnowsQuarters : State → Request → ℕ → HintFacts → Type 0
KnowsQuarters s (request.Enter (entry.Year account year)) first known =
    FIRST_YEAR ≤ year → year ≤ LAST_OPEN_YEAR
    → ShowsQuarters (missing_from (entries_of s account) first year) known
KnowsQuarters s other first known = known ≡ Nothing

-- where a calendar differs, the days that it was given with
abbrev pub KnowsDays : State → Request → HintFacts → Type 0
KnowsDays s (request.Enter (entry.Calendar year days)) known = ShowsDays (calendar_at s year) known
KnowsDays s other known = known ≡ Nothing

-- where a year is not open, the first of the account's years, if that is a later one
abbrev pub begins_after : ℕ → Option ℕ → HintFacts
begins_after year None = Nothing
begins_after year (Some first) = if nat_lt year first then Begins first else Nothing

-- where an account is unknown, the one whose name is nearest to what was typed, if one is near
abbrev pub meant_as : Option (List ℕ) → HintFacts
meant_as None = Nothing
meant_as (Some name) = Meant name

abbrev pub KnowsMeant : State → List ℕ → HintFacts → Type 0
KnowsMeant s typed known =
    (found : Option (List ℕ)) × IsMeant s typed found × (known ≡ meant_as found)

-- what differs, if something does
abbrev pub differs_as : Option Differing → HintFacts
differs_as None = Nothing
differs_as (Some differing) = Differs differing

-- where a run or a payment differs, what has its number
abbrev pub KnowsRun : State → Request → HintFacts → Type 0
KnowsRun s (request.Post account number run) known =
    known ≡ differs_as (run_difference s account number run)
KnowsRun s other known = known ≡ Nothing

abbrev pub KnowsPayment : State → Request → HintFacts → Type 0
KnowsPayment s (request.Pay account number payment) known =
    known ≡ differs_as (payment_difference s account number payment)
KnowsPayment s other known = known ≡ Nothing

-- where an account differs, as what it is enrolled, and whether nothing rests on it
abbrev pub enrolled_as : Account → Option Account → Bool → HintFacts
enrolled_as asked None unused = Nothing
enrolled_as asked (Some kept) unused =
    Enrolled (record { asked = asked; kept = kept; is_unused = unused })

abbrev pub KnowsEnrolled : State → Entry → HintFacts → Type 0
KnowsEnrolled s (entry.Account name account) known =
    known ≡ enrolled_as account (enrolled_in s name) (is_unused (entries_of s name))
KnowsEnrolled s other known = known ≡ Nothing

abbrev pub KnowsAccount : State → Request → HintFacts → Type 0
KnowsAccount s (request.Enter entered) known = KnowsEnrolled s entered known
KnowsAccount s other known = known ≡ Nothing

-- what is known for a refusal of the request in this state
abbrev pub KnowsFor : State → Request → Refusal → HintFacts → Type 0
KnowsFor s asked (refusal.QuarterMissing first) known = KnowsQuarters s asked first known
KnowsFor s asked refusal.CalendarDiffers known = KnowsDays s asked known
KnowsFor s asked (refusal.YearNotOpen year) known =
    known ≡ begins_after year (first_year (entries_of s (account_in asked)))
KnowsFor s asked refusal.UnknownAccount known = KnowsMeant s (account_in asked) known
KnowsFor s asked refusal.AccountDiffers known = KnowsAccount s asked known
KnowsFor s asked refusal.RunDiffers known = KnowsRun s asked known
KnowsFor s asked refusal.PaymentDiffers known = KnowsPayment s asked known
KnowsFor s asked other known = known ≡ Nothing

-- what is known is so of the state after the request; in its place a fault may come
abbrev pub KnowsOf : State → Request → Answer → Result HintFacts Refusal → Type 0
KnowsOf s asked (Ok reply) known = ⊤
KnowsOf s asked (Err refused) (Ok known) = KnowsFor s asked refused known
KnowsOf s asked (Err refused) (Err fault) = IsFault (Err fault)

abbrev pub KnowsAfter : Held → Held → Request → Answer → Result HintFacts Refusal → Type 0
KnowsAfter old new asked answer known =
    HasCleanDisk new.db → (s : State) → Keeps old s
    → (next : State) × Goes s asked answer next × KnowsOf next asked answer known

-- what the hints are made of: nothing where a fault came
abbrev pub or_nothing : Result HintFacts Refusal → HintFacts
or_nothing (Ok known) = known
or_nothing (Err fault) = Nothing
