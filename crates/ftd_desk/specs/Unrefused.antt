-- What becomes of requests of which none is to be refused.
use Rattle.std.specs.Prelude.{◌≡◌, All, IfOk, List, Result, Ok, Err, length}
use Rattle.ftd_machine.specs.Checks.{Answer}
use Rattle.ftd_machine.specs.Laws.{IsBounded}
use Rattle.ftd_machine.specs.declared.replies.Refusal.{Refusal}
use Rattle.ftd_machine.specs.declared.replies.Refusal.TheVariants.{Store}
use Rattle.ftd_machine.specs.declared.requests.Request.{Request}
use Rattle.ftd_desk.specs.Desks.{Held}
use Rattle.ftd_desk.specs.Trials.{Tries}
use Rattle.ftd_desk.specs.Words.{HandlesTogether}
use Rattle.ftd_desk.specs.declared.unrefused.AllOrNone.{AllOrNone}
use Rattle.ftd_desk.specs.declared.unrefused.AllOrNone.TheVariants.{Kept, Dropped, Stopped}

-- a reply, and one within the bound of an account's amounts
abbrev pub IsReply : Answer → Type 0
IsReply (Ok reply) = IsBounded reply
IsReply (Err refusal) = ⊥

-- the requests were answered together, each with a reply
pub record KeepsAll (old new : Held) (requests : List Request) (answers : List Answer) : Type 0
  where
    pub count : length answers ≡ length requests
    pub replies : All IsReply answers
    pub handles : HandlesTogether old new requests (Ok answers)

-- one of the answers that they would get is no reply, or there was a fault; the desk stands for the
-- state as it was
pub record DropsAll (old new : Held) (requests : List Request) : Type 0 where
  pub result : Result (List Answer) Refusal
  pub tries : Tries old new requests result
  pub refused : IfOk result (λ answers. ¬ All IsReply answers)

-- what became of them; only where the desk is stopped may a crash find what they change that was
-- not answered
abbrev pub AsksAll : Held → Held → List Request → AllOrNone → Type 0
AsksAll old new requests (Kept answers) = KeepsAll old new requests answers.items
AsksAll old new requests Dropped = DropsAll old new requests
AsksAll old new requests Stopped = HandlesTogether old new requests (Err Store)
