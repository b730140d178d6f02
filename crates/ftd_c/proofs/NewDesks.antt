-- What a new desk in memory stands for, and what it answers.
use Rattle.std.proofs.Common.{◌≡◌, ℕ, List, [], Option, Some, false, refl, sym, subst}
use Rattle.sqlite.specs.Schema.{Schema}
use Rattle.sqlite.specs.State as database
use Rattle.sqlite.specs.State.{HasCleanDisk}
use Rattle.sqlite.specs.Steps.{IsEmpty}
use Rattle.ftd_sql.specs.Making.{IsFree}
use Rattle.ftd_setup.specs.Versions.{IsNew}
use Rattle.ftd_machine.specs.State.{nothing}
use Rattle.ftd_desk.specs.Desks.{Held, Keeps}
use Rattle.ftd_desk.specs.Opened.{Opens}
use Rattle.ftd_http.specs.Messages.{Message}
use Rattle.ftd_connections.specs.Serving.{ServesMessages}
use Rattle.ftd_connections.specs.declared.connection.ServedConnection.{ServedConnection}
use Rattle.ftd_server.specs.Tables.{AnsweredBy}
use Rattle.ftd_c.specs.Office.{AreAnswers, IsAnswered}

abbrev no_tables : Schema
no_tables = record { tables = []; indexes = []; views = [] }

-- in a database without tables none of the names is taken, and the tables can be made
none_taken : IsNew no_tables
none_taken = refl

can_be_made : IsFree no_tables
can_be_made = record { unnamed = λ k d within rewritten. tt; counted = refl }

-- a desk that was opened over an empty database stands for nothing entered
pub nothing_entered : (old : database.State) (new : Held) → IsEmpty old → Opens old new
    → HasCleanDisk new.db → Keeps new nothing
nothing_entered old new empty opens clean =
    let none = sym empty.2 in
    opens.new_database clean (subst (λ (s : Schema). IsNew s) none none_taken)
    (subst (λ (s : Schema). IsFree s) none can_be_made)

-- what a desk answers that stands for nothing entered
from_nothing : (old new : Held) → HasCleanDisk new.db → Keeps old nothing
    → (messages : List Message) (text : List ℕ) → AnsweredBy old new messages text
    → IsAnswered messages text
from_nothing old new clean keeps messages text by =
    let (end, answers, later) = by.follows.follows clean nothing keeps in (end, answers)

pub are_answers : (old new : Held) (bytes unread text : List ℕ)
    (left taken taken' : Option (List ℕ)) (served : ServedConnection) → HasCleanDisk new.db
    → Keeps old nothing → left ≡ Some bytes → taken ≡ Some [] → taken' ≡ Some text
    → ServesMessages (AnsweredBy old new) left (Some unread) false taken taken' served
    → AreAnswers bytes text
are_answers old new bytes unread text left taken taken' served clean keeps is_left is_taken is_text
    serves =
    let it = rw (is_left, is_taken, is_text) at serves in
    record {
      unread = unread;
      served = served;
      serves = record {
        read = it.read;
        messages = it.messages;
        rest = it.rest;
        refusal = it.refusal;
        text = it.text;
        gives = it.gives;
        are = it.are;
        ends = it.ends;
        at_end = it.at_end;
        answers = from_nothing old new clean keeps it.messages it.text it.answers;
        written = it.written;
        count = it.count;
      };
    }
