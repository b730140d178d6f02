-- What is told of lines that were answered together.
use Rattle.std.proofs.Common.{◌≡◌, ◌∙◌, ◌==◌, ◌+◌, ◌++◌, ℕ, Bool, true, false, List, [], ◌∷◌, All}
use Rattle.std.proofs.Common.{map, add-one, ap, arith, drop, drop-cons, get_or, length, refl, subst}
use Rattle.std.proofs.Common.{suc, sym, zero, None, Some, Option, Ok, Err, ◌<◌, ◌≤◌}
use Rattle.std.specs.Prelude.{flat_map, is_some, option_map}
use Rattle.std.proofs.lemmas.Bool.{true≢false}
use Rattle.std.proofs.lemmas.List.Elements.{All-head, All-tail}
use Rattle.ftd_machine.specs.Checks.{Answer}
use Rattle.ftd_machine.specs.Questions.{question_of}
use Rattle.ftd_machine.specs.declared.replies.Reply.TheVariants as reply
use Rattle.ftd_machine.specs.declared.requests.Request.{Request}
use Rattle.ftd_replies.specs.Notes.{asked_when_done}
use Rattle.ftd_shell.specs.Listed.{Entered, HasItsNote, NotesGiven, PutsBelow, TellsEach}
use Rattle.ftd_shell.specs.Listed.{TellsNext, answers_of, asked_of, in_list}
use Rattle.ftd_program.specs.Performing.{asked_then}
use Rattle.ftd_shell.specs.Shells.{Ways}
use Rattle.ftd_shell.specs.ListedLines.{GivesFirst, IsOf, is_done}
use Rattle.ftd_shell.specs.Understanding.{AreListed, IsListed}
use Rattle.ftd_shell.specs.declared.listed.ListedLine.{ListedLine}
use Rattle.ftd_program.specs.declared.performing.JobEnd.{JobEnd}
use Rattle.ftd_shell.specs.declared.told.FirstTold.{FirstTold}

-- ---- notes

module _ {O E : Type 0} (e_taken : E → Option (List ℕ)) (e_failed : E → Bool) (first : JobEnd O E)
    (db : List ℕ) where
  -- there is nothing to say
  pub no_answer : (question : Option Request)
      → NotesGiven e_taken e_failed first first db question None
  no_answer None = refl
  no_answer (Some question) = refl

  -- no text of a reply was printed
  pub not_printed : (question : Option Request) (note : Option Answer)
      → (first.status == 0) ≡ false
      → NotesGiven e_taken e_failed first first db question note
  not_printed None given not = refl
  not_printed (Some question) None not = refl
  not_printed (Some question) (Some note) not = rw not refl

  -- the request was not done
  pub not_done : (request : Request) (answer : Answer) (note : Option Answer)
      → question_of request ≡ None → is_done answer ≡ false
      → NotesGiven e_taken e_failed first first db (asked_then request answer) note
  not_done request (Ok reply.Done) given none not = absurd (true≢false not)
  not_done request (Ok reply.Already) given none not = refl
  not_done request (Ok (reply.Posted difference)) given none not = refl
  not_done request (Ok (reply.Told facts)) given none not = rw none refl
  not_done request (Err refusal) given none not = refl

  -- it was
  put_so : (p : JobEnd O E) (question : Option Request) (note : Answer)
      → is_some question ≡ true → (first.status == 0) ≡ true
      → PutsBelow e_taken e_failed first p db note
      → NotesGiven e_taken e_failed first p db question (Some note)
  put_so p None note some printed puts = absurd (true≢false (sym some))
  put_so p (Some question) note some printed puts = rw printed puts

  pub put_when_done : (p : JobEnd O E) (request : Request) (answer note : Answer)
      → is_done answer ≡ true → is_some (asked_when_done request) ≡ true
      → (first.status == 0) ≡ true → PutsBelow e_taken e_failed first p db note
      → NotesGiven e_taken e_failed first p db (asked_then request answer) (Some note)
  put_when_done p request (Ok reply.Done) note done some printed puts =
      put_so p (asked_when_done request) note some printed puts
  put_when_done p request (Ok reply.Already) note done some printed puts =
      absurd (true≢false (sym done))
  put_when_done p request (Ok (reply.Posted difference)) note done some printed puts =
      absurd (true≢false (sym done))
  put_when_done p request (Ok (reply.Told facts)) note done some printed puts =
      absurd (true≢false (sym done))
  put_when_done p request (Err refusal) note done some printed puts =
      absurd (true≢false (sym done))

-- ---- what comes first

-- nothing comes after it
alone_of : {A : Type 0} (given : A) (rest : List A) (x : A) (y : Option A) (later : List A)
    → is_some y ≡ false → given ∷ rest ≡ (x ∷ in_list y) ++ later → (given ≡ x) × (rest ≡ later)
alone_of given rest x None later none is =
    (ap (λ xs. get_or xs 0 given) is, ap (drop 1) is)
alone_of given rest x (Some y) later none is = absurd (true≢false none)

-- or something does
noted_of : {A : Type 0} (given second : A) (rest : List A) (x : A) (y : Option A) (later : List A)
    → is_some y ≡ true → given ∷ (second ∷ rest) ≡ (x ∷ in_list y) ++ later
    → (given ≡ x) × (Some second ≡ y) × (rest ≡ later)
noted_of given second rest x None later some is = absurd (true≢false (sym some))
noted_of given second rest x (Some y) later some is = (
  ap (λ xs. get_or xs 0 given) is,
  ap Some (ap (λ xs. get_or xs 1 given) is),
  ap (drop 2) is,
)

-- there is a first one
pub not_none : {A : Type 0} (x : A) (some later : List A) → [] ≡ (x ∷ some) ++ later → ⊥
not_none x some later is =
    let e : 0 ≡ length ((x ∷ some) ++ later) = ap length is in
    omega (arith, e)

module _ (entered : Entered) (later : List Request) (rest : List Answer) (given : FirstTold)
    (has_note : HasItsNote entered)
    (no_question : question_of entered.asked.request ≡ None) where
  pub gives_alone : false ≡ is_some (asked_when_done entered.asked.request)
      → given.told.request.now ∷ given.requests.now ≡ asked_of entered ++ later
      → given.told.answer.now ∷ given.answers.now ≡ answers_of entered ++ rest
      → given.told.note ≡ None
      → GivesFirst entered later rest (Some given)
  gives_alone none requests answers no_note =
      let no_answer : is_some entered.note ≡ false = has_note ∙ sym none in
      let first = alone_of given.told.request.now given.requests.now entered.asked.request
      (asked_when_done entered.asked.request) later (sym none) requests in
      let second = alone_of given.told.answer.now given.answers.now entered.answer entered.note rest
      no_answer answers in (
        record {
          request_is = first.0;
          answer_is = second.0;
          note_is = rw no_note (none_is entered.note no_answer);
          asked_after = λ some. absurd (true≢false (sym some ∙ no_answer));
          no_question = no_question;
        },
        first.1,
        second.1,
      )
    where
      none_is : (note : Option Answer) → is_some note ≡ false → None ≡ note
      none_is None none = refl
      none_is (Some answer) none = absurd (true≢false none)

  pub gives_noted : true ≡ is_some (asked_when_done entered.asked.request)
      → (question : Request) (note : Answer)
      → given.told.request.now ∷ (question ∷ given.requests.now) ≡ asked_of entered ++ later
      → given.told.answer.now ∷ (note ∷ given.answers.now) ≡ answers_of entered ++ rest
      → option_map (λ it. it.now) given.told.note ≡ Some note
      → GivesFirst entered later rest (Some given)
  gives_noted some question note requests answers noted =
      let an_answer : is_some entered.note ≡ true = has_note ∙ sym some in
      let first = noted_of given.told.request.now question given.requests.now entered.asked.request
      (asked_when_done entered.asked.request) later (sym some) requests in
      let second = noted_of given.told.answer.now note given.answers.now entered.answer entered.note
      rest an_answer answers in (
        record {
          request_is = first.0;
          answer_is = second.0;
          note_is = noted ∙ second.1;
          asked_after = λ has. sym some;
          no_question = no_question;
        },
        first.2,
        second.2,
      )

-- ---- lines

-- what comes first of what is left
abbrev pub TellsFirst : ListedLine → List Request → List Answer → Option FirstTold → Type 0
TellsFirst line requests answers given =
    (entered : Entered) → (later : List Request) → (rest : List Answer) → HasItsNote entered
    → question_of entered.asked.request ≡ None
    → line.has_note ≡ is_some (asked_when_done entered.asked.request)
    → requests ≡ asked_of entered ++ later → answers ≡ answers_of entered ++ rest
    → GivesFirst entered later rest given

-- the lines from a place on
pub drop_on : (lines : List ListedLine) (i : ℕ) (line : ListedLine) → i < length lines
    → line ≡ get_or lines i line → drop i lines ≡ line ∷ drop (i + 1) lines
drop_on lines i line low is = rw add-one (drop-cons lines i line low
    ∙ ap (λ (x : ListedLine). x ∷ drop (suc i) lines) (sym is))

pub drop_all : (lines : List ListedLine) (i : ℕ) → length lines ≤ i → drop i lines ≡ []
drop_all [] zero low = refl
drop_all [] (suc i) low = refl
drop_all (line ∷ lines) zero low = absurd (omega (arith, low))
drop_all (line ∷ lines) (suc i) low = drop_all lines i (omega (arith, low))

module _ {O E : Type 0} (o_taken : O → Option (List ℕ)) (o_failed : O → Bool)
    (e_taken : E → Option (List ℕ)) (e_failed : E → Bool) where
  abbrev Next : JobEnd O E → JobEnd O E → Ways → ℕ → Entered → Type 0
  Next = TellsNext o_taken o_failed e_taken e_failed

  abbrev Each : JobEnd O E → JobEnd O E → Ways → ℕ → List Entered → Type 0
  Each = TellsEach o_taken o_failed e_taken e_failed

  -- some lines were told, and these are left
  pub record StillTells (before end : JobEnd O E) (ways : Ways) (number count : ℕ)
      (lines : List ListedLine) (requests : List Request) (answers : List Answer)
      (entered left : List Entered) : Type 0 where
    pub are : AreListed ways (number + count) lines (map (λ (it : Entered). it.asked) left)
    pub notes : All HasItsNote left
    pub asked : requests ≡ flat_map asked_of left
    pub given : answers ≡ flat_map answers_of left
    pub tells : (p : JobEnd O E) → Each end p ways (number + count) left
        → Each before p ways number entered

  -- none was
  pub tells_begin : (before : JobEnd O E) (ways : Ways) (number : ℕ) (lines : List ListedLine)
      (requests : List Request) (answers : List Answer) (entered : List Entered)
      → AreListed ways number lines (map (λ (it : Entered). it.asked) entered)
      → All HasItsNote entered → requests ≡ flat_map asked_of entered
      → answers ≡ flat_map answers_of entered
      → StillTells before before ways number 0 lines requests answers entered entered
  tells_begin before ways number lines requests answers entered are notes asked given =
      let none : number + 0 ≡ number = omega arith in
      record {
        are = rw none are;
        notes = notes;
        asked = asked;
        given = given;
        tells = λ p. rw none (λ tells. tells);
      }

  -- all were
  pub tells_end : (before end : JobEnd O E) (ways : Ways) (number count : ℕ)
      (requests : List Request) (answers : List Answer) (entered left : List Entered)
      → StillTells before end ways number count [] requests answers entered left
      → Each before end ways number entered
  tells_end before end ways number count requests answers entered [] still =
      still.tells end refl
  tells_end before end ways number count requests answers entered (it ∷ later) still =
      absurd still.are

  module _ (before end next : JobEnd O E) (ways : Ways) (number count : ℕ) (line : ListedLine)
      (lines : List ListedLine) (requests : List Request) (answers : List Answer)
      (entered : List Entered) where
    -- there is a line, so there is what was asked and answered for it
    pub tells_none : (left : List Entered)
        → StillTells before end ways number count (line ∷ lines) requests answers entered left
        → TellsFirst line requests answers None → ⊥
    tells_none [] still first = still.are
    tells_none (it ∷ later) still first =
        first it (flat_map asked_of later) (flat_map answers_of later)
        (All-head HasItsNote it later still.notes) still.are.0.asks.no_question
        still.are.0.note_is still.asked still.given

    module _ (behind : FirstTold)
        (first : TellsFirst line requests answers (Some behind))
        (goes : (n : ℕ) → (it : Entered) → IsListed ways n line it.asked → IsOf behind.told it
        → Next end next ways n it) where
      -- the line was told, and is the last
      pub tells_last : (left : List Entered)
          → StillTells before end ways number count (line ∷ lines) requests answers entered left
          → (next.status == 3) ≡ true → Each before next ways number entered
      tells_last [] still last = absurd still.are
      tells_last (it ∷ later) still last =
          let given = first it (flat_map asked_of later) (flat_map answers_of later)
          (All-head HasItsNote it later still.notes) still.are.0.asks.no_question
          still.are.0.note_is still.asked still.given in
          still.tells next (next, goes (number + count) it still.are.0 given.0, rw last refl)

      -- it was told
      pub tells_more : (left : List Entered)
          → StillTells before end ways number count (line ∷ lines) requests answers entered left
          → (next.status == 3) ≡ false
          → (more : List Entered) × StillTells before next ways number (count + 1) lines
          behind.requests.now behind.answers.now entered more
      tells_more [] still goes_on = absurd still.are
      tells_more (it ∷ later) still goes_on =
          let given = first it (flat_map asked_of later) (flat_map answers_of later)
          (All-head HasItsNote it later still.notes) still.are.0.asks.no_question
          still.are.0.note_is still.asked still.given in
          let on : number + count + 1 ≡ number + (count + 1) = omega arith in (
            later,
            record {
              are = subst (λ n. AreListed ways n lines (map (λ (x : Entered). x.asked) later)) on
                  still.are.1;
              notes = All-tail HasItsNote it later still.notes;
              asked = given.1;
              given = given.2;
              tells = λ p tells. still.tells p (
                next,
                goes (number + count) it still.are.0 given.0,
                rw goes_on (subst (λ n. Each next p ways n later) (sym on) tells),
              );
            },
          )
