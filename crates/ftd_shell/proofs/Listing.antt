-- Lines that are listed, and what is asked and answered for them.
use Rattle.std.proofs.Common.{◌≡◌, ◌∙◌, ◌+◌, ◌<◌, ℕ, zero, suc, List, [], ◌∷◌, ◌++◌, All, length}
use Rattle.std.proofs.Common.{map, get_or, ap, arith, refl, subst, sym, None, Some, Option}
use Rattle.std.specs.Prelude.{flat_map, is_some}
use Rattle.std.specs.List.{AllZip}
use Rattle.std.proofs.lemmas.List.Elements.{All-cons, All-head, All-nil, All-tail}
use Rattle.std.proofs.lemmas.List.Folds.{flat_map-map}
use Rattle.ftd_machine.specs.Checks.{Answer}
use Rattle.ftd_machine.specs.declared.requests.Request.{Request}
use Rattle.ftd_desk.specs.Unrefused.{IsReply}
use Rattle.ftd_replies.specs.Notes.{asked_when_done}
use Rattle.ftd_shell.specs.Listed.{Asked, Entered, HasItsNote, IsAsked, answers_of, asked_of}
use Rattle.ftd_shell.specs.Listed.{in_list, requests_of}
use Rattle.ftd_shell.specs.Shells.{Ways}
use Rattle.ftd_shell.specs.Understanding.{AreListed, IsListed}
use Rattle.ftd_shell.specs.declared.listed.ListedLine.{ListedLine}

-- ---- answers

-- the answer to a request, and to what is asked after it, and the others
record Splits (question : Option Request) (rest : List Request) (answers : List Answer) : Type 0
  where
    pub answer : Answer
    pub note : Option Answer
    pub later : List Answer
    pub parts : answers ≡ answer ∷ (in_list note ++ later)
    pub noted : is_some note ≡ is_some question
    pub long : length later ≡ length rest

splits : (request : Request) (question : Option Request) (rest : List Request)
    (answers : List Answer) → length answers ≡ length (request ∷ (in_list question ++ rest))
    → Splits question rest answers
splits request question rest [] same = absurd (omega (arith, same))
splits request None rest (answer ∷ later) same = record {
  answer = answer;
  note = None;
  later = later;
  parts = refl;
  noted = refl;
  long = omega (arith, same);
}
splits request (Some q) rest (answer ∷ []) same = absurd (omega (arith, same))
splits request (Some q) rest (answer ∷ (note ∷ later)) same = record {
  answer = answer;
  note = Some note;
  later = later;
  parts = refl;
  noted = refl;
  long = omega (arith, same);
}

-- what was asked, each with its answers
pub record Pairs (asked : List Asked) (answers : List Answer) : Type 0 where
  pub entered : List Entered
  pub same : map (λ (it : Entered). it.asked) entered ≡ asked
  pub notes : All HasItsNote entered
  pub given : flat_map answers_of entered ≡ answers

pub paired : (asked : List Asked) (answers : List Answer)
    → length answers ≡ length (flat_map requests_of asked) → Pairs asked answers
paired [] [] same = record {
  entered = [];
  same = refl;
  notes = All-nil HasItsNote;
  given = refl;
}
paired [] (answer ∷ later) same = absurd (omega (arith, same))
paired (asked ∷ more) answers same =
    let s = splits asked.request (asked_when_done asked.request) (flat_map requests_of more)
    answers same in
    let p = paired more s.later s.long in
    let it : Entered = record { asked = asked; answer = s.answer; note = s.note } in
    record {
      entered = it ∷ p.entered;
      same = ap (λ (xs : List Asked). asked ∷ xs) p.same;
      notes = All-cons HasItsNote it p.entered s.noted p.notes;
      given = ap (λ (xs : List Answer). s.answer ∷ (in_list s.note ++ xs)) p.given ∙ sym s.parts;
    }

pub same_asked : (entered : List Entered)
    → flat_map requests_of (map (λ (it : Entered). it.asked) entered) ≡ flat_map asked_of entered
same_asked entered = flat_map-map requests_of (λ (it : Entered). it.asked) entered

-- the first of each are replies, where all are
behind_note : (note : Option Answer) (later : List Answer) → All IsReply (in_list note ++ later)
    → All IsReply later
behind_note None later all = all
behind_note (Some note) later all = All-tail IsReply note later all

pub replied : (entered : List Entered) → All IsReply (flat_map answers_of entered)
    → All (λ (it : Entered). IsReply it.answer) entered
replied [] all = All-nil (λ (it : Entered). IsReply it.answer)
replied (it ∷ later) all =
    let rest = flat_map answers_of later in
    All-cons (λ (x : Entered). IsReply x.answer) it later
    (All-head IsReply it.answer (in_list it.note ++ rest) all)
    (replied later (behind_note it.note rest
    (All-tail IsReply it.answer (in_list it.note ++ rest) all)))

-- ---- lines

pub asks_each : (ways : Ways) (number : ℕ) (lines : List ListedLine) (asked : List Asked)
    → AreListed ways number lines asked
    → AllZip (IsAsked ways) (map (λ (line : ListedLine). line.piece) lines) asked
asks_each ways number [] [] are = tt
asks_each ways number [] (a ∷ asked) are = absurd are
asks_each ways number (line ∷ lines) [] are = absurd are
asks_each ways number (line ∷ lines) (a ∷ asked) are =
    (are.0.asks, asks_each ways (number + 1) lines asked are.1)

-- one more
pub listed_more : (ways : Ways) (number : ℕ) (lines : List ListedLine) (asked : List Asked)
    (line : ListedLine) (one : Asked) → AreListed ways number lines asked
    → IsListed ways (number + length lines) line one
    → AreListed ways number (lines ++ line ∷ []) (asked ++ one ∷ [])
listed_more ways number [] [] line one are is =
    let here : number + 0 ≡ number = omega arith in
    (subst (λ n. IsListed ways n line one) here is, tt)
listed_more ways number [] (a ∷ asked) line one are is = absurd are
listed_more ways number (x ∷ lines) [] line one are is = absurd are
listed_more ways number (x ∷ lines) (a ∷ asked) line one are is =
    let on : number + length (x ∷ lines) ≡ number + 1 + length lines = omega arith in (
      are.0,
      listed_more ways (number + 1) lines asked line one are.1
          (subst (λ n. IsListed ways n line one) on is),
    )

-- the line at a place
pub listed_at : (ways : Ways) (number : ℕ) (lines : List ListedLine) (asked : List Asked) (i : ℕ)
    (line : ListedLine) → AreListed ways number lines asked → i < length lines
    → line ≡ get_or lines i line → (one : Asked) × IsListed ways (number + i) line one
listed_at ways number [] asked i line are low is = absurd (omega (arith, low))
listed_at ways number (x ∷ lines) [] i line are low is = absurd are
listed_at ways number (x ∷ lines) (a ∷ asked) zero line are low is =
    let here : number ≡ number + 0 = omega arith in (
      a,
      subst (λ n. IsListed ways n line a) here (subst (λ (l : ListedLine). IsListed ways number l a)
          (sym is) are.0),
    )
listed_at ways number (x ∷ lines) (a ∷ asked) (suc i) line are low is =
    let found = listed_at ways (number + 1) lines asked i line are.1 (omega (arith, low)) is in
    let on : number + 1 + i ≡ number + suc i = omega arith in
    (found.0, subst (λ n. IsListed ways n line found.0) on found.1)

-- the first one
pub listed_first : (ways : Ways) (number : ℕ) (lines : List ListedLine) (line : ListedLine)
    (asked : Asked) (later : List Asked) → AreListed ways number lines (asked ∷ later)
    → line ≡ get_or lines 0 line → IsListed ways number line asked
listed_first ways number [] line asked later are is = absurd are
listed_first ways number (x ∷ lines) line asked later are is =
    subst (λ (l : ListedLine). IsListed ways number l asked) (sym is) are.0

-- the first of the lines that are left
pub record First (ways : Ways) (number : ℕ) (line : ListedLine) (lines : List ListedLine)
    (left : List Entered) : Type 0 where
  pub entered : Entered
  pub later : List Entered
  pub parts : left ≡ entered ∷ later
  pub is : IsListed ways number line entered.asked
  pub others : AreListed ways (number + 1) lines (map (λ (it : Entered). it.asked) later)

pub first_listed : (ways : Ways) (number : ℕ) (line : ListedLine) (lines : List ListedLine)
    (left : List Entered)
    → AreListed ways number (line ∷ lines) (map (λ (it : Entered). it.asked) left)
    → First ways number line lines left
first_listed ways number line lines [] are = absurd are
first_listed ways number line lines (entered ∷ later) are = record {
  entered = entered;
  later = later;
  parts = refl;
  is = are.0;
  others = are.1;
}

pub none_listed : (ways : Ways) (number : ℕ) (left : List Entered)
    → AreListed ways number [] (map (λ (it : Entered). it.asked) left) → left ≡ []
none_listed ways number [] are = refl
none_listed ways number (entered ∷ later) are = absurd are
