-- Turns of a script, one after the other.
use Rattle.std.proofs.Common.{◌≡◌, ◌∙◌, ◌+◌, ◌<◌, ◌≤◌, ◌++◌, ℕ, zero, suc}
use Rattle.std.proofs.Common.{Bool, true, false, List, []}
use Rattle.std.proofs.Common.{◌∷◌, All, Ok, Option, ap, append_assoc, arith, drop, get_or, length}
use Rattle.std.proofs.Common.{length-append, map, refl, subst, sym, take}
use Rattle.std.specs.Prelude.{flat_map, reverse}
use Rattle.std.proofs.lemmas.Bool.{true≢false}
use Rattle.std.proofs.lemmas.List.{length-map, length-reverse, length-take-le}
use Rattle.std.proofs.lemmas.List.{map-append, reverse-append, take_more}
use Rattle.std.proofs.Math.Seq.{take-length}
use Rattle.sqlite.specs.Store as store
use Rattle.ftd_machine.specs.Checks.{Answer}
use Rattle.ftd_desk.specs.Desks.{held}
use Rattle.ftd_desk.specs.Unrefused.{DropsAll, IsReply, KeepsAll}
use Rattle.ftd_desk.specs.Words.{HandlesTogether}
use Rattle.ftd_desk.specs.declared.desk.Desk.{Desk}
use Rattle.ftd_machine.specs.declared.replies.Refusal.TheVariants.{Store}
use Rattle.std.proofs.Common.{Err}
use Rattle.ftd_cli.specs.declared.lines.Piece.{Piece}
use Rattle.ftd_shell.specs.Listed.{Asked, Entered, HasItsNote, TellsEach, TellsNext}
use Rattle.ftd_shell.specs.Listed.{answers_of, asked_of, broken_of, requests_of}
use Rattle.ftd_shell.specs.Scripts.{AnswersLines, AnswersTogether, Turn, alone, broken, dropped}
use Rattle.ftd_shell.specs.Scripts.{lines_of, together}
use Rattle.ftd_shell.specs.Shells.{AnswersNext, Ways}
use Rattle.ftd_script.specs.Statuses.{is_last}
use Rattle.ftd_shell.specs.ListedLines.{AnswersListed, AnswersMore}
use Rattle.ftd_shell.specs.Understanding.{AreListed, Holds, pieces_in}
use Rattle.ftd_shell.specs.declared.listed.Listed.{Listed}
use Rattle.ftd_shell.specs.declared.listed.ListedLine.{ListedLine}
use Rattle.ftd_program.specs.declared.performing.JobEnd.{JobEnd}
use Rattle.ftd_shell.proofs.Listing.{asks_each, listed_at, paired, replied, same_asked}

abbrev pub pieces : List ListedLine → List Piece
pieces lines = map (λ (line : ListedLine). line.piece) lines

-- ---- lines, the last first

cut : (i : ℕ) (lines : List ListedLine) → take i lines ++ drop i lines ≡ lines
cut zero lines = refl
cut (suc i) [] = refl
cut (suc i) (line ∷ lines) = ap (λ xs. line ∷ xs) (cut i lines)

-- all lines are those behind the first and the first
back : (i : ℕ) (lines : List ListedLine) (earlier : List Piece)
    → reverse (pieces lines) ++ earlier
    ≡ reverse (pieces (drop i lines)) ++ (reverse (pieces (take i lines)) ++ earlier)
back i lines earlier =
    let whole : pieces lines ≡ pieces (take i lines) ++ pieces (drop i lines) =
    ap pieces (sym (cut i lines))
    ∙ map-append (λ (line : ListedLine). line.piece) (take i lines) (drop i lines) in
    ap (λ xs. reverse xs ++ earlier) whole
    ∙ ap (λ xs. xs ++ earlier) (reverse-append (pieces (take i lines)) (pieces (drop i lines)))
    ∙ append_assoc (reverse (pieces (drop i lines))) (reverse (pieces (take i lines))) earlier

-- one more
more_back : (lines : List ListedLine) (i : ℕ) (line : ListedLine) (earlier : List Piece)
    → i < length lines → line ≡ get_or lines i line
    → line.piece ∷ (reverse (pieces (take i lines)) ++ earlier)
    ≡ reverse (pieces (take (i + 1) lines)) ++ earlier
more_back lines i line earlier low is =
    let first = take i lines in
    let on : take (i + 1) lines ≡ first ++ line ∷ [] = take_more lines i line low
    ∙ ap (λ x. first ++ x ∷ []) (sym is) in
    let said : pieces (first ++ line ∷ []) ≡ pieces first ++ line.piece ∷ [] =
    map-append (λ (x : ListedLine). x.piece) first (line ∷ []) in
    sym (ap (λ xs. reverse (pieces xs) ++ earlier) on
    ∙ ap (λ xs. reverse xs ++ earlier) said
    ∙ ap (λ xs. xs ++ earlier) (reverse-append (pieces first) (line.piece ∷ [])))

count_back : (lines : List ListedLine) (i : ℕ) (earlier : List Piece) → i ≤ length lines
    → length (reverse (pieces (take i lines)) ++ earlier) ≡ i + length earlier
count_back lines i earlier low =
    let a = length-append (reverse (pieces (take i lines))) earlier in
    let b = length-reverse (pieces (take i lines)) in
    let d = length-map (take i lines) (λ (line : ListedLine). line.piece) in
    let e = length-take-le i lines low in
    omega (arith, a, b, d, e)

module _ {S O E : Type 0} (g : store.Ghosts S) (o_taken : O → Option (List ℕ)) (o_failed : O → Bool)
    (e_taken : E → Option (List ℕ)) (e_failed : E → Bool) (has_stop : Bool) where
  abbrev Lines : JobEnd O E → JobEnd O E → Desk S → Desk S → Ways → List Turn → Type 0
  Lines = AnswersLines g o_taken o_failed e_taken e_failed has_stop

  abbrev More : JobEnd O E → JobEnd O E → Desk S → Desk S → Ways → List Turn → List Piece → Type 0
  More = AnswersMore g o_taken o_failed e_taken e_failed has_stop

  -- so many of the lines were answered alone, after these turns
  pub record Turned (start end : JobEnd O E) (first desk : Desk S) (ways : Ways)
      (turns : List Turn) (lines : List ListedLine) (i : ℕ) : Type 0 where
    pub more : List Turn
    pub answers : Lines start end first desk ways more
    pub so_far : lines_of more ≡ reverse (pieces (take i lines)) ++ lines_of turns
    pub goes : is_last has_stop end.status ≡ false

  pub turned_none : (start end : JobEnd O E) (first desk : Desk S) (ways : Ways)
      (turns : List Turn) (lines : List ListedLine) → Lines start end first desk ways turns
      → is_last has_stop end.status ≡ false → Turned start end first desk ways turns lines 0
  turned_none start end first desk ways turns lines answers goes = record {
    more = turns;
    answers = answers;
    so_far = refl;
    goes = goes;
  }

  pub turned_all : (start end : JobEnd O E) (first desk : Desk S) (ways : Ways)
      (turns : List Turn) (lines : List ListedLine) (i : ℕ) → length lines ≤ i → i ≤ length lines
      → Turned start end first desk ways turns lines i
      → More start end first desk ways turns (pieces lines)
  turned_all start end first desk ways turns lines i low high t =
      let at_end : i ≡ length lines = omega arith in
      let all : take i lines ≡ lines = rw at_end (take-length lines) in
      record {
        more = t.more;
        answers = t.answers;
        unanswered = [];
        all = sym (t.so_far ∙ ap (λ xs. reverse (pieces xs) ++ lines_of turns) all);
        none_left = λ goes. refl;
      }

  module _ (start end next : JobEnd O E) (first desk new : Desk S) (ways : Ways)
      (turns : List Turn) (listed : Listed) (asked : List Asked) (i : ℕ) (line : ListedLine)
      (holds : Holds ways (length (lines_of turns) + 1) listed asked)
      (low : i < length listed.lines.items) (is : line ≡ get_or listed.lines.items i line)
      (t : Turned start end first desk ways turns listed.lines.items i)
      (answers : AnswersNext g o_taken o_failed e_taken e_failed end next desk new ways line.number
      line.piece) where
    abbrev lines : List ListedLine
    lines = listed.lines.items

    number_is : line.number ≡ length (lines_of t.more) + 1
    number_is =
        let found = listed_at ways (length (lines_of turns) + 1) lines asked i line holds.lines low
        is in
        let so_far : length (lines_of t.more)
        ≡ length (reverse (pieces (take i lines)) ++ lines_of turns) = ap length t.so_far in
        let long = count_back lines i (lines_of turns) (omega (arith, low)) in
        let number = found.1.number_is in
        omega (arith, so_far, long, number)

    turns_now : Lines start next first new ways (alone line.piece ∷ t.more)
    turns_now = (
      desk,
      end,
      t.answers,
      t.goes,
      subst (λ n. AnswersNext g o_taken o_failed e_taken e_failed end next desk new ways n
          line.piece) number_is answers,
    )

    so_far_now : line.piece ∷ lines_of t.more
        ≡ reverse (pieces (take (i + 1) lines)) ++ lines_of turns
    so_far_now = ap (λ xs. line.piece ∷ xs) t.so_far
        ∙ more_back lines i line (lines_of turns) low is

    pub turned_more : is_last has_stop next.status ≡ false
        → Turned start next first new ways turns lines (i + 1)
    turned_more goes = record {
      more = alone line.piece ∷ t.more;
      answers = turns_now;
      so_far = so_far_now;
      goes = goes;
    }

    pub turned_last : is_last has_stop next.status ≡ true
        → More start next first new ways turns (pieces lines)
    turned_last last = record {
      more = alone line.piece ∷ t.more;
      answers = turns_now;
      unanswered = reverse (pieces (drop (i + 1) lines));
      all = back (i + 1) lines (lines_of turns)
          ∙ ap (λ xs. reverse (pieces (drop (i + 1) lines)) ++ xs) (sym so_far_now);
      none_left = λ goes. absurd (true≢false (sym last ∙ goes));
    }

  -- ---- together

  module _ (before p : JobEnd O E) (old new : Desk S) (ways : Ways) (listed : Listed) where
    abbrev Together : Type 0
    Together = AnswersListed g o_taken o_failed e_taken e_failed has_stop before p old new ways
        listed

    -- they were answered together, and told
    pub kept_together : (answers : List Answer)
        → KeepsAll (held g old) (held g new) listed.requests.items answers
        → ((number : ℕ) → (entered : List Entered)
        → AreListed ways number listed.lines.items (map (λ (it : Entered). it.asked) entered)
        → All HasItsNote entered → listed.requests.items ≡ flat_map asked_of entered
        → answers ≡ flat_map answers_of entered
        → TellsEach o_taken o_failed e_taken e_failed before p ways number entered)
        → Together
    kept_together answers keeps tells = λ start first turns asked done goes holds.
        let n = length (lines_of turns) + 1 in
        let long : length answers ≡ length (flat_map requests_of asked) =
        keeps.count ∙ ap length holds.requests in
        let pairs = paired asked answers long in
        let requests : listed.requests.items ≡ flat_map asked_of pairs.entered =
        holds.requests ∙ ap (flat_map requests_of) (sym pairs.same) ∙ same_asked pairs.entered in
        let given : answers ≡ flat_map answers_of pairs.entered = sym pairs.given in
        let lines : AreListed ways n listed.lines.items
        (map (λ (it : Entered). it.asked) pairs.entered) =
        subst (AreListed ways n listed.lines.items) (sym pairs.same) holds.lines in
        let turn : AnswersTogether g o_taken o_failed e_taken e_failed before p old new ways n
        (pieces_in listed) = record {
          entered = pairs.entered;
          asked = asks_each ways n listed.lines.items
              (map (λ (it : Entered). it.asked) pairs.entered) lines;
          notes = pairs.notes;
          replies = replied pairs.entered (subst (All IsReply) given keeps.replies);
          handles = subst (λ rs. HandlesTogether (held g old) (held g new) rs
              (Ok (flat_map answers_of pairs.entered))) requests
              (subst (λ xs. HandlesTogether (held g old) (held g new) listed.requests.items (Ok xs))
              given keeps.handles);
          tells = tells n pairs.entered lines pairs.notes requests given;
        } in
        record {
          more = together (pieces_in listed) ∷ turns;
          answers = (old, before, done, goes, turn);
          unanswered = [];
          all = refl;
          none_left = λ goes_on. refl;
        }

    -- the commit failed
    broken_now : (start : JobEnd O E) (first : Desk S) (turns : List Turn) (asked : List Asked)
        → Lines start before first old ways turns → is_last has_stop before.status ≡ false
        → Holds ways (length (lines_of turns) + 1) listed asked
        → 0 < length listed.lines.items
        → HandlesTogether (held g old) (held g new) listed.requests.items (Err Store)
        → ((number : ℕ) → (one : Asked) → (later : List Asked)
        → Holds ways number listed (one ∷ later)
        → TellsNext o_taken o_failed e_taken e_failed before p ways number (broken_of one))
        → More start p first new ways turns (pieces_in listed)
    broken_now start first turns [] done goes holds some handles tells =
        absurd (no_lines listed.lines.items holds.lines some)
      where
        no_lines : (given : List ListedLine)
            → AreListed ways (length (lines_of turns) + 1) given [] → 0 < length given → ⊥
        no_lines [] are some = omega (arith, some)
        no_lines (line ∷ later) are some = are
    broken_now start first turns (one ∷ later) done goes holds some handles tells =
        let n = length (lines_of turns) + 1 in
        record {
          more = broken (pieces_in listed) ∷ turns;
          answers = (
            old,
            before,
            done,
            goes,
            record {
              first = one;
              later = later;
              asked = asks_each ways n listed.lines.items (one ∷ later) holds.lines;
              handles = subst (λ rs. HandlesTogether (held g old) (held g new) rs (Err Store))
                  holds.requests handles;
              tells = tells n one later holds;
            },
          );
          unanswered = [];
          all = refl;
          none_left = λ goes_on. refl;
        }

    pub broken_together : 0 < length listed.lines.items
        → HandlesTogether (held g old) (held g new) listed.requests.items (Err Store)
        → ((number : ℕ) → (one : Asked) → (later : List Asked)
        → Holds ways number listed (one ∷ later)
        → TellsNext o_taken o_failed e_taken e_failed before p ways number (broken_of one))
        → Together
    broken_together some handles tells = λ start first turns asked done goes holds.
        broken_now start first turns asked done goes holds some handles tells

    -- nothing of it was kept, and they were answered alone
    pub dropped_then : (between : Desk S)
        → DropsAll (held g old) (held g between) listed.requests.items
        → AnswersListed g o_taken o_failed e_taken e_failed has_stop before p between new ways
        listed → Together
    dropped_then between drops later = λ start first turns asked done goes holds.
        let m = later start first (dropped ∷ turns) asked
        (old, before, done, goes, (refl, drops.tries.stands)) goes holds in
        record {
          more = m.more;
          answers = m.answers;
          unanswered = m.unanswered;
          all = m.all;
          none_left = m.none_left;
        }
