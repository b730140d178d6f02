-- A script from its first line to its end.
use Rattle.std.proofs.Common.{◌≡◌, ◌∙◌, ◌+◌, ◌≤◌, ◌++◌, ℕ, Bool, true, false, List, [], ◌∷◌, None}
use Rattle.std.proofs.Common.{Option, Some, ap, arith, length, length-append, map, refl, subst, sym}
use Rattle.std.specs.Prelude.{MatchBool, flat_map, is_some, reverse}
use Rattle.std.proofs.lemmas.Bool.{true≢false}
use Rattle.std.proofs.lemmas.List.{append-nil, length-map, length-reverse, map-append}
use Rattle.std.proofs.lemmas.List.{reverse-append}
use Rattle.std.proofs.lemmas.List.Concat.{flat_map-append}
use Rattle.sqlite.specs.Store as store
use Rattle.ftd_desk.specs.declared.desk.Desk.{Desk}
use Rattle.ftd_machine.specs.declared.requests.Request.{Request}
use Rattle.ftd_cli.specs.Lines.{NextOf}
use Rattle.ftd_cli.specs.declared.lines.Piece.{Piece}
use Rattle.ftd_cli.specs.declared.lines.Piece.TheVariants as piece
use Rattle.ftd_replies.specs.Notes.{asked_when_done}
use Rattle.ftd_shell.specs.Listed.{Asked, in_list, requests_of}
use Rattle.ftd_shell.specs.Scripts.{AnswersLines, AnswersScript, EndsUnread}
use Rattle.ftd_shell.specs.Scripts.{Turn, alone, full, last, lines_of, most_lines, unread, whole}
use Rattle.ftd_shell.specs.Shells.{AnswersNext, Ways}
use Rattle.ftd_script.specs.Statuses.{is_last}
use Rattle.ftd_shell.specs.ListedLines.{AnswersAlone, AnswersListed, AnswersMore, AnswersTaken}
use Rattle.ftd_shell.specs.ListedLines.{EndsListed, answered, ended as ended_by, waited, went_on}
use Rattle.ftd_shell.specs.Understanding.{AreListed, Holds, Takes, Understands, listed_line}
use Rattle.ftd_shell.specs.Understanding.{pieces_in, requests_in}
use Rattle.ftd_shell.specs.declared.listed.Listed.{Listed}
use Rattle.ftd_shell.specs.declared.listed.ListedLine.{ListedLine}
use Rattle.ftd_program.specs.declared.performing.JobEnd.{JobEnd}
use Rattle.ftd_shell.specs.declared.understood.Understood.{Understood}
use Rattle.ftd_shell.proofs.Listing.{listed_more}
use Rattle.ftd_shell.proofs.Scripted.{Left, begins_before, ended, left_more, left_none}
use Rattle.ftd_shell.proofs.UnderstoodLines.{entry_asked}

-- ---- a line is listed, or not

module _ (ways : Ways) (first : ℕ) (asked : List Asked) (line : Piece) (old new : Listed) where
  -- one more is listed; or the same are, and the line is to be answered alone
  abbrev pub AfterTake : Option Understood → Type 0
  AfterTake None =
      (more : List Asked) × Holds ways first new more
      × (pieces_in new ≡ pieces_in old ++ line ∷ [])
      × (length new.lines.items ≡ length old.lines.items + 1)
  AfterTake (Some given) =
      Holds ways first new asked × (pieces_in new ≡ pieces_in old)
      × (length new.lines.items ≡ length old.lines.items) × Understands ways line given

  pub after_take : (number : ℕ) (given : Understood) (back : Option Understood)
      → Understands ways line given → Takes number line given old new back
      → Holds ways first old asked → number ≡ first + length old.lines.items → AfterTake back
  after_take number given None is takes holds count =
      let entry = takes.0 in
      let adds = takes.2 in
      let e = entry_asked ways line entry (subst (Understands ways line) takes.1 is) in
      let one : Asked = e.0 in
      let x : ListedLine = listed_line number line entry in
      let same : entry.request ≡ one.request = e.2.request_is in
      let several : flat_map requests_of (one ∷ []) ≡ requests_of one =
      append-nil (requests_of one) in (
        asked ++ one ∷ [],
        record {
          lines = subst (λ xs. AreListed ways first xs (asked ++ one ∷ [])) (sym adds.lines)
              (listed_more ways first old.lines.items asked x one holds.lines (record {
                asks = e.1;
                number_is = count;
                shown_is = e.2.shown_is;
                format_is = e.2.format_is;
                note_is = ap (λ (r : Request). is_some (asked_when_done r)) same;
              }));
          requests = adds.requests
              ∙ ap (λ xs. xs ++ requests_in entry) holds.requests
              ∙ ap (λ (r : Request). flat_map requests_of asked ++ r ∷ in_list (asked_when_done r))
              same
              ∙ ap (λ xs. flat_map requests_of asked ++ xs) (sym several)
              ∙ sym (flat_map-append requests_of asked (one ∷ []));
        },
        ap (map (λ (y : ListedLine). y.piece)) adds.lines
            ∙ map-append (λ (y : ListedLine). y.piece) old.lines.items (x ∷ []),
        (let long : length new.lines.items ≡ length (old.lines.items ++ x ∷ []) =
            ap length adds.lines in
            let both = length-append old.lines.items (x ∷ []) in omega (arith, long, both)),
      )
  after_take number given (Some back) is takes holds count =
      let stays = takes.1 in (
        record {
          lines = subst (λ xs. AreListed ways first xs asked) (sym stays.lines) holds.lines;
          requests = stays.requests ∙ holds.requests;
        },
        ap (map (λ (y : ListedLine). y.piece)) stays.lines,
        ap length stays.lines,
        subst (Understands ways line) (sym takes.0) is,
      )

-- ---- what was read

read_back : (lines : List Piece) (line : Piece) (earlier : List Piece)
    → line ∷ (reverse lines ++ earlier) ≡ reverse (lines ++ line ∷ []) ++ earlier
read_back lines line earlier = sym (ap (λ xs. xs ++ earlier) (reverse-append lines (line ∷ [])))

count_read : (listed : Listed) (earlier : List Piece)
    → length (reverse (pieces_in listed) ++ earlier)
    ≡ length listed.lines.items + length earlier
count_read listed earlier =
    let a = length-append (reverse (pieces_in listed)) earlier in
    let b = length-reverse (pieces_in listed) in
    let d = length-map listed.lines.items (λ (line : ListedLine). line.piece) in
    omega (arith, a, b, d)

none_last : (has_stop : Bool) → is_last has_stop 0 ≡ false
none_last true = refl
none_last false = refl

module _ {S O E : Type 0} (g : store.Ghosts S) (o_taken : O → Option (List ℕ)) (o_failed : O → Bool)
    (e_taken : E → Option (List ℕ)) (e_failed : E → Bool) (has_stop : Bool) (out : O) (err : E)
    (first : Desk S) (ways : Ways) (bytes : Option (List ℕ)) where
  abbrev start : JobEnd O E
  start = record { status = 0; out = out; err = err }

  abbrev Lines : JobEnd O E → Desk S → List Turn → Type 0
  Lines end desk turns = AnswersLines g o_taken o_failed e_taken e_failed has_stop start end first
      desk ways turns

  abbrev Script : Bool → JobEnd O E → Desk S → Type 0
  Script failed p desk = AnswersScript g o_taken o_failed e_taken e_failed out err p first desk ways
      bytes failed has_stop

  abbrev ListedBy : JobEnd O E → JobEnd O E → Desk S → Desk S → Listed → Type 0
  ListedBy before p old new listed = AnswersListed g o_taken o_failed e_taken e_failed has_stop
      before p old new ways listed

  abbrev More : JobEnd O E → Desk S → List Turn → List Piece → Type 0
  More p desk turns lines = AnswersMore g o_taken o_failed e_taken e_failed has_stop start p first
      desk ways turns lines

  -- turns are done, and lines are listed, before the line of this number is read
  pub record Reads (end : JobEnd O E) (desk : Desk S) (number : ℕ) (listed : Listed)
      (left : Option (List ℕ)) : Type 0 where
    pub turns : List Turn
    pub asked : List Asked
    pub number_is : length (lines_of turns) + length listed.lines.items + 1 ≡ number
    pub answers : Lines end desk turns
    pub holds : Holds ways (length (lines_of turns) + 1) listed asked
    pub goes : is_last has_stop end.status ≡ false
    pub left_is : Left (reverse (pieces_in listed) ++ lines_of turns) bytes left

  pub reads_none : (listed : Listed) → listed.lines.items ≡ [] → listed.requests.items ≡ []
      → Reads start first 1 listed bytes
  reads_none listed lines requests = record {
    turns = [];
    asked = [];
    number_is = rw lines refl;
    answers = (refl, refl);
    holds = record {
      lines = subst (λ xs. AreListed ways 1 xs []) (sym lines) tt;
      requests = requests;
    };
    goes = none_last has_stop;
    left_is = rw lines (left_none bytes);
  }

  -- the same with these turns, where no line is listed
  reads_with : (end : JobEnd O E) (desk : Desk S) (number : ℕ) (listed : Listed)
      (left : Option (List ℕ)) (turns : List Turn) → listed.lines.items ≡ []
      → listed.requests.items ≡ [] → length (lines_of turns) + 1 ≡ number → Lines end desk turns
      → is_last has_stop end.status ≡ false → Left (lines_of turns) bytes left
      → Reads end desk number listed left
  reads_with end desk number listed left turns lines requests number_is answers goes left_is =
      let nothing : length listed.lines.items ≡ 0 = ap length lines in
      record {
        turns = turns;
        asked = [];
        number_is = omega (arith, nothing, number_is);
        answers = answers;
        holds = record {
          lines = subst (λ xs. AreListed ways (length (lines_of turns) + 1) xs []) (sym lines) tt;
          requests = requests;
        };
        goes = goes;
        left_is = rw lines left_is;
      }

  -- the turns are all, since one line was the last
  ends_last : (failed : Bool) (end : JobEnd O E) (desk : Desk S) (left : Option (List ℕ))
      (turns : List Turn) (unanswered : List Piece) → Lines end desk turns
      → is_last has_stop end.status ≡ true → Left (unanswered ++ lines_of turns) bytes left
      → Script failed end desk
  ends_last failed end desk left turns unanswered answers is left_is = record {
    turns = turns;
    end = end;
    answers = answers;
    begins = begins_before unanswered (lines_of turns) bytes left left_is;
    ends = last refl is;
  }

  -- ---- the next line

  module _ (end : JobEnd O E) (desk : Desk S) (number : ℕ) (listed : Listed)
      (before : Option (List ℕ)) (r : Reads end desk number listed before) where
    abbrev earlier : List Piece
    earlier = lines_of r.turns

    module _ (after : Option (List ℕ)) (line : Piece) (next : NextOf before after line)
        (given : Understood) (is : Understands ways line given) (new : Listed) where
      read : Left (line ∷ (reverse (pieces_in listed) ++ earlier)) bytes after
      read = left_more (reverse (pieces_in listed) ++ earlier) bytes before after line r.left_is
          next

      abbrev Took : Option Understood → Type 0
      Took back = AfterTake ways (length earlier + 1) r.asked line listed new back

      took : (back : Option Understood) → Takes number line given listed new back → Took back
      took back takes =
          let count = r.number_is in
          after_take ways (length earlier + 1) r.asked line listed new number given back is takes
          r.holds (omega (arith, count))

      -- it waits for the next
      pub reads_on : (back : Option Understood) → Takes number line given listed new back
          → back ≡ None → Reads end desk (number + 1) new after
      reads_on None takes none =
          let t = took None takes in
          let count = r.number_is in
          let long = t.3 in
          record {
            turns = r.turns;
            asked = t.0;
            number_is = omega (arith, count, long);
            answers = r.answers;
            holds = t.1;
            goes = r.goes;
            left_is = subst (λ xs. Left xs bytes after)
                (read_back (pieces_in listed) line earlier
                ∙ ap (λ xs. reverse xs ++ earlier) (sym t.2)) read;
          }
      reads_on (Some back) takes none = absurd (cc)

      -- listed lines were answered
      module _ (mid : JobEnd O E) (now : Desk S) (listed_is : ListedBy end mid desk now new) where
        more_none : Took None → More mid now r.turns (pieces_in new)
        more_none t = listed_is start first r.turns t.0 r.answers r.goes t.1

        more_some : (back : Understood) → Took (Some back) → More mid now r.turns (pieces_in new)
        more_some back t = listed_is start first r.turns r.asked r.answers r.goes t.0

        read_none : (t : Took None)
            → Left ((more_none t).unanswered ++ lines_of (more_none t).more) bytes after
        read_none t = subst (λ xs. Left xs bytes after)
            (read_back (pieces_in listed) line earlier
            ∙ ap (λ xs. reverse xs ++ earlier) (sym t.2) ∙ (more_none t).all) read

        read_some : (back : Understood) → (t : Took (Some back))
            → Left (line ∷ ((more_some back t).unanswered ++ lines_of (more_some back t).more))
            bytes after
        read_some back t = subst (λ xs. Left (line ∷ xs) bytes after)
            (ap (λ xs. reverse xs ++ earlier) (sym t.1) ∙ (more_some back t).all) read

        -- one of them is the last
        pub listed_last : (failed : Bool) (back : Option Understood)
            → Takes number line given listed new back → is_last has_stop mid.status ≡ true
            → Script failed mid now
        listed_last failed None takes at_last =
            let t = took None takes in
            let m = more_none t in
            ends_last failed mid now after m.more m.unanswered m.answers at_last (read_none t)
        listed_last failed (Some back) takes at_last =
            let t = took (Some back) takes in
            let m = more_some back t in
            ends_last failed mid now after m.more (line ∷ m.unanswered) m.answers at_last
            (read_some back t)

        -- none is, and the line was answered alone, or was one of them
        module _ (goes : is_last has_stop mid.status ≡ false) (p : JobEnd O E) (later : Desk S)
          where
            abbrev Alone : Option Understood → Type 0
            Alone back = AnswersAlone g o_taken o_failed e_taken e_failed mid p now later ways number
                back

            -- all lines are answered
            all_none : (t : Took None)
                → (Left (lines_of (more_none t).more) bytes after)
                × (length (lines_of (more_none t).more) ≡ number)
            all_none t =
                let m = more_none t in
                let none = m.none_left goes in
                let read_all : Left (lines_of m.more) bytes after =
                subst (λ xs. Left (xs ++ lines_of m.more) bytes after) none (read_none t) in
                let same : length (reverse (pieces_in new) ++ earlier)
                ≡ length (m.unanswered ++ lines_of m.more) = ap length m.all in
                let less : length (m.unanswered ++ lines_of m.more) ≡ length (lines_of m.more) =
                ap (λ xs. length (xs ++ lines_of m.more)) none in
                let count = count_read new earlier in
                let long = t.3 in
                let number_is = r.number_is in
                (read_all, omega (arith, same, less, count, long, number_is))

            all_some : (back : Understood) → (t : Took (Some back))
                → (Left (line ∷ lines_of (more_some back t).more) bytes after)
                × (length (lines_of (more_some back t).more) + 1 ≡ number)
            all_some back t =
                let m = more_some back t in
                let none = m.none_left goes in
                let read_all : Left (line ∷ lines_of m.more) bytes after =
                subst (λ xs. Left (line ∷ (xs ++ lines_of m.more)) bytes after) none
                (read_some back t) in
                let same : length (reverse (pieces_in new) ++ earlier)
                ≡ length (m.unanswered ++ lines_of m.more) = ap length m.all in
                let less : length (m.unanswered ++ lines_of m.more) ≡ length (lines_of m.more) =
                ap (λ xs. length (xs ++ lines_of m.more)) none in
                let count = count_read new earlier in
                let long = t.2 in
                let number_is = r.number_is in
                (read_all, omega (arith, same, less, count, long, number_is))

            turns_some : (back : Understood) → (t : Took (Some back)) → Alone (Some back)
                → Lines p later (alone line ∷ (more_some back t).more)
            turns_some back t answers = (
              now,
              mid,
              (more_some back t).answers,
              goes,
              subst (λ n. AnswersNext g o_taken o_failed e_taken e_failed mid p now later ways n line)
                  (sym (all_some back t).1) (answers line t.3),
            )

            pub alone_on : (empty : Listed) (back : Option Understood)
                → Takes number line given listed new back → empty.lines.items ≡ []
                → empty.requests.items ≡ [] → Alone back → is_last has_stop p.status ≡ false
                → Reads p later (number + 1) empty after
            alone_on empty None takes lines requests answers goes_on =
                let t = took None takes in
                let m = more_none t in
                let all = all_none t in
                let long = all.1 in
                reads_with p later (number + 1) empty after m.more lines requests
                (omega (arith, long))
                (subst (λ d. Lines p d m.more) (sym answers.0)
                (subst (λ e. Lines e now m.more) (sym answers.1) m.answers)) goes_on all.0
            alone_on empty (Some back) takes lines requests answers goes_on =
                let t = took (Some back) takes in
                let m = more_some back t in
                let all = all_some back t in
                let long = all.1 in
                let turns : List Turn = alone line ∷ m.more in
                let count : length (lines_of turns) + 1 ≡ number + 1 = omega (arith, long) in
                reads_with p later (number + 1) empty after turns lines requests count
                (turns_some back t answers) goes_on all.0

            pub alone_last : (failed : Bool) (back : Option Understood)
                → Takes number line given listed new back → Alone back
                → is_last has_stop p.status ≡ true → Script failed p later
            alone_last failed None takes answers at_last =
                absurd (true≢false (sym at_last
                ∙ ap (λ (e : JobEnd O E). is_last has_stop e.status) answers.1 ∙ goes))
            alone_last failed (Some back) takes answers at_last =
                let t = took (Some back) takes in
                let m = more_some back t in
                ends_last failed p later after (alone line ∷ m.more) [] (turns_some back t answers)
                at_last (all_some back t).0

      -- it waits, or was answered, or one of those before it is the last
      abbrev TakenAs : JobEnd O E → Desk S → Option Understood → Listed → Type 0
      TakenAs p later back empty = AnswersTaken g o_taken o_failed e_taken e_failed has_stop end p
          desk later ways number back new empty

      pub taken_on : (p : JobEnd O E) (later : Desk S) (back : Option Understood) (empty : Listed)
          → Takes number line given listed new back → TakenAs p later back empty
          → is_last has_stop p.status ≡ false → Reads p later (number + 1) empty after
      taken_on p later back empty takes (waited none same stays left) goes =
          subst (λ d. Reads p d (number + 1) empty after) (sym stays)
          (subst (λ (e : JobEnd O E). Reads e desk (number + 1) empty after) (sym same)
          (subst (λ l. Reads end desk (number + 1) l after) (sym left) (reads_on back takes none)))
      taken_on p later back empty takes (went_on (ended_by listed_is at_last)) goes =
          absurd (true≢false (sym at_last ∙ goes))
      taken_on p later back empty takes
          (went_on (answered mid now listed_is goes_on lines requests answers)) goes =
          alone_on mid now listed_is goes_on p later empty back takes lines requests answers goes

      pub taken_last : (p : JobEnd O E) (later : Desk S) (back : Option Understood)
          (empty : Listed) (failed : Bool) → Takes number line given listed new back
          → TakenAs p later back empty → is_last has_stop p.status ≡ true → Script failed p later
      taken_last p later back empty failed takes (waited none same stays left) at_last =
          absurd (true≢false (sym at_last
          ∙ ap (λ (e : JobEnd O E). is_last has_stop e.status) same ∙ r.goes))
      taken_last p later back empty failed takes (went_on (ended_by listed_is is_at_last)) at_last =
          listed_last p later listed_is failed back takes at_last
      taken_last p later back empty failed takes
          (went_on (answered mid now listed_is goes_on lines requests answers)) at_last =
          alone_last mid now listed_is goes_on p later failed back takes answers at_last

    -- ---- its end

    module _ (p : JobEnd O E) (now : Desk S) (listed_is : ListedBy end p desk now listed) where
      more : More p now r.turns (pieces_in listed)
      more = listed_is start first r.turns r.asked r.answers r.goes r.holds

      left_all : Left (more.unanswered ++ lines_of more.more) bytes before
      left_all = subst (λ xs. Left xs bytes before) more.all r.left_is

      left_goes : is_last has_stop p.status ≡ false → Left (lines_of more.more) bytes before
      left_goes goes = subst (λ xs. Left (xs ++ lines_of more.more) bytes before)
          (more.none_left goes) left_all

      -- there is no more
      at_end : (failed : Bool) (after : Option (List ℕ)) → NextOf before after piece.End
          → (b : Bool) → is_last has_stop p.status ≡ b → Script failed p now
      at_end failed after next true at_last =
          ends_last failed p now before more.more more.unanswered more.answers at_last left_all
      at_end failed after next false goes = record {
        turns = more.more;
        end = p;
        answers = more.answers;
        begins = begins_before [] (lines_of more.more) bytes before (left_goes goes);
        ends = whole refl (ended (lines_of more.more) bytes before after (left_goes goes) next);
      }

      pub reads_end : (failed : Bool) (after : Option (List ℕ)) → NextOf before after piece.End
          → Script failed p now
      reads_end failed after next =
          at_end failed after next (is_last has_stop p.status) refl

      -- so many lines were answered
      at_most : (failed : Bool) → most_lines + 1 ≤ number → (b : Bool)
          → is_last has_stop p.status ≡ b → Script failed p now
      at_most failed many true at_last =
          ends_last failed p now before more.more more.unanswered more.answers at_last left_all
      at_most failed many false goes =
          let none = more.none_left goes in
          let same : length (reverse (pieces_in listed) ++ earlier)
          ≡ length (more.unanswered ++ lines_of more.more) = ap length more.all in
          let less : length (more.unanswered ++ lines_of more.more) ≡ length (lines_of more.more) =
          ap (λ xs. length (xs ++ lines_of more.more)) none in
          let count = count_read listed earlier in
          let number_is = r.number_is in
          record {
            turns = more.more;
            end = p;
            answers = more.answers;
            begins = begins_before [] (lines_of more.more) bytes before (left_goes goes);
            ends = full refl (omega (arith, same, less, count, number_is, many));
          }

      pub reads_full : (failed : Bool) → most_lines + 1 ≤ number → Script failed p now
      reads_full failed many = at_most failed many (is_last has_stop p.status) refl

    -- why it can't be read further
    module _ (p : JobEnd O E) (now : Desk S) (status : ℕ) (said : List ℕ)
        (ends : EndsListed g o_taken o_failed e_taken e_failed has_stop end p desk now ways listed
        status said) where
      unread_as : (b : Bool) → is_last has_stop ends.end.status ≡ b
          → MatchBool b (p ≡ ends.end) (EndsUnread e_taken e_failed ends.end p status said)
          → Script true p now
      unread_as true at_last same =
          subst (λ e. Script true e now) (sym same)
          (ends_last true ends.end now before (more ends.end now ends.answers).more
          (more ends.end now ends.answers).unanswered (more ends.end now ends.answers).answers
          at_last (left_all ends.end now ends.answers))
      unread_as false goes tells =
          let m = more ends.end now ends.answers in
          record {
            turns = m.more;
            end = ends.end;
            answers = m.answers;
            begins = begins_before [] (lines_of m.more) bytes before
                (left_goes ends.end now ends.answers goes);
            ends = unread status said refl tells;
          }

      pub reads_unread : (failed : Bool) → failed ≡ true → Script failed p now
      reads_unread failed is =
          subst (λ f. Script f p now) (sym is)
          (unread_as (is_last has_stop ends.end.status) refl ends.ends)
