-- A due list that is written row by row: the rows so far, one more, and the end.
use Rattle.std.proofs.Common.{◌≡◌, ℕ, ◌+◌, true, false, List, [], ◌∷◌, ◌++◌, Option, refl, sym, ap}
use Rattle.std.proofs.Common.{◌∙◌, arith, subst, append_assoc, append-nil}
use Rattle.std.specs.Io.KnownBytes.{Appends}
use Rattle.std.specs.List.{flat_map, sum_by}
use Rattle.std.proofs.KnownBytes.{Appends-trans}
use Rattle.std.proofs.lemmas.Grind.{flat_map-append}
use Rattle.std.proofs.lemmas.List.Sums.{sum_by-append, sum_by-cons}
use Rattle.ftd_ports.specs.Writing.{WritesPrefix}
use Rattle.ftd_ports.proofs.WritingFacts.{HasWritten}
use Rattle.ftd_rules.specs.declared.verdict.DueRow.{DueRow}
use Rattle.ftd_rules.specs.Verdicts.{amount_of}
use Rattle.ftd_answers.specs.DueLists.{due_head, due_line, due_text, total_line}
use Rattle.ftd_answers.specs.DueTexts.{HasRows, so_far, is_some_row, waiting, writer_of}
use Rattle.ftd_answers.specs.declared.due_texts.DueText.{DueText}

-- ---- one more row
lines_more : (head : List ℕ) (rows : List DueRow) (row : DueRow)
    → (head ++ flat_map due_line rows) ++ due_line row ≡ head ++ flat_map due_line
    (rows ++ row ∷ [])
lines_more head rows row =
    append_assoc head (flat_map due_line rows) (due_line row)
    ∙ ap (λ z. head ++ z) (ap (λ z. flat_map due_line rows ++ z) (sym (append-nil (due_line row)))
    ∙ sym (flat_map-append due_line rows (row ∷ [])))

appends_as : (before after : Option (List ℕ)) (text same : List ℕ) → text ≡ same
    → Appends before after text → Appends before after same
appends_as before after text same e h = let P : List ℕ → Type 0 = λ z. Appends before after z in
    subst P e h

total_more : (before after : ℕ) (rows : List DueRow) (row : DueRow)
    → before ≡ sum_by amount_of rows → after ≡ before + amount_of row → after ≡ sum_by amount_of
    (rows ++ row ∷ [])
total_more before after rows row e f =
    let more = sum_by-append amount_of rows (row ∷ []) in
    let one = sum_by-cons amount_of row [] in
    let none : sum_by amount_of [] ≡ 0 = refl in
    omega arith

-- ---- what is left to write
left : (head lines : List ℕ) (row : DueRow) (others : List DueRow) (last : List ℕ)
    → head ++ ((lines ++ flat_map due_line (row ∷ others)) ++ last) ≡ (head ++ lines)
    ++ (due_line row ++ (flat_map due_line others ++ last))
left head lines row others last = simp append_assoc

-- ---- the text so far

-- the first line, where no row came before
abbrev pub head_for : List ℕ → List DueRow → List ℕ
head_for head [] = head
head_for head (row ∷ rows) = []

-- one more row goes with the rows so far, after the first line where it waits
row_goes : (head : List ℕ) (rows : List DueRow) (row : DueRow)
    → so_far head rows ++ (head_for head rows ++ due_line row) ≡ so_far head (rows ++ row ∷ [])
row_goes head [] row = ap (λ z. head ++ z) (sym (append-nil (due_line row)))
row_goes head (first ∷ rows) row = lines_more head (first ∷ rows) row

-- the text of these rows, one more and any others
parts_more : (head last : List ℕ) (rows others : List DueRow) (row : DueRow)
    → head ++ (flat_map due_line (rows ++ row ∷ others) ++ last) ≡ so_far head rows
    ++ ((head_for head rows ++ due_line row) ++ (flat_map due_line others ++ last))
parts_more head last [] others row = simp append_assoc
parts_more head last (first ∷ rows) others row =
    ap (λ z. head ++ (z ++ last)) (flat_map-append due_line (first ∷ rows) (row ∷ others))
    ∙ left head (flat_map due_line (first ∷ rows)) row others last

parts_last : (head last : List ℕ) (rows : List DueRow) → head ++ (flat_map due_line rows ++ last)
    ≡ so_far head rows ++ (head_for head rows ++ last)
parts_last head last [] = refl
parts_last head last (first ∷ rows) =
    sym (append_assoc head (flat_map due_line (first ∷ rows)) last)

some_more : (rows : List DueRow) (row : DueRow) → is_some_row (rows ++ row ∷ []) ≡ true
some_more [] row = refl
some_more (first ∷ rows) row = refl

module _ {W : Type 0} (taken : W → Option (List ℕ)) (start : Option (List ℕ)) (account : List ℕ)
    (quarter as_of : ℕ) where
  waits : (rows : List DueRow) (text : DueText W)
      → HasRows taken start account quarter as_of rows text → waiting text ≡ head_for
      (due_head account quarter as_of) rows
  waits [] text has =
      let begun : text.begun ≡ false = has.begun_is in
      let a = has.account_is in
      let q = has.quarter_is in
      let d = has.as_of_is in
      rw begun (rw a (rw q (rw d refl)))
  waits (row ∷ rows) text has =
      let begun : text.begun ≡ true = has.begun_is in rw begun refl

  module _ (rows : List DueRow) (before : DueText W)
      (has : HasRows taken start account quarter as_of rows before) where
    -- the line of one more row was written, after the first line where it waited
    pub one_more : (row : DueRow) (writer : W) → Appends (taken (writer_of before)) (taken writer)
        (waiting before ++ due_line row)
        → HasRows taken start account quarter as_of (rows ++ row ∷ [])
        (record before { writer = writer; begun = true; total = before.total + amount_of row })
    one_more row writer writes = record {
      account_is = has.account_is;
      quarter_is = has.quarter_is;
      as_of_is = has.as_of_is;
      works = has.works;
      begun_is = sym (some_more rows row);
      written = appends_as _ _ _ _ (row_goes (due_head account quarter as_of) rows row)
          (Appends-trans start (taken (writer_of before)) (taken writer) _ _ has.written
          (appends_as _ _ _ _ (ap (λ z. z ++ due_line row) (waits rows before has)) writes));
      total = total_more before.total (before.total + amount_of row) rows row has.total refl;
    }

    -- what is left of the text of these rows, one more and any others
    pub more_left : (row : DueRow) (others : List DueRow)
        → HasWritten start (taken (writer_of before))
        (due_text account quarter as_of (rows ++ row ∷ others))
        ((waiting before ++ due_line row) ++ (flat_map due_line others ++ total_line
        (sum_by amount_of (rows ++ row ∷ others))))
    unfolding due_text
    more_left row others =
        let last = total_line (sum_by amount_of (rows ++ row ∷ others)) in
        let head = due_head account quarter as_of in
        record {
          written = so_far head rows;
          parts = parts_more head last rows others row
              ∙ ap (λ z. so_far head rows
              ++ ((z ++ due_line row) ++ (flat_map due_line others ++ last)))
              (sym (waits rows before has));
          appends = has.written;
        }

    -- with all rows written, the last line is left, and before it the first line where it waits
    pub last_left : HasWritten start (taken (writer_of before))
        (due_text account quarter as_of rows) (waiting before ++ total_line before.total)
    unfolding due_text
    last_left =
        let head = due_head account quarter as_of in
        record {
          written = so_far head rows;
          parts =
              parts_last head (total_line (sum_by amount_of rows)) rows
              ∙ (ap (λ z. so_far head rows ++ (z ++ total_line (sum_by amount_of rows)))
              (sym (waits rows before has))
              ∙ ap (λ z. so_far head rows ++ (waiting before ++ total_line z)) (sym has.total));
          appends = has.written;
        }

    -- what was written is a prefix of the text of these rows and any others
    pub first_part : (others : List DueRow) → WritesPrefix start (taken (writer_of before))
        (due_text account quarter as_of (rows ++ others))
    first_part [] =
        let left = last_left in
        subst (λ z. WritesPrefix start (taken (writer_of before))
        (due_text account quarter as_of z)) (sym (append-nil rows))
        (record {
          written = left.written;
          unwritten = _;
          parts = left.parts;
          appends = left.appends;
        })
    first_part (row ∷ others) =
        let left = more_left row others in
        record { written = left.written; unwritten = _; parts = left.parts; appends = left.appends }
