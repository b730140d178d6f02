-- A due list that is written row by row; its text begins with its first row.
use Rattle.std.specs.Prelude.{◌≡◌, ◌⊎◌, ◌<◌, ◌≤◌, ℕ, ◌+◌}
use Rattle.std.specs.Prelude.{Bool, true, false, if◌then◌else◌, List, []}
use Rattle.std.specs.Prelude.{◌∷◌, ◌++◌, Option}
use Rattle.std.specs.Io.KnownBytes.{Appends}
use Rattle.std.specs.List.{flat_map, sum_by}
use Rattle.ftd_rules.specs.declared.TheConstants.{AMOUNTS_END}
use Rattle.ftd_ports.specs.Writing.{WritesPrefix}
use Rattle.ftd_rules.specs.declared.verdict.DueRow.{DueRow}
use Rattle.ftd_rules.specs.Verdicts.{amount_of}
use Rattle.ftd_answers.specs.DueLists.{due_head, due_line, due_text}
use Rattle.ftd_answers.specs.declared.due_texts.DueText.{DueText}

-- the writer that the text is written to, and whether it has failed
abbrev pub writer_of : {W : Type 0} → DueText W → W
writer_of text = text.writer

abbrev pub has_failed : {W : Type 0} → DueText W → Bool
has_failed text = text.failed

-- the sum of the amounts of its rows, in cents
abbrev pub total_of : {W : Type 0} → DueText W → ℕ
total_of text = text.total

-- the first line, where it still waits
abbrev pub waiting : {W : Type 0} → DueText W → List ℕ
waiting text = if text.begun then [] else due_head text.account.now text.quarter text.as_of

-- what is written with these rows, under this first line: nothing before the first row
abbrev pub so_far : List ℕ → List DueRow → List ℕ
so_far head [] = []
so_far head (row ∷ rows) = head ++ flat_map due_line (row ∷ rows)

abbrev pub is_some_row : List DueRow → Bool
is_some_row [] = false
is_some_row (row ∷ rows) = true

-- it is the text of this account's quarter as of this day; from these bytes on what goes with these
-- rows was written, and nothing failed
pub record HasRows {W : Type 0} (taken : W → Option (List ℕ)) (start : Option (List ℕ))
    (account : List ℕ) (quarter as_of : ℕ) (rows : List DueRow)
    (text : DueText W) : Type 0 where
  pub account_is : text.account.now ≡ account
  pub quarter_is : text.quarter ≡ quarter
  pub as_of_is : text.as_of ≡ as_of
  pub works : has_failed text ≡ false
  pub begun_is : text.begun ≡ is_some_row rows
  pub written : Appends start (taken (writer_of text))
      (so_far (due_head account quarter as_of) rows)
  pub total : text.total ≡ sum_by amount_of rows

-- the text took a row: it had not failed, its line was written, after the first line where that
-- still waited, and its amount counts; what went with the rows before it goes with this one too
pub record TakesRow {W : Type 0} (taken : W → Option (List ℕ)) (before : DueText W) (row : DueRow)
    (after : DueText W) : Type 0 where
  pub worked : has_failed before ≡ false
  pub works : has_failed after ≡ false
  pub writes : Appends (taken (writer_of before)) (taken (writer_of after))
      (waiting before ++ due_line row)
  pub counts : total_of after ≡ total_of before + amount_of row
  pub below : total_of after < AMOUNTS_END
  pub goes : (start : Option (List ℕ)) (account : List ℕ) (quarter as_of : ℕ) (rows : List DueRow)
      → HasRows taken start account quarter as_of rows before
      → HasRows taken start account quarter as_of (rows ++ row ∷ []) after

-- a prefix of the text of the rows with this one and any others was written: the writer failed, or
-- the total would come to the bound
pub record BreaksIn {W : Type 0} (taken : W → Option (List ℕ)) (failed : W → Bool)
    (start : Option (List ℕ)) (account : List ℕ) (quarter as_of : ℕ) (rows : List DueRow)
    (row : DueRow) (others : List DueRow) (after : DueText W) : Type 0 where
  pub part : WritesPrefix start (taken (writer_of after))
      (due_text account quarter as_of (rows ++ row ∷ others))
  pub reason : (failed (writer_of after) ≡ true)
      ⊎ (AMOUNTS_END ≤ sum_by amount_of rows + amount_of row)

-- the text failed at a row: a prefix of what is written for it was written, since the writer
-- failed, since the total would come to the bound, or since the text had failed before, and then
-- nothing changes any more
pub record BreaksAt {W : Type 0} (taken : W → Option (List ℕ)) (failed : W → Bool)
    (before : DueText W) (row : DueRow) (after : DueText W) : Type 0 where
  pub fails : has_failed after ≡ true
  pub writes : WritesPrefix (taken (writer_of before)) (taken (writer_of after))
      (waiting before ++ due_line row)
  pub reason : (has_failed before ≡ true)
      ⊎ ((failed (writer_of after) ≡ true) ⊎ (AMOUNTS_END ≤ total_of before + amount_of row))
  pub stays : has_failed before ≡ true → after ≡ before
  pub breaks : (start : Option (List ℕ)) (account : List ℕ) (quarter as_of : ℕ)
      (rows others : List DueRow)
      → HasRows taken start account quarter as_of rows before
      → BreaksIn taken failed start account quarter as_of rows row others after
