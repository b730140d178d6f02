-- The rows of a list in a table.
use Rattle.std.specs.Prelude.{ℕ, List, [], ◌∷◌, ◌++◌, codes, Option, None}
use Rattle.std.specs.List.{concat, flat_map}
use Rattle.ftd_rules.specs.Verdicts.{verdict_text}
use Rattle.ftd_answers.specs.Fields.{Field}
use Rattle.ftd_pages.specs.Links.{led_by, linked}
use Rattle.ftd_pages.specs.declared.frames.Ways.{Ways}
use Rattle.ftd_pages.specs.declared.rows.Class.{Class}
use Rattle.ftd_pages.specs.declared.rows.Class.TheVariants.{Plain, Stands, Void}
use Rattle.ftd_pages.specs.declared.rows.Part.{Part}
use Rattle.ftd_pages.specs.declared.rows.Part.TheVariants.{Header, Body}

-- the head of a column: its class is the name of the field, and it has a word
unfoldable pub heading : List ℕ → List ℕ → List ℕ
heading name word =
    concat (codes "<th scope=\"col\" class=\"" ∷ name ∷ codes "\">" ∷ word ∷ codes "</th>" ∷ [])

-- a cell: its class is the name of the field, and its value may lead to an address
unfoldable pub cell_start : List ℕ → List ℕ
cell_start name = concat (codes "<td class=\"" ∷ name ∷ codes "\">" ∷ [])

unfoldable pub cell : List ℕ → Option (List ℕ) → List ℕ → List ℕ
cell name address text = cell_start name ++ (linked address text ++ codes "</td>")

-- what a page shows of rows: their fields, the word of each, and the class of a row; and to which
-- address the cell of a field leads, by the name of the field
pub record Shape (T : Type 0) : Type 0 where
  pub fields : List (Field T)
  pub words : List (List ℕ)
  pub class : T → Class
  pub address : T → List ℕ → Option (List ℕ)

-- where no cell leads to an address
abbrev pub nowhere : {T : Type 0} → T → List ℕ → Option (List ℕ)
nowhere x name = None

-- the heads of the fields, named as a row names them, each with its word
abbrev pub headings : {T : Type 0} → List (List ℕ) → List (Field T) → T → List ℕ
headings (word ∷ words) (f ∷ fields) x = heading (f.name x) word ++ headings words fields x
headings (word ∷ words) [] x = []
headings [] fields x = []

-- the cells of a row: of each field the value, as in a record of CSV. Where the page has ways, it
-- leads to its address.
abbrev pub cells_of : {T : Type 0} → Shape T → T → Ways → List ℕ
cells_of shape x ways =
    flat_map (λ f. cell (f.name x) (led_by (shape.address x (f.name x)) ways) (f.value x).plain)
    shape.fields

-- a row of the header, and a row of the body, which may have a class
abbrev pub header_row : List ℕ → List ℕ
header_row heads = codes "<thead>\n<tr>" ++ (heads ++ codes "</tr>\n</thead>\n")

abbrev pub row_start : Class → List ℕ
row_start Plain = codes "<tr>"
row_start (Stands verdict) = codes "<tr class=\"" ++ (verdict_text verdict ++ codes "\">")
row_start Void = codes "<tr class=\"void\">"

abbrev pub body_row : Class → List ℕ → List ℕ
body_row class cells = row_start class ++ (cells ++ codes "</tr>\n")

-- a part of a table: the header, or a row of the body of a page that has these ways
abbrev pub part_text : Part → List ℕ → Class → (Ways → List ℕ) → List ℕ
part_text Header heads class cells = header_row heads
part_text (Body ways) heads class cells = body_row class (cells ways)

-- the header, its fields named as a row names them, and a row of the body
abbrev pub header_for : {T : Type 0} → Shape T → T → List ℕ
header_for shape x = header_row (headings shape.words shape.fields x)

abbrev pub body_for : {T : Type 0} → Ways → Shape T → T → List ℕ
body_for ways shape x = body_row (shape.class x) (cells_of shape x ways)

-- a row as a part of a table
abbrev pub row_as : {T : Type 0} → Part → Shape T → T → List ℕ
row_as part shape x =
    part_text part (headings shape.words shape.fields x) (shape.class x) (cells_of shape x)
