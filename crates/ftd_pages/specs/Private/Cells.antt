-- How a row is written: its columns, each with its value and with where that leads.
use Rattle.std.specs.Prelude.{ℕ, List, Option, None}
use Rattle.ftd_answers.specs.Fields.{shown_as}
use Rattle.ftd_answers.specs.declared.fields.Value.{Value}
use Rattle.ftd_pages.specs.Links.{address_of, led_by}
use Rattle.ftd_pages.specs.Rows.{cell, heading}
use Rattle.ftd_pages.specs.declared.columns.Column.{Column}
use Rattle.ftd_pages.specs.declared.frames.Ways.{Ways}
use Rattle.ftd_pages.specs.declared.links.Way.{Way}

-- the head of a column, and its cell
abbrev pub head_of : Column → List ℕ
head_of column = heading column.name.now column.word.now

abbrev pub cell_in : Column → Option (List ℕ) → Value → List ℕ
cell_in column address value = cell column.name.now address (shown_as value).plain

-- of a field that leads nowhere
abbrev pub heading_of : Column × Value → List ℕ
heading_of field = head_of field.0

abbrev pub cell_of : Column × Value → List ℕ
cell_of field = cell_in field.0 None field.1

-- of a field that may lead to an address, on a page that has these ways
abbrev pub linked_heading_of : Column × Value × Way → List ℕ
linked_heading_of field = head_of field.0

abbrev pub linked_cell_of : Ways → Column × Value × Way → List ℕ
linked_cell_of ways field = cell_in field.0 (led_by (address_of field.2) ways) field.1
