-- A page that tells several things, one after the other.
use Rattle.std.specs.Prelude.{ℕ, List, [], ◌∷◌, ◌++◌, codes}
use Rattle.std.specs.List.{flat_map}
use Rattle.ftd_pages.specs.Escapes.{escaped}
use Rattle.ftd_pages.specs.Pages.{list_of, page_of, table_of}
use Rattle.ftd_pages.specs.Rows.{Shape, body_for, header_for}
use Rattle.ftd_pages.specs.declared.frames.Place.{Place}
use Rattle.ftd_pages.specs.declared.frames.Place.TheVariants.{Alone, Section}
use Rattle.ftd_pages.specs.declared.frames.Ways.{Ways}
use Rattle.ftd_pages.specs.declared.frames.Ways.TheVariants.{Nowhere}

-- the heading of the page, and that of a section
unfoldable pub page_heading : List ℕ → List ℕ
page_heading title = codes "<h1>" ++ (title ++ codes "</h1>\n")

unfoldable pub section_heading : List ℕ → List ℕ
section_heading title = codes "<h2>" ++ (title ++ codes "</h2>\n")

-- where a list has no rows, its title and a sentence
unfoldable pub none_in_section : List ℕ → List ℕ → List ℕ
none_in_section title sentence =
    section_heading title ++ (codes "<p>" ++ (escaped sentence ++ codes "</p>\n"))

-- a list on a page that has these ways: the table of its rows, or the sentence
abbrev pub section_of : {T : Type 0} → Ways → Shape T → List ℕ → List ℕ → List ℕ → List T
    → List ℕ
section_of ways shape title sentence foot [] = none_in_section title sentence
section_of ways shape title sentence foot (x ∷ rows) =
    table_of title (header_for shape x) (flat_map (body_for ways shape) (x ∷ rows)) foot

-- a list of an account at its place: on a page of its own, or in a section; for one of all accounts
-- the account is the empty text
abbrev pub list_at : {T : Type 0} → Place → List ℕ → Shape T → List ℕ → List ℕ → List ℕ → List T
    → List ℕ
list_at (Alone frame) account shape title sentence foot rows =
    page_of frame account title (list_of frame.ways shape title sentence foot rows)
list_at (Section ways) account shape title sentence foot rows =
    section_of ways shape title sentence foot rows

-- a row alone, as a section; its cells lead nowhere
abbrev pub one_row : {T : Type 0} → Shape T → List ℕ → T → List ℕ
one_row shape title x = section_of Nowhere shape title [] [] (x ∷ [])
