-- The links to the due lists of an account's open years.
use Rattle.std.specs.Prelude.{ℕ, List, [], ◌∷◌, ◌++◌, codes}
use Rattle.std.specs.Fmt.{decimal}
use Rattle.std.specs.List.{flat_map}
use Rattle.ftd_days.specs.Text.{day_text}
use Rattle.ftd_machine.specs.declared.facts.Facts.{Facts}
use Rattle.ftd_machine.specs.declared.facts.Facts.TheVariants.{Kept}
use Rattle.ftd_machine.specs.declared.kept.KeptRows.{KeptRows}
use Rattle.ftd_machine.specs.declared.kept.KeptRows.TheVariants.{Years}
use Rattle.ftd_machine.specs.declared.kept.KeptYear.{KeptYear}
use Rattle.ftd_pages.specs.Links.{address_in_page, link}
use Rattle.ftd_pages.specs.declared.frames.Ways.{Ways}
use Rattle.ftd_pages.specs.declared.frames.Ways.TheVariants.{Nowhere, From}

-- the link to the due list of a quarter as of today: its path has the year, and behind it the
-- quarter
unfoldable pub due_way : List ℕ → ℕ → ℕ → List ℕ → List ℕ → List ℕ
due_way account today year quarter months =
    link (address_in_page (codes "/accounts/" ∷ account ∷ codes "/due/" ∷ decimal year ∷ quarter
    ∷ day_text today ∷ codes "/html" ∷ [])) months ++ codes "\n"

-- those of the quarters of a year
unfoldable pub due_ways : List ℕ → ℕ → ℕ → List ℕ
due_ways account today year =
    due_way account today year (codes "Q1/") (codes "January to March")
    ++ (due_way account today year (codes "Q2/") (codes "April to June")
    ++ (due_way account today year (codes "Q3/") (codes "July to September")
    ++ due_way account today year (codes "Q4/") (codes "October to December")))

-- the paragraph of a year
unfoldable pub year_ways : List ℕ → ℕ → ℕ → List ℕ
year_ways account today year =
    codes "<p>Due lists of " ++ (decimal year ++ (codes ":\n"
    ++ (due_ways account today year ++ codes "</p>\n")))

-- below the open years of an account, a paragraph for each of them; below all else, nothing
abbrev pub kept_ways : ℕ → KeptRows → List ℕ
kept_ways today (Years account listed) =
    flat_map (λ (row : KeptYear). year_ways account today row.line.year) listed
kept_ways today other = []

abbrev pub told_ways : ℕ → Facts → List ℕ
told_ways today (Kept rows) = kept_ways today rows
told_ways today other = []

-- on a page without ways there are none
abbrev pub ways_below : Ways → Facts → List ℕ
ways_below Nowhere facts = []
ways_below (From today until) facts = told_ways today facts
