-- The first of an account's years, by its rows.
use Rattle.std.proofs.Common.{◌≡◌, ◌∙◌, ℕ, List, Option, Vec, map, ap, sym}
use Rattle.ftd_rules.specs.declared.YearLine.{YearLine}
use Rattle.ftd_sql.specs.Standing.{Tables}
use Rattle.ftd_store.specs.Finds.{ListsYears}
use Rattle.ftd_machine.specs.History.{year_of_line}
use Rattle.ftd_machine.specs.State.{State, entries_of}
use Rattle.ftd_machine.specs.declared.entries.Account.{Account}
use Rattle.ftd_entries.specs.Known.{KnowsAccount}
use Rattle.ftd_entries.specs.Standing.{StandsFor}
use Rattle.ftd_entries.proofs.Lines.{lines_known}
use Rattle.ftd_questions.specs.Missing.{first_among, first_year}

pub first_known : {A : Type 0} (name : List ℕ) (account : Option Account) (lines : Vec YearLine A)
    (t : Tables) (s : State) (stands : StandsFor t s) → KnowsAccount name account t
    → ListsYears name lines t
    → first_among account (map year_of_line lines.items) ≡ first_year (entries_of s name)
first_known name account lines t s stands knows lists =
    let settled = stands.settled name in
    let same : lines.items ≡ settled.lines = lines_known name lines t s stands lists settled in
    ap (λ a. first_among a (map year_of_line lines.items)) (sym (knows s stands))
    ∙ ap (first_among (entries_of s name).account)
    (ap (map year_of_line) same ∙ settled.are_lines.years)
