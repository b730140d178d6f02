-- What the rows tell of a year that is to be opened.
use Rattle.std.proofs.Common.{◌≡◌, ℕ, ◌+◌, ◌<◌, ◌≤◌, ◌==◌, ◌||◌, Bool, true, false, List, [], ◌∷◌}
use Rattle.std.proofs.Common.{map, Option, None, Some, Vec, inl, inr, refl, sym, ap, ◌∙◌, arith}
use Rattle.std.specs.Prelude.{find, option_map, is_some, min, nat_le, if◌then◌else◌}
use Rattle.std.specs.List.{list_any}
use Rattle.std.proofs.lemmas.Bool.{eqb-true, leb-true, and_parts, cases_lt}
use Rattle.ftd_days.specs.Holidays.{YearDays}
use Rattle.ftd_rules.specs.declared.YearLine.{YearLine}
use Rattle.ftd_rules.specs.Lists.{Has}
use Rattle.ftd_sql.specs.Standing.{Tables}
use Rattle.ftd_store.specs.Finds.{FindsCalendar, ListsYears}
use Rattle.ftd_machine.specs.declared.entries.Account.{Account}
use Rattle.ftd_machine.specs.State.{State, Entry, entries_of, has_key, content_of, kept_at, days_of}
use Rattle.ftd_machine.specs.State.{is_given}
use Rattle.ftd_machine.specs.History.{year_of_line, year_of_entry}
use Rattle.ftd_machine.specs.Sound.{IsSound}
use Rattle.ftd_machine.proofs.Keeping.{is_year}
use Rattle.ftd_entries.specs.Standing.{StandsFor}
use Rattle.ftd_entries.specs.Known.{KnowsAccount}
use Rattle.ftd_entries.specs.Opening.{is_line_of, KeepsYear}
use Rattle.ftd_entries.proofs.CalendarRows.{calendar_known, days_found}
use Rattle.ftd_entries.proofs.Lines.{lines_known}

-- a year is open where one of the lines is of it
pub open_lines : (year : ℕ) (lines : List YearLine) (opened : List (Entry (Unit {0})))
    → map year_of_line lines ≡ map year_of_entry opened → is_some (kept_at year opened) ≡ list_any
    (is_line_of year) lines
open_lines year [] [] same = refl
open_lines year [] (e ∷ opened) same = absurd cc
open_lines year (line ∷ lines) [] same = absurd cc
open_lines year (line ∷ lines) (e ∷ opened) same =
    let head : line.year ≡ e.key = cc in
    let tail : map year_of_line lines ≡ map year_of_entry opened = cc in
    step (e.key == year) (open_lines year lines opened tail)
    ∙ ap (λ y. (y == year) || list_any (is_line_of year) lines) (sym head)
  where
    step : (b : Bool) → is_some (kept_at year opened) ≡ list_any (is_line_of year) lines
        → is_some (option_map content_of (if b then Some e else find (has_key year) opened))
        ≡ (b || list_any (is_line_of year) lines)
    step true more = refl
    step false more = more

pub mapped_some : {X Y : Type 0} (f : X → Y) (o : Option X) → is_some (option_map f o) ≡ is_some o
mapped_some f (Some x) = refl
mapped_some f None = refl

-- no calendar is given of a year after 2099
given_early : (year : ℕ) (cs : List YearDays) → ((c : YearDays) → Has cs c → c.year ≤ 2099)
    → 2099 < year → is_some (option_map days_of (find (is_year year) cs)) ≡ false
given_early year [] early far = refl
given_early year (c ∷ cs) early far = step (c.year == year) refl
    (given_early year cs (λ g has. early g (inr has)) far)
  where
    step : (b : Bool) → (c.year == year) ≡ b → is_some (option_map days_of (find (is_year year) cs))
        ≡ false → is_some (option_map days_of (if b then Some c else find (is_year year) cs))
        ≡ false
    step true e more = absurd (let same = eqb-true c.year year e in let top = early c (inl refl) in
        omega arith)
    step false e more = more

none_after : (s : State) (year : ℕ) → IsSound s → 2099 < year → is_given s year ≡ false
none_after s year sound far =
    given_early year s.calendars
    (λ c has. leb-true c.year 2099 (and_parts (nat_le 2001 c.year) (nat_le c.year 2099)
    (sound.are_calendars c has).0).1) far

next_given : (s : State) (year next : ℕ) → IsSound s → next ≡ min (year + 1) 4_294_967_295
    → is_given s (year + 1) ≡ is_given s next
next_given s year next sound is =
    elim (cases_lt year 4_294_967_295) [
      | inl small ↦ ap (is_given s) (omega arith)
      | inr large ↦ none_after s (year + 1) sound (omega arith)
          ∙ sym (none_after s next sound (omega arith))
    ]

pub year_known : {A : Type 0} (name : List ℕ) (year next : ℕ) (account : Option Account)
    (lines : Vec YearLine A) (here after : Option (Vec ℕ A)) (given given_next : Bool) (t : Tables)
    → given ≡ is_some here → given_next ≡ is_some after → next ≡ min (year + 1) 4_294_967_295
    → KnowsAccount name account t → ListsYears name lines t → FindsCalendar year here t
    → FindsCalendar next after t
    → (s : State) (stands : StandsFor t s) → IsSound s
    → KeepsYear name year account (list_any (is_line_of year) lines.items) given given_next s
    × (lines.items ≡ (stands.settled name).lines)
year_known name year next account lines here after given given_next t has has_next is knows lists
    first second s stands sound =
    let settled = stands.settled name in
    let same : lines.items ≡ settled.lines = lines_known name lines t s stands lists settled in (
      record {
        account_is = knows s stands;
        there_is = open_lines year lines.items (entries_of s name).open_years
            (ap (map year_of_line) same ∙ settled.are_lines.years);
        given_is = ap is_some (calendar_known year here t s stands sound first)
            ∙ mapped_some days_found here ∙ sym has;
        next_is = next_given s year next sound is
            ∙ ap is_some (calendar_known next after t s stands sound second)
            ∙ mapped_some days_found after ∙ sym has_next;
      },
      same,
    )
