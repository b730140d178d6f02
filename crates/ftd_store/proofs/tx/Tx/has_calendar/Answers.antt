use Rattle.std.proofs.Common.{◌≡◌, ℕ, pos, Bool, Option, None, Some, Ok, List, [], ◌∷◌, rules}
use Rattle.std.specs.Prelude.{is_some, if◌then◌else◌}
use Rattle.ftd_sql.specs.Rows.{CalendarYearRow}
use Rattle.ftd_sql.proofs.Meanings.{shows_calendar_year}
use Rattle.ftd_store.specs.Reading.{rows_of}
use Rattle.ftd_store.specs.Rows.{calendar_year_row}
use Rattle.ftd_store.proofs.Same.{calendar_year_is}
use Rattle.ftd_store.proofs.Telling.{finds, reads_on}
use Rattle.ftd_store.proofs.tx.Tx.has_calendar.Goals as goal

there : (row : CalendarYearRow) (rows : List CalendarYearRow) (found : Option ℕ) (b : Bool)
    → b ≡ is_some found → rows ≡ rows_of (λ n. row) found → rows ≡ (if b then row ∷ [] else [])
there row rows None b is same = rw is same
there row rows (Some n) b is same = rw is same

pub returns : goal.returns
returns g c = record {
  call = reads_on c.is_some.result _ (finds {result = Ok c.in_ok-found.found} _
      (λ n. calendar_year_row c.args.year) (shows_calendar_year (pos c.args.year))
      (calendar_year_is c.args.year) (search rules)) (λ t is. there (calendar_year_row c.args.year)
      _ c.in_ok-found.found c.is_some.result c.is_some.ensures is);
}
