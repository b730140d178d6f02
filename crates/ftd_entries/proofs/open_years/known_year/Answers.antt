use Rattle.ftd_entries.proofs.KnownYears.{year_known}
use Rattle.ftd_entries.proofs.Reading.{four_told}
use Rattle.ftd_entries.proofs.open_years.known_year.Goals as goal

pub returns : goal.returns
returns g c = record {
  call = four_told c.in_ok-account.ensures.call c.in_ok-lines.ensures.call
      c.in_ok-given.ensures.call _ _ c.in_ok-next.ensures.call (λ t knows lists here after.
      year_known c.args.name.now c.args.year c.saturating_add.result _ _ _ _ c.is_some.result
      c.is_some-2.result t c.is_some.ensures c.is_some-2.ensures c.saturating_add.ensures knows
      lists here after);
}
