use Rattle.std.proofs.Common.{◌+◌, Some, subst}
use Rattle.ftd_days.specs.Holidays.{holidays_of}
use Rattle.ftd_store.specs.Holidays.{HasYears}
use Rattle.ftd_store.proofs.Telling.{reads_on, then_reads}
use Rattle.ftd_entries.specs.Known.{KnowsAccount}
use Rattle.ftd_questions.specs.Agendas.{KnowsLastYears}
use Rattle.ftd_questions.specs.DueRows.{KnowsYears}
use Rattle.ftd_questions.proofs.agenda_rows.account_and_years.Goals as goal

pub returns-in-Some-last_years : goal.returns-in-Some-last_years
returns-in-Some-last_years g c =
    let name = c.args.name.now in
    let last = c.args.last in
    record {
      call = reads_on _ (λ of t. KnowsAccount name (Some of.0) t
          × (KnowsLastYears last t → KnowsYears c.args.quarter of.1 t)) c.in_ok-account.ensures.call
          (λ t known. (
            subst (λ a. KnowsAccount name a t) c.in-Some.is known,
            c.in-Some-last_years.ensures t,
          ));
    }

pub returns : goal.returns
returns g c =
    let name = c.args.name.now in
    let last = c.args.last in
    let given = c.in_ok-holidays.holidays in
    record {
      call = then_reads _ (λ of t. KnowsAccount name (Some of.0) t
          × (KnowsLastYears last t → KnowsYears c.args.quarter of.1 t)) c.in_ok-account.ensures.call
          c.in_ok-holidays.ensures.call (λ t known years. (
            subst (λ a. KnowsAccount name a t) c.in-Some.is known,
            (λ last_is. subst (λ year. HasYears year (year + 1) (holidays_of given) t)
                c.year-year.ensures years),
          ));
    }
