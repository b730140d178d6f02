use Rattle.std.proofs.Common.{◌≡◌, None, refl, rules}
use Rattle.ftd_machine.specs.declared.requests.Request.TheVariants.{Correct}
use Rattle.ftd_machine.specs.declared.requests.Correction.TheVariants as correction
use Rattle.ftd_entries.proofs.Serving.{served_looked, served_turned}
use Rattle.ftd_posting.specs.Correcting.{IsCountedIn}
use Rattle.ftd_posting.specs.Repaired.{CorrectsTotal}
use Rattle.ftd_posting.proofs.Becoming.{becomes_turned}
use Rattle.ftd_posting.proofs.CorrectedFigures.{total_checks, total_decided, total_done}
use Rattle.ftd_posting.proofs.CorrectedFigures.{total_in_range}
use Rattle.ftd_posting.proofs.correcting.correct_total.Goals as goal

pub returns-in-Err-clause-call : goal.returns-in-Err-clause-call
returns-in-Err-clause-call g c =
    served_looked
    (Correct c.args.number (correction.Total c.args.name.now c.args.period.now c.args.cents)) _
    c.in_ok-before.ensures.call
    (total_decided c.args.name.now c.args.period.now c.args.number c.args.cents _
    c.in_ok-before.before c.in-Err.answer (search rules))

pub returns-clause-call : goal.returns-clause-call
returns-clause-call g c =
    let name = c.args.name.now in
    let period = c.args.period.now in
    let known = c.in_ok-before.before in
    let year = c.year_counting_total-year.result in
    let pass : total_checks name period c.args.number c.args.cents year known ≡ None =
    search rules in
    let counted : IsCountedIn period year =
    c.year_counting_total-year.ensures (total_in_range name period c.args.number c.args.cents
    known.account known.reported known.known known.count pass) in
    served_turned (Correct c.args.number (correction.Total name period c.args.cents)) _
    c.in_ok-before.ensures.call (rw c.in-Some.ensures at c.in_ok-difference.ensures.call)
    (λ t u s stands sound knows enters. total_done name period c.args.number c.args.cents year
    counted known c.in-Ok.account _ pass c.in-Ok.ensures.1 t u s stands sound knows enters)

pub returns-clause-repairs : goal.returns-clause-repairs
returns-clause-repairs g c =
    let name = c.args.name.now in
    let period = c.args.period.now in
    let known = c.in_ok-before.before in
    let year = c.year_counting_total-year.result in
    let pass : total_checks name period c.args.number c.args.cents year known ≡ None =
    search rules in
    let account = c.in-Ok.account in
    becomes_turned (CorrectsTotal name period c.args.number c.args.cents) _
    c.in_ok-before.ensures.call (rw c.in-Some.ensures at c.in_ok-difference.ensures.call)
    (λ t u knows enters. (
      year,
      c.year_counting_total-year.ensures (total_in_range name period c.args.number c.args.cents
          known.account known.reported known.known known.count pass),
      record {
        account = account;
        has_form = knows.form account c.in-Ok.ensures.1;
        is_open = known.is_open;
        difference = c.in_ok-difference.difference;
        told = refl;
        entered = enters;
      },
    ))
