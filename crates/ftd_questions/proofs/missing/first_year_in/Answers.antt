use Rattle.ftd_store.proofs.Telling.{then_reads}
use Rattle.ftd_questions.proofs.FirstYears.{first_known}
use Rattle.ftd_questions.proofs.missing.first_year_in.Goals as goal

pub returns : goal.returns
returns g c = record {
  call = then_reads c.first_among.result _ c.in_ok-account.ensures.call c.in_ok-lines.ensures.call
      (λ t knows lists s stands sound. rw (c.first_among.ensures, c.deref.ensures.value)
      (first_known c.args.name.now _ _ t s stands knows lists));
}
