use Rattle.std.proofs.Common.{refl, ap, sym, subst}
use Rattle.ftd_store.proofs.Telling.{then_reads}
use Rattle.ftd_machine.specs.History.{form_of}
use Rattle.ftd_questions.specs.DueRows.{KnowsYears}
use Rattle.ftd_questions.proofs.agenda_rows.list_of.Goals as goal

pub returns : goal.returns
returns g c = record {
  call = then_reads _ _ c.in_ok-account.ensures.call c.in_ok-return_due.ensures.call
      (λ t before lists last_is. (let years = before.1 last_is in (
        (λ s stands sound.
            (let is = before.0 s stands in
            record {
              account = c.in_ok-account.account;
              enrolled = is;
              form_is = refl;
              due_list = (lists years).0.0 s stands sound (ap form_of is);
              return_due = (lists years).1 s stands sound;
            })),
        subst (λ hs. KnowsYears c.args.quarter hs t) (sym c.in_ok-return_due.ensures.same) years,
      )));
}
