use Rattle.std.proofs.Common.{◌≡◌, rules, sym, true}
use Rattle.ftd_rules.specs.Lists.{are_in_order}
use Rattle.ftd_machine.specs.declared.requests.Question.TheVariants as asked
use Rattle.ftd_machine.specs.declared.requests.Request.TheVariants.{Question}
use Rattle.ftd_machine.specs.Told.{unapplied_answer}
use Rattle.ftd_entries.proofs.Serving.{served_looked}
use Rattle.ftd_kept.specs.Unapplied.{is_unapplied_before}
use Rattle.ftd_kept.proofs.UnappliedKnown.{unapplied_answered, unapplied_refused}
use Rattle.ftd_kept.proofs.UnappliedOrdered.{unapplied_in_order}
use Rattle.ftd_kept.proofs.unapplied_rows.unapplied_money.Goals as goal

pub returns-in-Err : goal.returns-in-Err
returns-in-Err g c = record {
  call = served_looked (Question (asked.Unapplied c.args.until)) c.in-Err.answer
      c.in_ok-rows.ensures.call
      (λ t s stands sound knows. unapplied_refused c.args.until c.in-Err.answer (search rules) s);
}

pub returns : goal.returns
returns g c =
    let until = c.args.until in
    let rows = c.in_ok-rows.rows in
    let order : are_in_order is_unapplied_before rows.items ≡ true = search rules in
    record {
      call = served_looked (Question (asked.Unapplied until))
          (unapplied_answer until c.from_vec.result) c.in_ok-rows.ensures.call
          (λ t s stands sound knows. rw (sym c.from_vec.ensures) at
          (unapplied_answered until rows.items t s stands sound knows (search rules)
          (unapplied_in_order rows.items order)));
    }
