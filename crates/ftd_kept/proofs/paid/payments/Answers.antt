use Rattle.std.proofs.Common.{◌≡◌, ◌∙◌, None, ap₂, ap, arith, refl, rules, subst}
use Rattle.ftd_days.proofs.Months.{month_start-zero}
use Rattle.ftd_store.specs.Lists.{Pairs}
use Rattle.ftd_store.specs.Kept.{ListsKeptPayments}
use Rattle.ftd_machine.specs.Checks.{first_of}
use Rattle.ftd_machine.specs.Told.{kept_answer}
use Rattle.ftd_machine.specs.Requests.{kept_in_quarter_checks}
use Rattle.ftd_machine.specs.declared.kept.KeptRows.TheVariants as rows
use Rattle.ftd_machine.specs.declared.requests.KeptList.TheVariants as kept
use Rattle.ftd_machine.specs.declared.requests.Question.TheVariants as questions
use Rattle.ftd_machine.specs.declared.requests.Request.TheVariants.{Question}
use Rattle.ftd_machine.proofs.Deciding.{decided, passed}
use Rattle.ftd_entries.specs.Known.{KnowsAccount}
use Rattle.ftd_entries.proofs.Reading.{three_told}
use Rattle.ftd_entries.proofs.Serving.{served_looked}
use Rattle.ftd_entries.proofs.Settling.{owes}
use Rattle.ftd_kept.specs.Payments.{IsKeptPayment}
use Rattle.ftd_entries.specs.Owed.{KnowsObligations}
use Rattle.ftd_kept.proofs.PaymentsTold.{payments_are}
use Rattle.ftd_entries.proofs.QuarterDays.{early_quarter}
use Rattle.ftd_entries.proofs.OwedRows.{obligations_known}
use Rattle.ftd_kept.proofs.paid.payments.Goals as goal

pub returns-in-Err : goal.returns-in-Err
returns-in-Err g c = record {
  call = served_looked (Question (questions.Kept (kept.Payments c.args.name.now c.args.quarter)))
      c.in-Err.answer (three_told c.in_ok-account.ensures.call
      c.in_ok-found.ensures.call c.in_ok-owed.ensures.call c.in_ok-account.account
      (KnowsAccount c.args.name.now) (λ t knows lists owes. knows))
      (λ t s stands sound knows. decided _ s c.in-Err.answer _
      (ap (λ a. first_of (kept_in_quarter_checks c.args.name.now c.args.quarter a))
      (knows s stands) ∙ search rules));
}

pub returns-in-Ok-told_payments : goal.returns-in-Ok-told_payments
returns-in-Ok-told_payments g c =
    let name = c.args.name.now in
    let quarter = c.args.quarter in
    let account = c.in_ok-account.account in
    let found = c.in_ok-found.found in
    let owed = c.in_ok-owed.owed in
    let told = c.in-Ok-told_payments.rows in
    let last = c.last.result in
    let first_is : c.first_of_month.result ≡ 0 =
    c.first_of_month.ensures.value ∙ month_start-zero in
    let last_is : c.last-2.result ≡ last =
    (let a = c.last-2.ensures in let b = c.last.ensures in omega arith) in
    let read = three_told c.in_ok-account.ensures.call c.in_ok-found.ensures.call
    c.in_ok-owed.ensures.call account (λ a t. KnowsAccount name a t
    × ListsKeptPayments name c.first.result last found t
    × KnowsObligations name 0 last owed.items t) (λ t knows lists owes. (
      knows,
      lists,
      subst (λ n. KnowsObligations name n last owed.items t) first_is
          (subst (λ n. KnowsObligations name c.first_of_month.result n owed.items t) last_is
          (obligations_known name c.first_of_month.result c.last-2.result owed t owes)),
    )) in
    let is : first_of (kept_in_quarter_checks name quarter account) ≡ None = search rules in
    let pairs = subst (λ xs. Pairs (IsKeptPayment owed.items) xs told.items) c.deref.ensures.value
    (subst (λ os. Pairs (IsKeptPayment os) c.deref.result.now told.items) c.deref-2.ensures.value
    c.in-Ok-told_payments.ensures.told) in
    let answer = kept_answer (rows.Payments c.in-Ok.owner c.args.quarter c.from_vec.result) in
    record {
      call = served_looked (Question (questions.Kept (kept.Payments name quarter))) answer read
          (λ t s stands sound knows. passed _ s answer s _
          (ap (λ a. first_of (kept_in_quarter_checks name quarter a)) (knows.0 s stands) ∙ is) (
            refl,
            record {
              owed = (stands.settled name).owed;
              are_owed = owes (stands.settled name);
              listed = told.items;
              in_order = c.in-Ok-told_payments.ensures.in_order;
              all = payments_are name quarter last c.last.ensures (early_quarter name quarter
                  account is) t s stands sound found.items
                  (subst (λ d. ListsKeptPayments name d last found t) c.first.ensures knows.1)
                  owed.items (knows.2 s stands) told.items pairs;
              told = ap₂ (λ n xs. kept_answer (rows.Payments n c.args.quarter xs))
                  c.in-Ok.ensures c.from_vec.ensures;
            },
          ));
    }
