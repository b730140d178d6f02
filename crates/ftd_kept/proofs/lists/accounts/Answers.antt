use Rattle.std.proofs.Common.{ap, refl}
use Rattle.ftd_machine.specs.Told.{kept_answer}
use Rattle.ftd_machine.specs.declared.kept.KeptRows.TheVariants as rows
use Rattle.ftd_machine.specs.declared.requests.KeptList.TheVariants as kept
use Rattle.ftd_machine.specs.declared.requests.Question.TheVariants as questions
use Rattle.ftd_machine.specs.declared.requests.Request.TheVariants.{Question}
use Rattle.ftd_machine.proofs.Deciding.{passed}
use Rattle.ftd_entries.proofs.Serving.{served_looked}
use Rattle.ftd_kept.proofs.lists.accounts.Goals as goal

pub returns : goal.returns
returns g c =
    let listed = c.in_ok-rows.rows in
    let answer = kept_answer (rows.Accounts c.from_vec.result) in
    record {
      call = served_looked (Question (questions.Kept kept.Accounts)) answer
          c.in_ok-rows.ensures.call (λ t s stands sound knows. passed _ s answer s _ refl (
            refl,
            record {
              listed = listed.items;
              by_name = knows.by_name;
              all = knows.all s stands sound;
              told = ap (λ xs. kept_answer (rows.Accounts xs)) c.from_vec.ensures;
            },
          ));
    }
