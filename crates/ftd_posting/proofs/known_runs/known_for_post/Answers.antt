use Rattle.std.proofs.Common.{subst}
use Rattle.ftd_store.proofs.Telling.{then_reads}
use Rattle.ftd_entries.specs.Known.{KnowsYear}
use Rattle.ftd_posting.proofs.known_runs.known_for_post.Goals as goal

pub returns : goal.returns
returns g c = record {
  call = then_reads _ _ c.in_ok-before.ensures.call c.in_ok-is_open.ensures.call
      (λ t told opened. record {
        account = told.account;
        form = told.form;
        kept = told.kept;
        is_open = subst (λ year. KnowsYear c.args.name.now year c.in_ok-is_open.is_open t)
            c.year.ensures opened;
      });
}
