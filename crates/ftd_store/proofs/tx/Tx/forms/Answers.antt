use Rattle.ftd_sql.specs.Tests.{is_any_form}
use Rattle.ftd_sql.proofs.Meanings.{forms_in_order}
use Rattle.ftd_store.specs.Kept.{IsNamedForm}
use Rattle.ftd_sql.specs.declared.TableName.TheVariants.{Forms}
use Rattle.ftd_store.proofs.SameKept.{named_form_is}
use Rattle.ftd_store.proofs.Telling.{lists}
use Rattle.ftd_store.proofs.tx.Tx.forms.Goals as goal

pub returns : goal.returns
returns g c = record {
  call = lists (λ xs. xs.items) Forms is_any_form IsNamedForm forms_in_order
      (λ x y passes. named_form_is x y) c.read_all.ensures.call;
}
