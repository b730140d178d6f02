use Rattle.std.proofs.Common.{List, None, subst}
use Rattle.ftd_store.specs.Added.{FormsByRow, AccountCorrectionsByRow}
use Rattle.ftd_rules.specs.declared.Form.{Form}
use Rattle.ftd_store.specs.declared.correction_cells.AccountCorrection.{AccountCorrection}
use Rattle.ftd_store.proofs.Telling.{reads_on, then_reads}
use Rattle.ftd_check.specs.Private.Groups.{ReadsBegun}
use Rattle.ftd_check.specs.Private.Parts.{AreBegun}
use Rattle.ftd_check.proofs.PartsRead.{no_forms, no_moves, begun_read}
use Rattle.ftd_check.proofs.own_rows.read_begun.Goals as goal

pub returns-in_default : goal.returns-in_default
returns-in_default g c =
    let name = c.args.name.now in
    record {
      call = reads_on None (ReadsBegun name c.args.account) c.in_ok-forms.ensures.call
          (λ t read. no_forms name t
          (subst (λ x. FormsByRow name x t) c.in_default.is read));
    }

pub returns-in_default-2 : goal.returns-in_default-2
returns-in_default-2 g c =
    let name = c.args.name.now in
    record {
      call = then_reads None (ReadsBegun name c.args.account) c.in_ok-forms.ensures.call
          c.in_ok-corrections.ensures.call
          (λ t first read. no_moves name t
          (subst (λ x. AccountCorrectionsByRow name x t) c.in_default-2.is read));
    }

pub returns-in-Ok : goal.returns-in-Ok
returns-in-Ok g c =
    let name = c.args.name.now in
    let account = c.args.account in
    let forms = c.in-Some.forms in
    let corrections = c.in-Some-2.corrections in
    let found = c.in-Ok.found in
    let its = subst (λ (xs : List AccountCorrection). AreBegun account forms.items xs found)
    c.deref-2.ensures.value
    (subst (λ (xs : List Form). AreBegun account xs c.deref-2.result.now found)
    c.deref.ensures.value c.in-Ok.ensures) in
    record {
      call = then_reads found (ReadsBegun name account) c.in_ok-forms.ensures.call
          c.in_ok-corrections.ensures.call
          (λ t on right. begun_read name t account forms corrections found its
          (subst (λ x. FormsByRow name x t) c.in-Some.is on)
          (subst (λ x. AccountCorrectionsByRow name x t) c.in-Some-2.is right));
    }
