use Rattle.std.proofs.Common.{List, None, subst}
use Rattle.ftd_store.specs.Added.{ReportedByRow, CorrectionsByRow}
use Rattle.ftd_store.specs.declared.kept_cells.QuarterTotal.{QuarterTotal}
use Rattle.ftd_store.specs.declared.added_cells.QuarterCorrection.{QuarterCorrection}
use Rattle.ftd_store.proofs.Telling.{reads_on, then_reads}
use Rattle.ftd_check.specs.Private.Groups.{ReadsQuarters}
use Rattle.ftd_check.specs.Private.Parts.{AreQuarters}
use Rattle.ftd_check.proofs.PartsRead.{no_reported, no_corrected, quarters_read}
use Rattle.ftd_check.proofs.own_rows.read_quarters.Goals as goal

pub returns-in_default : goal.returns-in_default
returns-in_default g c =
    let name = c.args.name.now in
    record {
      call = reads_on None (ReadsQuarters name) c.in_ok-reported.ensures.call
          (λ t read. no_reported name t
          (subst (λ x. ReportedByRow name x t) c.in_default.is read));
    }

pub returns-in_default-2 : goal.returns-in_default-2
returns-in_default-2 g c =
    let name = c.args.name.now in
    record {
      call = then_reads None (ReadsQuarters name) c.in_ok-reported.ensures.call
          c.in_ok-corrected.ensures.call
          (λ t first read. no_corrected name t
          (subst (λ x. CorrectionsByRow name x t) c.in_default-2.is read));
    }

pub returns-in-Ok : goal.returns-in-Ok
returns-in-Ok g c =
    let name = c.args.name.now in
    let reported = c.in-Some.reported in
    let corrected = c.in-Some-2.corrected in
    let found = c.in-Ok.found in
    let its = subst (λ (xs : List QuarterCorrection). AreQuarters reported.items xs found)
    c.deref-2.ensures.value
    (subst (λ (xs : List QuarterTotal). AreQuarters xs c.deref-2.result.now found)
    c.deref.ensures.value c.in-Ok.ensures) in
    record {
      call = then_reads found (ReadsQuarters name) c.in_ok-reported.ensures.call
          c.in_ok-corrected.ensures.call
          (λ t first later. quarters_read name t reported corrected found its
          (subst (λ x. ReportedByRow name x t) c.in-Some.is first)
          (subst (λ x. CorrectionsByRow name x t) c.in-Some-2.is later));
    }
