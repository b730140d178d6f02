use Rattle.std.proofs.Common.{List, None, subst}
use Rattle.ftd_store.specs.Added.{ReportedYearsByRow, YearCorrectionsByRow}
use Rattle.ftd_store.specs.declared.kept_cells.YearTotal.{YearTotal}
use Rattle.ftd_store.specs.declared.added_cells.YearCorrection.{YearCorrection}
use Rattle.ftd_store.proofs.Telling.{reads_on, then_reads}
use Rattle.ftd_check.specs.Private.Groups.{ReadsYears}
use Rattle.ftd_check.specs.Private.Parts.{AreYears}
use Rattle.ftd_check.proofs.PartsRead.{no_reported_years, no_corrected_years, totals_read}
use Rattle.ftd_check.proofs.own_rows.read_years.Goals as goal

pub returns-in_default : goal.returns-in_default
returns-in_default g c =
    let name = c.args.name.now in
    record {
      call = reads_on None (ReadsYears name) c.in_ok-reported.ensures.call
          (λ t read. no_reported_years name t
          (subst (λ x. ReportedYearsByRow name x t) c.in_default.is read));
    }

pub returns-in_default-2 : goal.returns-in_default-2
returns-in_default-2 g c =
    let name = c.args.name.now in
    record {
      call = then_reads None (ReadsYears name) c.in_ok-reported.ensures.call
          c.in_ok-corrected.ensures.call
          (λ t first read. no_corrected_years name t
          (subst (λ x. YearCorrectionsByRow name x t) c.in_default-2.is read));
    }

pub returns-in-Ok : goal.returns-in-Ok
returns-in-Ok g c =
    let name = c.args.name.now in
    let reported = c.in-Some.reported in
    let corrected = c.in-Some-2.corrected in
    let found = c.in-Ok.found in
    let its = subst (λ (xs : List YearCorrection). AreYears reported.items xs found)
    c.deref-2.ensures.value
    (subst (λ (xs : List YearTotal). AreYears xs c.deref-2.result.now found)
    c.deref.ensures.value c.in-Ok.ensures) in
    record {
      call = then_reads found (ReadsYears name) c.in_ok-reported.ensures.call
          c.in_ok-corrected.ensures.call
          (λ t first later. totals_read name t reported corrected found its
          (subst (λ x. ReportedYearsByRow name x t) c.in-Some.is first)
          (subst (λ x. YearCorrectionsByRow name x t) c.in-Some-2.is later));
    }
