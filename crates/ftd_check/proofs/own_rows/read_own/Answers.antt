use Rattle.std.proofs.Common.{None, Some, subst, sym}
use Rattle.ftd_store.proofs.Telling.{reads_on, then_reads}
use Rattle.ftd_entries.proofs.Reading.{three_told, four_told}
use Rattle.ftd_check.specs.Private.Groups.{ReadsBegun, ReadsQuarters, ReadsYears, ReadsPosted}
use Rattle.ftd_check.specs.Private.Groups.{ReadsEntered, HasOwn}
use Rattle.ftd_check.proofs.PartsRead.{entered_read}
use Rattle.ftd_check.proofs.own_rows.read_own.Goals as goal

pub returns-in_default : goal.returns-in_default
returns-in_default g c =
    let name = c.args.name.now in
    record {
      call = reads_on None (ReadsEntered name c.args.account c.args.open_years.items)
          c.in_ok-begun.ensures.call
          (λ t read. subst (λ x. ReadsBegun name c.args.account x t) c.in_default.is read);
    }

pub returns-in_default-2 : goal.returns-in_default-2
returns-in_default-2 g c =
    let name = c.args.name.now in
    record {
      call = then_reads None (ReadsEntered name c.args.account c.args.open_years.items)
          c.in_ok-begun.ensures.call c.in_ok-quarters.ensures.call
          (λ t first read. subst (λ x. ReadsQuarters name x t) c.in_default-2.is read);
    }

pub returns-in_default-3 : goal.returns-in_default-3
returns-in_default-3 g c =
    let name = c.args.name.now in
    record {
      call = three_told c.in_ok-begun.ensures.call c.in_ok-quarters.ensures.call
          c.in_ok-years.ensures.call None
          (ReadsEntered name c.args.account c.args.open_years.items)
          (λ t first second read. subst (λ x. ReadsYears name x t) c.in_default-3.is read);
    }

pub returns-in_default-4 : goal.returns-in_default-4
returns-in_default-4 g c =
    let name = c.args.name.now in
    record {
      call = four_told c.in_ok-begun.ensures.call c.in_ok-quarters.ensures.call
          c.in_ok-years.ensures.call None
          (ReadsEntered name c.args.account c.args.open_years.items) c.in_ok-posted.ensures.call
          (λ t first second third read. subst (λ x. ReadsPosted name x t) c.in_default-4.is read);
    }

pub returns : goal.returns
returns g c =
    let name = c.args.name.now in
    let account = c.args.account in
    let years = c.args.open_years in
    record {
      call = four_told c.in_ok-begun.ensures.call c.in_ok-quarters.ensures.call
          c.in_ok-years.ensures.call (Some c.own_of.result)
          (ReadsEntered name account years.items) c.in_ok-posted.ensures.call
          (λ t first second third fourth.
          subst (HasOwn t name account years.items) (sym c.own_of.ensures)
          (entered_read name t account years c.in-Some.begun c.in-Some-2.quarters
          c.in-Some-3.years c.in-Some-4.posted
          (subst (λ x. ReadsBegun name account x t) c.in-Some.is first)
          (subst (λ x. ReadsQuarters name x t) c.in-Some-2.is second)
          (subst (λ x. ReadsYears name x t) c.in-Some-3.is third)
          (subst (λ x. ReadsPosted name x t) c.in-Some-4.is fourth)));
    }
