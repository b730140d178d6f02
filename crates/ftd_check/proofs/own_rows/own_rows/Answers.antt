use Rattle.std.proofs.Common.{ℕ, List, None, Some, sym, subst, map}
use Rattle.std.specs.List.Sorted.{IsPermutation, IsNonDecreasing}
use Rattle.ftd_store.specs.Added.{YearsByRow, ObligationsByRow}
use Rattle.ftd_store.specs.declared.year_cells.StoredYear.{StoredYear}
use Rattle.ftd_store.proofs.Telling.{reads_on, then_reads}
use Rattle.ftd_entries.proofs.Reading.{three_told}
use Rattle.ftd_check.specs.OwnRows.{ReadsOwn, year_of_stored}
use Rattle.ftd_check.specs.Private.Groups.{ReadsEntered}
use Rattle.ftd_check.proofs.PartsRead.{no_years, no_obligations}
use Rattle.ftd_check.proofs.own_rows.own_rows.Goals as goal

pub returns-in_default : goal.returns-in_default
returns-in_default g c =
    let name = c.args.name.now in
    record {
      call = reads_on None (ReadsOwn name c.args.account) c.in_ok-years.ensures.call
          (λ t read. no_years name t (subst (λ x. YearsByRow name x t) c.in_default.is read));
    }

pub returns-in_default-2 : goal.returns-in_default-2
returns-in_default-2 g c =
    let name = c.args.name.now in
    record {
      call = then_reads None (ReadsOwn name c.args.account) c.in_ok-years.ensures.call
          c.in_ok-obligations.ensures.call
          (λ t first read. no_obligations name t
          (subst (λ x. ObligationsByRow name x t) c.in_default-2.is read));
    }

pub returns-in_default-3 : goal.returns-in_default-3
returns-in_default-3 g c =
    let name = c.args.name.now in
    record {
      call = three_told c.in_ok-years.ensures.call c.in_ok-obligations.ensures.call
          c.in_ok-own.ensures.call None (ReadsOwn name c.args.account)
          (λ t first second read. subst
          (λ x. ReadsEntered name c.args.account c.in-Ok.open_years.items x t) c.in_default-3.is
          read);
    }

pub returns : goal.returns
returns g c =
    let name = c.args.name.now in
    let account = c.args.account in
    record {
      call = three_told c.in_ok-years.ensures.call c.in_ok-obligations.ensures.call
          c.in_ok-own.ensures.call (Some (record {
            own = c.in-Some-3.own;
            years = c.in-Some.years;
            obligations = c.in-Some-2.obligations;
          })) (ReadsOwn name account)
          (λ t years obligations read.
          (let its = subst
          (λ x. ReadsEntered name account c.in-Ok.open_years.items x t) c.in-Some-3.is read in
          record {
            entered = its.entered;
            start = its.start;
            carried = its.carried;
            years = subst (λ x. YearsByRow name x t) c.in-Some.is years;
            open_years = subst (λ (ys : List ℕ). IsPermutation
                (map year_of_stored c.in-Some.years.items) ys) (sym its.open_years_are)
                (subst (λ (ys : List StoredYear). IsPermutation (map year_of_stored ys)
                c.in-Ok.open_years.items) c.deref.ensures.value c.in-Ok.ensures.years);
            in_order = subst IsNonDecreasing (sym its.open_years_are) c.in-Ok.ensures.in_order;
            obligations = subst (λ x. ObligationsByRow name x t) c.in-Some-2.is obligations;
          }));
    }
