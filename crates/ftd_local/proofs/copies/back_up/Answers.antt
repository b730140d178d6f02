use Rattle.sqlite.specs.Files.{over_files}
use Rattle.ftd_desk.specs.Desks.{held}
use Rattle.ftd_local.proofs.Copied.{as_before, copies_hold}
use Rattle.ftd_local.proofs.copies.back_up.Goals as goal

pub returns : goal.returns
returns g c =
    let opened = c.in_ok-desk.field-0.desk in
    let after = c.checked-found.new.desk in
    record {
      checks = record {
        old = opened;
        new = after;
        goes = c.in_ok-desk.ensures.goes;
        copied = c.in_ok-desk.ensures.copied;
        becomes = c.checked-found.ensures;
      };
      is_made = c.in_ok-copy.ensures.made;
      holds = copies_hold _ c.in_ok-copy.copy (held over_files opened) (held over_files after)
          c.in_ok-desk.ensures.copied (as_before c.checked-found.ensures.checks)
          c.in_ok-copy.ensures.keeps;
    }
