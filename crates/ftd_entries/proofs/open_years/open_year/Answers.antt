use Rattle.std.proofs.Common.{◌≡◌, ◌-◌, ◌==◌, ◌||◌, rules, Bool, true, length, refl, sym, subst}
use Rattle.std.specs.List.{list_any}
use Rattle.ftd_machine.specs.declared.requests.Request.TheVariants.{Enter}
use Rattle.ftd_machine.specs.declared.requests.Entry.TheVariants as entry
use Rattle.ftd_entries.specs.Opening.{IsNextLine, is_line_of}
use Rattle.ftd_entries.proofs.Deciding.{year_decided, served_lacking, served_opened}
use Rattle.ftd_entries.proofs.Deciding.{served_waiting}
use Rattle.ftd_entries.proofs.NextLine.{or_then, or_else}
use Rattle.ftd_entries.proofs.Serving.{served_looked}
use Rattle.ftd_entries.proofs.open_years.open_year.Goals as goal
use Rattle.ftd_entries.proofs.open_years.open_year.Goals.{else-not-is_empty-via-then-not-is_empty+else-not-has_year}
use Rattle.ftd_entries.proofs.open_years.open_year.Goals.{else-not-is_empty-via-else-not-is_empty}

pub returns-in-Err : goal.returns-in-Err
returns-in-Err g c = record {
  call = served_looked (Enter (entry.Year c.args.name.now c.args.year)) c.in-Err.answer
      c.in_ok-known.ensures.call
      (year_decided c.args.name.now c.args.year c.in_ok-known.known c.has_year-there.result
      (search rules) c.in-Err.answer (search rules));
}

pub returns-in-Err-2 : goal.returns-in-Err-2
returns-in-Err-2 g c = record {
  call = served_lacking c.args.name.now c.args.year c.in_ok-known.known c.has_year-there.result
      (search rules) c.in-Ok.account c.in-Ok.ensures.1 (search rules) c.in-Err-2.is
      c.in_ok-known.ensures.call c.in_ok-total.ensures.call;
}

pub returns-then-not-has_year : goal.returns-then-not-has_year
returns-then-not-has_year g c = record {
  call = served_waiting c.args.name.now c.args.year c.in_ok-known.known c.has_year-there.result
      (search rules) c.in-Ok.account c.in-Ok.ensures.1 (search rules) c.in-Ok-2.is
      (search rules) (search rules) c.in_ok-known.ensures.call c.in_ok-total.ensures.call;
}

pub returns : goal.returns
returns g c =
    let lines = c.in_ok-known.known.lines.items in
    let first : Bool = length lines == 0 in
    let before : Bool = list_any (is_line_of (c.args.year - 1)) lines in
    let may : (first || before) ≡ true = elim c.else-not-is_empty.branch [
      | else-not-is_empty-via-then-not-is_empty+else-not-has_year w ↦
          sym (or_else first before true (search rules) (sym (search rules)))
      | else-not-is_empty-via-else-not-is_empty w ↦
          sym (or_then first before true (search rules) refl)
    ] in
    let next = subst (λ those. IsNextLine c.in-Ok.account.carried those c.args.year
    c.in-Ok-2.total c.next_line.result) c.deref-2.ensures.value c.next_line.ensures in
    record {
      call = served_opened c.args.name.now c.args.year c.in_ok-known.known c.has_year-there.result
          (search rules) c.in-Ok.account c.in-Ok.ensures.1 (search rules) c.in-Ok-2.is
          may
          next c.in_ok-known.ensures.call c.in_ok-total.ensures.call c.in_ok-put_year.ensures.call;
    }
