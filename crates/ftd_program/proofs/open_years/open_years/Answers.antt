use Rattle.std.proofs.Common.{refl, sym, ◌∙◌, ◌≡◌, length, arith}
use Rattle.std.proofs.lemmas.Bool.Decides.{nat_tests}
use Rattle.ftd_machine.proofs.Lined.{between_is}
use Rattle.ftd_program.specs.OpenYears.{refused, unread}
use Rattle.ftd_program.proofs.YearEnds.{opens_none, opens_some}
use Rattle.ftd_program.proofs.open_years.open_years.Goals as goal

pub year_requests-requires : goal.year_requests-requires
year_requests-requires g c = record {
  from = (between_is c.args.year (sym c.can_be_opened.ensures ∙ c.if-not-can_be_opened.false)).0;
}

pub returns-then-not-can_be_opened : goal.returns-then-not-can_be_opened
returns-then-not-can_be_opened g c =
    refused (sym c.can_be_opened.ensures ∙ c.if-not-can_be_opened.true) refl
    (rw (c.from_string-account.ensures, c.new.ensures.bytes) at c.print_refusal.ensures)

pub returns-then-is_empty : goal.returns-then-is_empty
returns-then-is_empty g c =
    opens_none g.S.Store g.O.Target.taken g.O.Target.failed g.E.Target.taken g.E.Target.failed
    c.args.out c.args.err c.print_none.result c.args.desk.now c.year_requests.new.desk
    c.year_requests.new.desk c.args.db.now c.args.year
    (sym c.can_be_opened.ensures ∙ c.if-not-can_be_opened.false) c.in-Ok.requests.items
    (let is = sym c.is_empty.ensures ∙ c.if-is_empty.true in
    let small = c.in-Ok.requests.ok.0 in
    let none : length c.in-Ok.requests.items ≡ 0 = grind (arith, nat_tests, is, small) in none)
    (record {
      are = λ clean s keeps. c.in-Ok.ensures.tells clean s (λ on. keeps);
      stands = c.in-Ok.ensures.stands;
    })
    c.print_none.ensures

pub returns-in-Ok : goal.returns-in-Ok
returns-in-Ok g c =
    opens_some g.S.Store g.O.Target.taken g.O.Target.failed g.E.Target.taken g.E.Target.failed
    c.args.out c.args.err c.open_each.result c.args.desk.now c.year_requests.new.desk
    c.open_each.new.desk c.args.db.now c.args.year
    (sym c.can_be_opened.ensures ∙ c.if-not-can_be_opened.false) c.in-Ok.requests.items
    (let is = sym c.is_empty.ensures ∙ c.if-is_empty.false in
    let small = c.in-Ok.requests.ok.0 in
    let some : length c.in-Ok.requests.items ≡ 0 → ⊥ = grind (arith, nat_tests, is, small) in some)
    (record {
      are = λ clean s keeps. c.in-Ok.ensures.tells clean s (λ on. keeps);
      stands = c.in-Ok.ensures.stands;
    })
    (rw c.deref.ensures.value at c.open_each.ensures)

pub returns : goal.returns
returns g c =
    unread c.in-Err.refusal c.in-Err.ensures.fault c.in-Err.ensures.stands
    (rw (c.from_string-account.ensures, c.new.ensures.bytes) at c.print_refusal-in-Err.ensures)
