use Rattle.std.proofs.Common.{◌∙◌, ℕ, List, sym, ap}
use Rattle.std.specs.List.{list_any}
use Rattle.ftd_rules.specs.Accounts.{is_account_name}
use Rattle.ftd_check.specs.Accounts.{AreNames}
use Rattle.ftd_check.specs.Private.Names.{has_name}
use Rattle.ftd_check.proofs.NamesChecked.{named_twice, names_rest}
use Rattle.ftd_check.proofs.accounts.are_names.Goals as goal

pub returns-then-is_among : goal.returns-then-is_among
returns-then-is_among c =
    let first = c.in-Some.first.now in
    let rest = c.in-Some.rest.now in
    named_twice c.loop-first.left.now first rest c.in-Some.ensures.cases.0
    (AreNames c.args.accounts.now) c.loop-first.invariant
    (ap (λ (n : List ℕ). list_any (has_name n) rest) (sym c.deref.ensures)
    ∙ sym c.is_among.ensures ∙ c.if-is_among.true)

pub loop-first-preserved : goal.loop-first-preserved
loop-first-preserved c =
    let first = c.in-Some.first.now in
    let rest = c.in-Some.rest.now in
    names_rest c.loop-first.left.now first rest c.in-Some.ensures.cases.0
    (AreNames c.args.accounts.now) c.loop-first.invariant
    (ap is_account_name (sym c.as_bytes.ensures.value) ∙ sym c.is_account_name.ensures
    ∙ c.if-not-is_account_name.false)
    (ap (λ (n : List ℕ). list_any (has_name n) rest) (sym c.deref.ensures)
    ∙ sym c.is_among.ensures ∙ c.if-is_among.false)
