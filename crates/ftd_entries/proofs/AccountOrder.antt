-- Accounts that stand in order from each to the next stand so to all after it.
use Rattle.std.proofs.Common.{◌≡◌, refl, true, List}
use Rattle.std.specs.Ordering.{is_lt, nat_cmp}
use Rattle.std.specs.declared.cmp.Ordering.{Ordering}
use Rattle.std.specs.declared.cmp.Ordering.TheVariants.{Less, Equal, Greater}
use Rattle.std.specs.Cmp.Lexicographic.{slice_cmp}
use Rattle.ftd_entries.proofs.InOrder.{in_order}
use Rattle.ftd_rules.specs.Lists.{are_in_order}
use Rattle.ftd_machine.specs.Agenda.{EachToLater}
use Rattle.ftd_machine.specs.Kept.{IsAccountBefore}
use Rattle.ftd_machine.specs.declared.kept.KeptAccount.{KeptAccount}
use Rattle.ftd_machine.proofs.AgendaOrder.{names_then}
use Rattle.ftd_entries.specs.Accounts.{is_account_before}

pub accounts_in_order : (xs : List KeptAccount) → are_in_order is_account_before xs ≡ true
    → EachToLater IsAccountBefore xs
accounts_in_order xs e =
    in_order is_account_before IsAccountBefore account_before
    (λ x y z g h. names_then x.name y.name z.name g h) xs e
  where
    less : (o : Ordering) → is_lt o ≡ true → o ≡ Less
    less Less e = refl
    less Equal e = absurd cc
    less Greater e = absurd cc

    account_before : (x y : KeptAccount) → is_account_before x y ≡ true → IsAccountBefore x y
    account_before x y e = less (slice_cmp nat_cmp x.name y.name) e
