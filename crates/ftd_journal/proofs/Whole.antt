-- The journal of a desk by the names of its accounts.
use Rattle.std.proofs.Common.{◌≡◌, ◌∙◌, inl, inr, refl, sym, ap, List, [], ◌∷◌, ◌++◌, map, Some}
use Rattle.std.specs.Prelude.{flat_map, option_map}
use Rattle.ftd_rules.specs.Lists.{Has}
use Rattle.ftd_machine.specs.Journal.{account_journal, days_journal, in_order, is_account_before}
use Rattle.ftd_machine.specs.Journal.{journal}
use Rattle.ftd_machine.specs.Sound.{IsSound, name_of}
use Rattle.ftd_machine.specs.State.{State, Enrolled, enrolled_in}
use Rattle.ftd_machine.proofs.InOrder.{has_ordered}
use Rattle.ftd_machine.proofs.JournalAccount.{enrolled_is}
use Rattle.ftd_journal.specs.Parts.{enrolled_as, or_none, own_journal}

each_by_name : (s : State) (es : List Enrolled)
    → ((e : Enrolled) → Has es e → enrolled_in s e.name ≡ Some e.account)
    → flat_map (account_journal s) es ≡ flat_map (own_journal s) (map name_of es)
each_by_name s [] enrolled = refl
each_by_name s (e ∷ es) enrolled =
    ap (λ rs. account_journal s e ++ rs)
    (each_by_name s es (λ d has. enrolled d (inr has)))
    ∙ ap (λ o. or_none (option_map (λ account. account_journal s (enrolled_as e.name account)) o)
    ++ flat_map (own_journal s) (map name_of es)) (sym (enrolled e (inl refl)))

pub by_name : (s : State) → IsSound s → journal s
    ≡ days_journal s
    ++ flat_map (own_journal s) (map name_of (in_order is_account_before s.accounts))
by_name s sound =
    ap (λ rs. days_journal s ++ rs)
    (each_by_name s (in_order is_account_before s.accounts) (λ e has.
    enrolled_is s.accounts e sound.accounts (has_ordered is_account_before s.accounts e has)))
