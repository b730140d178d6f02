-- An account that is in force was enrolled under its name.
use Rattle.std.proofs.Common.{◌≡◌, ℕ, List, Some}
use Rattle.ftd_days.proofs.Spelling.{same_text}
use Rattle.ftd_rules.specs.Lists.{Has}
use Rattle.ftd_machine.specs.State.{State, Enrolled, entries_of, is_named, account_of}
use Rattle.ftd_machine.specs.declared.entries.Account.{Account}
use Rattle.ftd_machine.proofs.Members.{enrolled_of, found_some}

pub enrolled_under : (s : State) (name : List ℕ) (account : Account)
    → (entries_of s name).account ≡ Some account
    → (e : Enrolled) × Has s.accounts e × (e.name ≡ name)
enrolled_under s name account is =
    let first = enrolled_of s name account is in
    let found = found_some account_of (is_named name) s.accounts first.0 first.1 in
    (found.0, found.1, same_text found.0.name name found.2)
