-- The obligations that an import added, account by account.
use Rattle.std.specs.Prelude.{ℕ, ◌++◌, ◌&&◌, ◌||◌, Bool, true, false, not, nat_eq, List, [], ◌∷◌}
use Rattle.std.specs.Prelude.{if◌then◌else◌, Option, Some, None, bytes_eq, filter, find, map}
use Rattle.std.specs.Borrow.{Bor}
use Rattle.std.specs.List.{list_any}
use Rattle.ftd_rules.specs.declared.Obligation.{Obligation}
use Rattle.ftd_rules.specs.declared.Rule.{Rule}
use Rattle.ftd_imports.specs.declared.added.AccountAdded.{AccountAdded}
use Rattle.ftd_imports.specs.declared.changes.AccountChange.{AccountChange}

-- ---- of an account

-- the change is the account's
abbrev pub is_of : List ℕ → AccountChange → Bool
is_of account change = bytes_eq change.account account

-- the account's changes
abbrev pub changes_of : List ℕ → List AccountChange → List AccountChange
changes_of account changes = filter (is_of account) changes

-- the changes that are referred to
abbrev pub changes_in : List (Bor AccountChange) → List AccountChange
changes_in those = map (λ (it : Bor AccountChange). it.now) those

-- ---- added, and there at the end

-- one of the rows begins on the day
abbrev pub begins_in : List Obligation → ℕ → Bool
begins_in rows day = list_any (λ o. nat_eq o.first day) rows

-- the change removes the obligation that begins on the day; no two obligations of an account begin
-- on one day
abbrev pub removes : ℕ → AccountChange → Bool
removes day change = begins_in change.removed day

-- no later change of the account removes the obligation
abbrev pub stays : List AccountChange → Obligation → Bool
stays later o = not (list_any (removes o.first) later)

-- the obligations that changes of an account added, and that no later one removed
abbrev pub still_added : List AccountChange → List Obligation
still_added [] = []
still_added (change ∷ later) = filter (stays later) change.added ++ still_added later

-- of the rows those that the change does not remove, and those that it adds
abbrev pub added_then : List Obligation → AccountChange → List Obligation
added_then rows change = filter (λ o. not (removes o.first change)) rows ++ change.added

-- ---- there before

-- the two rules are one
abbrev pub is_rule : Rule → Rule → Bool
is_rule Rule.Monthly Rule.Monthly = true
is_rule Rule.Semiweekly Rule.Semiweekly = true
is_rule Rule.NextDay Rule.NextDay = true
is_rule rule other = false

-- the two obligations have the same days, rule, amount and due date
abbrev pub is_same : Obligation → Obligation → Bool
is_same o p = nat_eq o.first p.first && nat_eq o.last p.last && is_rule o.rule p.rule
    && nat_eq o.cents.0 p.cents.0 && nat_eq o.due p.due

-- the obligation is one of the rows
abbrev pub is_in : List Obligation → Obligation → Bool
is_in rows o = list_any (is_same o) rows

-- the change removes the obligation, or adds it
abbrev pub names : Obligation → AccountChange → Bool
names o change = is_in change.removed o || is_in change.added o

abbrev pub is_removed_by : Option AccountChange → Obligation → Bool
is_removed_by (Some change) o = is_in change.removed o
is_removed_by None o = false

-- an account had the obligation before its changes: the first of them that removes or adds it
-- removes it
abbrev pub was_before : List AccountChange → Obligation → Bool
was_before changes o = is_removed_by (find (names o) changes) o

-- ---- new

-- the obligations that an account has after its changes, and had not before
abbrev pub new_rows : List AccountChange → List Obligation
new_rows changes = filter (λ o. not (was_before changes o)) (still_added changes)

-- so of each account, in the order of their last changes
abbrev pub added_from : List AccountChange → List AccountChange → List AccountAdded
added_from all [] = []
added_from all (change ∷ later) =
    (if list_any (is_of change.account) later then []
    else record {
      account = change.account;
      rows = new_rows (changes_of change.account all);
    } ∷ [])
    ++ added_from all later

abbrev pub added_by : List AccountChange → List AccountAdded
added_by changes = added_from changes changes
