-- What is so of an account that is in force stays so where another one is enrolled, and where
-- another one is put right, or one on which nothing rests.
use Rattle.std.proofs.Common.{◌≡◌, ◌∙◌, refl, sym, ap, subst, ℕ, Bool, true, List, [], Option, None}
use Rattle.std.proofs.Common.{Some, filter}
use Rattle.std.specs.Prelude.{is_some}
use Rattle.std.proofs.lemmas.Bool.{true≢false}
use Rattle.ftd_rules.specs.Lists.{Has}
use Rattle.ftd_rules.proofs.Members.{has_kept}
use Rattle.ftd_machine.specs.declared.entries.Account.{Account}
use Rattle.ftd_machine.specs.declared.entries.Beginning.{Beginning}
use Rattle.ftd_machine.specs.State.{State, Entry, entries_of, is_of, is_named, account_of, is_open}
use Rattle.ftd_machine.specs.State.{enrolled_in, moves_in, account_in_force, kept_at}
use Rattle.ftd_machine.specs.Checks.{meets}
use Rattle.ftd_machine.specs.Step.{with_account, with_move}
use Rattle.ftd_machine.proofs.Adding.{was_enrolled, moved_other}
use Rattle.ftd_machine.proofs.Entered.{its_own}
use Rattle.ftd_machine.proofs.Keeping.{found_append}
use Rattle.ftd_machine.proofs.Members.{some_of}

-- what meets a test is there
pub meets_some : (test : Account → Bool) (o : Option Account) → meets test o ≡ true
    → is_some o ≡ true
meets_some test (Some account) e = refl
meets_some test None e = absurd cc

-- ---- another account is enrolled

pub enrolled_still : (s : State) (name : List ℕ) (account : Account) (other : List ℕ)
    → is_some (enrolled_in s other) ≡ true
    → enrolled_in (record s { accounts = with_account s.accounts name account }) other
    ≡ enrolled_in s other
enrolled_still s name account other there =
    let known = some_of (enrolled_in s other) there in
    found_append account_of (is_named other) s.accounts _ known.0 known.1 ∙ sym known.1

pub account_still : (s : State) (name : List ℕ) (account : Account) (other : List ℕ)
    → is_some (entries_of s other).account ≡ true
    → (entries_of (record s { accounts = with_account s.accounts name account }) other).account
    ≡ (entries_of s other).account
account_still s name account other there =
    ap (λ o. account_in_force o (moves_in s other))
    (enrolled_still s name account other
    (was_enrolled (enrolled_in s other) (moves_in s other) there))

-- ---- an account is put right

pub moved_still : (s : State) (name : List ℕ) (beginning : Beginning) (other : List ℕ)
    → (name ≡ other → ⊥)
    → entries_of (record s { moved = with_move s.moved name beginning }) other
    ≡ entries_of s other
moved_still s name beginning other apart =
    rw (moved_other s.moved name beginning other apart) refl

-- an entry is not one of an account that has none
pub not_of : {X : Type 0} (name : List ℕ) (xs : List (Entry X)) (e : Entry X)
    → filter (is_of name) xs ≡ [] → Has xs e → name ≡ e.name → ⊥
not_of {X} name xs e none has same =
    subst (λ (ys : List (Entry X)). Has ys e) none
    (has_kept (is_of name) xs e has (its_own name e (sym same)))

-- nor of one of which no year is open, if its year is
pub not_open : (s : State) (name other : List ℕ) (year : ℕ)
    → (entries_of s name).open_years ≡ []
    → is_open (entries_of s other) year ≡ true → name ≡ other → ⊥
not_open s name other year none there same =
    true≢false (sym there ∙ ap (λ n. is_open (entries_of s n) year) (sym same)
    ∙ ap (λ (xs : List (Entry (Unit {0}))). is_some (kept_at year xs)) none)
