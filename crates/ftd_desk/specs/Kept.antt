-- What is kept of accounts, of each one thing at most.
use Rattle.std.specs.Prelude.{◌≡◌, ℕ, Bool, List, Option, None, Some, IfSome}
use Rattle.std.specs.Prelude.{bytes_eq, find, option_map}
use Rattle.ftd_desk.specs.declared.kept.Kept.{Kept}
use Rattle.ftd_desk.specs.declared.kept.OfAccount.{OfAccount}

-- whether a thing is kept of this account
abbrev pub is_of : {X : Type 0} → List ℕ → OfAccount X → Bool
is_of account entry = bytes_eq entry.account account

-- the thing, without the name of its account
abbrev pub content_of : {X : Type 0} → OfAccount X → X
content_of entry = entry.content

-- what is kept of an account, if anything is
abbrev pub kept_of : {X : Type 0} → Kept X → List ℕ → Option X
kept_of kept account = option_map content_of (find (is_of account) kept.entries.items)

-- a thing is taken for an account: it is what is kept of the account then, if anything is; and what
-- is kept of another one then, if anything is, was kept of it before
pub record Takes {X : Type 0} (old new : List ℕ → Option X) (account : List ℕ) (taken : X)
    : Type 0 where
  pub own : IfSome (new account) (λ later. later ≡ taken)
  pub others : (other : List ℕ) → (account ≡ other → ⊥)
      → IfSome (new other) (λ later. old other ≡ Some later)

-- what is kept of each account, if anything is, stands so to the account
abbrev pub EachIs : {X : Type 0} → (List ℕ → Option X) → (List ℕ → X → Type 0) → Type 0
EachIs kept Is = (account : List ℕ) → IfSome (kept account) (Is account)

-- where something was found of an account, it is taken for it
abbrev pub TakesFound : {X : Type 0} → (old new : List ℕ → Option X) → List ℕ → Option X → Type 0
TakesFound old new account None = new ≡ old
TakesFound old new account (Some found) = Takes old new account found
