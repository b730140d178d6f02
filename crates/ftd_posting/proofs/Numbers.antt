-- The numbers of an account's runs, as a book knows them.
use Rattle.std.proofs.Common.{◌≡◌, ◌∙◌, refl, ap, subst, ℕ, zero, suc, Bool, true, false}
use Rattle.std.proofs.Common.{List, [], ◌∷◌, length, Option, Some, None, arith}
use Rattle.std.specs.Prelude.{if◌then◌else◌, IfSome, find, option_map}
use Rattle.std.proofs.lemmas.Bool.{ne_eqb}
use Rattle.ftd_rules.specs.declared.run.PayRun.{PayRun}
use Rattle.ftd_rules.specs.declared.run.Voidable.{Voidable}
use Rattle.ftd_machine.specs.State.{Entry, Entries, has_key, content_of, kept_at}
use Rattle.ftd_machine.specs.Step.{with_entry}
use Rattle.ftd_posting.specs.declared.books.Book.{Book}
use Rattle.ftd_posting.specs.Books.{HasNoneAbove, IsAbove, IsReached, greatest_known}

-- what a book knows is right where the account has so many runs
pub greatest_right : (book : Book) (count : ℕ) (own : Entries) → length own.runs ≡ count
    → IfSome book.greatest (HasNoneAbove own) → (greatest : ℕ)
    → greatest_known book count ≡ Some greatest → HasNoneAbove own greatest
greatest_right book zero own counted known greatest is =
    λ number above. no_runs own.runs number counted
  where
    no_runs : (runs : List (Entry (Voidable PayRun))) (number : ℕ) → length runs ≡ 0
        → kept_at number runs ≡ None
    no_runs [] number none = refl
    no_runs (e ∷ runs) number none = absurd cc
greatest_right book (suc n) own counted known greatest is =
    subst (λ o. IfSome o (HasNoneAbove own)) (rw (ne_eqb (suc n) 0 (λ same. omega arith)) at is)
    known

-- so no run of the account has a number that is greater
pub above_free : (book : Book) (count : ℕ) (own : Entries) (number : ℕ) → length own.runs ≡ count
    → IfSome book.greatest (HasNoneAbove own) → IsAbove (greatest_known book count) number
    → kept_at number own.runs ≡ None
above_free book count own number counted known above =
    greatest_right book count own counted known above.0 above.1 number above.2

-- ---- a run more

-- is not what is kept under another number
kept_apart : (runs : List (Entry (Voidable PayRun))) (name : List ℕ) (number key : ℕ)
    (run : Voidable PayRun)
    → (number ≡ key → ⊥) → kept_at key runs ≡ None
    → kept_at key (with_entry runs name number run) ≡ None
kept_apart [] name number key run apart none = rw (ne_eqb number key apart) refl
kept_apart (e ∷ runs) name number key run apart none =
    step (has_key key e) none (kept_apart runs name number key run apart)
  where
    step : (has : Bool)
        → option_map content_of (if has then Some e else find (has_key key) runs) ≡ None
        → (kept_at key runs ≡ None → kept_at key (with_entry runs name number run) ≡ None)
        → option_map content_of (if has then Some e
        else find (has_key key) (with_entry runs name number run)) ≡ None
    step true none later = absurd cc
    step false none later = later none

-- what the book knows then is right
pub greatest_then : (own next : Entries) (name : List ℕ) (number : ℕ) (run : Voidable PayRun)
    (known latest : Option ℕ)
    → next.runs ≡ with_entry own.runs name number run
    → ((greatest : ℕ) → known ≡ Some greatest → HasNoneAbove own greatest)
    → IfSome latest (IsReached known number) → IfSome latest (HasNoneAbove next)
greatest_then own next name number run known None is right reached = tt
greatest_then own next name number run known (Some later) is right reached = λ key above.
    (let least = reached.2 in
    let last = reached.3 in
    ap (kept_at key) is ∙ kept_apart own.runs name number key run (λ same. omega arith)
    (right reached.0 reached.1 key (omega arith)))
