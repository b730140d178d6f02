-- What is known of accounts from request to request.
use Rattle.std.specs.Prelude.{◌≡◌, ◌≤◌, ℕ, List, Some}
use Rattle.std.specs.Prelude.{get_or}
use Rattle.std.specs.List.{position}
use Rattle.sqlite.specs.State as database
use Rattle.ftd_sql.specs.Standing.{Tables}
use Rattle.ftd_machine.specs.State.{State}
use Rattle.ftd_machine.specs.Step.{Step}
use Rattle.ftd_machine.specs.Sound.{IsSound}
use Rattle.ftd_machine.specs.declared.requests.Request.{Request}
use Rattle.ftd_entries.specs.Standing.{StandsFor}
use Rattle.ftd_entries.specs.Words.{IsKept}
use Rattle.ftd_posting.specs.Books.{IsBook, first_year}
use Rattle.ftd_posting.specs.declared.books.Book.{Book}
use Rattle.ftd_desk.specs.Counted.{AreCounted}
use Rattle.ftd_desk.specs.Kept.{EachIs, is_of, kept_of}
use Rattle.ftd_desk.specs.declared.kept.Kept.{Kept}
use Rattle.ftd_desk.specs.declared.kept.OfAccount.{OfAccount}
use Rattle.ftd_desk.specs.declared.listed.Answered.{Answered}
use Rattle.ftd_desk.specs.declared.known.Known.{Known}

-- the account's book stands at this place, and is for runs of the year
pub record IsReady (books : Kept Book) (account : List ℕ) (year place : ℕ) : Type 0 where
  pub stands : position (is_of account) books.entries.items ≡ Some place
  pub since : (kept : OfAccount Book) → kept ≡ get_or books.entries.items place kept
      → first_year kept.content ≤ year

-- what is kept of an account, if anything is, is a book that is right of it
abbrev pub AreBooks : Kept Book → State → Type 0
AreBooks books s = EachIs (kept_of books) (IsBook s)

-- the counts and the books that are kept are those of the state
pub record IsKnown (known : Known) (s : State) : Type 0 where
  pub counts : AreCounted known.counts s
  pub books : AreBooks known.books s

-- within a transaction over rows that stand for a state, the request is answered as the machine
-- answers it, the rows are those of its next state, and the counts and the books stay right
abbrev pub ServesKnown : Known → Request → Answered → database.State → database.State → Tables
    → Type 0
ServesKnown known request served before after t =
    (s : State) → StandsFor t s → IsSound s → IsKnown known s
    → (next : State) × Step s request served.answer next × IsKept after.now next
    × IsKnown served.known next
