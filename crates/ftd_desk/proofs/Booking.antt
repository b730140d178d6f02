-- What a request of a list does where books of accounts are kept.
use Rattle.std.proofs.Common.{◌≡◌, ◌∙◌, refl, sym, ap, subst, arith, ℕ, ◌+◌, List, [], Bool, true}
use Rattle.std.proofs.Common.{false, Option, Some, Result, Ok, Err}
use Rattle.std.specs.Prelude.{if◌then◌else◌, IfSome, MatchOption}
use Rattle.sqlite.specs.Store as store
use Rattle.ftd_store.specs.declared.faults.StoreFault.{StoreFault}
use Rattle.ftd_rules.specs.Liability.{liability}
use Rattle.ftd_rules.specs.declared.run.PayRun.{PayRun}
use Rattle.ftd_sql.specs.Standing.{Stands}
use Rattle.ftd_store.specs.declared.tx.Tx.{Tx}
use Rattle.ftd_store.specs.Finds.{CountsRuns}
use Rattle.ftd_store.specs.Frame.{Calls, Reads}
use Rattle.ftd_store.proofs.Going.{goes_on, then_call}
use Rattle.ftd_machine.specs.State.{State, Entries, entries_of, holidays}
use Rattle.ftd_machine.specs.Sound.{IsSound}
use Rattle.ftd_machine.specs.Checks.{Answer}
use Rattle.ftd_machine.specs.Step.{Step}
use Rattle.ftd_machine.specs.Laws.{is_change}
use Rattle.ftd_machine.specs.History.{AreLinesOf, live_sums}
use Rattle.ftd_machine.specs.declared.requests.Request.{Request}
use Rattle.ftd_machine.specs.declared.requests.Request.TheVariants.{Post}
use Rattle.ftd_machine.proofs.Leaving.{leaves}
use Rattle.ftd_machine.proofs.Others.{others, post_stays}
use Rattle.ftd_days.specs.Business.{is_holiday}
use Rattle.ftd_entries.specs.Standing.{StandsFor}
use Rattle.ftd_entries.proofs.Kept.{counted_runs}
use Rattle.ftd_posting.specs.Books.{HasNoYear, HasNoneAbove, AreOwedSince, IsBook, PostsBy}
use Rattle.ftd_posting.specs.declared.books.Book.{Book}
use Rattle.ftd_desk.specs.Books.{AreBooks, ServesKnown}
use Rattle.ftd_desk.specs.Counted.{AreCounted, Knows, ServesCounted}
use Rattle.ftd_desk.specs.Kept.{Takes, TakesFound, kept_of}
use Rattle.ftd_desk.specs.declared.kept.Kept.{Kept}
use Rattle.ftd_desk.specs.declared.listed.Answered.{Answered}
use Rattle.ftd_desk.specs.declared.known.Known.{Known}
use Rattle.ftd_desk.specs.declared.requests.Served.{Served}
use Rattle.ftd_desk.proofs.Counting.{known_then, posted_counted, runs_counted}
use Rattle.ftd_desk.proofs.Keeping.{kept_is, right_after, right_found}

-- ---- books of the state

-- no books are right of each state
pub no_books : (books : Kept Book) (s : State) → books.entries.items ≡ [] → AreBooks books s
no_books books s none account = rw none tt

-- what a book says follows from the account's entries and from the holidays
module _ (s next : State) (account : List ℕ) (book : Book) where
  book_still : entries_of next account ≡ entries_of s account → holidays next ≡ holidays s
      → IsBook s account book → IsBook next account book
  book_still own days is = record {
    account = ap (λ (e : Entries). e.account) own ∙ is.account;
    lines = subst (λ (e : Entries). AreLinesOf e book.ledger.years.lines.items) (sym own) is.lines;
    since = is.since;
    owed = subst (λ known. AreOwedSince book.ledger.since known (entries_of next account)
        book.ledger.rows.items) (sym days)
        (subst (λ (e : Entries). AreOwedSince book.ledger.since
        (holidays s) e book.ledger.rows.items) (sym own) is.owed);
    holidays = λ line has from.
        let told = is.holidays line has from in (
          λ day within. ap (λ known. is_holiday known day) days ∙ told.0 day within,
          λ day within. ap (λ known. is_holiday known day) days ∙ told.1 day within,
        );
    sums = λ from to first last. ap (λ (e : Entries). liability (live_sums e) from to) own
        ∙ is.sums from to first last;
    numbers = subst (λ (e : Entries). IfSome book.greatest (HasNoneAbove e)) (sym own) is.numbers;
  }

-- a run that is posted
module _ (s : State) (answer : Answer) (next : State) (name : List ℕ) (number : ℕ) (run : PayRun)
    (step : Step s (Post name number run) answer next) where
  -- leaves the holidays
  posted_holidays : holidays next ≡ holidays s
  posted_holidays = post_stays (λ x. holidays x) s answer next _ _ _ _ _ _ step refl

  -- and the books of other accounts
  posted_books : (old new : Kept Book) (now : Book) → Takes (kept_of old) (kept_of new) name now
      → IsBook next name now → AreBooks old s → AreBooks new next
  posted_books old new now takes own =
      right_after (kept_of old) (kept_of new) name now (IsBook s) (IsBook next) takes own
      (λ other apart book was. book_still s next other book
      (others s (Post name number run) answer next other step
      apart) posted_holidays was)

-- the books that are kept past a request
passed_books : (books later : Kept Book) (change : Bool) (s next : State)
    → later.entries.items ≡ (if change then [] else books.entries.items)
    → (change ≡ false → next ≡ s) → AreBooks books s → AreBooks later next
passed_books books later true s next none same are account = no_books later next none account
passed_books books later false s next is same are account = rw (is, same refl) (are account)

-- ---- requests

module _ {S : Type 0} (g : store.Ghosts S) where
  -- a request that was answered by no book
  pub serves_past : (old new : Tx S) (known : Known) (request : Request) (served : Served)
      (past : Answered) → past.answer ≡ served.answer → past.known.counts ≡ served.counts
      → past.known.books.entries.items
      ≡ (if is_change served.answer then [] else known.books.entries.items)
      → Calls g old new (Ok served) (ServesCounted known.counts request)
      → Calls g old new (Ok past) (ServesKnown known request)
  serves_past old new known request served past answer counts books c = record {
    frame = goes_on g old new served past c.frame;
    does = λ clean t stands s stands_for sound right.
        let done = c.does clean t stands s stands_for sound right.counts in (
          done.0,
          subst (λ x. Step s request x done.0) (sym answer) done.1,
          done.2,
          record {
            counts = subst (λ x. AreCounted x done.0) (sym counts) done.3;
            books = passed_books known.books past.known.books (is_change served.answer) s done.0
                books (leaves s request served.answer done.0 done.1) right.books;
          },
        );
  }

  -- a run that is posted by the account's book
  pub serves_post_at : (old mid new : Tx S) (count : ℕ) (answer : Answer) (known later : Known)
      (name : List ℕ) (number : ℕ) (run : PayRun) (was now : Book)
      → later.counts.payments ≡ known.counts.payments → Takes (kept_of known.counts.runs)
      (kept_of later.counts.runs) name (if is_change answer then count + 1 else count)
      → kept_of known.books name ≡ Some was → Takes (kept_of known.books) (kept_of later.books) name
      now → Knows g old mid (Ok count) (kept_of known.counts.runs name) (CountsRuns name)
      → Calls g mid new (Ok answer) (λ told before after t. CountsRuns name count t
      → PostsBy name number run was now told before after t)
      → Calls {A = Answered} g old new (Ok (record { answer = answer; known = later }))
      (ServesKnown known (Post name number run))
  serves_post_at old mid new count answer known later name number run was now payments takes found
      taken knows c =
      let request = Post name number run in
      known_then g old mid (kept_of known.counts.runs name) (CountsRuns name) new count answer
      (record { answer = answer; known = later })
      (λ told after t. CountsRuns name count t → PostsBy name number run was now told after after t)
      (λ served after. ServesKnown known request served after after)
      (λ after t is told s stands sound right.
      (let counted_as = runs_counted known.counts name count t s stands right.counts is in
      let done = told counted_as s stands sound
      (kept_is (kept_of known.books) (IsBook s) name was right.books found) in (
        done.0,
        done.1,
        done.2,
        record {
          counts = subst
              (λ (x : Kept ℕ). AreCounted (record { runs = later.counts.runs; payments = x })
              done.0) (sym payments)
              (posted_counted known.counts later.counts.runs name number run count s answer done.0
              done.1 (counted_runs name t s stands count counted_as) takes right.counts);
          books = posted_books s answer done.0 name number run done.1 known.books later.books now
              taken done.3 right.books;
        },
      )))
      knows c

  -- a request before which the account's book was read
  pub serves_read : (old mid new : Tx S) (found : Option Book) (result : Result Answered StoreFault)
      (known later : Known) (name : List ℕ) (year : ℕ) (request : Request)
      → later.counts ≡ known.counts
      → TakesFound (kept_of known.books) (kept_of later.books) name found
      → Reads g old mid (Ok found) (λ told t. (s : State) → StandsFor t s → IsSound s
      → MatchOption told (HasNoYear s name year) (IsBook s name))
      → Calls g mid new result (ServesKnown later request)
      → Calls g old new result (ServesKnown known request)
  serves_read old mid new found (Ok served) known later name year request same takes r c = record {
    frame = then_call r.frame c.frame;
    does = λ clean t stands s stands_for sound right.
        let told = r.does (omega (arith, c.frame.crash.clean)) t stands in
        c.does clean t (subst (λ db. Stands db t) (sym told.1.0.now_is) stands) s stands_for sound
        (record {
          counts = subst (λ x. AreCounted x s) (sym same) right.counts;
          books = right_found (HasNoYear s name year) (kept_of known.books) (kept_of later.books)
              name found (IsBook s) takes (told.0 s stands_for sound) right.books;
        });
  }
  serves_read old mid new found (Err fault) known later name year request same takes r c =
      record {
        frame = then_call r.frame c.frame;
        does = λ clean. tt;
      }
