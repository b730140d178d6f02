-- What a request does where runs and payments are counted.
use Rattle.std.proofs.Common.{◌≡◌, ◌∙◌, refl, sym, ap, subst, arith, ℕ, ◌+◌, List, Bool, true}
use Rattle.std.proofs.Common.{false, Option, Some, Result, Ok, Err, inl, inr, length}
use Rattle.std.specs.Prelude.{if◌then◌else◌, ◌⊎◌}
use Rattle.sqlite.specs.Store as store
use Rattle.sqlite.specs.State as database
use Rattle.ftd_store.specs.declared.faults.StoreFault.{StoreFault}
use Rattle.ftd_store.specs.declared.faults.StoreFault.TheVariants.{Failed}
use Rattle.ftd_rules.specs.declared.run.PayRun.{PayRun}
use Rattle.ftd_rules.specs.declared.payment.Payment.{Payment}
use Rattle.ftd_sql.specs.Standing.{Tables, Stands}
use Rattle.ftd_store.specs.declared.tx.Tx.{Tx}
use Rattle.ftd_store.specs.Finds.{CountsRuns, CountsPayments}
use Rattle.ftd_store.specs.Frame.{Frame, Calls}
use Rattle.ftd_store.specs.Seen.{shown}
use Rattle.ftd_store.proofs.Going.{goes_on, then_goes, fails_after}
use Rattle.ftd_machine.specs.State.{State, Entries}
use Rattle.ftd_machine.specs.Checks.{Answer}
use Rattle.ftd_machine.specs.Step.{Step}
use Rattle.ftd_machine.specs.Laws.{is_change, adds_entry, runs_of, payments_of}
use Rattle.ftd_machine.specs.declared.requests.Request.{Request}
use Rattle.ftd_machine.specs.declared.requests.Request.TheVariants.{Post, Pay}
use Rattle.ftd_machine.proofs.Counted.{same_counts, posted_more, posted_payments, paid_more}
use Rattle.ftd_machine.proofs.Counted.{paid_runs}
use Rattle.ftd_machine.proofs.Leaving.{leaves}
use Rattle.ftd_machine.proofs.Others.{others}
use Rattle.ftd_entries.specs.Standing.{StandsFor}
use Rattle.ftd_entries.specs.Words.{Serves}
use Rattle.ftd_entries.proofs.Kept.{counted_runs, counted_payments}
use Rattle.ftd_entries.proofs.Serving.{ServesWhere}
use Rattle.ftd_desk.specs.Counted.{AreRight, AreCounted, Knows, ServesCounted}
use Rattle.ftd_desk.specs.Kept.{Takes, kept_of}
use Rattle.ftd_desk.proofs.Keeping.{kept_is, right_still, right_after}
use Rattle.ftd_desk.specs.declared.counts.Counts.{Counts}
use Rattle.ftd_desk.specs.declared.kept.Kept.{Kept}

same_fault : {A B : Type 0} (fault other : StoreFault) (r : Result A StoreFault)
    (q : Result B StoreFault) → r ≡ Err fault → q ≡ Err fault → r ≡ Err other → q ≡ Err other
same_fault fault other r q first second third = cc

-- ---- counts of the state

-- of runs or of payments
module _ (count_of : List ℕ → State → ℕ) where
  -- so many are the account's
  abbrev HasSo : State → List ℕ → ℕ → Type 0
  HasSo s account number = count_of account s ≡ number

  -- where no account has more, what is kept stays right
  counts_still : (numbers : Kept ℕ) (s t : State)
      → ((account : List ℕ) → count_of account t ≡ count_of account s) → AreRight count_of numbers s
      → AreRight count_of numbers t
  counts_still numbers s t same = right_still (kept_of numbers) (HasSo s) (HasSo t)
      (λ account number is. same account ∙ is)

  -- what one more makes of the account's number
  one_more : (account : List ℕ) (number : ℕ) (change : Bool) (s next : State)
      → count_of account s ≡ number
      → (change ≡ true → count_of account next ≡ count_of account s + 1)
      → (change ≡ false → next ≡ s)
      → count_of account next ≡ (if change then number + 1 else number)
  one_more account number true s next is more same = more refl ∙ ap (λ n. n + 1) is
  one_more account number false s next is more same = ap (count_of account) (same refl) ∙ is

  -- where the account's number is taken, and the others have no more, what is kept is right
  counts_after : (old new : Kept ℕ) (account : List ℕ) (number : ℕ) (s next : State)
      → Takes (kept_of old) (kept_of new) account number → count_of account next ≡ number
      → ((other : List ℕ) → (account ≡ other → ⊥) → count_of other next ≡ count_of other s)
      → AreRight count_of old s → AreRight count_of new next
  counts_after old new account number s next takes is stay = right_after (kept_of old)
      (kept_of new) account number (HasSo s) (HasSo next) takes is
      (λ other apart n was. stay other apart ∙ was)

-- a run is posted
pub posted_counted : (counts : Counts) (runs : Kept ℕ) (name : List ℕ) (number : ℕ) (run : PayRun)
    (count : ℕ) (s : State) (answer : Answer) (next : State)
    → Step s (Post name number run) answer next
    → runs_of name s ≡ count → Takes (kept_of counts.runs) (kept_of runs) name
    (if is_change answer then count + 1 else count)
    → AreCounted counts s → AreCounted (record { runs = runs; payments = counts.payments }) next
posted_counted counts runs name number run count s answer next step is takes counted =
    let request = Post name number run in
    record {
      runs = counts_after runs_of counts.runs runs name _ s next takes
          (one_more runs_of name count (is_change answer) s next is
          (posted_more s answer next name number run step) (leaves s request answer next step))
          (λ other apart. ap (λ (own : Entries). length own.runs)
          (others s request answer next other step apart)) counted.runs;
      payments = counts_still payments_of counts.payments s next
          (posted_payments s answer next name number run step) counted.payments;
    }

-- a payment is taken
pub paid_counted : (counts : Counts) (payments : Kept ℕ) (name : List ℕ) (number : ℕ)
    (payment : Payment) (count : ℕ) (s : State) (answer : Answer) (next : State)
    → Step s (Pay name number payment) answer next
    → payments_of name s ≡ count → Takes (kept_of counts.payments) (kept_of payments) name
    (if is_change answer then count + 1 else count)
    → AreCounted counts s → AreCounted (record { runs = counts.runs; payments = payments }) next
paid_counted counts payments name number payment count s answer next step is takes counted =
    let request = Pay name number payment in
    record {
      runs = counts_still runs_of counts.runs s next
          (paid_runs s answer next name number payment step) counted.runs;
      payments = counts_after payments_of counts.payments payments name _ s next takes
          (one_more payments_of name count (is_change answer) s next is
          (paid_more s answer next name number payment step) (leaves s request answer next step))
          (λ other apart. ap (λ (own : Entries). length own.payments)
          (others s request answer next other step apart)) counted.payments;
    }

-- a number that is kept or was counted is how many the tables have
pub runs_counted : (counts : Counts) (name : List ℕ) (count : ℕ) (t : Tables) (s : State)
    → StandsFor t s → AreCounted counts s → (kept_of counts.runs name ≡ Some count)
    ⊎ CountsRuns name count t → CountsRuns name count t
runs_counted counts name count t s stands counted (inl is) =
    sym (kept_is (kept_of counts.runs) (λ account number. runs_of account s ≡ number) name count
    counted.runs is) ∙ counted_runs name t s stands _ refl
runs_counted counts name count t s stands counted (inr is) = is

payments_counted : (counts : Counts) (name : List ℕ) (count : ℕ) (t : Tables) (s : State)
    → StandsFor t s → AreCounted counts s → (kept_of counts.payments name ≡ Some count)
    ⊎ CountsPayments name count t
    → CountsPayments name count t
payments_counted counts name count t s stands counted (inl is) =
    sym (kept_is (kept_of counts.payments) (λ account number. payments_of account s ≡ number) name
    count counted.payments is) ∙ counted_payments name t s stands _ refl
payments_counted counts name count t s stands counted (inr is) = is

-- ---- requests

module _ {S : Type 0} (g : store.Ghosts S) where
  -- a request that adds none leaves the counts
  pub entry_counted : (old new : Tx S) (answer : Answer) (counts : Counts) (request : Request)
      → adds_entry request ≡ false
      → Calls g old new (Ok answer) (Serves request)
      → Calls g old new (Ok (record { answer = answer; counts = counts }))
      (ServesCounted counts request)
  entry_counted old new answer counts request other c = record {
    frame = goes_on g old new answer (record { answer = answer; counts = counts }) c.frame;
    does = λ clean t stands s stands_for sound counted.
        let done = c.does clean t stands s stands_for sound in (
          done.0,
          done.1,
          done.2,
          record {
            runs = counts_still runs_of counts.runs s done.0
                (λ account. (same_counts s request answer done.0 account other done.1).0)
                counted.runs;
            payments = counts_still payments_of counts.payments s done.0
                (λ account. (same_counts s request answer done.0 account other done.1).1)
                counted.payments;
          },
        );
  }

  -- a call that failed, whatever it would have told
  fails_as : {A B : Type 0} (old new : Tx S) (fault : StoreFault) → Frame {A = A} g old new
      (Err fault) → Frame {A = B} g old new (Err fault)
  fails_as {A = A} {B = B} old new fault k = record {
    same = k.same;
    told = k.told;
    stopped = λ failed. let was = k.stopped failed in
        (same_fault {A = A} {B = B} fault Failed (Err fault) (Err fault) refl refl was.0, was.1);
    stays = λ clean. tt;
    kept = k.kept;
    crash = k.crash;
  }

  -- a number is known before a request
  module _ (old mid : Tx S) (known : Option ℕ) (IsCount : ℕ → Tables → Type 0) where
    unknown_frame : (fault : StoreFault) → Knows g old mid (Err fault) known IsCount
        → Frame {A = ℕ} g old mid (Err fault)
    unknown_frame fault (inl kept) = absurd (let never = kept.3 in cc)
    unknown_frame fault (inr read) = read.frame

    -- it could not be counted
    pub not_known : {A : Type 0} (fault : StoreFault) (result : Result A StoreFault)
        (Does : A → database.State → database.State → Tables → Type 0) → result ≡ Err fault
        → Knows g old mid (Err fault) known IsCount → Calls g old mid result Does
    not_known {A = A} fault result Does is knows =
        subst (λ r. Calls {A = A} g old mid r Does) (sym is)
        (record { frame = fails_as old mid fault (unknown_frame fault knows); does = λ clean. tt })

    -- the request failed
    pub known_fails : {A B : Type 0} (new : Tx S) (count : ℕ) (fault : StoreFault)
        (result : Result B StoreFault) (Does : B → database.State → database.State → Tables
        → Type 0) → result ≡ Err fault
        → Knows g old mid (Ok count) known IsCount → Frame {A = A} g mid new (Err fault)
        → Calls g old new result Does
    known_fails {A = A} {B = B} new count fault result Does is (inl kept) frame =
        subst (λ r. Calls {A = B} g old new r Does) (sym is)
        (record {
          frame = fails_as old new fault
              (subst (λ (tx : Tx S). Frame {A = A} g tx new (Err fault)) kept.0 frame);
          does = λ clean. tt;
        })
    known_fails new count fault result Does is (inr read) frame =
        fails_after is read.frame frame

    -- what is told where the request goes by the number
    pub known_then : {A B : Type 0} (new : Tx S) (count : ℕ) (x : A) (y : B)
        (First : A → database.State → Tables → Type 0) (Then : B → database.State → Tables → Type 0)
        → ((after : database.State) (t : Tables) → (known ≡ Some count) ⊎ IsCount count t
        → First x after t → Then y after t)
        → Knows g old mid (Ok count) known IsCount → Calls {A = A} g mid new (Ok x)
        (λ told before. First told) → Calls {A = B} g old new (Ok y) (λ told before. Then told)
    known_then {A = A} {B = B} new count x y First Then so (inl kept) c =
        served (subst (λ (tx : Tx S). Calls {A = A} g tx new (Ok x) (λ told before. First told))
        kept.0 c)
      where
        is_kept : known ≡ Some count
        is_kept = let same = kept.3 in cc

        served : Calls {A = A} g old new (Ok x) (λ told before. First told)
            → Calls {A = B} g old new (Ok y) (λ told before. Then told)
        served d = record {
          frame = goes_on g old new x y d.frame;
          does = λ clean t stands.
              so (shown g new) t (inl is_kept) (d.does clean t stands);
        }
    known_then new count x y First Then so (inr read) c = record {
      frame = then_goes y read.frame c.frame;
      does = λ clean t stands.
          let told = read.does (omega (arith, c.frame.crash.clean)) t stands in
          so (shown g new) t (inr told.0)
          (c.does clean t (subst (λ db. Stands db t) (sym told.1.0.now_is) stands));
    }

  -- a run is posted
  pub post_counts : (old mid new : Tx S) (count : ℕ) (answer : Answer) (counts : Counts)
      (runs : Kept ℕ) (name : List ℕ) (number : ℕ) (run : PayRun)
      → Takes (kept_of counts.runs) (kept_of runs) name
      (if is_change answer then count + 1 else count) → Knows g old mid (Ok count)
      (kept_of counts.runs name) (CountsRuns name)
      → Calls g mid new (Ok answer)
      (ServesWhere (CountsRuns name count)
      (Post name number run))
      → Calls g old new
      (Ok (record { answer = answer; counts = record { runs = runs; payments = counts.payments } }))
      (ServesCounted counts (Post name number run))
  post_counts old mid new count answer counts runs name number run takes knows c =
      let request = Post name number run in
      known_then old mid (kept_of counts.runs name) (CountsRuns name) new count answer
      (record { answer = answer; counts = record { runs = runs; payments = counts.payments } })
      (λ told after. ServesWhere (CountsRuns name count) request told after after)
      (λ served after. ServesCounted counts request served after after)
      (λ after t is told s stands sound counted.
      (let counted_as = runs_counted counts name count t s stands counted is in
      let done = told counted_as s stands sound in (
        done.0,
        done.1,
        done.2,
        posted_counted counts runs name number run count s answer done.0
            done.1 (counted_runs name t s stands count counted_as) takes counted,
      )))
      knows c

  -- a payment is taken
  pub pay_counts : (old mid new : Tx S) (count : ℕ) (answer : Answer) (counts : Counts)
      (payments : Kept ℕ) (name : List ℕ) (number : ℕ) (payment : Payment)
      → Takes (kept_of counts.payments) (kept_of payments) name
      (if is_change answer then count + 1 else count) → Knows g old mid (Ok count)
      (kept_of counts.payments name) (CountsPayments name)
      → Calls g mid new (Ok answer) (ServesWhere (CountsPayments name count)
      (Pay name number payment))
      → Calls g old new
      (Ok (record { answer = answer; counts = record { runs = counts.runs; payments = payments } }))
      (ServesCounted counts (Pay name number payment))
  pay_counts old mid new count answer counts payments name number payment takes knows c =
      let request = Pay name number payment in
      known_then old mid (kept_of counts.payments name) (CountsPayments name) new count answer
      (record { answer = answer; counts = record { runs = counts.runs; payments = payments } })
      (λ told after. ServesWhere (CountsPayments name count) request told after after)
      (λ served after. ServesCounted counts request served after after)
      (λ after t is told s stands sound counted.
      (let counted_as = payments_counted counts name count t s stands counted is in
      let done = told counted_as s stands sound in (
        done.0,
        done.1,
        done.2,
        paid_counted counts payments name number payment count s answer
            done.0 done.1 (counted_payments name t s stands count counted_as) takes counted,
      )))
      knows c
