-- What a request on a run makes of the rows, from its first call to its last.
use Rattle.std.proofs.Common.{◌≡◌, ◌⊎◌, Bool, true, false, refl, sym, ap, subst, arith, ℕ, List, Option}
use Rattle.std.proofs.Common.{Result, Ok, Err, inl, inr}
use Rattle.std.proofs.lemmas.Bool.{true≢false}
use Rattle.std.specs.Prelude.{⊤}
use Rattle.sqlite.specs.Effect.{Database}
use Rattle.sqlite.specs.Store as store
use Rattle.sqlite.specs.State as database
use Rattle.sqlite.specs.State.{HasCleanDisk, Survives, Shows}
use Rattle.ftd_rules.specs.declared.run.PayRun.{PayRun}
use Rattle.ftd_store.specs.declared.faults.StoreFault.{StoreFault}
use Rattle.ftd_sql.specs.Standing.{Tables, Stands}
use Rattle.ftd_store.specs.declared.tx.Tx.{Tx}
use Rattle.ftd_store.specs.Seen.{shown}
use Rattle.ftd_store.specs.Ends.{Begins}
use Rattle.ftd_store.specs.Frame.{Calls, Reads}
use Rattle.ftd_store.proofs.Going.{goes_on, then_call}
use Rattle.ftd_machine.specs.Checks.{Answer}
use Rattle.ftd_machine.specs.Laws.{adds_entry, is_on_run}
use Rattle.ftd_machine.specs.declared.requests.Request.{Request}
use Rattle.ftd_machine.specs.declared.requests.Request.TheVariants.{Enter, Post, Void, Pay, VoidPay}
use Rattle.ftd_machine.specs.declared.requests.Request.TheVariants.{Correct, Question}
use Rattle.ftd_machine.specs.declared.requests.Correction.TheVariants as correction
use Rattle.ftd_posting.specs.Repaired.{PostsRun, Becoming, Repairs}
use Rattle.ftd_desk.specs.Counted.{Knows}
use Rattle.ftd_desk.specs.Words.{RepairsRows}
use Rattle.ftd_desk.specs.declared.listed.Answered.{Answered}
use Rattle.ftd_desk.specs.declared.requests.Served.{Served}

-- what holds of what was asked holds of the request
asked : (Holds : Request → Type 0) {request other : Request} → request ≡ other → Holds other
    → Holds request
asked Holds is holds = subst Holds (sym is) holds

-- nothing is said of a request that is on no run
pub repairs_none : (request : Request) (answer : Answer) (before after : Database) (t : Tables)
    → is_on_run request ≡ false → Repairs request answer before after t
unfolding is_on_run Repairs
repairs_none (Enter entered) answer before after t other = tt
repairs_none (Post name number run) answer before after t other = absurd (true≢false other)
repairs_none (Void name number) answer before after t other = absurd (true≢false other)
repairs_none (Pay name number payment) answer before after t other = tt
repairs_none (VoidPay name number) answer before after t other = tt
repairs_none (Correct number (correction.Total name period cents)) answer before after t other =
    absurd (true≢false other)
repairs_none (Correct number (correction.Holiday day is_holiday)) answer before after t other = tt
repairs_none (Correct number (correction.Account name beginning)) answer before after t other = tt
repairs_none (Question question) answer before after t other = tt

-- what a call does to the rows of which its answer tells
abbrev pub Told : (Answer → Database → Database → Tables → Type 0) → Served → database.State
    → database.State → Tables → Type 0
Told Does served before after = Does served.answer before.now after.now

-- so where the answer alone is told
abbrev pub Repaired : (Answer → Database → Database → Tables → Type 0) → Answer → database.State
    → database.State → Tables → Type 0
Repaired Does answer before after = Does answer before.now after.now

module _ {S : Type 0} (g : store.Ghosts S) where
  -- of a call on no run
  pub entry_repairs : {P : Answer → database.State → database.State → Tables → Type 0}
      (old new : Tx S) (answer : Answer) (served : Served) (request : Request)
      → is_on_run request ≡ false
      → Calls g old new (Ok answer) P → Calls g old new (Ok served) (Told (Repairs request))
  entry_repairs old new answer served request other c = record {
    frame = goes_on g old new answer served c.frame;
    does = λ clean t stands. repairs_none request served.answer (shown g old).now
        (shown g new).now t other;
  }

  pub call_repairs : {P : Served → database.State → database.State → Tables → Type 0}
      (old new : Tx S) (result : Result Served StoreFault) (request : Request)
      → is_on_run request ≡ false
      → Calls g old new result P → Calls g old new result (Told (Repairs request))
  call_repairs old new (Ok served) request other c = record {
    frame = c.frame;
    does = λ clean t stands. repairs_none request served.answer (shown g old).now
        (shown g new).now t other;
  }
  call_repairs old new (Err e) request other c = record { frame = c.frame; does = λ clean. tt }

  -- of a call that posts a run, and of one on what the request asks
  pub post_repairs : (old new : Tx S) (result : Result Served StoreFault) (request : Request)
      (name : List ℕ) (number : ℕ) (run : PayRun) → request ≡ Post name number run
      → Calls g old new result (Told (Becoming (PostsRun name number run)))
      → Calls g old new result (Told (Repairs request))
  unfolding Repairs
  post_repairs old new result request name number run is c =
      asked (λ r. Calls g old new result (Told (Repairs r))) is c

  pub asked_repairs : {old new : Tx S} {result : Result Answer StoreFault} {request other : Request}
      → request ≡ other → Calls g old new result (Repaired (Repairs other))
      → Calls g old new result (Repaired (Repairs request))
  asked_repairs {old = old} {new = new} {result = result} is c =
      asked (λ r. Calls g old new result (Repaired (Repairs r))) is c

  -- the counts beside the answer change nothing of it
  pub answer_repairs : (old new : Tx S) (answer : Answer) (served : Served) (Does : Answer
      → Database → Database → Tables → Type 0) → served.answer ≡ answer
      → Calls g old new (Ok answer) (λ given before after. Does given before.now after.now)
      → Calls g old new (Ok served) (Told Does)
  answer_repairs old new answer served Does same c = record {
    frame = goes_on g old new answer served c.frame;
    does = λ clean t stands. subst (λ x. Does x (shown g old).now (shown g new).now t) (sym same)
        (c.does clean t stands);
  }

  -- of a call of which no more is told
  pub told_quietly : {P : Answer → database.State → database.State → Tables → Type 0}
      (old new : Tx S) (answer : Answer) (served : Served) → Calls g old new (Ok answer) P
      → Calls g old new (Ok served) (λ x before after t. ⊤)
  told_quietly old new answer served c = record {
    frame = goes_on g old new answer served c.frame;
    does = λ clean t stands. tt;
  }

  -- rows that were read before are the same
  pub read_repairs : {A : Type 0} (old mid new : Tx S) (x : A) (result : Result Served StoreFault)
      (Fact : A → Tables → Type 0) (Does : Answer → Database → Database → Tables → Type 0)
      → Reads g old mid (Ok x) Fact → Calls g mid new result (Told Does)
      → Calls g old new result (Told Does)
  read_repairs old mid new x (Ok served) Fact Does r c = record {
    frame = then_call r.frame c.frame;
    does = λ clean t stands.
        let told = r.does (omega (arith, c.frame.crash.clean)) t stands in
        let same = told.1.0.now_is in
        subst (λ db. Does served.answer db (shown g new).now t) same
        (c.does clean t (subst (λ db. Stands db t) (sym same) stands));
  }
  read_repairs old mid new x (Err e) Fact Does r c =
      record { frame = then_call r.frame c.frame; does = λ clean. tt }

  -- so where a number was known before, that was kept or read
  pub known_repairs : (old mid new : Tx S) (known : Option ℕ) (IsCount : ℕ → Tables → Type 0)
      (count : ℕ) (answer : Answer) (served : Served) (Does : Answer → Database → Database → Tables
      → Type 0) → served.answer ≡ answer
      → Knows g old mid (Ok count) known IsCount → Calls g mid new (Ok answer)
      (λ given before after. Does given before.now after.now) → Calls g old new (Ok served)
      (Told Does)
  known_repairs old mid new known IsCount count answer served Does same (inl kept) c =
      answer_repairs old new answer served Does same
      (subst (λ (tx : Tx S). Calls g tx new (Ok answer)
      (λ given before after. Does given before.now after.now)) kept.0 c)
  known_repairs old mid new known IsCount count answer served Does same (inr read) c =
      read_repairs old mid new count (Ok served) IsCount Does read
      (answer_repairs mid new answer served Does same c)

  -- what is known after the answer changes nothing of it
  pub past_repairs : (old new : Tx S) (served : Served) (past : Answered) (request : Request)
      → past.answer ≡ served.answer
      → Calls g old new (Ok served) (Told (Repairs request)) → Calls g old new (Ok past)
      (λ x before after. Repairs request x.answer before.now after.now)
  past_repairs old new served past request same c = record {
    frame = goes_on g old new served past c.frame;
    does = λ clean t stands. subst (λ x. Repairs request x (shown g old).now (shown g new).now t)
        (sym same) (c.does clean t stands);
  }

  -- from the beginning of the transaction to its commit
  pub committed_repairs : (a e : database.State) (request : Request) (old new : Tx S)
      (served : Answered) → (HasCleanDisk (shown g old) → Begins a (shown g old))
      → Survives (shown g new) e (λ left. left ≡ (shown g new).now.trees)
      → (HasCleanDisk e → Shows (shown g new) e (shown g new).now (shown g new).now false)
      → Calls g old new (Ok served)
      (λ x before after. Repairs request x.answer before.now after.now)
      → RepairsRows a e request served.answer
  committed_repairs a e request old new served begun commit done c clean opened change t stands =
      let clean_m : HasCleanDisk (shown g new) = omega (arith, commit.clean) in
      let clean_b : HasCleanDisk (shown g old) = omega (arith, c.frame.crash.clean) in
      let start = (begun clean_b).shows.now_is in
      let end = (done clean).now_is in
      let made = c.does clean_m t (subst (λ db. Stands db t) (sym start) stands) in
      subst (λ db. Repairs request served.answer a.now db t) (sym end)
      (subst (λ db. Repairs request served.answer db (shown g new).now t) start made)
