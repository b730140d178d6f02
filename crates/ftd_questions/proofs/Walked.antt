-- What a walk over an account's obligations leaves, and what it tells.
use Rattle.std.proofs.Common.{◌≡◌, ℕ, ◌+◌, ◌-◌, List, [], ◌∷◌, ◌++◌, Option, Some, None, refl, sym}
use Rattle.std.proofs.Common.{◌∙◌, subst, arith, inl, inr, Bool, true, false, Result, Ok, Err}
use Rattle.std.specs.Prelude.{IfOk}
use Rattle.std.specs.List.{list_any}
use Rattle.std.proofs.lemmas.Bool.{cases_Bool, true≢false}
use Rattle.sqlite.specs.Store as store
use Rattle.sqlite.specs.Effect.{Database}
use Rattle.sqlite.specs.State as database
use Rattle.sqlite.specs.State.{HasCleanDisk, IsUnchanged}
use Rattle.ftd_days.specs.Calendar.{quarter_start}
use Rattle.ftd_rules.specs.declared.Obligation.{Obligation}
use Rattle.ftd_sql.specs.States.{CrashKeeps}
use Rattle.ftd_sql.specs.Orders.{ObligationsRise}
use Rattle.ftd_sql.proofs.Controls.{crash_none, crash_then}
use Rattle.ftd_sql.specs.Standing.{Tables, Stands}
use Rattle.ftd_sql.specs.declared.TableName.TheVariants.{Obligations}
use Rattle.ftd_store.specs.Lists.{Lists, ListsFirst}
use Rattle.ftd_store.specs.Ends.{LeavesRows, IsSettled}
use Rattle.ftd_store.specs.Finds.{IsObligation}
use Rattle.ftd_store.specs.Walking.{rows_in, walked, HasListed, Continues}
use Rattle.sqlite.specs.declared.rows.stream.Rows.{Rows}
use Rattle.ftd_machine.specs.State.{State}
use Rattle.ftd_entries.specs.Standing.{StandsFor}
use Rattle.ftd_questions.specs.Walks.{Stays, StaysIfSettled, StandIfOpen, begun}
use Rattle.ftd_questions.proofs.OwedDays.{of_quarter}
use Rattle.ftd_entries.proofs.OwedRows.{obligations_listed, first_listed}

-- ---- what a walk leaves

pub clean_before : (a b : database.State) → CrashKeeps a b → HasCleanDisk b → HasCleanDisk a
clean_before a b crash clean = omega (arith, crash.clean)

pub stays_none : (a : database.State) → Stays a a
stays_none a = record {
  rows = λ clean. record { was_open = λ on. on; now_is = λ on. refl; committed_is = λ on. refl };
  crash = crash_none a;
}

pub stays_then : (a b c : database.State) → Stays a b → Stays b c → Stays a c
stays_then a b c p q = record {
  rows = λ clean.
      let first = p.rows (clean_before b c q.crash clean) in
      let second = q.rows clean in
      record {
        was_open = λ on. first.was_open (second.was_open on);
        now_is = λ on. second.now_is on ∙ first.now_is (second.was_open on);
        committed_is = λ on. second.committed_is on ∙ first.committed_is (second.was_open on);
      };
  crash = crash_then a b c p.crash q.crash;
}

pub stays_same : (a b : database.State) → (HasCleanDisk b → IsUnchanged a b) → CrashKeeps a b
    → Stays a b
stays_same a b same crash = record {
  rows = λ clean. (let shows = (same clean).0 in
      record {
        was_open = λ on. shows.was_open;
        now_is = λ on. shows.now_is;
        committed_is =
            λ on. shows.committed_is;
      });
  crash = crash;
}

pub settled_then : (a b : database.State) → HasCleanDisk b → Stays a b → IsSettled a → IsSettled b
settled_then a b clean stays settled on =
    let left = stays.rows clean in
    left.now_is on ∙ settled (left.was_open on) ∙ sym (left.committed_is on)

pub then_fails : (a b c : database.State) → Stays a b
    → (HasCleanDisk c → IsSettled b → LeavesRows b c) → CrashKeeps b c → StaysIfSettled a c
then_fails a b c stays left crash = record {
  rows = λ clean settled.
      let clean_b = clean_before b c crash clean in
      let first = stays.rows clean_b in
      let second = left clean (settled_then a b clean_b stays settled) in
      record {
        was_open = λ on. first.was_open (second.was_open on);
        now_is = λ on. second.now_is on ∙ first.now_is (second.was_open on);
        committed_is = λ on. second.committed_is on ∙ first.committed_is (second.was_open on);
      };
  crash = crash_then a b c stays.crash crash;
}

pub begun_then : (a b c : database.State) → (HasCleanDisk b → IsUnchanged a b) → CrashKeeps a b
    → (HasCleanDisk b → IsSettled b) → StaysIfSettled b c → Stays a c
begun_then a b c same crash settled walked =
    stays_then a b c (stays_same a b same crash)
    (record {
      rows = λ clean. walked.rows clean (settled (clean_before b c walked.crash clean));
      crash = walked.crash;
    })

-- rows that the tables had they still have
pub stand_still : (a b : database.State) → Stays a b → HasCleanDisk b → (t : Tables)
    → StandIfOpen a t → StandIfOpen b t
stand_still a b stays clean t stands = λ on. let left = stays.rows clean in
    subst (λ (db : Database). Stands db t) (sym (left.now_is on)) (stands (left.was_open on))

-- what answered and left everything unchanged was open, and left the rows
pub stand_unchanged : (a b : database.State) → IsUnchanged a b → (t : Tables) → StandIfOpen a t
    → Stands b.now t
stand_unchanged a b same t stands = subst (λ (db : Database). Stands db t) (sym same.0.now_is)
    (stands same.0.was_open)

-- what follows of a thing that is so with Ok
pub if_ok : {A E : Type 0} {P Q : A → Type 0} (result : Result A E) → ((x : A) → P x → Q x)
    → IfOk result P → IfOk result Q
if_ok (Ok x) f p = f x p
if_ok (Err e) f p = p

-- ---- what a walk tells

-- a walk shows the rows that it began with
abbrev ShowsSame : {S : Type 0} (g : store.Ghosts S) → Rows S g → Rows S g → Type 0
ShowsSame g old new = HasCleanDisk (walked g new) → (walked g new).now ≡ (walked g old).now

-- so far a walk from here has given these
abbrev pub HasWalked : {S : Type 0} (g : store.Ghosts S) → Rows S g → Rows S g → List Obligation
    → Type 0
HasWalked g old new listed = HasCleanDisk (walked g new) → (name : List ℕ) (quarter : ℕ)
    → HasListed g name quarter old [] → HasListed g name quarter new listed

-- they are the first of the account's obligations that begin in the quarter
abbrev pub AreFirst : List ℕ → ℕ → List Obligation → Tables → Type 0
AreFirst name quarter listed t = (s : State) (stands : StandsFor t s) → (rest : List Obligation)
    × (begun stands name quarter ≡ listed ++ rest)

pub first_known : (name : List ℕ) (quarter : ℕ) (listed : List Obligation) (t : Tables)
    → ListsFirst ObligationsRise (IsObligation name) (rows_in name quarter t) listed
    → AreFirst name quarter listed t
first_known name quarter listed t lists s stands =
    let its = stands.settled name in
    let first = first_listed name (quarter_start quarter) (quarter_start (quarter + 1) - 1)
    (t Obligations) its.owed listed its.are_owed.by_first_day its.owed_rows lists in
    (first.0, sym (of_quarter name t s stands quarter) ∙ first.1)

pub all_known : (name : List ℕ) (quarter : ℕ) (listed : List Obligation) (t : Tables)
    → Lists ObligationsRise (IsObligation name) (rows_in name quarter t) listed
    → (s : State) (stands : StandsFor t s) → begun stands name quarter ≡ listed
all_known name quarter listed t lists s stands =
    let its = stands.settled name in
    sym (obligations_listed name (quarter_start quarter) (quarter_start (quarter + 1) - 1)
    (t Obligations) its.owed listed its.are_owed.by_first_day its.owed_rows lists
    ∙ of_quarter name t s stands quarter)

-- what a call of `next` tells of a walk
abbrev pub NextTells : {S : Type 0} (g : store.Ghosts S) → Rows S g → Rows S g → Option Obligation
    → Type 0
NextTells g mid new next = HasCleanDisk (walked g new) → (name : List ℕ) (quarter : ℕ)
    (listed : List Obligation) → HasListed g name quarter mid listed
    → Continues g name quarter new listed next

-- a walk from here has given these, which are the first
pub record WalksTo {S : Type 0} (g : store.Ghosts S) (old new : Rows S g)
    (listed : List Obligation) : Type 0 where
  pub given : HasWalked g old new listed
  pub same : ShowsSame g old new
  pub first : HasCleanDisk (walked g new) → (name : List ℕ) (quarter : ℕ)
      → HasListed g name quarter old [] → (t : Tables) → Stands (walked g old).now t
      → AreFirst name quarter listed t

-- it begins
pub walks_none : {S : Type 0} (g : store.Ghosts S) (old : Rows S g) → WalksTo g old old []
walks_none g old = record {
  given = λ clean name quarter has. has;
  same = λ clean. refl;
  first = λ clean name quarter has t stands s stands_for. (begun stands_for name quarter, refl);
}

module _ {S : Type 0} (g : store.Ghosts S) (old mid new : Rows S g) (listed : List Obligation)
    (so_far : WalksTo g old mid listed) (crash : CrashKeeps (walked g mid) (walked g new))
    (same : HasCleanDisk (walked g new) → IsUnchanged (walked g mid) (walked g new))
    (next : Option Obligation) (tells : NextTells g mid new next) where
  tells_so : (found : Option Obligation) → next ≡ found → HasCleanDisk (walked g new)
      → (name : List ℕ) (quarter : ℕ) → HasListed g name quarter old []
      → Continues g name quarter new listed found
  tells_so found is clean name quarter has =
      subst (λ (o : Option Obligation). Continues g name quarter new listed o) is
      (tells clean name quarter listed
      (so_far.given (clean_before (walked g mid) (walked g new) crash clean) name quarter has))

  still_same : ShowsSame g old new
  still_same clean = (same clean).0.now_is
      ∙ so_far.same (clean_before (walked g mid) (walked g new) crash clean)

  still_stands : HasCleanDisk (walked g new) → (t : Tables) → Stands (walked g old).now t
      → Stands (walked g new).now t
  still_stands clean t stands = subst (λ (db : Database). Stands db t) (sym (still_same clean))
      stands

  -- one more was given
  pub walks_more : (o : Obligation) → next ≡ Some o → WalksTo g old new (listed ++ o ∷ [])
  walks_more o is = record {
    given = λ clean name quarter has. (tells_so (Some o) is clean name quarter has).0;
    same = still_same;
    first = λ clean name quarter has t stands. first_known name quarter (listed ++ o ∷ []) t
        ((tells_so (Some o) is clean name quarter has).1 t (still_stands clean t stands));
  }

  -- those were all
  pub all_listed : next ≡ None → HasCleanDisk (walked g new) → (name : List ℕ) (quarter : ℕ)
      → HasListed g name quarter old []
      → (t : Tables) → Stands (walked g old).now t
      → Lists ObligationsRise (IsObligation name) (rows_in name quarter t) listed
  all_listed is clean name quarter has t stands = tells_so None is clean name quarter has t
      (still_stands clean t stands)

-- ---- a next-day obligation among those that were given

pub any_more : {X : Type 0} (p : X → Bool) (xs : List X) (x : X) (ys : List X) → p x ≡ true
    → list_any p ((xs ++ x ∷ []) ++ ys) ≡ true
any_more p [] x ys is = rw is refl
any_more p (y ∷ xs) x ys is = elim (cases_Bool (p y)) [
  | inl here ↦ rw here refl
  | inr other ↦ rw other (any_more p xs x ys is)
]

pub none_more : {X : Type 0} (p : X → Bool) (xs : List X) (x : X) → list_any p xs ≡ false
    → p x ≡ false → list_any p (xs ++ x ∷ []) ≡ false
none_more p [] x none fails = rw fails refl
none_more p (y ∷ xs) x none fails =
    elim (cases_Bool (p y)) [
      | inl here ↦ absurd (true≢false (rw here at none))
      | inr other ↦ rw other (none_more p xs x (rw other at none) fails)
    ]
