-- The parts of a journal that are written one after the other.
use Rattle.std.proofs.Common.{◌≡◌, ◌∙◌, refl, sym, ap, subst, ℕ, ◌+◌, ◌<◌, Bool, List, [], ◌∷◌, ◌++◌}
use Rattle.std.proofs.Common.{Option, Result, Ok, Err, drop, map, take, length, get_or}
use Rattle.std.proofs.Common.{append-nil}
use Rattle.std.proofs.KnownBytes.{Appends-nil, Appends-trans}
use Rattle.std.proofs.lemmas.Grind.{flat_map-append}
use Rattle.std.proofs.lemmas.List.{map-append, take-append-drop, take_more}
use Rattle.std.specs.Io.KnownBytes.{Appends}
use Rattle.std.specs.Prelude.{IfErr, OnErr, OnOk, Vec, flat_map, option_map}
use Rattle.std.specs.Result.{IsErr, IsErrAnd}
use Rattle.sqlite.specs.State.{HasCleanDisk}
use Rattle.sqlite.specs.Store as store
use Rattle.ftd_journal.specs.Parts.{accounts_journal, journal_of, kept_name, own_journal}
use Rattle.ftd_journal.proofs.ByName.{names_are}
use Rattle.ftd_journal.proofs.Whole.{by_name}
use Rattle.ftd_machine.specs.Journal.{days_journal, journal}
use Rattle.ftd_machine.specs.Kept.{AreAccounts}
use Rattle.ftd_machine.specs.Runs.{IsFault}
use Rattle.ftd_machine.specs.Sound.{IsSound}
use Rattle.ftd_machine.specs.State.{State}
use Rattle.ftd_machine.specs.Told.{kept_answer}
use Rattle.ftd_machine.specs.declared.kept.KeptAccount.{KeptAccount}
use Rattle.ftd_machine.specs.declared.kept.KeptRows.TheVariants as rows
use Rattle.ftd_machine.specs.declared.replies.Refusal.{Refusal}
use Rattle.ftd_machine.specs.declared.requests.Request.{Request}
use Rattle.ftd_desk.specs.Desks.{Held, KeepsIfOpen, held}
use Rattle.ftd_desk.specs.Telling.{StandsAsBefore}
use Rattle.ftd_desk.specs.declared.desk.Desk.{Desk}
use Rattle.ftd_ports.specs.Writing.{WritesPrefix}
use Rattle.ftd_ports.proofs.WritingFacts.{HasWritten, breaks_off, prefix_more}
use Rattle.ftd_replies.specs.RequestLines.{lines_of, request_line}
use Rattle.ftd_program.specs.Journals.{IsJournalFault, StoodFor, WritesPart}
use Rattle.ftd_program.specs.declared.journal.JournalFault.{JournalFault}
use Rattle.ftd_program.specs.declared.journal.JournalFault.TheVariants as fault
use Rattle.ftd_program.proofs.Mended.{keeps_on, stands_on}
use Rattle.ftd_program.proofs.Puts.{nothing_put}

abbrev Written : Type 0
Written = Result (Unit {0}) JournalFault

abbrev broken_by : JournalFault → Written
broken_by why = Err why

-- what it stood for, it stands for
stood_on : (a b : Held) (s : State) → StandsAsBefore a b → HasCleanDisk b.db → StoodFor a s
    → StoodFor b s
stood_on a b s stands clean stood = (keeps_on a b s stands clean stood.0, stood.1)

-- an error that is handed on is the same
pub handed_on : (written : Written) (why : JournalFault) → IsErr written
    → IsErrAnd written (λ after. after ≡ why) → written ≡ Err why
handed_on (Ok done) why is same = absurd cc
handed_on (Err after) why is same = ap (λ (f : JournalFault). broken_by f) same

module _ {S O : Type 0} (g : store.Ghosts S) (taken : O → Option (List ℕ)) (failed : O → Bool) where
  -- requests that were read are those of a part, and their lines are written
  pub part_written : (old new : Desk S) (before after : O) (written : Written)
      (requests : List Request) (part : State → List Request)
      → StandsAsBefore (held g old) (held g new)
      → (HasCleanDisk (held g new).db → (s : State) → KeepsIfOpen (held g old) s
      → requests ≡ part s)
      → OnOk written (Appends (taken before) (taken after) (lines_of requests))
      → OnErr written (WritesPrefix (taken before) (taken after) (lines_of requests))
      → IfErr written (λ why. IsJournalFault why (failed after))
      → WritesPart g taken failed old new before after written part
  part_written old new before after written requests part stands knows whole prefix faults =
      record {
        stands = stands;
        whole = λ clean s stood.
            subst (λ rs. OnOk written (Appends (taken before) (taken after) (lines_of rs)))
            (knows clean s stood.0) whole;
        prefix = λ clean s stood.
            subst (λ rs. OnErr written (WritesPrefix (taken before) (taken after) (lines_of rs)))
            (knows clean s stood.0) prefix;
        fault = faults;
      }

  -- nothing could be read
  pub part_unread : (old new : Desk S) (out : O) (refusal : Refusal) (part : State → List Request)
      → StandsAsBefore (held g old) (held g new) → IsFault (Err refusal)
      → WritesPart g taken failed old new out out (Err (fault.Desk refusal)) part
  part_unread old new out refusal part stands is_fault = record {
    stands = stands;
    whole = λ clean s stood. tt;
    prefix = λ clean s stood. nothing_put (taken out) (lines_of (part s));
    fault = is_fault;
  }

  -- nothing is to be written
  pub part_empty : (old new : Desk S) (out : O) (part : State → List Request)
      → StandsAsBefore (held g old) (held g new)
      → (HasCleanDisk (held g new).db → (s : State) → KeepsIfOpen (held g old) s → part s ≡ [])
      → WritesPart g taken failed old new out out (Ok tt) part
  part_empty old new out part stands none = record {
    stands = stands;
    whole = λ clean s stood.
        subst (λ rs. Appends (taken out) (taken out) (lines_of rs)) (sym (none clean s stood.0))
        (Appends-nil (taken out));
    prefix = λ clean s stood. tt;
    fault = tt;
  }

  -- the same part
  pub part_as : (old new : Desk S) (before after : O) (written : Written)
      (part other : State → List Request)
      → ((s : State) → StoodFor (held g old) s → HasCleanDisk (held g new).db → part s ≡ other s)
      → WritesPart g taken failed old new before after written part
      → WritesPart g taken failed old new before after written other
  part_as old new before after written part other same writes = record {
    stands = writes.stands;
    whole = λ clean s stood.
        subst (λ rs. OnOk written (Appends (taken before) (taken after) (lines_of rs)))
        (same s stood clean) (writes.whole clean s stood);
    prefix = λ clean s stood.
        subst (λ rs. OnErr written (WritesPrefix (taken before) (taken after) (lines_of rs)))
        (same s stood clean) (writes.prefix clean s stood);
    fault = writes.fault;
  }

  lines_append : (xs ys : List Request) → lines_of (xs ++ ys) ≡ lines_of xs ++ lines_of ys
  lines_append xs ys = flat_map-append request_line xs ys

  appends_both : (a b c : Option (List ℕ)) (written : Written) (xs ys : List Request)
      → Appends a b (lines_of xs) → OnOk written (Appends b c (lines_of ys))
      → OnOk written (Appends a c (lines_of (xs ++ ys)))
  appends_both a b c (Ok done) xs ys first second =
      subst (Appends a c) (sym (lines_append xs ys))
      (Appends-trans a b c (lines_of xs) (lines_of ys) first second)
  appends_both a b c (Err why) xs ys first second = tt

  prefix_both : (a b c : Option (List ℕ)) (written : Written) (xs ys : List Request)
      → Appends a b (lines_of xs) → OnErr written (WritesPrefix b c (lines_of ys))
      → OnErr written (WritesPrefix a c (lines_of (xs ++ ys)))
  prefix_both a b c (Ok done) xs ys first second = tt
  prefix_both a b c (Err why) xs ys first second =
      let so_far : HasWritten a b (lines_of (xs ++ ys)) (lines_of ys) =
      record { written = lines_of xs; parts = lines_append xs ys; appends = first } in
      breaks_off so_far second

  -- one part after the other
  pub part_then : (old mid new : Desk S) (before between after : O) (written : Written)
      (first second : State → List Request)
      → WritesPart g taken failed old mid before between (Ok tt) first
      → WritesPart g taken failed mid new between after written second
      → WritesPart g taken failed old new before after written (λ s. first s ++ second s)
  part_then old mid new before between after written first second one two =
      let a = held g old in
      let b = held g mid in
      record {
        stands = stands_on a b (held g new) one.stands two.stands;
        whole = λ clean s stood. appends_both (taken before) (taken between) (taken after) written
            (first s) (second s) (one.whole (two.stands.honest clean) s stood)
            (two.whole clean s (stood_on a b s one.stands (two.stands.honest clean) stood));
        prefix = λ clean s stood. prefix_both (taken before) (taken between) (taken after) written
            (first s) (second s) (one.whole (two.stands.honest clean) s stood)
            (two.prefix clean s (stood_on a b s one.stands (two.stands.honest clean) stood));
        fault = two.fault;
      }

  -- what was written whole
  pub part_done : (old new : Desk S) (before after : O) (done : Unit {0})
      (part : State → List Request)
      → WritesPart g taken failed old new before after (Ok done) part
      → WritesPart g taken failed old new before after (Ok tt) part
  part_done old new before after done part writes = record {
    stands = writes.stands;
    whole = writes.whole;
    prefix = writes.prefix;
    fault = writes.fault;
  }

  -- a first part that was not written whole
  prefix_first : (a b : Option (List ℕ)) (xs ys : List Request) → WritesPrefix a b (lines_of xs)
      → WritesPrefix a b (lines_of (xs ++ ys))
  prefix_first a b xs ys written = prefix_more (lines_of ys) (lines_append xs ys) written

  pub part_broken : (old new : Desk S) (before after : O) (why : JournalFault)
      (first second : State → List Request)
      → WritesPart g taken failed old new before after (Err why) first
      → WritesPart g taken failed old new before after (Err why) (λ s. first s ++ second s)
  part_broken old new before after why first second one = record {
    stands = one.stands;
    whole = λ clean s stood. tt;
    prefix = λ clean s stood.
        prefix_first (taken before) (taken after) (first s) (second s) (one.prefix clean s stood);
    fault = one.fault;
  }

-- ---- accounts

accounts_once : (s : State) (accounts : List KeptAccount) (i : ℕ) (account : KeptAccount)
    → i < length accounts → account ≡ get_or accounts i account
    → flat_map (own_journal s) (map kept_name (take i accounts)) ++ own_journal s account.name
    ≡ flat_map (own_journal s) (map kept_name (take (i + 1) accounts))
accounts_once s accounts i account some is =
    let more : take (i + 1) accounts ≡ take i accounts ++ account ∷ [] =
    take_more accounts i account some
    ∙ ap (λ (x : KeptAccount). take i accounts ++ x ∷ []) (sym is) in
    sym (ap (λ (xs : List KeptAccount). flat_map (own_journal s) (map kept_name xs)) more
    ∙ ap (flat_map (own_journal s)) (map-append kept_name (take i accounts) (account ∷ []))
    ∙ flat_map-append (own_journal s) (map kept_name (take i accounts)) (account.name ∷ [])
    ∙ ap (λ (rs : List Request). flat_map (own_journal s) (map kept_name (take i accounts)) ++ rs)
    (append-nil (own_journal s account.name)))

-- the journal of one account more
pub accounts_more : (s : State) (accounts : List KeptAccount) (i : ℕ) (account : KeptAccount)
    (name : List ℕ) → i < length accounts → account ≡ get_or accounts i account
    → name ≡ account.name
    → flat_map (own_journal s) (map kept_name (take i accounts)) ++ own_journal s name
    ≡ flat_map (own_journal s) (map kept_name (take (i + 1) accounts))
accounts_more s accounts i account name some is named =
    ap (λ (n : List ℕ). flat_map (own_journal s) (map kept_name (take i accounts))
    ++ own_journal s n) named
    ∙ accounts_once s accounts i account some is

-- those of the first accounts, of the one after them and of the rest are those of all
pub accounts_split : (s : State) (accounts : List KeptAccount) (i : ℕ) (account : KeptAccount)
    (name : List ℕ) → i < length accounts → account ≡ get_or accounts i account
    → name ≡ account.name
    → (flat_map (own_journal s) (map kept_name (take i accounts)) ++ own_journal s name)
    ++ flat_map (own_journal s) (map kept_name (drop (i + 1) accounts))
    ≡ flat_map (own_journal s) (map kept_name accounts)
accounts_split s accounts i account name some is named =
    ap (λ (rs : List Request). rs
    ++ flat_map (own_journal s) (map kept_name (drop (i + 1) accounts)))
    (accounts_more s accounts i account name some is named)
    ∙ sym (ap (λ (xs : List KeptAccount). flat_map (own_journal s) (map kept_name xs))
    (sym (take-append-drop (i + 1) accounts))
    ∙ ap (flat_map (own_journal s))
    (map-append kept_name (take (i + 1) accounts) (drop (i + 1) accounts))
    ∙ flat_map-append (own_journal s) (map kept_name (take (i + 1) accounts))
    (map kept_name (drop (i + 1) accounts)))

-- those of all accounts that are listed are the journals of all
pub accounts_are : (s : State) (accounts : List KeptAccount) → IsSound s
    → AreAccounts s (kept_answer (rows.Accounts accounts))
    → flat_map (own_journal s) (map kept_name accounts) ≡ accounts_journal s
accounts_are s accounts sound are =
    let same : accounts ≡ are.listed = cc (are.told) in
    ap (λ (xs : List KeptAccount). flat_map (own_journal s) (map kept_name xs)) same
    ∙ ap (flat_map (own_journal s)) (names_are s sound are.listed are.by_name are.all)

-- the journal of the days, and then those of all accounts
pub whole_is : (s : State) → IsSound s → days_journal s ++ accounts_journal s ≡ journal s
whole_is s sound = sym (by_name s sound)

-- what was read of an account is its journal
pub own_known : {A : Type 0} (found : Option (Vec Request A)) (s : State) (given name : List ℕ)
    → given ≡ name → option_map (λ it. it.items) found ≡ journal_of s given
    → journal_of s name ≡ option_map (λ it. it.items) found
own_known found s given name named is = ap (journal_of s) (sym named) ∙ sym is
