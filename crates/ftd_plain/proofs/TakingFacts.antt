-- The runs that were taken so far, one record after the other.
use Rattle.std.proofs.Common.{◌≡◌, ◌≢◌, ◌⊎◌, inl, inr, ℕ, ◌≤◌, ◌+◌, List, [], ◌∷◌, ◌++◌}
use Rattle.std.proofs.Common.{length, map, get_or, Some, None, Bool, true}
use Rattle.std.proofs.Common.{false, refl, sym, ap, ◌∙◌, arith, append_assoc, length-append}
use Rattle.std.specs.Prelude.{Contains, ◌↔◌, AllPairs, MatchBool, ◌==◌}
use Rattle.std.specs.List.Sorted.{IsStrictlySortedBy}
use Rattle.std.specs.Map.{lookup, keys_of}
use Rattle.std.specs.Str.{bytes_eq}
use Rattle.std.specs.BTreeMap.{is_at, insert_entry}
use Rattle.std.specs.Ordering.{nat_cmp}
use Rattle.std.proofs.lemmas.List.{append-nil, get_or-map, length-map}
use Rattle.std.proofs.lemmas.List.Elements.{filter_map-append}
use Rattle.std.proofs.lemmas.Map.Keys.{below_from_sorted}
use Rattle.std.proofs.lemmas.Slice.Eq.{bytes_eq-Decides}
use Rattle.ftd_machine.specs.declared.limits.TheConstants.{MOST_ENTRIES}
use Rattle.ftd_days.specs.Calendar.{year_of}
use Rattle.ftd_rules.specs.Lists.{Has}
use Rattle.ftd_csv.specs.Places.{Advances, Opens, said_at}
use Rattle.ftd_csv.specs.Records.{records_of}
use Rattle.ftd_csv.specs.declared.reading.Records.{Records}
use Rattle.ftd_csv.specs.declared.sheets.Sheet.{Sheet}
use Rattle.ftd_csv.proofs.Left.{said_first, said_next}
use Rattle.ftd_plain.specs.Plain.{AreCounted, AtFault, NoneAtFault, Run, RunFault, SaidRun}
use Rattle.ftd_plain.specs.Plain.{enters, is_taken, malformed, run_said, taken}
use Rattle.ftd_plain.specs.Plain.{taken_run}
use Rattle.ftd_plain.specs.Taking.{HasTaken, RefusesRecord, RefusesRun, StopsAtFault, TakesAll}
use Rattle.ftd_plain.specs.Taking.{TakesRecord, TakesRun, run_of, runs_left, runs_of}
use Rattle.ftd_plain.specs.declared.fault.PlainFault.{PlainFault}
use Rattle.ftd_plain.specs.declared.fault.PlainFault.TheVariants as fault
use Rattle.ftd_rules.specs.declared.run.PayRun.{PayRun}
use Rattle.ftd_rules.proofs.Members.{mapped_has, has_mapped, has_last, has_before, has_end}
use Rattle.ftd_plain.proofs.Members.{contains_from_has, has_from_contains, lookup_has, lookup_apart}
use Rattle.ftd_plain.proofs.Members.{lookup_rising, insert_adds, no_longer, comes_once}
use Rattle.std.proofs.lemmas.Bool.{false≢true, and_parts}
use Rattle.std.proofs.lemmas.Option.{same_Some}

-- ---- one more record
no_part : {X : Type 0} (before : List X) (x : X) (after : List X) → [] ≡ before ++ x ∷ after → ⊥
no_part [] x after e = cc e
no_part (y ∷ before) x after e = cc e

-- a part of a list with one more is a part of it, or the last
pub record IsWithin {X : Type 0} (xs before : List X) (x : X) (after : List X) : Type 0 where
  pub rest : List X
  pub parts : xs ≡ before ++ x ∷ rest

part_of_push : {X : Type 0} (xs : List X) (last : X) (before : List X) (x : X) (after : List X)
    → xs ++ last ∷ [] ≡ before ++ x ∷ after
    → IsWithin xs before x after ⊎ ((xs ≡ before) × (last ≡ x))
part_of_push [] last [] x after e = inr (refl, cc)
part_of_push [] last (y ∷ before) x after e = absurd (no_part before x after (cc))
part_of_push (z ∷ xs) last [] x after e = inl (record { rest = xs; parts = cc })
part_of_push (z ∷ xs) last (y ∷ before) x after e =
    let first : z ≡ y = cc in
    let others : xs ++ last ∷ [] ≡ before ++ x ∷ after = cc in
    elim (part_of_push xs last before x after others) [
      | inl within ↦
          inl (record { rest = within.rest; parts = rw first (ap (λ zs. y ∷ zs) within.parts) })
      | inr (same, here) ↦ inr (rw first (ap (λ zs. y ∷ zs) same), here)
    ]

none_at_first : (account : List ℕ) (year : ℕ) → NoneAtFault account year []
none_at_first account year before x after f e h = no_part before x after e

none_more : (account : List ℕ) (year : ℕ) (before : List SaidRun) (said : SaidRun)
    → NoneAtFault account year before → ((f : PlainFault) → AtFault account year before said f → ⊥)
    → NoneAtFault account year (before ++ said ∷ [])
none_more account year records said none not before x after f e h =
    elim (part_of_push records said before x after e) [
      | inl within ↦ none before x within.rest f within.parts h
      | inr (same, here) ↦ not f (rw (same, here) h)
    ]

-- ---- the runs taken of one more record
taken_more : (account : List ℕ) (year : ℕ) (before : List SaidRun) (said : SaidRun)
    → taken account year (before ++ said ∷ []) ≡ taken account year before ++ taken account year
    (said ∷ [])
taken_more account year before said = filter_map-append (taken_run account year) before (said ∷ [])

taken_one : (account : List ℕ) (year : ℕ) (run : Run) → is_taken account year run ≡ true
    → taken account year (enters run ∷ []) ≡ run ∷ []
taken_one account year run e = rw e refl

taken_none : (account : List ℕ) (year : ℕ) (run : Run) → is_taken account year run ≡ false
    → taken account year (enters run ∷ []) ≡ []
taken_none account year run e = rw e refl

employer_is : (account : List ℕ) (year : ℕ) (run : Run) → is_taken account year run ≡ true
    → run.employer ≡ account
employer_is account year run e = (bytes_eq-Decides run.employer account).0
    (and_parts (bytes_eq run.employer account) (year_of run.run.payday == year) e).0

-- a run of the account is what is kept of it
run_kept : (account : List ℕ) (run : Run) → run.employer ≡ account
    → run ≡ run_of account (run.number, run.run)
run_kept account run e = ap (λ (name : List ℕ). record run { employer = name }) e

-- ---- the runs that count
abbrev number_of_run : Run → ℕ
number_of_run run = run.number

keys_rise : (account : List ℕ) (entries : List (ℕ × PayRun)) → IsStrictlySortedBy nat_cmp
    (keys_of entries) → AllPairs (λ (a b : Run). a.number ≢ b.number) (runs_of account entries)
keys_rise account entries sorted i j d before within =
    let none : ℕ × PayRun = (
      0,
      record {
        payday = 0;
        fit = record { 0 = 0 };
        ss = record { 0 = 0 };
        medicare = record { 0 = 0 };
      },
    ) in
    let long = length-map entries (run_of account) in
    let first = get_or-map (run_of account) entries i none d (omega arith) in
    let second = get_or-map (run_of account) entries j none d (omega arith) in
    let first_key = get_or-map (λ (e : ℕ × PayRun). e.0) entries i none 0 (omega arith) in
    let second_key = get_or-map (λ (e : ℕ × PayRun). e.0) entries j none 0 (omega arith) in
    let keys = length-map entries (λ (e : ℕ × PayRun). e.0) in
    let rise = below_from_sorted (keys_of entries) i j 0 sorted before (omega arith) in
    λ e.
    let same : (get_or entries i none).0 ≡ (get_or entries j none).0 =
    sym (ap (λ (r : Run). r.number) first) ∙ e ∙ ap (λ (r : Run). r.number) second in
    absurd (omega arith)

pub counted_of : (account : List ℕ) (year : ℕ) (before : List SaidRun) (entries : List (ℕ × PayRun))
    → IsStrictlySortedBy nat_cmp (keys_of entries)
    → ((run : Run) → Contains (runs_of account entries) run ↔ Contains (taken account year before)
    run) → AreCounted (taken account year before) (runs_of account entries)
counted_of account year before entries sorted same =
    record { each_once = keys_rise account entries sorted; same = same }

-- the runs that are kept are those taken
abbrev Same : List ℕ → List (ℕ × PayRun) → List Run → Type 0
Same account entries runs = (run : Run) → Contains (runs_of account entries) run ↔ Contains runs run

same_again : (account : List ℕ) (entries : List (ℕ × PayRun)) (runs : List Run) (run : Run)
    → Same account entries runs → run.employer ≡ account
    → lookup (is_at (nat_cmp run.number)) entries ≡ Some run.run
    → Same account entries (runs ++ run ∷ [])
same_again account entries runs run same mine found other =
    let here : Has (runs_of account entries) run = rw (run_kept account run mine)
    (mapped_has (run_of account) entries (run.number, run.run)
    (lookup_has run.number run.run entries found)) in (
      (λ c. contains_from_has (runs ++ run ∷ []) other
          (has_before runs run other (has_from_contains runs other ((same other).0 c)))),
      (λ c. elim (has_last runs run other (has_from_contains (runs ++ run ∷ []) other c)) [
        | inl old ↦ (same other).1 (contains_from_has runs other old)
        | inr new ↦ rw new (contains_from_has (runs_of account entries) run here)
      ]),
    )

same_new : (account : List ℕ) (entries : List (ℕ × PayRun)) (runs : List Run) (run : Run)
    → Same account entries runs → run.employer ≡ account
    → lookup (is_at (nat_cmp run.number)) entries ≡ None
    → Same account (insert_entry nat_cmp entries run.number run.run) (runs ++ run ∷ [])
same_new account entries runs run same mine none other =
    let adds = insert_adds run.number run.run entries none in
    let new = insert_entry nat_cmp entries run.number run.run in
    let is_run = run_kept account run mine in (
      (λ c.
          let (e, there, is) = has_mapped (run_of account) new other
          (has_from_contains (runs_of account new) other c) in
          elim (adds.only e there) [
            | inl old ↦ contains_from_has (runs ++ run ∷ []) other
                (has_before runs run other
                (has_from_contains runs other
                ((same other).0 (contains_from_has (runs_of account entries) other
                (rw is (mapped_has (run_of account) entries e old))))))
            | inr last ↦ (let it : other ≡ run = is ∙ ap (run_of account) last ∙ sym is_run in
                rw it (contains_from_has (runs ++ run ∷ []) run (has_end runs run)))
          ]),
      (λ c. elim (has_last runs run other (has_from_contains (runs ++ run ∷ []) other c)) [
        | inl old ↦
            (let (e, there, is) = has_mapped (run_of account) entries other
            (has_from_contains (runs_of account entries) other
            ((same other).1 (contains_from_has runs other old))) in
            contains_from_has (runs_of account new) other
            (rw is (mapped_has (run_of account) new e (adds.kept e there))))
        | inr it ↦ rw (it, is_run) (contains_from_has (runs_of account new)
            (run_of account (run.number, run.run))
            (mapped_has (run_of account) new (run.number, run.run) adds.there))
      ]),
    )

-- no run that was taken has a number that no entry has
other_number : (account : List ℕ) (entries : List (ℕ × PayRun)) (runs : List Run) (number : ℕ)
    → Same account entries runs → lookup (is_at (nat_cmp number)) entries ≡ None
    → (other : Run) → Contains runs other → other.number ≢ number
other_number account entries runs number same none other c =
    let (e, there, is) = has_mapped (run_of account) entries other
    (has_from_contains (runs_of account entries) other ((same other).1 c)) in
    λ n. lookup_apart number entries e none there (sym (ap (λ (r : Run). r.number) is) ∙ n)

-- ---- a record that is taken is at no fault
one_entry : (account : List ℕ) (entries : List (ℕ × PayRun)) (runs : List Run) (number : ℕ)
    (kept : PayRun) → IsStrictlySortedBy nat_cmp (keys_of entries) → Same account entries runs
    → lookup (is_at (nat_cmp number)) entries ≡ Some kept → (other : Run) → Contains runs other
    → other.number ≡ number → other ≡ run_of account (number, kept)
one_entry account entries runs number kept sorted same found other c n =
    let (e, there, is) = has_mapped (run_of account) entries other
    (has_from_contains (runs_of account entries) other ((same other).1 c)) in
    let key : e.0 ≡ number = sym (ap (λ (r : Run). r.number) is) ∙ n in
    let looked = lookup_rising entries e sorted there in
    let again = rw key at looked in
    let value : e.1 ≡ kept = same_Some e.1 kept (sym again ∙ found) in
    is ∙ rw (key, value) refl

entry_there : (account : List ℕ) (entries : List (ℕ × PayRun)) (runs : List Run) (number : ℕ)
    (kept : PayRun) → Same account entries runs
    → lookup (is_at (nat_cmp number)) entries ≡ Some kept
    → Contains runs (run_of account (number, kept))
entry_there account entries runs number kept same found =
    (same (run_of account (number, kept))).0 (contains_from_has (runs_of account entries)
    (run_of account (number, kept)) (mapped_has (run_of account) entries (number, kept)
    (lookup_has number kept entries found)))

counted_no_longer : (account : List ℕ) (entries : List (ℕ × PayRun)) (runs counted : List Run)
    → Same account entries runs → AreCounted runs counted → length counted ≤ length entries
counted_no_longer account entries runs counted same are =
    let long = length-map entries (run_of account) in
    let bound = no_longer counted (runs_of account entries)
    (comes_once number_of_run counted are.each_once)
    (λ run h. has_from_contains (runs_of account entries) run
    ((same run).1 ((are.same run).0 (contains_from_has counted run h)))) in
    omega arith

run_at_no_fault : (account : List ℕ) (year : ℕ) (entries new : List (ℕ × PayRun)) (runs : List Run)
    (run : Run) → IsStrictlySortedBy nat_cmp (keys_of entries) → Same account entries runs
    → run.employer ≡ account
    → TakesRun entries run.number run.run new → (f : PlainFault) → RunFault runs run f → ⊥
run_at_no_fault account year entries new runs run sorted same mine (inl (found, keeps))
    (fault.RunDiffers number) (n, (other, there, same_number, differs)) =
    differs (one_entry account entries runs run.number run.run sorted same found other there
    same_number ∙ sym (run_kept account run mine))
run_at_no_fault account year entries new runs run sorted same mine (inl (found, keeps))
    fault.TooManyRuns (apart, (counted, are, most)) =
    apart (run_of account (run.number, run.run)) (entry_there account entries runs run.number
    run.run same found) refl
run_at_no_fault account year entries new runs run sorted same mine (inr (none, few, adds))
    (fault.RunDiffers number) (n, (other, there, same_number, differs)) =
    other_number account entries runs run.number same none other there same_number
run_at_no_fault account year entries new runs run sorted same mine (inr (none, few, adds))
    fault.TooManyRuns (apart, (counted, are, most)) =
    let bound = counted_no_longer account entries runs counted same are in absurd (omega arith)
run_at_no_fault account year entries new runs run sorted same mine takes fault.BadHeader h = h
run_at_no_fault account year entries new runs run sorted same mine takes fault.TooLong h = h
run_at_no_fault account year entries new runs run sorted same mine takes
    (fault.Malformed number field) h = h
run_at_no_fault account year entries new runs run sorted same mine takes fault.BadCalendar h = h
run_at_no_fault account year entries new runs run sorted same mine takes fault.Memory h = h

-- ---- a record that is refused is at fault
run_at_fault : (account : List ℕ) (year : ℕ) (before : List SaidRun) (entries : List (ℕ × PayRun))
    (run : Run) → IsStrictlySortedBy nat_cmp (keys_of entries)
    → Same account entries (taken account year before)
    → run.employer ≡ account → (f : PlainFault) → RefusesRun entries run.number run.run f
    → (f ≡ fault.Memory) ⊎ RunFault (taken account year before) run f
run_at_fault account year before entries run sorted same mine (fault.RunDiffers number)
    (n, kept, found, differs) =
    inr (
      n,
      (
        run_of account (run.number, kept),
        entry_there account entries (taken account year before) run.number kept same found,
        refl,
        (λ e. differs (ap (λ (r : Run). r.run) e)),
      ),
    )
run_at_fault account year before entries run sorted same mine fault.TooManyRuns (none, most) =
    inr (
      other_number account entries (taken account year before) run.number same none,
      (
        runs_of account entries,
        counted_of account year before entries sorted same,
        length-map entries (run_of account) ∙ most,
      ),
    )
run_at_fault account year before entries run sorted same mine fault.Memory h = inl refl
run_at_fault account year before entries run sorted same mine fault.BadHeader h = absurd h
run_at_fault account year before entries run sorted same mine fault.TooLong h = absurd h
run_at_fault account year before entries run sorted same mine (fault.Malformed number field) h =
    absurd h
run_at_fault account year before entries run sorted same mine fault.BadCalendar h = absurd h

-- ---- the steps of the loop
pub runs_next : (old new : Records) → Advances old new
    → runs_left old ≡ run_said (said_at new) ∷ runs_left new
runs_next old new goes = ap (map run_said) (said_next old new goes)

pub runs_first : (kind : Sheet) (text : List ℕ) (records : Records) → Opens kind text records
    → runs_left records ≡ map run_said (records_of kind text)
runs_first kind text records opens = ap (map run_said) (said_first kind text records opens)

pub taken_first : (account : List ℕ) (year : ℕ) (records : List SaidRun)
    → HasTaken account year records records 2 []
taken_first account year records = record {
  before = [];
  parts = refl;
  count = refl;
  none_at_fault = none_at_first account year;
  same = λ run. ((λ c. c), (λ c. c));
  few = omega arith;
}

pub taken_all : (account : List ℕ) (year : ℕ) (records : List SaidRun) (number : ℕ)
    (entries : List (ℕ × PayRun)) → HasTaken account year records [] number entries
    → TakesAll account year records entries
taken_all account year records number entries h =
    let all : records ≡ h.before = h.parts ∙ append-nil h.before in
    record { none_at_fault = rw all h.none_at_fault; same = rw all h.same; few = h.few }

pub taken_stops : (account : List ℕ) (year : ℕ) (records : List SaidRun) (said : SaidRun)
    (left : List SaidRun) (number : ℕ) (entries : List (ℕ × PayRun)) (f : PlainFault)
    → IsStrictlySortedBy nat_cmp (keys_of entries)
    → HasTaken account year records (said ∷ left) number entries
    → RefusesRecord account year number entries said f → StopsAtFault account year records f
taken_stops account year records (malformed place) left number entries f sorted h refuses =
    inr (record {
      before = h.before;
      record_at = malformed place;
      after = left;
      parts = h.parts;
      none_before = h.none_at_fault;
      at_fault = refuses ∙ ap (λ n. fault.Malformed n place) h.count;
    })
taken_stops account year records (enters run) left number entries f sorted h refuses =
    elim (run_at_fault account year h.before entries run sorted h.same
    (employer_is account year run refuses.0) f refuses.1) [
      | inl memory ↦ inl memory
      | inr at ↦ inr (record {
        before = h.before;
        record_at = enters run;
        after = left;
        parts = h.parts;
        none_before = h.none_at_fault;
        at_fault = (refuses.0, at);
      })
    ]

few_more : (entries new : List (ℕ × PayRun)) (run : Run) → length entries ≤ MOST_ENTRIES
    → TakesRun entries run.number run.run new → length new ≤ MOST_ENTRIES
few_more entries new run few (inl (found, keeps)) = let long = ap length keeps in omega arith
few_more entries new run few (inr (none, fewer, adds)) =
    let long = ap length adds in
    let more = (insert_adds run.number run.run entries none).long in
    omega arith

same_more : (account : List ℕ) (entries new : List (ℕ × PayRun)) (runs : List Run) (run : Run)
    → Same account entries runs → run.employer ≡ account → TakesRun entries run.number run.run new
    → Same account new (runs ++ run ∷ [])
same_more account entries new runs run same mine (inl (found, keeps)) =
    rw keeps (same_again account entries runs run same mine found)
same_more account entries new runs run same mine (inr (none, fewer, adds)) =
    rw adds (same_new account entries runs run same mine none)

parts_more : (records before : List SaidRun) (said : SaidRun) (left : List SaidRun)
    → records ≡ before ++ said ∷ left → records ≡ (before ++ said ∷ []) ++ left
parts_more records before said left e = e ∙ sym (append_assoc before (said ∷ []) left)

pub taken_next : (account : List ℕ) (year : ℕ) (records : List SaidRun) (said : SaidRun)
    (left : List SaidRun) (number : ℕ) (entries new : List (ℕ × PayRun))
    → IsStrictlySortedBy nat_cmp
    (keys_of entries)
    → HasTaken account year records (said ∷ left) number entries
    → TakesRecord account year entries said new → HasTaken account year records left
    (number + 1) new
taken_next account year records (malformed place) left number entries new sorted h takes =
    absurd takes
taken_next account year records (enters run) left number entries new sorted h takes =
    go (is_taken account year run) refl takes
  where
    long : number + 1 ≡ 2 + length (h.before ++ enters run ∷ [])
    long = let count = h.count in let one = length-append h.before (enters run ∷ []) in omega arith

    go : (b : Bool) → is_taken account year run ≡ b
        → MatchBool b (TakesRun entries run.number run.run new) (new ≡ entries)
        → HasTaken account year records left (number + 1) new
    go true mine takes =
        let employer = employer_is account year run mine in
        let runs : taken account year (h.before ++ enters run ∷ []) ≡ taken account year h.before
        ++ run ∷ [] = taken_more account year h.before (enters run)
        ∙ ap (λ zs. taken account year h.before ++ zs) (taken_one account year run mine) in
        record {
          before = h.before ++ enters run ∷ [];
          parts = parts_more records h.before (enters run) left h.parts;
          count = long;
          none_at_fault = none_more account year h.before (enters run) h.none_at_fault
              (λ f at. run_at_no_fault account year entries new (taken account year h.before) run
              sorted h.same employer takes f at.1);
          same = rw runs (same_more account entries new (taken account year h.before) run h.same
              employer takes);
          few = few_more entries new run h.few takes;
        }
    go false other takes =
        let runs : taken account year (h.before ++ enters run ∷ []) ≡ taken account year h.before =
        taken_more account year h.before (enters run)
        ∙ ap (λ zs. taken account year h.before ++ zs) (taken_none account year run other)
        ∙ append-nil (taken account year h.before) in
        record {
          before = h.before ++ enters run ∷ [];
          parts = parts_more records h.before (enters run) left h.parts;
          count = long;
          none_at_fault = none_more account year h.before (enters run) h.none_at_fault
              (λ f at. false≢true (sym other ∙ at.0));
          same = rw (runs, takes) h.same;
          few = rw takes h.few;
        }
