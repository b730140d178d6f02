-- Pay runs that are posted and voided: what is answered, and the tables stand for the machine's
-- next state.
use Rattle.std.proofs.Common.{◌≡◌, ◌∙◌, inl, inr, refl, sym, ap, subst, ℕ, ◌&&◌, pos, Bool, true}
use Rattle.std.proofs.Common.{false, List, [], ◌∷◌, ◌++◌, map, length, Option, None, Some, Ok}
use Rattle.std.specs.Prelude.{bytes_eq, filter, find, option_map, if◌then◌else◌}
use Rattle.std.proofs.lemmas.Bool.{true≢false, eqb-true, and_parts}
use Rattle.std.proofs.lemmas.List.{map-append}
use Rattle.ftd_days.specs.Calendar.{year_of}
use Rattle.ftd_days.proofs.Spelling.{same_text}
use Rattle.ftd_rules.specs.declared.run.PayRun.{PayRun}
use Rattle.ftd_rules.specs.declared.run.Voidable.{Voidable}
use Rattle.ftd_rules.specs.Liability.{liability}
use Rattle.ftd_rules.specs.Lists.{Has}
use Rattle.ftd_sql.specs.declared.TableName.TheVariants.{Runs}
use Rattle.ftd_sql.specs.Standing.{Tables}
use Rattle.ftd_sql.specs.Tests.{is_run, voided_run}
use Rattle.ftd_sql.specs.Kept.{changed}
use Rattle.ftd_store.specs.Changes.{with_run, with_void_run}
use Rattle.ftd_store.specs.Finds.{CountsRuns}
use Rattle.ftd_machine.specs.declared.entries.Account.{Account}
use Rattle.ftd_machine.specs.declared.requests.Request.{Request}
use Rattle.ftd_machine.specs.declared.requests.Request.TheVariants.{Post, Void}
use Rattle.ftd_machine.specs.declared.replies.Reply.TheVariants.{Posted}
use Rattle.ftd_machine.specs.State.{State, Entry, Entries, entries_of, is_of, has_key, content_of}
use Rattle.ftd_machine.specs.State.{kept_at, is_open}
use Rattle.ftd_machine.specs.History.{form_of, live, liability_of}
use Rattle.ftd_machine.specs.Checks.{Answer, first_of}
use Rattle.ftd_machine.specs.Requests.{post_checks, void_checks}
use Rattle.ftd_machine.specs.Step.{Step, with_entry, with_voided, is_under, as_voided}
use Rattle.ftd_machine.specs.Step.{taken}
use Rattle.ftd_machine.specs.Sound.{IsSound, AreDistinct, place_of}
use Rattle.ftd_machine.proofs.Adding.{entry_own, entry_other, voided_own, voided_other}
use Rattle.ftd_machine.proofs.Deciding.{decided, passed}
use Rattle.ftd_machine.specs.Laws.{is_change}
use Rattle.ftd_machine.proofs.Again.{post_turns, void_turns}
use Rattle.ftd_machine.proofs.Heads.{IsNoChange}
use Rattle.ftd_machine.proofs.Members.{has_filtered}
use Rattle.ftd_entries.specs.Standing.{StandsFor, run_entry}
use Rattle.ftd_entries.specs.Known.{KnowsAccount}
use Rattle.ftd_entries.proofs.Kept.{kept_run, counted_runs}
use Rattle.ftd_entries.proofs.CalendarRows.{year_cell}
use Rattle.ftd_machine.specs.declared.replies.Difference.{Difference}
use Rattle.ftd_repairs.specs.Reposted.{IsReposted}
use Rattle.ftd_posting.specs.declared.known_runs.KnownForPost.{KnownForPost}
use Rattle.ftd_posting.specs.declared.known_runs.KnownForVoid.{KnownForVoid}
use Rattle.ftd_posting.specs.Runs.{KnowsForPost, KnowsForVoid}
use Rattle.ftd_posting.proofs.LiveRuns.{day_added, day_voided, ArePaidOn}
use Rattle.ftd_posting.proofs.Reposting.{ChangesRuns, with_runs, reposted_stands, reposted_told}
use Rattle.ftd_entries.proofs.Voiding as voiding

-- what is answered where the obligations differ so
abbrev pub told : Difference → Answer
told d = Ok (Posted d)

-- the form of an account that is known
pub form_is : (known : Option Account) (account : Account) (name : List ℕ) (t : Tables) (s : State)
    → StandsFor t s → KnowsAccount name known t → known ≡ Some account
    → form_of (entries_of s name).account ≡ account.form
form_is known account name t s stands knows is = ap form_of (knows s stands ∙ is)

-- ---- a run is posted

module _ (name : List ℕ) (number : ℕ) (run : PayRun) (count : ℕ) where
  abbrev pub KnowsAll : KnownForPost → Tables → Type 0
  KnowsAll = KnowsForPost name number (year_of run.payday)

  abbrev Asked : Request
  Asked = Post name number run

  abbrev pub checks : KnownForPost → Option Answer
  checks known = first_of (post_checks name number run known.account known.kept known.is_open count)

  abbrev checks_on : Entries → Option Answer
  checks_on own = first_of (post_checks name number run own.account (kept_at number own.runs)
      (is_open own (year_of run.payday)) (length own.runs))

  -- the checks of what is kept are those of what was read
  checks_are : (known : KnownForPost) (t : Tables) (s : State) → StandsFor t s
      → CountsRuns name count t → KnowsAll known t → checks_on (entries_of s name) ≡ checks known
  checks_are known t s stands counted knows =
      rw (
        knows.account s stands,
        kept_run name t s stands number known.kept knows.kept,
        knows.is_open s stands,
        counted_runs name t s stands count counted,
      ) refl

  abbrev More : Entry (Voidable PayRun)
  More = record { name = name; key = number; content = taken run }

  pub run_added : (t : Tables) (s : State) → StandsFor t s → ChangesRuns s name run.payday
      (t Runs ++ run_entry More ∷ []) (with_entry s.runs name number (taken run))
  run_added t s stands = record {
    rows_are = ap (λ rows. rows ++ run_entry More ∷ []) stands.entries.paid.runs
        ∙ sym (map-append run_entry s.runs (More ∷ []));
    others = λ other apart. entry_other s.runs name number (taken run) other
        (λ same. apart (sym same));
    same_days = λ other apart.
        ap (λ rs. liability (map liability_of (live rs)) other other)
        (entry_own s.runs name number (taken run))
        ∙ day_added other (filter (is_of name) s.runs) name number run (λ same. apart (sym same));
  }

  -- a check that decides tells of no change
  pub post_quiet : (known : KnownForPost) (answer : Answer) → checks known ≡ Some answer
      → is_change answer ≡ false
  post_quiet known answer is =
      let kept : Option (Voidable PayRun) = Some (record { value = run; voided = false }) in
      subst IsNoChange is (post_turns name number run known.account known.kept kept known.is_open
      known.is_open count count (λ none. refl)).no_change

  -- a check decides
  pub post_decided : (known : KnownForPost) (answer : Answer) → checks known ≡ Some answer
      → (t : Tables) (s : State) → StandsFor t s → IsSound s → CountsRuns name count t
      → KnowsAll known t → Step s Asked answer s
  post_decided known answer is t s stands sound counted knows = decided _ s answer _
      (checks_are known t s stands counted knows ∙ is)

  -- all checks pass
  pub post_done : (known : KnownForPost) (account : Account) (difference : Difference)
      → checks known ≡ None → known.account ≡ Some account
      → (t u : Tables) (s : State) → StandsFor t s → IsSound s → CountsRuns name count t
      → KnowsAll known t → IsReposted name account.form run.payday t (with_run name number run t) u
      difference
      → (next : State) × Step s Asked (told difference) next × StandsFor u next
  post_done known account difference is account_is t u s stands sound counted knows reposted =
      let form = form_is known.account account name t s stands knows.account account_is in
      let changes = run_added t s stands in
      let done =
      subst (λ f. IsReposted name f run.payday t (with_run name number run t) u difference)
      (sym form) reposted in
      let next : State = with_runs s (with_entry s.runs name number (taken run)) in (
        next,
        passed _ s (told difference) next _ (checks_are known t s stands counted knows ∙ is)
            (refl, reposted_told t u s name run.payday _ _ difference stands sound changes done),
        reposted_stands t u s name run.payday _ _ difference stands sound changes done,
      )

-- ---- a run is voided

module _ (name : List ℕ) (number : ℕ) where
  rows_voided : (xs : List (Entry (Voidable PayRun)))
      → map (changed (is_run name (pos number)) voided_run) (map run_entry xs) ≡ map run_entry
      (with_voided xs name number)
  rows_voided = voiding.rows_voided run_entry voided_run (is_run name (pos number)) name number
      (λ e. ap (λ b. bytes_eq e.name name && b) (year_cell e.key number)) (λ e. refl)

  places : (e f : Entry (Voidable PayRun)) → is_under name number e ≡ true
      → is_under name number f ≡ true → place_of e ≡ place_of f
  places e f under other =
      let a = and_parts (is_of name e) (has_key number e) under in
      let b = and_parts (is_of name f) (has_key number f) other in
      let names : e.name ≡ f.name = same_text e.name name a.0 ∙ sym (same_text f.name name b.0) in
      let keys : e.key ≡ f.key = eqb-true e.key number a.1 ∙ sym (eqb-true f.key number b.1) in
      rw (names, keys) refl

  -- what is kept under the key is what each entry under it holds
  only_kept : (v : Voidable PayRun) (xs : List (Entry (Voidable PayRun))) → AreDistinct place_of xs
      → kept_at number (filter (is_of name) xs) ≡ Some v
      → (e : Entry (Voidable PayRun)) → Has xs e → is_under name number e ≡ true → e.content ≡ v
  only_kept v [] apart kept e has under = absurd has
  only_kept v (x ∷ xs) apart kept e has under = by_name (is_of name x) refl kept
      (λ rest later. only_kept v xs apart.1 rest e later under)
    where
      here : is_under name number x ≡ true → x.content ≡ v → e.content ≡ v
      here its is = elim has [
        | inl same ↦ ap (λ (y : Entry (Voidable PayRun)). y.content) same ∙ is
        | inr later ↦ absurd (apart.0 e later (places e x under its))
      ]

      further : is_under name number x ≡ false → kept_at number (filter (is_of name) xs) ≡ Some v
          → (kept_at number (filter (is_of name) xs) ≡ Some v → Has xs e → e.content ≡ v)
          → e.content ≡ v
      further off kept rest = elim has [
        | inl same ↦ absurd (let passes = ap (is_under name number) (sym same) ∙ under in
            true≢false (sym passes ∙ off))
        | inr later ↦ rest kept later
      ]

      by_key : is_of name x ≡ true → (b : Bool) → has_key number x ≡ b
          → option_map content_of (if b then Some x else find (has_key number)
          (filter (is_of name) xs)) ≡ Some v → (kept_at number (filter (is_of name) xs) ≡ Some v
          → Has xs e → e.content ≡ v) → e.content ≡ v
      by_key mine true keyed kept rest = let is : x.content ≡ v = cc in
          here (rw (mine, keyed) refl) is
      by_key mine false keyed kept rest = further (rw (mine, keyed) refl) kept rest

      by_name : (b : Bool) → is_of name x ≡ b
          → kept_at number (if b then x ∷ filter (is_of name) xs else filter (is_of name) xs)
          ≡ Some v → (kept_at number (filter (is_of name) xs) ≡ Some v → Has xs e → e.content ≡ v)
          → e.content ≡ v
      by_name true mine kept rest = by_key mine (has_key number x) refl kept rest
      by_name false mine kept rest = further (rw mine refl) kept rest

  run_voided : (t : Tables) (s : State) (v : Voidable PayRun) → StandsFor t s → IsSound s
      → kept_at number (entries_of s name).runs ≡ Some v
      → ChangesRuns s name v.value.payday (map (changed (is_run name (pos number)) voided_run)
      (t Runs)) (with_voided s.runs name number)
  run_voided t s v stands sound kept = record {
    rows_are = ap (map (changed (is_run name (pos number)) voided_run)) stands.entries.paid.runs
        ∙ rows_voided s.runs;
    others = λ other apart. voided_other s.runs name number other (λ same. apart (sym same));
    same_days = λ other apart.
        let paid : ArePaidOn name number v.value.payday (filter (is_of name) s.runs) =
        λ e has under. ap (λ (w : Voidable PayRun). w.value.payday)
        (only_kept v s.runs sound.runs kept e (has_filtered (is_of name) s.runs e has).0 under) in
        ap (λ rs. liability (map liability_of (live rs)) other other)
        (voided_own s.runs name number)
        ∙ day_voided other v.value.payday (filter (is_of name) s.runs) name number paid apart;
  }

  abbrev pub void_checked : KnownForVoid → Option Answer
  void_checked known = first_of (void_checks name number known.account known.kept)

  void_checks_are : (known : KnownForVoid) (t : Tables) (s : State) → StandsFor t s
      → KnowsForVoid name number known t
      → first_of (void_checks name number (entries_of s name).account
      (kept_at number (entries_of s name).runs)) ≡ void_checked known
  void_checks_are known t s stands knows =
      rw (knows.account s stands, kept_run name t s stands number known.kept knows.kept) refl

  -- a check that decides tells of no change
  pub void_quiet : (known : KnownForVoid) (answer : Answer)
      → first_of (void_checks name number known.account known.kept) ≡ Some answer
      → is_change answer ≡ false
  void_quiet known answer is =
      subst IsNoChange is (void_turns name number known.account known.kept
      (option_map as_voided known.kept) (λ v has. (
        as_voided v,
        ap (option_map as_voided) has,
        refl,
      ))).no_change

  -- a check decides
  pub void_decided : (known : KnownForVoid) (answer : Answer) → void_checked known ≡ Some answer
      → (t : Tables) (s : State) → StandsFor t s → IsSound s → KnowsForVoid name number known t
      → Step s (Void name number) answer s
  void_decided known answer is t s stands sound knows = decided _ s answer _
      (void_checks_are known t s stands knows ∙ is)

  -- all checks pass
  pub void_done : (known : KnownForVoid) (account : Account) (v : Voidable PayRun)
      (difference : Difference)
      → void_checked known ≡ None → known.account ≡ Some account → known.kept ≡ Some v
      → (t u : Tables) (s : State) → StandsFor t s → IsSound s → KnowsForVoid name number known t
      → IsReposted name account.form v.value.payday t (with_void_run name number t) u difference
      → (next : State) × Step s (Void name number) (told difference) next × StandsFor u next
  void_done known account v difference is account_is run_is t u s stands sound knows reposted =
      let form = form_is known.account account name t s stands knows.account account_is in
      let kept = kept_run name t s stands number known.kept knows.kept ∙ run_is in
      let changes = run_voided t s v stands sound kept in
      let done =
      subst (λ f. IsReposted name f v.value.payday t (with_void_run name number t) u difference)
      (sym form) reposted in
      let next : State = with_runs s (with_voided s.runs name number) in (
        next,
        passed _ s (told difference) next _ (void_checks_are known t s stands knows ∙ is) (
          v,
          kept,
          refl,
          reposted_told t u s name v.value.payday _ _ difference stands sound
              changes done,
        ),
        reposted_stands t u s name v.value.payday _ _ difference stands sound changes done,
      )
