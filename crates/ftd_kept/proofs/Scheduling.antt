-- The deposit schedule of a day, and why: what is answered, and that it is the machine's answer.
use Rattle.std.proofs.Common.{◌≡◌, ◌⊎◌, ℕ, ◌+◌, ◌-◌, ◌<◌, ◌==◌, ◌&&◌, Bool, true, List, [], Option}
use Rattle.std.proofs.Common.{None, Some, Ok, Vec, inl, inr, refl, sym, ap, subst, ◌∙◌, arith}
use Rattle.std.specs.Prelude.{is_some, nat_lt, IsSome, IsSomeAnd, MatchOption}
use Rattle.std.specs.Borrow.{Bor}
use Rattle.std.specs.List.{list_any, find}
use Rattle.std.specs.Option.{option_map}
use Rattle.std.proofs.lemmas.Bool.{true≢false, eqb-true, eq-eqb, ltb-true, lt-ltb, and_parts}
use Rattle.ftd_days.specs.Calendar.{year_of}
use Rattle.ftd_rules.specs.declared.Kind.{Kind}
use Rattle.ftd_rules.specs.declared.Kind.TheVariants.{Monthly, Semiweekly}
use Rattle.ftd_rules.specs.declared.YearLine.{YearLine}
use Rattle.ftd_rules.specs.Lists.{Has}
use Rattle.ftd_rules.specs.Liability.{liability}
use Rattle.ftd_rules.specs.Years.{HasSchedule, HasStatusOn}
use Rattle.sqlite.specs.Store as store
use Rattle.ftd_sql.specs.Standing.{Tables}
use Rattle.ftd_store.specs.Finds.{ListsYears}
use Rattle.ftd_store.specs.Frame.{Reads}
use Rattle.ftd_store.specs.declared.tx.Tx.{Tx}
use Rattle.ftd_store.proofs.Telling.{then_reads}
use Rattle.ftd_machine.specs.declared.entries.Account.{Account}
use Rattle.ftd_machine.specs.declared.requests.Question.TheVariants.{Status}
use Rattle.ftd_machine.specs.declared.requests.Request.TheVariants.{Question}
use Rattle.ftd_machine.specs.Asking.{IsByLookback, IsTurnBefore, HasNoTurnBefore}
use Rattle.ftd_machine.specs.Checks.{Answer, first_of}
use Rattle.ftd_machine.specs.History.{live_sums, AreLinesOf}
use Rattle.ftd_machine.specs.Requests.{status_checks}
use Rattle.ftd_machine.specs.State.{State, Entries, entries_of, is_open}
use Rattle.ftd_machine.specs.Step.{Step}
use Rattle.ftd_machine.proofs.Deciding.{decided, passed}
use Rattle.ftd_machine.proofs.Refusing.{Refuses, refuses_finds, refuses_needs, refuses_none}
use Rattle.ftd_machine.proofs.Heads.{Gives, gives_needs, skip_needs, skip_finds}
use Rattle.ftd_entries.specs.Known.{KnowsAccount, KnowsLines}
use Rattle.ftd_entries.specs.Opening.{is_line_of, turns_into}
use Rattle.ftd_entries.specs.Standing.{StandsFor}
use Rattle.ftd_entries.proofs.KnownYears.{open_lines}
use Rattle.ftd_entries.proofs.Lines.{lines_known}
use Rattle.ftd_kept.specs.Schedules.{AreScheduled, IsStatusBy}
use Rattle.ftd_rules.proofs.Members.{some_pass}
use Rattle.ftd_entries.proofs.Searching.{found, not_found}

-- ---- the line of a year

pub line_found : (lines : List YearLine) (year : ℕ) (o : Option (Bor YearLine))
    → option_map (λ (y : Bor YearLine). y.now) o ≡ find (is_line_of year) lines
    → MatchOption o ((line : YearLine) → Has lines line → line.year ≡ year → ⊥)
    (λ line. Has lines line.now × (line.now.year ≡ year))
line_found lines year None is = λ line has same. not_found (is_line_of year) lines (sym is) line has
    (eq-eqb line.year year same)
line_found lines year (Some b) is = let its = found (is_line_of year) lines b.now (sym is) in
    (its.0, eqb-true b.now.year year its.1)

-- ---- the turn of the year before

module _ (lines : List YearLine) (line : YearLine) (year : ℕ) (same : line.year ≡ year) where
  pub no_turn_before : find (turns_into year) lines ≡ None → HasNoTurnBefore lines line
  no_turn_before none turn before =
      let b = before.0 in
      let next = before.2 in
      let less : nat_lt b.year year ≡ true = lt-ltb b.year year (omega arith) in
      let one : (year - b.year == 1) ≡ true = eq-eqb (year - b.year) 1 (omega arith) in
      let turned : is_some b.turn ≡ true = ap is_some before.3 in
      not_found (turns_into year) lines none b before.1 (rw (less, one, turned) refl)

  pub turn_found : (b : YearLine) → find (turns_into year) lines ≡ Some b
      → MatchOption b.turn (HasNoTurnBefore lines line) (IsTurnBefore lines line)
  turn_found b is =
      let its = found (turns_into year) lines b is in
      let parts = and_parts (nat_lt b.year year) ((year - b.year == 1) && is_some b.turn) its.1 in
      let rest = and_parts (year - b.year == 1) (is_some b.turn) parts.1 in
      let less = ltb-true b.year year parts.0 in
      let one = eqb-true (year - b.year) 1 rest.0 in
      told b.turn refl rest.1 (omega arith) its.0
    where
      told : (turn : Option ℕ) → b.turn ≡ turn → is_some turn ≡ true → b.year + 1 ≡ line.year
          → Has lines b → MatchOption turn (HasNoTurnBefore lines line) (IsTurnBefore lines line)
      told None turned some next has = absurd (true≢false (sym some))
      told (Some day) turned some next has = (b, has, next, turned)

-- ---- why

-- an account that is semiweekly by neither its lookback total nor the turn of the year before was
-- carried into the year,
-- or the year has a turn
pub carried_why : (lines : List YearLine) (line : YearLine) (kind : Kind) (day : ℕ) (L : ℕ → ℕ → ℕ)
    → (kind ≡ Monthly → ⊥) → (5_000_000 < line.lookback.0 → ⊥) → HasNoTurnBefore lines line
    → (line.carried ≡ true) ⊎ (line.turn ≡ None) → HasSchedule lines L line
    → HasStatusOn line day kind
    → (IsByLookback line kind → ⊥) × HasNoTurnBefore lines line × (line.carried ≡ true)
carried_why lines line Monthly day L semiweekly little none either schedule status =
    absurd (semiweekly refl)
carried_why lines line Semiweekly day L semiweekly little none (inl carried) schedule status =
    (little, none, carried)
carried_why lines line Semiweekly day L semiweekly little none (inr turnless) schedule status =
    (little, none, opened schedule status)
  where
    no_turn : (o : Option ℕ) → o ≡ None → IsSomeAnd o (λ turn. turn < day) → ⊥
    no_turn (Some turn) is some = absurd cc
    no_turn None is some = absurd some

    some_turn : (o : Option ℕ) → IsSome o → (turn : ℕ) × (o ≡ Some turn)
    some_turn (Some turn) some = (turn, refl)
    some_turn None some = absurd (true≢false (sym some))

    opened : HasSchedule lines L line → HasStatusOn line day Semiweekly → line.carried ≡ true
    opened (inl h) status = elim h.1 [
      | inl much ↦ absurd (little much)
      | inr other ↦ elim other [
        | inl carried ↦ carried
        | inr before ↦ absurd (let turn = some_turn before.0.turn before.3 in
            none turn.0 (before.0, before.1, before.2, turn.1))
      ]
    ]
    opened (inr h) (inl semi) = absurd (let both_kinds : Monthly ≡ Semiweekly = sym h.0 ∙ semi in
        cc)
    opened (inr h) (inr turned) = absurd (no_turn line.turn turnless turned)

-- ---- the answer

-- the account and the lines of its open years, as they were read one after the other
pub account_and_lines : {S A : Type 0} {g : store.Ghosts S} {old mid new : Tx S}
    {account : Option Account} {lines : Vec YearLine A} (name : List ℕ)
    → Reads g old mid (Ok account) (KnowsAccount name)
    → Reads g mid new (Ok lines) (λ listed. ListsYears name listed)
    → Reads g old new (Ok account) (λ a. KnowsLines name account lines.items)
account_and_lines {account = account} {lines = lines} name p q =
    then_reads account (λ a. KnowsLines name account lines.items) p q (λ t knows lists s stands. (
      knows s stands,
      lines_known name lines t s stands lists (stands.settled name),
    ))

-- the checks of a day refuse or pass
pub status_refuses : (name : List ℕ) (day : ℕ) (account : Option Account) (there : Bool)
    → Refuses (status_checks name day account there)
status_refuses name day account there =
    refuses_needs _ _ _
    (refuses_needs _ _ _ (refuses_finds _ _ _ (refuses_needs _ _ [] refuses_none)))

pub none_by : {Told : Type 0} (lines : List YearLine) (day : ℕ)
    → list_any (is_line_of (year_of day)) lines ≡ true
    → ((line : YearLine) → Has lines line → line.year ≡ year_of day → ⊥) → Told
none_by lines day some none = let its = some_pass (is_line_of (year_of day)) lines some in
    absurd (none its.0 its.1 (eqb-true its.0.year (year_of day) its.2))

module _ (name : List ℕ) (day : ℕ) (account : Option Account) (lines : List YearLine) (t : Tables)
    (s : State) (stands : StandsFor t s) (account_is : (entries_of s name).account ≡ account)
    (lines_are : lines ≡ (stands.settled name).lines) where
  abbrev own : Entries
  own = entries_of s name

  abbrev there : Bool
  there = list_any (is_line_of (year_of day)) lines

  are : AreLinesOf own lines
  are = subst (AreLinesOf own) (sym lines_are) (stands.settled name).are_lines

  pub checks_are : first_of (status_checks name day own.account (is_open own (year_of day)))
      ≡ first_of
      (status_checks name day account there)
  checks_are =
      rw (account_is, open_lines (year_of day) lines own.open_years are.years) refl

  pub status_decided : (answer : Answer) → first_of (status_checks name day account there)
      ≡ Some answer → Step s (Question (Status name day)) answer s
  status_decided answer is = decided _ s answer _ (checks_are ∙ is)

  pub status_told : (answer : Answer) → first_of (status_checks name day account there) ≡ None
      → (there ≡ true → AreScheduled lines → IsStatusBy lines day answer)
      → Step s (Question (Status name day)) answer s
  status_told answer is tells =
      let opens : Gives (status_checks name day account there) (there ≡ true) =
      skip_needs _ _ _ _ (skip_needs _ _ _ _ (skip_finds _ _ _ _ (gives_needs _ _ _))) in
      let told = tells (opens.fact is) (liability (live_sums own), are.schedules.schedules) in
      passed _ s answer s _ (checks_are ∙ is) (
        refl,
        record {
          lines = lines;
          are_lines = are;
          line = told.is_schedule.line;
          open_year = told.is_schedule.open_year;
          of_day = told.is_schedule.of_day;
          status = told.schedule.kind;
          has_status = told.is_schedule.has_status;
          why = told.schedule.reason;
          is_why = told.is_schedule.is_why;
          told = told.told;
        },
      )
