-- A year that is opened: what is answered, and the tables stand for the machine's next state.
use Rattle.std.proofs.Common.{◌≡◌, ℕ, ◌+◌, ◌≤◌, ◌==◌, ◌&&◌, ◌⊎◌, Bool, true, false, pos, List}
use Rattle.std.proofs.Common.{[], ◌∷◌, ◌++◌, length, map, Option, None, Some, Ok, Err, inl, inr}
use Rattle.std.proofs.Common.{refl, sym, ap, subst, ◌∙◌, arith}
use Rattle.std.specs.Prelude.{filter, bytes_eq, is_some, IsSome, IsPermutation}
use Rattle.std.specs.Ordering.{int_eq}
use Rattle.std.proofs.lemmas.Bool.{true≢false, eqb-true, cases_Bool, and_parts, cases_lt}
use Rattle.std.proofs.lemmas.List.{map-append}
use Rattle.std.proofs.lemmas.List.Sorted.{IsPermutation-append_left, IsPermutation-sym}
use Rattle.ftd_days.specs.Calendar.{year_of, year_start, month_of, month_start}
use Rattle.ftd_days.specs.declared.cents.Cents.{Cents}
use Rattle.ftd_days.proofs.Months.{year_is}
use Rattle.ftd_days.proofs.Spelling.{same_text}
use Rattle.ftd_rules.specs.declared.Form.{Form}
use Rattle.ftd_rules.specs.declared.Form.TheVariants.{F941, F943}
use Rattle.ftd_rules.specs.declared.YearLine.{YearLine}
use Rattle.ftd_rules.specs.declared.DaySum.{DaySum}
use Rattle.ftd_rules.specs.declared.Obligation.{Obligation}
use Rattle.ftd_rules.specs.declared.run.PayRun.{PayRun}
use Rattle.ftd_rules.specs.declared.run.Voidable.{Voidable}
use Rattle.ftd_rules.specs.Lists.{Has}
use Rattle.ftd_rules.specs.Liability.{liability, share}
use Rattle.ftd_rules.specs.Years.{year_last, AreOpenYears, TurnedBefore, OpensSemiweekly}
use Rattle.ftd_rules.specs.Years.{IsTurnOf, HasSchedule, AreLines}
use Rattle.ftd_rules.specs.Obligations.{AreObligations}
use Rattle.ftd_rules.proofs.Walk.{liability-cons, share_before, share_after}
use Rattle.ftd_rules.proofs.Schedules.{year_facts, month_in_year}
use Rattle.ftd_rules.proofs.Covering.{within_period}
use Rattle.ftd_rules.proofs.Resting.{piece_anew}
use Rattle.ftd_rules.proofs.Stated.{rows_owed, rows_stated}
use Rattle.ftd_rules.specs.Private.Obligations.{IsOwedPiece}
use Rattle.ftd_rules.proofs.Rising.{has_permuted}
use Rattle.ftd_rules.proofs.Members.{has_last, has_mapped, mapped_has, has_before}
use Rattle.ftd_sql.specs.declared.TableName.TheVariants.{Years}
use Rattle.ftd_sql.specs.Rows.{YearRow}
use Rattle.ftd_sql.specs.Standing.{Tables}
use Rattle.ftd_sql.specs.Tests.{is_year, is_year_of}
use Rattle.ftd_store.specs.Rows.{year_row}
use Rattle.ftd_store.specs.Changes.{with_year, put_among}
use Rattle.ftd_machine.specs.Limits.{is_between}
use Rattle.ftd_machine.specs.State.{State, Entry, Entries, entries_of, is_of, has_key, content_of}
use Rattle.ftd_machine.specs.State.{kept_at, is_open, is_given, holidays}
use Rattle.ftd_machine.specs.History.{form_of, is_carried, is_live, value_of, live, liability_of}
use Rattle.ftd_machine.specs.History.{live_sums, IsLookbackOn, HasLookback, AreCarried}
use Rattle.ftd_machine.specs.History.{year_of_line, year_of_entry, LacksFigure}
use Rattle.ftd_machine.specs.Checks.{Answer, first_of}
use Rattle.ftd_machine.specs.Requests.{open_year_checks}
use Rattle.ftd_machine.specs.Step.{Step, OpensNext, may_open, with_entry}
use Rattle.ftd_machine.specs.declared.entries.Account.{Account}
use Rattle.ftd_machine.specs.declared.requests.Request.{Request}
use Rattle.ftd_machine.specs.declared.requests.Request.TheVariants.{Enter}
use Rattle.ftd_machine.specs.declared.requests.Entry.TheVariants as entry
use Rattle.ftd_machine.specs.declared.replies.Reply.TheVariants.{Done}
use Rattle.ftd_machine.specs.declared.replies.Refusal.{Refusal}
use Rattle.ftd_machine.proofs.Deciding.{decided, passed}
use Rattle.ftd_machine.proofs.Heads.{Gives, gives_needs, gives_done, skip_needs, skip_finds}
use Rattle.ftd_machine.proofs.Others.{others}
use Rattle.ftd_machine.specs.Sound.{IsSound, Follow}
use Rattle.ftd_machine.proofs.Adding.{entry_own, own_name, filter_more}
use Rattle.ftd_machine.proofs.Members.{has_filtered, found_none}
use Rattle.ftd_machine.proofs.Soundness.{step_sound}
use Rattle.ftd_machine.proofs.Lined.{open_years_of, between_is}
use Rattle.ftd_entries.specs.Standing.{StandsFor, IsSettled}
use Rattle.ftd_entries.specs.Opening.{HasOpening, IsNextLine, KeepsYear}
use Rattle.ftd_entries.proofs.CalendarRows.{year_cell}
use Rattle.ftd_entries.proofs.Entered.{entered}
use Rattle.ftd_entries.proofs.Settling.{HasRowsOf, each_name, names_apart, same_order, settled_as}

-- ---- lists with one more

carried_more : (carried : Bool) (lines : List YearLine) (line : YearLine)
    → line.carried ≡ ((length lines == 0) && carried) → AreCarried carried lines
    → AreCarried carried (lines ++ line ∷ [])
carried_more carried [] line is are = (is, tt)
carried_more carried (first ∷ lines) line is are = (
  are.0,
  carried_more false lines line
      (is ∙ ap (λ b. b && carried) (some (length (first ∷ lines) == 0) refl)
      ∙ none (length lines == 0)) are.1,
)
  where
    none : (b : Bool) → false ≡ (b && false)
    none true = refl
    none false = refl

    some : (b : Bool) → (length (first ∷ lines) == 0) ≡ b → (length (first ∷ lines) == 0) ≡ false
    some true e = absurd (let l : length (first ∷ lines) ≡ 0 =
        eqb-true (length (first ∷ lines)) 0 e in omega arith)
    some false e = e

-- ---- years that follow one another

-- each line is of an open year
line_entry : (s : State) (name : List ℕ) (lines : List YearLine)
    → map year_of_line lines ≡ map year_of_entry (entries_of s name).open_years → (line : YearLine)
    → Has lines line
    → (e : Entry (Unit {0})) × Has (entries_of s name).open_years e × (line.year ≡ e.key)
line_entry s name lines years line has =
    let year : Has (map year_of_entry (entries_of s name).open_years) line.year =
    subst (λ ys. Has ys line.year) years (mapped_has year_of_line lines line has) in
    has_mapped year_of_entry (entries_of s name).open_years line.year year

lines_open : (s : State) (name : List ℕ) (lines : List YearLine) → IsSound s
    → map year_of_line lines ≡ map year_of_entry (entries_of s name).open_years → AreOpenYears lines
lines_open s name lines sound years =
    open_years_of lines (subst Follow (sym years) (sound.in_turn name)) (λ line has.
    (let from = line_entry s name lines years line has in
    let its = has_filtered (is_of name) s.open_years from.0 from.1 in
    let within = between_is from.0.key (sound.opened from.0 its.0).0 in
    let low = within.0 in let high = within.1 in let same = from.2 in
    (omega arith, omega arith)))

-- ---- a year without a payday

no_liability : (sums : List DaySum) (year : ℕ) → 2001 ≤ year → year ≤ 2098
    → ((x : DaySum) → Has sums x → year_of x.day ≡ year → ⊥)
    → (a b : ℕ) → year_start year ≤ a → b ≤ year_last year → liability sums a b ≡ 0
no_liability [] year low high none a b from to = refl
no_liability (x ∷ sums) year low high none a b from to =
    let rest = no_liability sums year low high (λ y has. none y (inr has)) a b from to in
    let cons = liability-cons x sums a b in
    let here : share a b x ≡ 0 =
    elim (cases_lt x.day a) [
      | inl before ↦ share_before x a b before
      | inr after ↦ elim (cases_lt b x.day) [
        | inl late ↦ share_after x a b after late
        | inr within ↦
            let facts = year_facts year low high in
            let next = facts.3 in
            absurd (none x (inl refl) (year_is year x.day (omega arith) (omega arith) (omega arith)
            (omega arith)))
      ]
    ] in
    omega arith

-- the paydays of an account lie in its open years
no_payday : (s : State) (name : List ℕ) (year : ℕ) → IsSound s → is_open (entries_of s name) year
    ≡ false → (x : DaySum) → Has (live_sums (entries_of s name)) x → year_of x.day ≡ year → ⊥
no_payday s name year sound closed x has is =
    let own = entries_of s name in
    let run = has_mapped liability_of (live own.runs) x has in
    let from = has_mapped value_of (filter is_live own.runs) run.0 run.1 in
    let kept = has_filtered is_live own.runs from.0 from.1 in
    let its = has_filtered (is_of name) s.runs from.0 kept.0 in
    let e : Entry (Voidable PayRun) = from.0 in
    let open_there : is_open (entries_of s e.name) (year_of e.content.value.payday) ≡ true =
    sound.paydays e its.0 in
    let day : e.content.value.payday ≡ x.day = sym (ap (λ (r : PayRun). r.payday) from.2)
    ∙ sym (ap (λ (y : DaySum). y.day) run.2) in
    let here : is_open (entries_of s name) year ≡ true =
    sym (ap (λ n. is_open (entries_of s n) (year_of e.content.value.payday))
    (same_text e.name name its.1) ∙ ap (λ d. is_open (entries_of s name) (year_of d)) day
    ∙ ap (is_open (entries_of s name)) is) ∙ open_there in
    true≢false (sym here ∙ closed)

-- ---- one line more

module _ (lines : List YearLine) (line : YearLine) (turnless : line.turn ≡ None) where
  abbrev More : List YearLine
  More = lines ++ line ∷ []

  no_turn : (o : Option ℕ) → o ≡ None → IsSome o → ⊥
  no_turn (Some turn) is some = absurd cc
  no_turn None is some = true≢false (sym some)

  turned_still : (year : ℕ) → TurnedBefore More year → TurnedBefore lines year
  turned_still year before =
      elim (has_last lines line before.0 before.1) [
        | inl here ↦ (before.0, here, before.2, before.3)
        | inr is ↦ absurd (no_turn before.0.turn (ap (λ (l : YearLine). l.turn) is ∙ turnless)
            before.3)
      ]

  turned_more : (year : ℕ) → TurnedBefore lines year → TurnedBefore More year
  turned_more year before = (before.0, has_before lines line before.0 before.1, before.2, before.3)

  opens_more : (l : YearLine) → OpensSemiweekly lines l → OpensSemiweekly More l
  opens_more l (inl much) = inl much
  opens_more l (inr (inl on)) = inr (inl on)
  opens_more l (inr (inr turned)) = inr (inr (turned_more l.year turned))

  opens_still : (l : YearLine) → OpensSemiweekly More l → OpensSemiweekly lines l
  opens_still l (inl much) = inl much
  opens_still l (inr (inl on)) = inr (inl on)
  opens_still l (inr (inr turned)) = inr (inr (turned_still l.year turned))

  schedule_more : (L : ℕ → ℕ → ℕ) (l : YearLine) → HasSchedule lines L l → HasSchedule More L l
  schedule_more L l (inl h) = inl (h.0, opens_more l h.1, h.2)
  schedule_more L l (inr h) = inr (h.0, (λ opens. h.1 (opens_still l opens)), h.2)

  schedule_new : (sums : List DaySum) → 2001 ≤ line.year → line.year ≤ 2098
      → ((x : DaySum) → Has sums x → year_of x.day ≡ line.year → ⊥) → HasOpening lines line
      → HasSchedule More (liability sums) line
  schedule_new sums low high none (inl h) = inl (h.0, opens_more line h.1, turnless)
  schedule_new sums low high none (inr h) = inr (
    h.0,
    (λ opens. h.1 (opens_still line opens)),
    turn line.turn turnless,
  )
    where
      turn : (o : Option ℕ) → o ≡ None
          → IsTurnOf (liability sums) (year_start line.year) (year_last line.year) o
      turn (Some t) is = absurd cc
      turn None is = λ day from to reaches.
          (let facts = year_facts line.year low high in
          let end = facts.2 in
          let month = month_in_year line.year day (omega arith) from in
          let zero = no_liability sums line.year low high none (month_start (month_of day)) day
          month.0 to in
          omega arith)

  lines_more : (sums : List DaySum) → AreOpenYears More
      → ((x : DaySum) → Has sums x → year_of x.day ≡ line.year → ⊥) → 2001 ≤ line.year
      → line.year ≤ 2098 → HasOpening lines line
      → AreLines sums lines → AreLines sums More
  lines_more sums years none low high opening are = record {
    years = years;
    schedules = λ l has. elim (has_last lines line l has) [
      | inl here ↦ schedule_more (liability sums) l (are.schedules l here)
      | inr is ↦ subst (HasSchedule More (liability sums)) (sym is)
          (schedule_new sums low high none opening)
    ];
  }

  -- nothing is owed for a year without a payday
  owed_more : (form : Form) (sums : List DaySum) (days : List ℕ) (owed : List Obligation)
      → ((x : DaySum) → Has sums x → year_of x.day ≡ line.year → ⊥) → 2001 ≤ line.year
      → line.year ≤ 2098
      → AreObligations form lines sums days owed → AreObligations form More sums days owed
  owed_more form sums days owed none low high are =
      let were = rows_owed form lines sums days owed are in
      rows_stated form More sums days owed (record {
        by_first_day = were.by_first_day;
        all = λ o. (
          (λ has. (let h = (were.all o).0 has in
              moved lines More o h (has_before lines line h.line h.open_year))),
          (λ h. (were.all o).1 (less o h (has_last lines line h.line h.open_year))),
        );
      })
    where
      moved : (some others : List YearLine) (o : Obligation) (h : IsOwedPiece form some sums days o)
          → Has others h.line → IsOwedPiece form others sums days o
      moved some others o h has = piece_anew form some others sums sums days days o
          h.line.lookback o.due h has (λ a b from to. refl) h.due

      nothing : (o : Obligation) (h : IsOwedPiece form More sums days o) → h.line ≡ line → ⊥
      nothing o h is =
          let inside = within_period form More sums days o h in
          let year : h.line.year ≡ line.year = ap (λ (l : YearLine). l.year) is in
          let from = h.period.1 in let to = h.period.2 in
          let i0 = inside.0 in let i2 = inside.2 in
          let first : year_start line.year ≤ o.first = subst (λ y. year_start y ≤ o.first) year
          (omega arith) in
          let last : o.last ≤ year_last line.year = subst (λ y. o.last ≤ year_last y) year
          (omega arith) in
          let zero = no_liability sums line.year low high none o.first o.last first last in
          let amount = h.amount in let positive = h.positive in
          omega arith

      less : (o : Obligation) (h : IsOwedPiece form More sums days o) → (Has lines h.line)
          ⊎ (h.line ≡ line) → IsOwedPiece form lines sums days o
      less o h (inl here) = moved More lines o h here
      less o h (inr is) = absurd (nothing o h is)

-- ---- the rows of the years

-- no row is of a year that is not open
no_row : (s : State) (t : Tables) (name : List ℕ) (year : ℕ) → is_open (entries_of s name) year
    ≡ false → IsSettled t s name → filter (is_year name (pos year)) (t Years) ≡ []
no_row s t name year closed settled = none_passes (is_year name (pos year)) (t Years) none
  where
    none_passes : {X : Type 0} (test : X → Bool) (xs : List X)
        → ((x : X) → Has xs x → test x ≡ false) → filter test xs ≡ []
    none_passes test [] off = refl
    none_passes test (x ∷ xs) off = rw (off x (inl refl))
        (none_passes test xs (λ y has. off y (inr has)))

    kept : {X : Type 0} (test : X → Bool) (xs : List X) (x : X) → Has xs x → test x ≡ true
        → Has (filter test xs) x
    kept test [] x has own = has
    kept test (z ∷ xs) x (inl is) own = let here : test z ≡ true = ap test (sym is) ∙ own in
        rw here (inl is)
    kept test (z ∷ xs) x (inr has) own = elim (cases_Bool (test z)) [
      | inl yes_it ↦ rw yes_it (inr (kept test xs x has own))
      | inr no_it ↦ rw no_it (kept test xs x has own)
    ]

    not_kept : {X : Type 0} (o : Option X) → is_some o ≡ false → o ≡ None
    not_kept (Some x) e = absurd cc
    not_kept None e = refl

    other : (row : YearRow) → Has (t Years) row → is_year name (pos year) row ≡ true → ⊥
    other row has is =
        let own = (entries_of s name).open_years in
        let parts = and_parts (bytes_eq row.account name) (int_eq row.year (pos year)) is in
        let among = has_permuted (map (year_row name) settled.lines)
        (filter (is_year_of name) (t Years)) (IsPermutation-sym _ _ settled.line_rows) row
        (kept (is_year_of name) (t Years) row has parts.0) in
        let its = has_mapped (year_row name) settled.lines row among in
        let from = line_entry s name settled.lines settled.are_lines.years its.0 its.1 in
        let cell : int_eq (pos its.0.year) (pos year) ≡ true =
        ap (λ (r : YearRow). int_eq r.year (pos year)) (sym its.2) ∙ parts.1 in
        let same : has_key year from.0 ≡ true = ap (λ n. n == year) (sym from.2)
        ∙ sym (year_cell its.0.year year) ∙ cell in
        found_none content_of (has_key year) own (not_kept (kept_at year own) closed) from.0 from.1
        same

    none : (row : YearRow) → Has (t Years) row → is_year name (pos year) row ≡ false
    none row has = elim (cases_Bool (is_year name (pos year) row)) [
      | inl is ↦ absurd (other row has is)
      | inr off ↦ off
    ]

put_last : (name : List ℕ) (line : YearLine) (rows : List YearRow)
    → filter (is_year name (pos line.year)) rows ≡ []
    → put_among (filter (is_year name (pos line.year)) rows) (year_row name line) rows ≡ rows
    ++ year_row name line ∷ []
put_last name line rows none = ap (λ found. put_among found (year_row name line) rows) none

-- the lookback total does not rest on the years that are open
lookback_still : (form : Form) (own : Entries) (opened : List (Entry (Unit {0}))) (year : ℕ)
    (total : Cents) → IsLookbackOn form own year total
    → IsLookbackOn form (record own { open_years = opened }) year total
lookback_still F941 own opened year total has = has
lookback_still F943 own opened year total has = has

-- ---- what is answered

module _ (name : List ℕ) (year : ℕ) where
  abbrev Asked : Request
  Asked = Enter (entry.Year name year)

  abbrev Next : State → State
  Next s = record s { open_years = with_entry s.open_years name year tt }

  abbrev state_checks : State → Option Answer
  state_checks s = first_of (open_year_checks name year (entries_of s name).account
      (is_open (entries_of s name) year) (is_given s year) (is_given s (year + 1)))

  module _ (account : Option Account) (there given next : Bool) (s : State)
      (knows : KeepsYear name year account there given next s) where
    checks_same : state_checks s ≡ first_of (open_year_checks name year account there given next)
    checks_same = λ i. first_of (open_year_checks name year (knows.account_is i) (knows.there_is i)
        (knows.given_is i) (knows.next_is i))

    -- a check decides
    pub open_decided : (answer : Answer)
        → first_of (open_year_checks name year account there given next) ≡ Some answer
        → Step s Asked answer s
    open_decided answer is = decided (state_checks s) s answer (OpensNext s answer s name year)
        (checks_same ∙ is)

    module _ (all_passed : first_of (open_year_checks name year account there given next)
        ≡ None) where
      -- a figure of the lookback period is missing
      pub open_lacks : (refusal : Refusal) → LacksFigure (entries_of s name) year refusal
          → Step s Asked (Err refusal) s
      open_lacks refusal lacks =
          let answer : Answer = Err refusal in
          passed (state_checks s) s answer s (OpensNext s answer s name year)
          (checks_same ∙ all_passed) (inl (refusal, lacks, (refl, refl)))

      -- the year before is not open
      pub open_waits : (total : Cents) (answer : Answer)
          → HasLookback (entries_of s name) year total
          → first_of (may_open (entries_of s name) year) ≡ Some answer → Step s Asked answer s
      open_waits total answer has is =
          passed (state_checks s) s answer s (OpensNext s answer s name year)
          (checks_same ∙ all_passed)
          (inr (
            total,
            has,
            decided (first_of (may_open (entries_of s name) year)) s answer
                ((answer ≡ Ok Done) × (s ≡ Next s)) is,
          ))

      open_step : (total : Cents) → HasLookback (entries_of s name) year total
          → first_of (may_open (entries_of s name) year) ≡ None → Step s Asked (Ok Done) (Next s)
      open_step total has may =
          let answer : Answer = Ok Done in
          passed (state_checks s) s answer (Next s) (OpensNext s answer (Next s) name year)
          (checks_same ∙ all_passed)
          (inr (
            total,
            has,
            passed (first_of (may_open (entries_of s name) year)) s answer (Next s)
                ((answer ≡ Ok Done) × (Next s ≡ Next s)) may (refl, refl),
          ))

      closed : is_open (entries_of s name) year ≡ false
      closed =
          let fresh : Gives (open_year_checks name year account there given next) (there ≡ false) =
          skip_needs _ _ _ _ (skip_needs _ _ _ _ (skip_finds _ _ _ _ (gives_done _ _))) in
          knows.there_is ∙ fresh.fact all_passed

      its_bounds : (2001 ≤ year) × (year ≤ 2098)
      its_bounds =
          let fact : Gives (open_year_checks name year account there given next)
          (is_between 2001 2098 year ≡ true) = skip_needs _ _ _ _ (gives_needs _ _ _) in
          between_is year (fact.fact all_passed)

      module _ (t : Tables) (stands : StandsFor t s) (sound : IsSound s) (total : Cents)
          (has : HasLookback (entries_of s name) year total)
          (may : first_of (may_open (entries_of s name) year) ≡ None) where
        abbrev was : IsSettled t s name
        was = stands.settled name

        next_sound : IsSound (Next s)
        next_sound = step_sound s Asked (Ok Done) (Next s) (open_step total has may) sound

        module _ (line : YearLine) (is_next : IsNextLine (is_carried (entries_of s name).account)
            was.lines year total line) where
          abbrev After : Tables
          After = with_year name line t

          years_more : map year_of_line (was.lines ++ line ∷ []) ≡ map year_of_entry
              (entries_of (Next s) name).open_years
          years_more =
              map-append year_of_line was.lines (line ∷ [])
              ∙ ap (λ ys. ys ++ line.year ∷ []) was.are_lines.years
              ∙ ap (λ y. map year_of_entry (entries_of s name).open_years ++ y ∷ []) is_next.year_is
              ∙ sym (map-append year_of_entry (entries_of s name).open_years
              (record { name = name; key = year; content = tt } ∷ []))
              ∙ ap (map year_of_entry) (sym (entry_own s.open_years name year tt))

          no_pay : (x : DaySum) → Has (live_sums (entries_of s name)) x → year_of x.day ≡ line.year
              → ⊥
          no_pay x among is = no_payday s name year sound closed x among (is ∙ is_next.year_is)

          low : 2001 ≤ line.year
          low = let bounds = its_bounds in let from = bounds.0 in let same = is_next.year_is in
              omega arith

          high : line.year ≤ 2098
          high = let bounds = its_bounds in let to = bounds.1 in let same = is_next.year_is in
              omega arith

          rows_put : After Years ≡ t Years ++ year_row name line ∷ []
          rows_put = put_last name line (t Years)
              (no_row s t name line.year (ap (is_open (entries_of s name)) is_next.year_is ∙ closed)
              was)

          settled_own : IsSettled After (Next s) name
          settled_own = record {
            lines = was.lines ++ line ∷ [];
            are_lines = record {
              years = years_more;
              lookbacks = λ l among. elim (has_last was.lines line l among) [
                | inl here ↦ lookback_still (form_of (entries_of s name).account)
                    (entries_of s name) (entries_of (Next s) name).open_years l.year l.lookback
                    (was.are_lines.lookbacks l here)
                | inr is ↦ lookback_still (form_of (entries_of s name).account) (entries_of s name)
                    (entries_of (Next s) name).open_years l.year l.lookback
                    (subst (λ (x : YearLine). HasLookback (entries_of s name) x.year x.lookback)
                    (sym is)
                    (subst (λ y. HasLookback (entries_of s name) y line.lookback)
                    (sym is_next.year_is)
                    (subst (λ amount. HasLookback (entries_of s name) year amount)
                    (sym is_next.lookback) has)))
              ];
              carried = carried_more (is_carried (entries_of s name).account) was.lines line
                  is_next.is_carried was.are_lines.carried;
              schedules = lines_more was.lines line is_next.turn (live_sums (entries_of s name))
                  (lines_open (Next s) name (was.lines ++ line ∷ []) next_sound years_more) no_pay
                  low high is_next.opening was.are_lines.schedules;
            };
            owed = was.owed;
            are_owed = owed_more was.lines line is_next.turn (form_of (entries_of s name).account)
                (live_sums (entries_of s name)) (holidays s) was.owed no_pay low high was.are_owed;
            line_rows =
                subst (λ rows. IsPermutation rows (map (year_row name) (was.lines ++ line ∷ [])))
                (sym (ap (filter (is_year_of name)) rows_put ∙ filter_more (is_year_of name)
                (t Years) (year_row name line) true (own_name name)))
                (subst (λ rows. IsPermutation
                (filter (is_year_of name) (t Years) ++ year_row name line ∷ []) rows)
                (sym (map-append (year_row name) was.lines (line ∷ [])))
                (IsPermutation-append_left (year_row name line ∷ [])
                (filter (is_year_of name) (t Years)) (map (year_row name) was.lines)
                was.line_rows));
            owed_rows = was.owed_rows;
          }

          rows_other : (other : List ℕ) → bytes_eq name other ≡ false → HasRowsOf other t After
          rows_other other apart = record {
            years = same_order _ _ (ap (filter (is_year_of other)) rows_put
                ∙ filter_more (is_year_of other) (t Years) (year_row name line) false apart);
            obligations = same_order _ _ refl;
          }

          -- the year is opened
          pub open_done : (next : State) × Step s Asked (Ok Done) next × StandsFor After next
          open_done =
              let step = open_step total has may in (
                Next s,
                step,
                record {
                  entries = (let e = stands.entries in
                      entered e.meta e.enrolled e.figures e.days e.paid);
                  settled = each_name (IsSettled After (Next s)) name settled_own
                      (λ other apart. settled_as t After s (Next s) other (others s Asked (Ok Done)
                      (Next s) other step (names_apart name other apart)) refl
                      (rows_other other apart) (stands.settled other));
                },
              )
