-- Runs that are posted by a book: what is answered, and what the book knows then.
use Rattle.std.proofs.Common.{◌≡◌, ◌∙◌, inl, inr, refl, sym, ap, subst, ℕ, ◌+◌, ◌≤◌, List, [], ◌∷◌}
use Rattle.std.proofs.Common.{map, length, Option, None, Some, Ok, arith}
use Rattle.std.specs.Prelude.{filter, IfSome}
use Rattle.std.specs.List.{sum_by}
use Rattle.sqlite.specs.Store as store
use Rattle.sqlite.specs.State as database
use Rattle.std.proofs.lemmas.List.{map-append}
use Rattle.std.proofs.lemmas.List.Sums.{sum_by-cons, sum_by-append}
use Rattle.std.proofs.lemmas.List.Elements.{filter-append}
use Rattle.ftd_days.specs.Calendar.{year_of, year_start, last_day}
use Rattle.ftd_days.specs.Holidays.{holidays_of}
use Rattle.ftd_days.proofs.Months.{year_is, year_begins, year_long}
use Rattle.ftd_rules.specs.declared.DaySum.{DaySum}
use Rattle.ftd_rules.specs.declared.Form.{Form}
use Rattle.ftd_rules.specs.declared.Obligation.{Obligation}
use Rattle.ftd_rules.specs.declared.YearLine.{YearLine}
use Rattle.ftd_rules.specs.declared.run.PayRun.{PayRun}
use Rattle.ftd_rules.specs.declared.run.Voidable.{Voidable}
use Rattle.ftd_rules.specs.Liability.{liability, share}
use Rattle.ftd_rules.specs.Lists.{Has}
use Rattle.ftd_rules.proofs.Covering.{line_is}
use Rattle.ftd_rules.proofs.Schedules.{year_facts, year_start-mono}
use Rattle.ftd_sql.specs.declared.TableName.TheVariants.{Runs}
use Rattle.ftd_sql.specs.Standing.{Tables, Stands}
use Rattle.ftd_store.specs.Changes.{with_run}
use Rattle.ftd_store.specs.Finds.{CountsRuns, FindsRun}
use Rattle.ftd_store.specs.Frame.{Calls, Reads, Rewrites}
use Rattle.ftd_store.specs.Seen.{shown}
use Rattle.ftd_store.specs.declared.tx.Tx.{Tx}
use Rattle.ftd_store.proofs.Going.{goes_on, then_goes}
use Rattle.ftd_store.specs.Cells.{day_number}
use Rattle.ftd_store.specs.DaySums.{ListsDaySums}
use Rattle.ftd_sql.specs.Orders.{RunsRise}
use Rattle.ftd_sql.specs.Tests.{is_live_run_between}
use Rattle.ftd_sql.specs.Rows.{RunRow}
use Rattle.ftd_buckets.specs.declared.Patch.{Patch}
use Rattle.ftd_buckets.specs.declared.Window.{Window}
use Rattle.ftd_buckets.specs.Histories.{History, IsHistory}
use Rattle.ftd_buckets.specs.Windows.{IsNeeded}
use Rattle.ftd_machine.specs.declared.requests.Request.{Request}
use Rattle.ftd_machine.specs.declared.requests.Request.TheVariants.{Post}
use Rattle.ftd_machine.specs.State.{State, Entry, Entries, entries_of, holidays, is_of, kept_at}
use Rattle.ftd_machine.specs.State.{is_open}
use Rattle.ftd_machine.specs.declared.entries.Account.{Account}
use Rattle.ftd_machine.specs.History.{form_of, is_live, value_of, live, live_sums, liability_of}
use Rattle.ftd_machine.specs.History.{AreLinesOf}
use Rattle.ftd_machine.specs.Checks.{Answer, first_of}
use Rattle.ftd_machine.specs.Requests.{post_checks}
use Rattle.ftd_machine.specs.Step.{Step, with_entry, taken}
use Rattle.ftd_machine.specs.Sound.{IsSound}
use Rattle.ftd_machine.proofs.Adding.{entry_own}
use Rattle.ftd_machine.proofs.Deciding.{decided, passed}
use Rattle.ftd_machine.proofs.Single.{lines_of_one, owed_one}
use Rattle.ftd_machine.proofs.Soundness.{sound_once, step_sound}
use Rattle.ftd_entries.specs.Standing.{StandsFor, IsSettled}
use Rattle.ftd_entries.specs.Known.{KnowsAccount}
use Rattle.ftd_entries.proofs.Lines.{lines_known}
use Rattle.ftd_entries.proofs.Kept.{kept_run, counted_runs}
use Rattle.ftd_entries.proofs.KnownYears.{open_lines}
use Rattle.ftd_entries.proofs.YearHolidays.{holiday_read}
use Rattle.ftd_machine.specs.declared.replies.Difference.{Difference}
use Rattle.ftd_repairs.specs.declared.ledgers.Ledger.{Ledger}
use Rattle.ftd_repairs.specs.Repaired.{SumsAre, RepairsBy}
use Rattle.ftd_repairs.specs.Replaced.{AreBetween, patched}
use Rattle.ftd_repairs.specs.Rescheduled.{HasLines}
use Rattle.ftd_repairs.specs.Reposted.{IsLedger, IsRepostedBy, AddsRun, KnowsLedger}
use Rattle.ftd_posting.specs.declared.books.Book.{Book}
use Rattle.ftd_posting.specs.Books.{IsBook, AreHolidaysIn, AreOwedSince, PostsBy, IsAbove}
use Rattle.ftd_posting.specs.Books.{IsReached, begins_since, checks_by, greatest_known}
use Rattle.ftd_posting.proofs.LiveRuns.{sums_listed}
use Rattle.ftd_posting.proofs.Numbers.{above_free, greatest_right, greatest_then}
use Rattle.ftd_posting.proofs.OwedSince.{owed_read, owed_between, patched_since}
use Rattle.ftd_posting.proofs.PostedRuns.{told, run_added}
use Rattle.ftd_posting.proofs.Reposting.{ChangesRuns, with_runs, lines_then, before, after, change}
use Rattle.ftd_posting.proofs.Reposting.{line_before, IsRightBy, AreKnown, placed_stands}
use Rattle.ftd_posting.proofs.Reposting.{placed_told, lines_put, are_lines, since_year, come_later}
use Rattle.ftd_posting.proofs.Reposting.{owed_then, are_owed}

-- a window that is needed begins in the day's year or later, and ends on a day that there is
pub needed_within : (form : Form) (day : ℕ) (h k : History) (w : Window) → IsHistory h
    → IsNeeded form day h k w → (year_start (year_of day) ≤ w.from) × (w.to ≤ last_day)
needed_within form day h k w is (inl its) =
    let line = its.0 in
    let y = line_is h.lines h.sums line is its.1 in
    let y0 = y.0 in let y1 = y.1 in
    let f = year_facts line.year y0 y1 in
    let f2 = f.2 in let f3 = f.3 in
    let p1 = its.2.0.1 in let p2 = its.2.0.2 in let p3 = its.2.1 in let p4 = its.2.2 in
    let year = year_is line.year day (omega arith) (omega arith) (omega arith) (omega arith) in
    (subst (λ n. year_start n ≤ w.from) (sym year) p1, omega arith)
needed_within form day h k w is (inr (inl rest)) =
    let line = rest.old in
    let y = line_is h.lines h.sums line is rest.year.is_old in
    let y0 = y.0 in let y1 = y.1 in
    let f = year_facts line.year y0 y1 in
    let f2 = f.2 in let f3 = f.3 in
    let d0 = rest.of_day.0 in let d1 = rest.of_day.1 in
    let year = year_is line.year day (omega arith) (omega arith) (omega arith) (omega arith) in
    let its = rest.is_period in
    let p3 = its.2.1 in let p4 = its.2.2 in
    let from = rest.from in let to = rest.to in
    (subst (λ n. year_start n ≤ w.from) (sym year) (omega arith), omega arith)
needed_within form day h k w is (inr (inr later)) =
    let line = later.old in
    let y = line_is h.lines h.sums line is later.year.is_old in
    let y0 = y.0 in let y1 = y.1 in
    let f = year_facts line.year y0 y1 in
    let f2 = f.2 in let f3 = f.3 in
    let from = later.from in let to = later.to in let after_day = later.later in
    let begins = year_begins day (omega arith) in
    (omega arith, omega arith)

-- a run more among those that are live
live_more : (xs : List (Entry (Voidable PayRun))) (name : List ℕ) (number : ℕ) (run : PayRun)
    (from to : ℕ)
    → liability (map liability_of (live (with_entry xs name number (taken run)))) from to
    ≡ liability (map liability_of (live xs)) from to + share from to (liability_of run)
live_more xs name number run from to =
    let e : Entry (Voidable PayRun) = record { name = name; key = number; content = taken run } in
    let amount : DaySum → ℕ = share from to in
    let one : sum_by amount (liability_of run ∷ []) ≡ amount (liability_of run) =
    (let cons = sum_by-cons amount (liability_of run) [] in let nil : sum_by amount [] ≡ 0 = refl in
    omega arith) in
    ap (λ (es : List (Entry (Voidable PayRun))). sum_by amount (map liability_of (map value_of es)))
    (filter-append is_live xs (e ∷ []))
    ∙ (ap (λ (rs : List PayRun). sum_by amount (map liability_of rs))
    (map-append value_of (filter is_live xs) (e ∷ []))
    ∙ (ap (sum_by amount) (map-append liability_of (live xs) (run ∷ []))
    ∙ (sum_by-append amount (map liability_of (live xs)) (liability_of run ∷ [])
    ∙ ap (λ n. sum_by amount (map liability_of (live xs)) + n) one)))

-- the first day of a year lies in it
pub first_of_year : (year day : ℕ) → 1900 ≤ year → year ≤ 2199 → day ≡ year_start year
    → year_of day ≡ year
first_of_year year day low high is = let long = year_long year low in
    year_is year day low high (omega arith) (omega arith)

-- what was read of an account makes a book that is right
pub book_known : (name : List ℕ) (account : Account) (year : ℕ) (days : Window) (ledger : Ledger)
    (t : Tables) → year_of days.from ≡ year → days.from ≡ year_start year → days.to ≡ last_day
    → KnowsAccount name (Some account) t → KnowsLedger name days ledger t
    → (s : State) → StandsFor t s → IsSound s
    → IsBook s name
    (record { account = account; from = year; ledger = ledger; greatest = None })
book_known name account year days ledger t of_year starts ends knows knows_ledger s stands sound =
    let known = holidays_of ledger.years.holidays in
    record {
      account = knows s stands;
      lines = subst (AreLinesOf (entries_of s name))
          (sym (lines_known name ledger.years.lines t s stands knows_ledger.years.listed
          (stands.settled name))) (stands.settled name).are_lines;
      holidays = λ line has from.
          (let its = knows_ledger.years.read line has (omega arith) in (
            (λ d is. holiday_read t s stands sound known line.year d its.0 is),
            (λ d is. holiday_read t s stands sound known (line.year + 1) d its.1 is),
          ));
      sums = λ from to low high.
          sums_listed name days.from days.to s.runs ledger.sums.items
          (subst (λ (rows : List RunRow). ListsDaySums RunsRise name
          (filter (is_live_run_between name (day_number days.from) (day_number days.to)) rows)
          ledger.sums.items) stands.entries.paid.runs knows_ledger.sums)
          from to (omega arith) (omega arith);
      since = knows_ledger.since ∙ starts;
      owed = owed_read name ledger.since ledger.rows.items t s stands
          (subst (λ n. AreBetween name n last_day ledger.rows.items t) (sym knows_ledger.since)
          (subst (λ n. AreBetween name days.from n ledger.rows.items t) ends knows_ledger.rows));
      numbers = tt;
    }

module _ (name : List ℕ) (number : ℕ) (run : PayRun) (count : ℕ) (book : Book) where
  abbrev Asked : Request
  Asked = Post name number run

  abbrev checks_on : Entries → Option Answer
  checks_on own = first_of (post_checks name number run own.account (kept_at number own.runs)
      (is_open own (year_of run.payday)) (length own.runs))

  -- the checks by the book are those of what the state keeps
  checks_are : (kept : Option (Voidable PayRun)) (t : Tables) (s : State) → StandsFor t s
      → IsBook s name book → CountsRuns name count t
      → kept_at number (entries_of s name).runs ≡ kept
      → checks_on (entries_of s name) ≡ checks_by name number run count book kept
  checks_are kept t s stands right counted found =
      rw (
        right.account,
        found,
        open_lines (year_of run.payday) book.ledger.years.lines.items (entries_of s name).open_years
            right.lines.years,
        counted_runs name t s stands count counted,
      ) refl

  -- a check decides
  pub decided_by : (kept : Option (Voidable PayRun)) (answer : Answer)
      → checks_by name number run count book kept ≡ Some answer → (t : Tables) (s : State)
      → StandsFor t s → IsBook s name book → CountsRuns name count t → FindsRun name number kept t
      → Step s Asked answer s
  decided_by kept answer is t s stands right counted found = decided _ s answer _
      (checks_are kept t s stands right counted (kept_run name t s stands number kept found) ∙ is)

  -- ---- all checks pass

  module _ (later : Book) (difference : Difference) (t u : Tables) (s : State)
      (stands : StandsFor t s) (sound : IsSound s) (right : IsBook s name book)
      (since : book.from ≤ year_of run.payday)
      (reposts : IsLedger name book.ledger t → IsRepostedBy name book.account.form run.payday
      book.ledger later.ledger difference (with_run name number run t) u)
      (sums : AddsRun run book.ledger.sums.items later.ledger.sums.items)
      (holidays_stay : holidays_of later.ledger.years.holidays
      ≡ holidays_of book.ledger.years.holidays)
      (account_stays : later.account ≡ book.account) (year_stays : later.from ≡ book.from)
      (since_stays : later.ledger.since ≡ book.ledger.since)
      (reached : IfSome later.greatest (IsReached (greatest_known book count) number))
      (counted : CountsRuns name count t) where
    abbrev own : Entries
    own = entries_of s name

    abbrev was : IsSettled t s name
    was = stands.settled name

    abbrev known : List ℕ
    known = holidays_of book.ledger.years.holidays

    abbrev runs : List (Entry (Voidable PayRun))
    runs = with_entry s.runs name number (taken run)

    abbrev next : State
    next = with_runs s runs

    changes : ChangesRuns s name run.payday (with_run name number run t Runs) runs
    changes = run_added name number run count t s stands

    lines_are : book.ledger.years.lines.items ≡ was.lines
    lines_are = lines_of_one own book.ledger.years.lines.items was.lines (sound_once s sound name)
        right.lines was.are_lines

    form_is : book.account.form ≡ form_of own.account
    form_is = ap form_of (sym right.account)

    reposted : IsRepostedBy name (form_of own.account) run.payday book.ledger later.ledger
        difference (with_run name number run t) u
    reposted =
        subst (λ f. IsRepostedBy name f run.payday book.ledger later.ledger difference
        (with_run name number run t) u) form_is
        (reposts (record {
          lines = subst (λ ls. HasLines name ls t) (sym lines_are) (
            was.line_rows,
            was.are_lines.schedules.years,
          );
          rows = owed_between name book.ledger.since book.ledger.rows.items t s stands sound
              right.owed;
        }))

    -- the runs that are live then
    sums_then : (from to : ℕ) → year_start book.from ≤ from → to ≤ last_day
        → liability (live_sums (entries_of next name)) from to ≡ liability later.ledger.sums.items
        from to
    sums_then from to low high =
        ap (λ rs. liability (map liability_of (live rs)) from to)
        (entry_own s.runs name number (taken run))
        ∙ (live_more (filter (is_of name) s.runs) name number run from to
        ∙ (ap (λ n. n + share from to (liability_of run)) (right.sums from to low high)
        ∙ sym (sums from to)))

    sums_are : SumsAre (form_of own.account) run.payday later.ledger.sums.items
        (before t u s name run.payday _ runs stands sound changes)
        (after t u s name run.payday _ runs stands sound changes)
    sums_are w needed a b l m =
        let within = needed_within (form_of own.account) run.payday _ _ w was.are_lines.schedules
        needed in
        let low = within.0 in let high = within.1 in
        let mono = year_start-mono book.from (year_of run.payday) since in
        sums_then a b (omega arith) (omega arith)

    right_now : IsRightBy t u s name run.payday _ runs stands sound changes known
        reposted.repatches.patch
    right_now =
        reposted.repatches.right (before t u s name run.payday _ runs stands sound changes)
        (after t u s name run.payday _ runs stands sound changes)
        (change t u s name run.payday _ runs stands sound changes)
        ([], sym lines_are) sums_are

    -- the holidays of a year of the lines then are known
    known_from : (line : YearLine)
        → Has (lines_then t u s name run.payday _ runs stands sound changes) line
        → book.from ≤ line.year → AreHolidaysIn s known line.year × AreHolidaysIn s known
        (line.year + 1)
    known_from line has from =
        let c = line_before t u s name run.payday _ runs stands sound changes line has in
        let listed : Has book.ledger.years.lines.items c.0 = subst (λ ls. Has ls c.0)
        (sym lines_are) c.1 in
        subst (λ n. AreHolidaysIn s known n × AreHolidaysIn s known (n + 1)) (sym c.2)
        (right.holidays c.0 listed (subst (λ n. book.from ≤ n) c.2 from))

    known_now : AreKnown t u s name run.payday _ runs stands sound changes known
    known_now line has from = known_from line has (omega arith)

    abbrev IsRight : Patch → Type 0
    IsRight = RepairsBy (form_of own.account) run.payday later.ledger.sums.items
        book.ledger.years.lines.items known

    lines_later : later.ledger.years.lines.items ≡ lines_then t u s name run.payday _ runs stands
        sound changes
    lines_later = reposted.lines_are ∙ lines_put t u s name run.payday _ runs stands sound changes _
        known IsRight difference reposted.repatches lines_are right_now known_now

    -- the obligations from the first year on
    abbrev patch : Patch
    patch = reposted.repatches.patch

    since_patch : book.ledger.since ≤ patch.from
    since_patch =
        let low = since_year t u s name run.payday _ runs stands sound changes _ known IsRight
        difference reposted.repatches lines_are right_now known_now in
        let mono = year_start-mono book.from (year_of run.payday) since in
        let starts = right.since in
        omega arith

    owed_now : AreOwedSince book.ledger.since (holidays s) (entries_of next name)
        later.ledger.rows.items
    owed_now =
        let then = owed_then t u s name run.payday _ runs stands sound changes _ known IsRight
        difference reposted.repatches lines_are right_now known_now in
        let all : right.owed.0 ≡ was.owed = owed_one (holidays s) own right.owed.0 was.owed
        (sound_once s sound name) right.owed.1 (was.lines, was.are_lines, was.are_owed) in
        let rows : book.ledger.rows.items ≡ filter (begins_since book.ledger.since) was.owed =
        right.owed.2 ∙ ap (filter (begins_since book.ledger.since)) all in (
          then,
          (
            lines_then t u s name run.payday _ runs stands sound changes,
            are_lines t u s name run.payday _ runs stands sound changes _ known IsRight difference
                reposted.repatches lines_are right_now known_now,
            are_owed t u s name run.payday _ runs stands sound changes _ known IsRight difference
                reposted.repatches lines_are right_now known_now,
          ),
          reposted.rows_are
              ∙ (ap (λ (os : List Obligation). patched patch.from patch.to os patch.rows) rows
              ∙ sym (patched_since book.ledger.since patch.from patch.to was.owed patch.rows
              since_patch
              (come_later t u s name run.payday _ runs stands sound changes _ known IsRight
              difference reposted.repatches lines_are right_now known_now))),
        )

    right_then : IsBook next name later
    right_then = record {
      account = right.account ∙ ap Some (sym account_stays);
      lines = subst (AreLinesOf (entries_of next name)) (sym lines_later)
          (are_lines t u s name run.payday _ runs stands sound changes _ known IsRight difference
          reposted.repatches lines_are right_now known_now);
      holidays = λ line has from.
          subst (λ hs. AreHolidaysIn s hs line.year × AreHolidaysIn s hs (line.year + 1))
          (sym holidays_stay)
          (known_from line (subst (λ ls. Has ls line) lines_later has)
          (subst (λ n. n ≤ line.year) year_stays from));
      sums = λ from to low high. sums_then from to (subst (λ n. year_start n ≤ from) year_stays low)
          high;
      since = since_stays ∙ (right.since ∙ sym (ap year_start year_stays));
      owed = subst (λ n. AreOwedSince n (holidays s) (entries_of next name) later.ledger.rows.items)
          (sym since_stays) owed_now;
      numbers = greatest_then own (entries_of next name) name number (taken run)
          (greatest_known book count) later.greatest (entry_own s.runs name number (taken run))
          (greatest_right book count own (counted_runs name t s stands count counted) right.numbers)
          reached;
    }

    pub done_by : (kept : Option (Voidable PayRun))
        → checks_by name number run count book kept ≡ None → kept_at number own.runs ≡ kept
        → (after : State) × Step s Asked
        (told difference) after × StandsFor u after × IsBook after name later
    done_by kept is found = (
      next,
      passed _ s (told difference) next _ (checks_are kept t s stands right counted found ∙ is) (
        refl,
        placed_told t u s name run.payday _ runs stands sound changes _ known IsRight
            difference reposted.repatches lines_are right_now known_now,
      ),
      placed_stands t u s name run.payday _ runs stands sound changes _ known IsRight difference
          reposted.repatches lines_are right_now known_now,
      right_then,
    )

-- ---- the calls

-- where the account has so many runs, the run is posted by the book
abbrev pub PostsWhere : List ℕ → ℕ → PayRun → ℕ → Book → Book → Answer → database.State
    → database.State → Tables → Type 0
PostsWhere name number run count old new answer before after t = CountsRuns name count t
    → PostsBy name number run old new answer before after t

module _ {S : Type 0} (g : store.Ghosts S) (name : List ℕ) (number : ℕ) (run : PayRun) (count : ℕ)
    (book : Book) (kept : Option (Voidable PayRun)) where
  -- a check decides, and the book stays
  pub looked_by : (old new : Tx S) (answer : Answer) → checks_by name number run count book kept
      ≡ Some answer → Reads g old new (Ok kept) (FindsRun name number)
      → Calls g old new (Ok answer) (PostsWhere name number run count book book)
  looked_by old new answer is r = record {
    frame = goes_on g old new kept answer r.frame;
    does = λ clean t stands counted s stands_for sound right.
        let told = r.does clean t stands in (
          s,
          decided_by name number run count book kept answer is t s stands_for right counted
              told.0,
          record {
            tables = t;
            stands = subst (λ db. Stands db t) (sym told.1.0.now_is) stands;
            stands_for = stands_for;
            sound = sound;
          },
          right,
        );
  }

  -- the run is added, and the account's rows are repaired
  module _ (later : Book) (difference : Difference)
      (is : checks_by name number run count book kept ≡ None)
      (since : book.from ≤ year_of run.payday)
      (sums : AddsRun run book.ledger.sums.items later.ledger.sums.items)
      (holidays_stay : holidays_of later.ledger.years.holidays
      ≡ holidays_of book.ledger.years.holidays)
      (account_stays : later.account ≡ book.account) (year_stays : later.from ≡ book.from)
      (since_stays : later.ledger.since ≡ book.ledger.since)
      (reached : IfSome later.greatest (IsReached (greatest_known book count) number)) where
    -- what the ledger's call makes of the rows
    abbrev Reposts : Difference → Tables → Tables → Type 0
    Reposts d t u = IsLedger name book.ledger t
        → IsRepostedBy name book.account.form run.payday book.ledger later.ledger d
        (with_run name number run t) u

    -- the machine's step, where this is what is kept under the number
    added : (first last : database.State) (t u : Tables) → Reposts difference t u
        → Stands last.now u
        → ((s : State) → StandsFor t s → IsBook s name book → CountsRuns name count t
        → kept_at number (entries_of s name).runs ≡ kept)
        → PostsWhere name number run count book later (told difference) first last t
    added first last t u reposts made found counted s stands_for sound right =
        let step = done_by name number run count book later difference t u s stands_for sound right
        since reposts sums holidays_stay account_stays year_stays since_stays reached counted kept
        is (found s stands_for right counted) in (
          step.0,
          step.1,
          record {
            tables = u;
            stands = made;
            stands_for = step.2;
            sound = step_sound s (Post name number run)
                (told difference) step.0 step.1 sound;
          },
          step.3,
        )

    -- after its number was looked up
    pub added_by : (old mid new : Tx S) → Reads g old mid (Ok kept) (FindsRun name number)
        → Rewrites g mid new (Ok difference) Reposts
        → Calls g old new (Ok (told difference)) (PostsWhere name number run count book later)
    added_by old mid new r w = record {
      frame = then_goes (told difference) r.frame w.frame;
      does = λ clean t stands.
          let read = r.does (omega (arith, w.frame.crash.clean)) t stands in
          let made = w.does clean t (subst (λ db. Stands db t) (sym read.1.0.now_is) stands) in
          added (shown g old) (shown g new) t made.0 made.1 made.2.0
          (λ s stands_for right counted. kept_run name t s stands_for number kept read.0);
    }

    -- or where it is greater than those of all the account's runs
    pub added_new : (old new : Tx S) → kept ≡ None → IsAbove (greatest_known book count) number
        → Rewrites g old new (Ok difference) Reposts
        → Calls g old new (Ok (told difference)) (PostsWhere name number run count book later)
    added_new old new free above w = record {
      frame = goes_on g old new difference (told difference) w.frame;
      does = λ clean t stands.
          let made = w.does clean t stands in
          added (shown g old) (shown g new) t made.0 made.1 made.2.0
          (λ s stands_for right counted. above_free book count (entries_of s name) number
          (counted_runs name t s stands_for count counted) right.numbers above ∙ sym free);
    }
