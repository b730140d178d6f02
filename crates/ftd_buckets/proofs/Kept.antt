-- Where the line of the day's year stays, only its deposit period changes.
use Rattle.ftd_rules.specs.declared.Form.{Form}
use Rattle.std.proofs.Common.{◌≡◌, ℕ, ◌+◌, ◌<◌, ◌≤◌, inl, inr, List, ◌++◌, sym, ap, ◌∙◌, subst}
use Rattle.std.proofs.Common.{arith}
use Rattle.std.specs.List.{All}
use Rattle.std.proofs.lemmas.Bool.{cases_lt}
use Rattle.ftd_days.specs.Business.{holidays_end}
use Rattle.ftd_days.specs.Holidays.{holidays_of}
use Rattle.ftd_rules.specs.declared.DaySum.{DaySum}
use Rattle.ftd_rules.specs.declared.YearLine.{YearLine}
use Rattle.ftd_rules.specs.declared.Obligation.{Obligation}
use Rattle.ftd_rules.specs.Liability.{liability}
use Rattle.ftd_rules.specs.Lists.{Has}
use Rattle.ftd_rules.specs.Private.Years.{semiweekly_from}
use Rattle.ftd_rules.specs.Private.Walk.{due_date, AreOwed, periods, period_first, period_last}
use Rattle.ftd_rules.proofs.Schedules.{year_facts, year_start-mono, year_divides, year_only}
use Rattle.ftd_rules.proofs.Schedules.{line_one}
use Rattle.ftd_rules.proofs.Covering.{line_is}
use Rattle.ftd_buckets.specs.declared.Window.{Window}
use Rattle.ftd_buckets.specs.declared.Patch.{Patch}
use Rattle.ftd_buckets.specs.declared.state.Progress.{Progress}
use Rattle.ftd_buckets.specs.declared.state.Stage.TheVariants as stage
use Rattle.ftd_buckets.specs.Histories.{History, IsChange}
use Rattle.ftd_buckets.specs.Windows.{IsNeeded}
use Rattle.ftd_buckets.specs.Patches.{IsOwed, AreSumsOf, IsPatch}
use Rattle.ftd_buckets.specs.Ready.{repairing}
use Rattle.ftd_buckets.specs.Private.Ready.{IsWhole}
use Rattle.ftd_buckets.specs.Standing.{Stands}
use Rattle.ftd_buckets.proofs.Chain.{change_back, later_same}
use Rattle.ftd_buckets.proofs.Places.{rows_are}
use Rattle.ftd_buckets.proofs.Elsewhere.{owed_later}

-- an obligation that begins after the period stays
kept_later : (form : Form) → (day : ℕ) (g h : History) (holidays : List ℕ)
    → All (λ d. d < holidays_end) holidays → IsChange day g h → (old : YearLine) → Has g.lines old
    → Has h.lines old
    → (a b : ℕ) → IsWhole form old a b → a ≤ day → day ≤ b → (o : Obligation) → b < o.first
    → IsOwed form g holidays o → IsOwed form h holidays o
kept_later form day g h holidays known c old m n a b whole l k o past owed =
    let from = whole.from in let to = whole.to in
    owed_later form day g h holidays known c o
    (λ line has start end.
    let y = line_is g.lines g.sums line c.is_before has in
    let z = line_is g.lines g.sums old c.is_before m in
    let fy = year_facts line.year y.0 y.1 in
    let fz = year_facts old.year z.0 z.1 in
    let fy3 = fy.3 in let fz3 = fz.3 in
    let years = c.is_before.years in
    let x = year_divides form line y.0 y.1 y.2 o.first start end in
    let x0 = x.0 in let x1 = x.1 in let x2 = x.2 in
    let later : old.year ≤ line.year = elim (cases_lt line.year old.year) [
      | inr fine ↦ fine
      | inl less ↦ absurd (let mono = year_start-mono (line.year + 1) old.year (omega arith) in
          omega arith)
    ] in (
      later_same day g h c old m n (omega arith) line has later,
      elim (cases_lt old.year line.year) [
        | inl less ↦ (let mono = year_start-mono (old.year + 1) line.year (omega arith) in
            omega arith)
        | inr same ↦
            let one : line ≡ old = line_one years.0 g.lines line old years.2 has m (omega arith) in
            elim (cases_lt day (period_first form (semiweekly_from line) o.first)) [
              | inl fine ↦ fine
              | inr over ↦
                  let at_day = x.4 day over (omega arith) in
                  let last = at_day.1 in
                  let P : ℕ → Type 0 = λ s. period_last form s day ≤ b in
                  let whole_day = whole.divides day l k in
                  let ends : period_last form (semiweekly_from line) day ≤ b =
                  subst P (ap semiweekly_from (sym one)) whole_day.3 in
                  absurd (omega arith)
            ]
      ],
    )) owed

pub kept_done : (form : Form) → (day : ℕ) (holidays : List ℕ) (before after : History)
    (s : Progress)
    (sums : List DaySum) (added : List Obligation) (patch : Patch)
    → All (λ d. d < holidays_end) (holidays_of s.holidays.now)
    → (st : Stands form day holidays before after (repairing s stage.Period))
    → AreSumsOf after s.asked sums
    → IsWhole form st.old s.asked.from s.asked.to → st.new ≡ st.old
    → AreOwed (due_date (holidays_of s.holidays.now)) (liability sums)
    (periods form (semiweekly_from st.old)) s.asked.from (s.asked.to + 1) added
    → patch.from ≡ s.from → patch.to ≡ s.asked.to → patch.rows ≡ s.rows.items ++ added
    → patch.years ≡ s.years.items
    → IsPatch form day before after holidays s.asked patch
    × ((w : Window) → IsNeeded form day before after w → w.from ≤ s.asked.to)
kept_done form day holidays before after s sums added patch known0 st agree whole told owed0 from to
    rows years =
    let c = st.common.change in
    let back = change_back day before after c in
    let old = st.old in
    let known : All (λ d. d < holidays_end) holidays =
    subst (λ (z : List ℕ). All (λ d. d < holidays_end) z) st.calendar known0 in
    let m = st.common.year.is_old in
    let n : Has after.lines old = subst (λ (z : YearLine). Has after.lines z) told
    st.common.year.is_new in
    let in_year = st.at.of_day.1 in
    let a_day = st.at.asked.1 in let b_day = st.at.asked.2 in
    let owed = subst (λ (v : List ℕ). AreOwed (due_date v) (liability sums)
    (periods form (semiweekly_from old)) s.asked.from (s.asked.to + 1) added) st.calendar owed0 in
    let here = rows_are form after holidays old sums s.asked.from s.asked.to added known c.is_after
    n whole.from whole.to whole.divides agree owed in
    let empty : s.rows.items ++ added ≡ added = ap (λ z. z ++ added) st.at.rows in
    let y = line_is before.lines before.sums old c.is_before m in
    let f = year_facts old.year y.0 y.1 in
    let f3 = f.3 in
    let w_to = whole.to in
    let years_of = c.is_before.years in
    let afters = c.is_after.years in (
      record {
        period = st.common.period;
        is_period = st.common.is_period;
        from = from ∙ st.common.begins;
        to = to;
        replaces = record {
          rows = rw (from, to, rows, empty, st.at.from) here;
          years = record {
            by_year = rw years st.common.changed.by_year;
            all = λ line. (
              (λ k. (let k2 = rw years at k in let w = (st.common.changed.all line).0 k2 in
                  (w.0, w.1))),
              (λ w. rw years ((st.common.changed.all line).1 (
                w.0,
                w.1,
                elim (cases_lt line.year old.year) [
                  | inl less ↦ less
                  | inr more ↦
                      absurd (w.1 (later_same day after before back old n m in_year line w.0 more))
                ],
              ))),
            );
          };
          elsewhere = λ o out. elim out [
            | inl less ↦ st.common.earlier o (omega arith)
            | inr more ↦ (
              kept_later form day before after holidays known c old m n s.asked.from s.asked.to
                  whole
                  a_day b_day o (omega arith),
              kept_later form day after before holidays known back old n m s.asked.from s.asked.to
                  whole a_day b_day o (omega arith),
            )
          ];
        };
      },
      (λ w needed. elim needed [
        | inl first ↦ (let k = first.2.1 in omega arith)
        | inr (inl rest) ↦
            let z = line_is before.lines before.sums rest.old c.is_before rest.year.is_old in
            let same_year = year_only rest.old.year old.year day z.0 z.1 y.0 y.1 rest.of_day.0
            rest.of_day.1 st.at.of_day.0 st.at.of_day.1 in
            let one : rest.old ≡ old = line_one years_of.0 before.lines rest.old old years_of.2
            rest.year.is_old m same_year in
            let other : rest.new ≡ old = line_one afters.0 after.lines rest.new old afters.2
            rest.year.is_new n (sym rest.year.same ∙ same_year) in
            absurd (rest.differs (ap (λ (v : YearLine). v.turn) (one ∙ sym other)))
        | inr (inr later) ↦
            let z = line_is before.lines before.sums later.old c.is_before later.year.is_old in
            let past = later.later in
            let from_day = st.at.of_day.0 in
            let more : old.year ≤ later.old.year =
            elim (cases_lt later.old.year old.year) [
              | inr fine ↦ fine
              | inl less ↦ absurd (let mono = year_start-mono later.old.year old.year
                  (omega arith) in omega arith)
            ] in
            let has = later_same day before after c old m n in_year later.old later.year.is_old
            more in
            let one : later.old ≡ later.new = line_one afters.0 after.lines later.old later.new
            afters.2 has later.year.is_new later.year.same in
            absurd (later.differs (ap (λ (v : YearLine). v.opening) one))
      ]),
    )
