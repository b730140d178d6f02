-- An obligation is owed for the deposit period of its first day.
use Rattle.ftd_rules.specs.declared.Form.{Form}
use Rattle.std.proofs.Common.{◌≡◌, ℕ, ◌+◌, ◌<◌, ◌≤◌, ◌↔◌, inl, inr, List, [], ◌∷◌, ap, subst, arith}
use Rattle.std.specs.List.{All}
use Rattle.ftd_days.specs.Calendar.{year_start}
use Rattle.ftd_days.specs.Business.{holidays_end}
use Rattle.ftd_rules.specs.declared.DaySum.{DaySum}
use Rattle.ftd_rules.specs.declared.Rule.{Rule}
use Rattle.ftd_rules.specs.declared.YearLine.{YearLine}
use Rattle.ftd_rules.specs.declared.Obligation.{Obligation}
use Rattle.ftd_rules.specs.Liability.{liability}
use Rattle.ftd_rules.specs.Lists.{Has}
use Rattle.ftd_rules.specs.Years.{year_last}
use Rattle.ftd_rules.specs.Private.Years.{semiweekly_from}
use Rattle.ftd_rules.specs.Private.Walk.{due_date, Periods, IsOwedAt, RowsRise, AreOwed, Divides}
use Rattle.ftd_rules.specs.Private.Walk.{periods}
use Rattle.ftd_rules.proofs.Stated.{piece_owed, owed_stated}
use Rattle.ftd_rules.proofs.DueDates.{due_is}
use Rattle.ftd_rules.proofs.Cuts.{stops_from_cuts, cuts_from_stops}
use Rattle.ftd_rules.proofs.Walk.{cuts_same, between_same}
use Rattle.ftd_rules.proofs.Owed.{rows_between, rows_end}
use Rattle.ftd_rules.proofs.Along.{liability_empty}
use Rattle.ftd_rules.proofs.Schedules.{year_divides, year_only, line_one}
use Rattle.ftd_rules.proofs.Assessing.{IsOwedIn, owed_same}
use Rattle.ftd_rules.proofs.Pieces.{IsYear, obligation_is, by_first_day}
use Rattle.ftd_rules.proofs.Covering.{line_is}
use Rattle.ftd_buckets.specs.Histories.{History, IsHistory}
use Rattle.ftd_buckets.specs.Patches.{IsOwed, AreRows}

-- rows that rise from a to b begin and end there
pub rise_within : (a b : ℕ) (rows : List Obligation) (o : Obligation) → RowsRise a b rows
    → Has rows o → (a ≤ o.first) × (o.first ≤ o.last) × (o.last < b)
rise_within a b [] o h k = absurd k
rise_within a b (x ∷ rows) o h (inl e) =
    let first : o.first ≡ x.first = ap (λ (z : Obligation). z.first) e in
    let last : o.last ≡ x.last = ap (λ (z : Obligation). z.last) e in
    let h0 = h.0 in let h1 = h.1 in let top = rows_end (x.last + 1) b rows h.2 in
    (omega arith, omega arith, omega arith)
rise_within a b (x ∷ rows) o h (inr k) =
    let r = rise_within (x.last + 1) b rows o h.2 k in
    let r0 = r.0 in let h0 = h.0 in let h1 = h.1 in
    (omega arith, r.1, r.2)

-- o is owed for the deposit period of its first day, a day of the line's year
abbrev pub IsOwedHere : (form : Form) → (Rule → ℕ → ℕ) → (ℕ → ℕ → ℕ) → YearLine → Obligation
    → Type 0
IsOwedHere form due L line o =
    (year_start line.year ≤ o.first) × (o.first ≤ year_last line.year) × IsOwedAt due L
    (periods form (semiweekly_from line)) o.first o

owed_here : (form : Form) → (due : Rule → ℕ → ℕ) (sums : List DaySum) (line : YearLine)
    (o : Obligation) → IsYear line → IsOwedIn form due (liability sums) line o
    → IsOwedHere form due (liability sums) line o
owed_here form due sums line o y h =
    let s = semiweekly_from line in
    let p = periods form s in
    let day = h.0 in
    let h1 = h.1 in let h2 = h.2 in
    let x = year_divides form line y.0 y.1 y.2 day h1 (omega arith) in
    let x0 = x.0 in let x1 = x.1 in let x2 = x.2 in let x3 = x.3 in
    let rise = rows_between due (liability sums) (p.rule day) (p.first day) (p.last day) h.3.0
    (omega arith) (liability_empty sums) h.3.1.rise in
    let w = rise_within (p.first day) (p.last day + 1) _ o rise h.3.2 in
    let w0 = w.0 in let w1 = w.1 in let w2 = w.2 in
    let same = x.4 o.first w0 (omega arith) in (
      omega arith,
      omega arith,
      (h.3.0, rw (same.0, same.1) h.3.1, rw (same.0, same.1, same.2) h.3.2),
    )

pub owed_at : (form : Form) → (h : History) (holidays : List ℕ) (o : Obligation)
    → All (λ d. d < holidays_end) holidays
    → ((line : YearLine) → Has h.lines line → IsYear line)
    → IsOwed form h holidays o ↔ ((line : YearLine) × Has h.lines line × IsOwedHere form
    (due_date holidays) (liability h.sums) line o)
owed_at form h holidays o known years =
    let e = obligation_is form h.lines h.sums holidays (due_date holidays) o (due_is holidays known)
    years in (
      (λ k. (let w = e.1 (piece_owed form h.lines h.sums holidays o k) in
          (w.0, w.1, owed_here form (due_date holidays) h.sums w.0 o (years w.0 w.1) w.2))),
      (λ w. (let w3 = w.2.1 in
          owed_stated form h.lines h.sums holidays o
          (e.0 (w.0, w.1, (o.first, w.2.0, omega arith, w.2.2))))),
    )

pub owed_is_at : (form : Form) → (h : History) (holidays : List ℕ) (o : Obligation)
    → All (λ d. d < holidays_end) holidays → IsHistory h
    → IsOwed form h holidays o ↔ ((line : YearLine) × Has h.lines line × IsOwedHere form
    (due_date holidays) (liability h.sums) line o)
owed_is_at form h holidays o known is =
    owed_at form h holidays o known (λ line k. line_is h.lines h.sums line is k)

-- it is owed wherever its deposit period and the liability there are the same
pub owed_moves : (due : Rule → ℕ → ℕ) (L M : ℕ → ℕ → ℕ) (p q : Periods) (day : ℕ) (o : Obligation)
    → p.first day ≡ q.first day → p.last day ≡ q.last day → p.rule day ≡ q.rule day
    → ((u t : ℕ) → p.first day ≤ u → t ≤ p.last day → M u t ≡ L u t) → IsOwedAt due L p day o
    → IsOwedAt due M q day o
owed_moves due L M p q day o first last rule same h =
    let cuts = cuts_same L M 0 (p.first day) (p.last day) h.0 same
    (cuts_from_stops L (p.first day) (p.last day) h.0 h.1) in
    let rows = between_same due L M (p.rule day) (p.first day) (p.last day) h.0 h.1.rise same in
    let stops = stops_from_cuts M (p.first day) (p.last day) h.0 cuts in
    (h.0, rw (← first, ← last) stops, rw (← first, ← last, ← rule) (rw rows h.2))

-- what the walk along the sums of whole deposit periods of a year answers are the obligations that
-- begin there
pub rows_are : (form : Form) → (h : History) (holidays : List ℕ) (line : YearLine)
    (sums : List DaySum) (a b : ℕ) (rows : List Obligation)
    → All (λ d. d < holidays_end) holidays → IsHistory h → Has h.lines line
    → year_start line.year ≤ a → b ≤ year_last line.year
    → Divides (periods form (semiweekly_from line)) a b
    → ((u t : ℕ) → a ≤ u → t ≤ b → liability h.sums u t ≡ liability sums u t)
    → AreOwed (due_date holidays) (liability sums) (periods form (semiweekly_from line)) a
    (b + 1) rows → AreRows form h holidays a (b + 1) rows
rows_are form h holidays line sums a b rows known is has from to divides agree owed0 =
    let due = due_date holidays in
    let p = periods form (semiweekly_from line) in
    let owed = owed_same due (liability sums) (liability h.sums) p a b rows divides agree owed0 in
    let years : (k : YearLine) → Has h.lines k → IsYear k = λ k m. line_is h.lines h.sums k is m in
    record {
      by_first_day = by_first_day a (b + 1) rows owed.rise;
      all = λ o.
          let e = obligation_is form h.lines h.sums holidays (due_date holidays) o
          (due_is holidays known) years in (
            (λ k.
                let w = (owed.all o).0 k in
                let w1 = w.1 in let w2 = w.2 in
                let r = rise_within a (b + 1) rows o owed.rise k in
                let r1 = r.1 in let r2 = r.2 in (
                  owed_stated form h.lines h.sums holidays o
                      (e.0 (line, has, (w.0, omega arith, omega arith, w.3))),
                  r.0,
                  omega arith,
                )),
            (λ k.
                let k1 = k.1 in let k2 = k.2 in
                let w = (owed_is_at form h holidays o known is).0 k.0 in
                let w2 = w.2.0 in let w3 = w.2.1 in
                let y = years w.0 w.1 in
                let z = years line has in
                let same_year = year_only w.0.year line.year o.first y.0 y.1 z.0 z.1 w2 w3
                (omega arith) (omega arith) in
                let same : w.0 ≡ line = line_one is.years.0 h.lines w.0 line is.years.2 w.1 has
                same_year in
                let at = subst (λ (k : YearLine). IsOwedAt due (liability h.sums)
                (periods form (semiweekly_from k)) o.first o) same w.2.2 in
                (owed.all o).1 (o.first, k1, k2, at)),
          );
    }
