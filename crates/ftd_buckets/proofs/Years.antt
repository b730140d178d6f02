-- The years after a year whose line differs, and the windows that are needed for them.
use Rattle.ftd_rules.specs.declared.Form.{Form}
use Rattle.std.proofs.Common.{◌≡◌, ℕ, ◌+◌, ◌<◌, ◌≤◌, inl, inr, List, [], ◌∷◌, ◌++◌, refl, sym, ap}
use Rattle.std.proofs.Common.{subst, arith}
use Rattle.std.specs.List.{All}
use Rattle.std.proofs.lemmas.Bool.{cases_lt}
use Rattle.ftd_days.specs.Calendar.{year_start}
use Rattle.ftd_days.specs.Business.{holidays_end}
use Rattle.ftd_rules.specs.declared.YearLine.{YearLine}
use Rattle.ftd_rules.specs.declared.Obligation.{Obligation}
use Rattle.ftd_rules.specs.Lists.{Has}
use Rattle.ftd_rules.specs.Obligations.{ByFirstDay}
use Rattle.ftd_rules.specs.Years.{AreOpenYears, YearsFrom, year_last}
use Rattle.ftd_rules.proofs.Owed.{has_append, has_left, has_right}
use Rattle.ftd_rules.proofs.Rising.{rises_push}
use Rattle.ftd_rules.proofs.Schedules.{year_facts, year_start-mono, year_divides, years_within}
use Rattle.ftd_rules.proofs.Schedules.{line_one}
use Rattle.ftd_rules.proofs.Covering.{line_is}
use Rattle.ftd_buckets.specs.declared.Window.{Window}
use Rattle.ftd_buckets.specs.Histories.{History, IsHistory, IsChange, AreLast}
use Rattle.ftd_buckets.specs.Windows.{IsYearOf, IsNeeded}
use Rattle.ftd_buckets.specs.Patches.{IsOwed, AreRows, AreChanged}
use Rattle.ftd_buckets.specs.Standing.{AreChangedBefore}
use Rattle.ftd_buckets.proofs.Elsewhere.{owed_later}

by_first_append : (c : ℕ) (xs ys : List Obligation) → ByFirstDay xs → ByFirstDay ys
    → ((o : Obligation) → Has xs o → o.first < c) → ((o : Obligation) → Has ys o → c ≤ o.first)
    → ByFirstDay (xs ++ ys)
by_first_append c [] ys x y f g = y
by_first_append c (z ∷ xs) ys x y f g = (
  (λ o k. elim (has_append xs ys o k) [
    | inl old ↦ x.0 o old
    | inr new ↦ let a = f z (inl refl) in let b = g o new in omega arith
  ]),
  by_first_append c xs ys x.1 y (λ o k. f o (inr k)) g,
)

-- rows of days before c, and rows from c on
pub rows_append : (form : Form) → (h : History) (holidays : List ℕ) (a c b : ℕ)
    (xs ys : List Obligation) → a ≤ c → c ≤ b → AreRows form h holidays a c xs
    → AreRows form h holidays c b ys → AreRows form h holidays a b (xs ++ ys)
rows_append form h holidays a c b xs ys l m x y = record {
  by_first_day = by_first_append c xs ys x.by_first_day y.by_first_day
      (λ o k. let w = (x.all o).0 k in w.2) (λ o k. let w = (y.all o).0 k in w.1);
  all = λ o. (
    (λ k. elim (has_append xs ys o k) [
      | inl old ↦ let w = (x.all o).0 old in let w2 = w.2 in (w.0, w.1, omega arith)
      | inr new ↦ let w = (y.all o).0 new in let w1 = w.1 in (w.0, omega arith, w.2)
    ]),
    (λ w. elim (cases_lt o.first c) [
      | inl before ↦ has_left xs ys o ((x.all o).1 (w.0, w.1, before))
      | inr from ↦ has_right xs ys o ((y.all o).1 (w.0, from, w.2))
    ]),
  );
}

-- the years of a list: the last one, and the one after a line
pub last_year : (y : ℕ) (xs : List YearLine) (x : YearLine) → YearsFrom y (xs ++ (x ∷ []))
    → (other : YearLine) → Has (xs ++ (x ∷ [])) other → other.year ≤ x.year
last_year y [] x h other (inl e) = (let k : other.year ≡ x.year = ap (λ (v : YearLine). v.year) e in
    omega arith)
last_year y [] x h other (inr never) = absurd never
last_year y (z ∷ xs) x h other (inl e) =
    let k : other.year ≡ z.year = ap (λ (v : YearLine). v.year) e in
    let h0 = h.0 in
    let w = years_within (y + 1) (xs ++ (x ∷ [])) x h.1 (has_right xs (x ∷ []) x (inl refl)) in
    let w0 = w.0 in
    omega arith
last_year y (z ∷ xs) x h other (inr k) = last_year (y + 1) xs x h.1 other k

pub next_year : (y : ℕ) (xs : List YearLine) (x z : YearLine) (zs : List YearLine)
    → YearsFrom y (xs ++ (x ∷ z ∷ zs)) → z.year ≡ x.year + 1
next_year y [] x z zs h = (let h0 = h.0 in let h1 = h.1.0 in omega arith)
next_year y (w ∷ xs) x z zs h = next_year (y + 1) xs x z zs h.1

-- the lines of later years stay
abbrev pub SameAfter : History → History → ℕ → Type 0
SameAfter g h year = (line : YearLine) → Has g.lines line → year < line.year → Has h.lines line

-- where the year is the last one
pub none_after : (g h : History) (old : YearLine) → IsHistory g → AreLast g (old ∷ [])
    → SameAfter g h old.year
none_after g h old is last line has later =
    let years = is.years in
    let y = subst (λ (z : List YearLine). YearsFrom years.0 z) last.1 years.2 in
    let m = subst (λ (z : List YearLine). Has z line) last.1 has in
    absurd (let k = last_year years.0 last.0 old y line m in omega arith)

-- an obligation that begins after the year stays
pub owed_after : (form : Form) → (day : ℕ) (g h : History) (holidays : List ℕ) (year : ℕ)
    → All (λ d. d < holidays_end) holidays → IsChange day g h → 2001 ≤ year → year ≤ 2098
    → day ≤ year_last year
    → SameAfter g h year → (o : Obligation) → year_last year < o.first → IsOwed form g holidays o
    → IsOwed form h holidays o
owed_after form day g h holidays year known c l m to same o past owed =
    owed_later form day g h holidays known c o
    (λ line has from in_year.
    let y = line_is g.lines g.sums line c.is_before has in
    let f = year_facts year l m in
    let f3 = f.3 in
    let fw = year_facts line.year y.0 y.1 in
    let fw3 = fw.3 in
    let later : year < line.year = elim (cases_lt year line.year) [
      | inl less ↦ less
      | inr more ↦ absurd (let mono = year_start-mono (line.year + 1) (year + 1) (omega arith) in
          omega arith)
    ] in
    let mono = year_start-mono (year + 1) line.year (omega arith) in
    let x = year_divides form line y.0 y.1 y.2 o.first from in_year in
    let x0 = x.0 in
    (same line has later, omega arith)) owed

-- a window that is needed after the end of a year is that of a later year whose opening differs
pub needed_after : (form : Form) → (day : ℕ) (g h : History) (year : ℕ) → IsChange day g h
    → 2001 ≤ year → year ≤ 2098 → day ≤ year_last year
    → (w : Window) → IsNeeded form day g h w → year_last year < w.from
    → (old : YearLine) × (new : YearLine) × IsYearOf g h old new × (year < old.year)
    × (old.opening ≡ new.opening → ⊥) × (w.from ≡ year_start old.year)
needed_after form day g h year c l m to w (inl first) past = absurd (let k = first.2.1 in
    omega arith)
needed_after form day g h year c l m to w (inr (inl rest)) past =
    let old = rest.old in
    let y = line_is g.lines g.sums old c.is_before rest.year.is_old in
    let f = year_facts year l m in
    let f3 = f.3 in
    let fo = year_facts old.year y.0 y.1 in
    let fo3 = fo.3 in
    let from = rest.of_day.0 in
    let some = rest.some in let ends = rest.to in
    absurd (elim (cases_lt year old.year) [
      | inl less ↦ let mono = year_start-mono (year + 1) old.year (omega arith) in omega arith
      | inr more ↦ let mono = year_start-mono (old.year + 1) (year + 1) (omega arith) in omega arith
    ])
needed_after form day g h year c l m to w (inr (inr later)) past =
    let old = later.old in
    let from = later.from in
    let f = year_facts year l m in
    let f1 = f.1 in
    let less : year < old.year = elim (cases_lt year old.year) [
      | inl less ↦ less
      | inr more ↦ absurd (let mono = year_start-mono old.year year more in omega arith)
    ] in
    (old, later.new, later.year, less, later.differs, later.from)

-- so there is none where the lines of later years stay
pub none_needed : (form : Form) → (day : ℕ) (g h : History) (year : ℕ) → IsChange day g h
    → 2001 ≤ year → year ≤ 2098 → day ≤ year_last year → SameAfter g h year
    → (w : Window) → IsNeeded form day g h w → w.from ≤ year_last year
none_needed form day g h year c l m to same w needed =
    elim (cases_lt (year_last year) w.from) [
      | inr fine ↦ fine
      | inl past ↦
          let k = needed_after form day g h year c l m to w needed past in
          let years = c.is_after.years in
          let has = same k.0 k.2.is_old k.3 in
          let one : k.0 ≡ k.1 = line_one years.0 h.lines k.0 k.1 years.2 has k.2.is_new k.2.same in
          absurd (k.4 (ap (λ (z : YearLine). z.opening) one))
    ]

-- the lines that differ, once no later one does
pub all_changed : (g h : History) (year : ℕ) (lines : List YearLine)
    → AreChangedBefore g h (year + 1) lines → SameAfter h g year → AreChanged g h lines
all_changed g h year lines k same = record {
  by_year = k.by_year;
  all = λ line. (
    (λ m. let w = (k.all line).0 m in (w.0, w.1)),
    (λ w. (k.all line).1 (
      w.0,
      w.1,
      elim (cases_lt year line.year) [
        | inl later ↦ absurd (w.1 (same line w.0 later))
        | inr fine ↦ omega arith
      ],
    )),
  );
}

-- and with the year's own line, which differs
pub one_changed : (g h : History) (old new : YearLine) (lines : List YearLine)
    → AreOpenYears g.lines → AreOpenYears h.lines → IsYearOf g h old new → (new ≡ old → ⊥)
    → AreChangedBefore g h old.year lines → AreChangedBefore g h (old.year + 1)
    (lines ++ (new ∷ []))
one_changed g h old new lines years afters year differs k =
    let same = year.same in
    record {
      by_year = rises_push (λ line. line.year) lines new k.by_year
          (λ y m. let w = (k.all y).0 m in let w2 = w.2 in
          omega arith);
      all = λ line. (
        (λ m. elim (has_append lines (new ∷ []) line m) [
          | inl before ↦ let w = (k.all line).0 before in let w2 = w.2 in (w.0, w.1, omega arith)
          | inr (inl e) ↦ (
            subst (λ (z : YearLine). Has h.lines z) (sym e) year.is_new,
            (λ has.
                let has_new = subst (λ (z : YearLine). Has g.lines z) e has in
                differs (line_one years.0 g.lines new old years.2 has_new year.is_old (sym same))),
            (let y : line.year ≡ new.year = ap (λ (z : YearLine). z.year) e in omega arith),
          )
          | inr (inr never) ↦ absurd never
        ]),
        (λ w. elim (cases_lt line.year old.year) [
          | inl less ↦ has_left lines (new ∷ []) line ((k.all line).1 (w.0, w.1, less))
          | inr more ↦
              let w2 = w.2 in
              let e : line ≡ new = line_one afters.0 h.lines line new afters.2 w.0 year.is_new
              (omega arith) in
              has_right lines (new ∷ []) line (inl e)
        ]),
      );
    }
