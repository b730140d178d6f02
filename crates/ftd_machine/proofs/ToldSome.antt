-- The schedule of a day, the liability by day and the opening of a year have an answer.
use Rattle.std.proofs.Common.{◌≡◌, ◌∙◌, ◌⊎◌, inl, inr, refl, sym, ap, subst, ℕ, ◌+◌, ◌-◌, ◌≤◌, ◌<◌}
use Rattle.std.proofs.Common.{rules, Bool, true, false, cond}
use Rattle.std.proofs.Common.{List, [], ◌∷◌, ◌++◌, map, arith, Option, None, Some}
use Rattle.std.specs.Prelude.{◌↔◌, zero, suc, is_some, find, option_map, IsSome, IsSomeAnd}
use Rattle.std.proofs.lemmas.Bool.{eqb-true, false≢true, cases_Bool, cases_lt}
use Rattle.std.proofs.lemmas.Bool.Decides.{eqb_tells}
use Rattle.ftd_days.specs.Calendar.{year_of, quarter_of, quarter_start}
use Rattle.ftd_days.specs.declared.cents.Cents.{Cents}
use Rattle.ftd_rules.specs.declared.Form.{Form}
use Rattle.ftd_rules.specs.declared.Form.TheVariants.{F941, F943}
use Rattle.ftd_rules.specs.declared.Kind.{Kind}
use Rattle.ftd_rules.specs.declared.Kind.TheVariants as kind
use Rattle.ftd_rules.specs.declared.DaySum.{DaySum}
use Rattle.ftd_rules.specs.declared.YearLine.{YearLine}
use Rattle.ftd_rules.specs.Lists.{Has, KeysRise}
use Rattle.ftd_rules.specs.Liability.{liability}
use Rattle.ftd_rules.specs.Lookback.{Counts, IsMissing, IsFirstMissing, IsLookback, lookback_first}
use Rattle.ftd_rules.specs.Years.{HasStatusOn, IsSemiweeklyOn}
use Rattle.ftd_rules.proofs.Schedules.{cases_turn}
use Rattle.ftd_rules.proofs.Walk.{share_before}
use Rattle.ftd_rules.proofs.Owed.{has_left, has_right}
use Rattle.ftd_rules.proofs.Members.{has_last}
use Rattle.ftd_rules.proofs.Stated.{cases_kind}
use Rattle.ftd_rules.proofs.Figures.{counts_not_missing}
use Rattle.ftd_days.specs.Calendar.{year_start}
use Rattle.ftd_machine.specs.State.{Entries, Entry, kept_at, content_of, has_key, is_open}
use Rattle.ftd_machine.specs.History.{start_of, quarter_figures, year_figures, live_sums}
use Rattle.ftd_machine.specs.History.{IsLookbackOn, IsMissingOn}
use Rattle.ftd_machine.specs.History.{year_of_line, year_of_entry, AreLinesOf}
use Rattle.ftd_machine.specs.Checks.{Answer}
use Rattle.ftd_machine.specs.Asking.{IsTurnBefore, HasNoTurnBefore, IsReason, IsStatus, day_of_sum}
use Rattle.ftd_machine.specs.Asking.{IsScheduleB}
use Rattle.ftd_machine.specs.declared.replies.Reason.{Reason}
use Rattle.ftd_machine.specs.declared.replies.Reason.TheVariants as reason
use Rattle.ftd_machine.specs.Told.{days_answer, status_answer}
use Rattle.ftd_machine.specs.declared.replies.Refusal.{Refusal}
use Rattle.ftd_machine.specs.declared.replies.Refusal.TheVariants.{QuarterMissing, YearMissing}
use Rattle.ftd_machine.proofs.Totals.{total_of}

-- ---- the lookback period: a total, or a figure that is missing

figure_or : (reported : List (ℕ × Cents)) (key : ℕ)
    → ((amount : Cents) × Has reported (key, amount))
    ⊎ ((amount : Cents) → Has reported (key, amount) → ⊥)
figure_or [] key = inr (λ amount h. h)
figure_or (x ∷ rest) key = elim (eqb_tells x.0 key) [
  | inl same ↦ inl (x.1, inl (rw (sym same.1) refl))
  | inr apart ↦ elim (figure_or rest key) [
    | inl found ↦ inl (found.0, inr found.1)
    | inr none ↦ inr (λ amount h. elim h [
      | inl is ↦ apart.1 (ap (λ (p : ℕ × Cents). p.0) (sym is))
      | inr has ↦ none amount has
    ])
  ]
]

counts_or : (reported : List (ℕ × Cents)) (start quarter : ℕ)
    → ((amount : Cents) × Counts reported start quarter amount) ⊎ IsMissing reported start quarter
counts_or reported start quarter = elim (cases_lt start (quarter_start (quarter + 1))) [
  | inr early ↦ inl (record { 0 = 0 }, inl (early, refl))
  | inl late ↦ elim (figure_or reported quarter) [
    | inl found ↦ inl (found.0, inr (late, found.1))
    | inr none ↦ inr (late, none)
  ]
]

first_or : (reported : List (ℕ × Cents)) (start year : ℕ)
    → ((q : ℕ) × IsFirstMissing reported start year q)
    ⊎ ((total : ℕ) × IsLookback reported start year total)
first_or reported start year =
    let b = lookback_first year in
    let not_at : (q : ℕ) → ((amount : Cents) × Counts reported start q amount) → (e : ℕ) → e ≡ q
    → IsMissing reported start e → ⊥ = λ q c e is m.
    counts_not_missing reported start q c.0 c.1 (subst (IsMissing reported start) is m) in
    elim (counts_or reported start b) [
      | inr gap ↦ inl (b, (inl refl, gap, λ e h less m. omega arith))
      | inl c0 ↦ elim (counts_or reported start (b + 1)) [
        | inr gap ↦ inl (b + 1, (inr (inl refl), gap, λ e h less m. not_at b c0 e (omega arith) m))
        | inl c1 ↦ elim (counts_or reported start (b + 2)) [
          | inr gap ↦ inl (
            b + 2,
            (
              inr (inr (inl refl)),
              gap,
              λ e h less m. elim h [
                | inl is ↦ not_at b c0 e is m
                | inr later ↦ not_at (b + 1) c1 e (omega arith) m
              ],
            ),
          )
          | inl c2 ↦ elim (counts_or reported start (b + 3)) [
            | inr gap ↦ inl (
              b + 3,
              (
                inr (inr (inr (inl refl))),
                gap,
                λ e h less m. elim h [
                  | inl is ↦ not_at b c0 e is m
                  | inr (inl is) ↦ not_at (b + 1) c1 e is m
                  | inr (inr later) ↦ not_at (b + 2) c2 e (omega arith) m
                ],
              ),
            )
            | inl c3 ↦ inr (
              c0.0.0 + c1.0.0 + c2.0.0 + c3.0.0,
              total_of reported start year c0 c1 c2 c3,
            )
          ]
        ]
      ]
    ]

pub total_or : (form : Form) (own : Entries) (year : ℕ)
    → ((refusal : Refusal) × IsMissingOn form own year refusal)
    ⊎ ((total : Cents) × IsLookbackOn form own year total)
total_or F941 own year = elim (first_or (quarter_figures own) (start_of own.account) year) [
  | inl gap ↦ inl (QuarterMissing gap.0, (gap.0, gap.1, refl))
  | inr is ↦ inr (record { 0 = is.0 }, is.1)
]
total_or F943 own year = elim (cases_lt (start_of own.account) (year_start (year - 1))) [
  | inr early ↦ inr (record { 0 = 0 }, inl (early, refl))
  | inl late ↦ elim (figure_or (year_figures own) (year - 2)) [
    | inl found ↦ inr (found.0, inr (late, found.1))
    | inr none ↦ inl (YearMissing (year - 2), (year - 2, (refl, late, none), refl))
  ]
]

-- ---- the line of an open year

open_has : (es : List (Entry (Unit {0}))) (year : ℕ) → is_some (kept_at year es) ≡ true
    → (e : Entry (Unit {0})) × Has es e × (e.key ≡ year)
open_has [] year h = absurd cc
open_has (e ∷ es) year h = go (has_key year e) refl h (open_has es year)
  where
    go : (b : Bool) → has_key year e ≡ b
        → is_some (option_map content_of (cond b (Some e) (find (has_key year) es))) ≡ true
        → (is_some (kept_at year es) ≡ true → (e : Entry (Unit {0})) × Has es e × (e.key ≡ year))
        → (x : Entry (Unit {0})) × Has (e ∷ es) x × (x.key ≡ year)
    go true is k more = (e, inl refl, eqb-true e.key year is)
    go false is k more = let rest = more k in (rest.0, inr rest.1, rest.2)

line_at : (lines : List YearLine) (es : List (Entry (Unit {0}))) (e : Entry (Unit {0}))
    → map year_of_line lines ≡ map year_of_entry es → Has es e
    → (line : YearLine) × Has lines line × (line.year ≡ e.key)
line_at lines [] e same h = absurd h
line_at [] (x ∷ es) e same h = absurd cc
line_at (line ∷ lines) (x ∷ es) e same (inl is) =
    let year : line.year ≡ x.key = cc in
    (line, inl refl, year ∙ ap (λ (e : Entry (Unit {0})). e.key) (sym is))
line_at (line ∷ lines) (x ∷ es) e same (inr h) =
    let tail : map year_of_line lines ≡ map year_of_entry es = cc in
    let rest = line_at lines es e tail h in (rest.0, inr rest.1, rest.2)

pub line_of_year : (own : Entries) (lines : List YearLine) (year : ℕ) → AreLinesOf own lines
    → is_open own year ≡ true → (line : YearLine) × Has lines line × (line.year ≡ year)
line_of_year own lines year h there =
    let e = open_has own.open_years year there in
    let line = line_at lines own.open_years e.0 h.years e.1 in
    (line.0, line.1, line.2 ∙ e.2)

-- ---- the status and why

status_or : (line : YearLine) (day : ℕ) → IsSemiweeklyOn line day ⊎ (IsSemiweeklyOn line day → ⊥)
status_or line day = elim (cases_kind line.opening) [
  | inl opens ↦ inl (inl opens)
  | inr monthly ↦ elim (cases_turn line.turn) [
    | inl none ↦ inr (λ h. elim h [
      | inl opens ↦ not_both line.opening opens monthly
      | inr turned ↦ turned_none line.turn none turned
    ])
    | inr turn ↦ elim (cases_lt turn.0 day) [
      | inl past ↦ inl (inr (rw (turn.1) past))
      | inr not ↦ inr (λ h. elim h [
        | inl opens ↦ not_both line.opening opens monthly
        | inr turned ↦ turned_late line.turn turn.0 turn.1 not turned
      ])
    ]
  ]
]
  where
    not_both : (k : Kind) → k ≡ kind.Semiweekly → k ≡ kind.Monthly → ⊥
    not_both kind.Monthly e f = absurd cc
    not_both kind.Semiweekly e f = absurd cc

    turned_none : (o : Option ℕ) → o ≡ None → IsSomeAnd o (λ turn. turn < day) → ⊥
    turned_none None e h = h
    turned_none (Some t) e h = absurd cc

    turned_late : (o : Option ℕ) (t : ℕ) → o ≡ Some t → day ≤ t → IsSomeAnd o (λ turn. turn < day)
        → ⊥
    turned_late None t e l h = h
    turned_late (Some u) t e l h = let same : u ≡ t = cc in omega arith

before_or : (lines all : List YearLine) (line : YearLine)
    → ((x : YearLine) → Has lines x → Has all x)
    → ((turn : ℕ) × IsTurnBefore all line turn)
    ⊎ ((x : YearLine) → Has lines x → x.year + 1 ≡ line.year → (turn : ℕ) → x.turn ≡ Some turn → ⊥)
before_or [] all line sub = inr (λ x h e turn is. h)
before_or (x ∷ lines) all line sub = elim (before_or lines all line (λ y h. sub y (inr h))) [
  | inl found ↦ inl found
  | inr none ↦ elim (eqb_tells (x.year + 1) line.year) [
    | inr apart ↦ inr (λ y h e turn is. elim h [
      | inl same ↦ apart.1 (ap (λ (l : YearLine). l.year + 1) (sym same) ∙ e)
      | inr has ↦ none y has e turn is
    ])
    | inl next ↦ elim (cases_turn x.turn) [
      | inr turn ↦ inl (turn.0, (x, sub x (inl refl), next.1, turn.1))
      | inl empty ↦ inr (λ y h e turn is. elim h [
        | inl same ↦ apart_none x.turn empty turn (ap (λ (l : YearLine). l.turn) (sym same) ∙ is)
        | inr has ↦ none y has e turn is
      ])
    ]
  ]
]
  where
    apart_none : (o : Option ℕ) → o ≡ None → (t : ℕ) → o ≡ Some t → ⊥
    apart_none None e t f = absurd cc
    apart_none (Some u) e t f = absurd cc

some_is : (o : Option ℕ) → IsSome o → (t : ℕ) × (o ≡ Some t)
some_is None h = absurd (false≢true h)
some_is (Some t) h = (t, refl)

reason_some : (own : Entries) (lines : List YearLine) (line : YearLine) (day : ℕ) (status : Kind)
    → AreLinesOf own lines → Has lines line → HasStatusOn line day status
    → (why : Reason) × IsReason lines line status why
reason_some own lines line day kind.Monthly h has is = (reason.Lookback, tt)
reason_some own lines line day kind.Semiweekly h has is =
    elim (cases_lt 5_000_000 line.lookback.0) [
      | inl more ↦ (reason.Lookback, more)
      | inr small ↦ elim (before_or lines lines line (λ x k. k)) [
        | inl turn ↦ (reason.Turned turn.0, ((λ l. omega arith), inl turn.1))
        | inr none ↦
            let no_turn : HasNoTurnBefore lines line = λ turn b. none b.0 b.1 b.2 turn b.3 in
            elim (cases_Bool line.carried) [
              | inl carried ↦ (reason.Carried, ((λ l. omega arith), no_turn, carried))
              | inr not ↦
                  let turn : (t : ℕ) × (line.turn ≡ Some t) = elim is [
                    | inr turned ↦ turn_in line.turn turned
                    | inl opens ↦ absurd (elim (h.schedules.schedules line has) [
                      | inr monthly ↦ not_both line.opening opens monthly.0
                      | inl semi ↦ elim semi.1 [
                        | inl more ↦ omega arith
                        | inr (inl carried) ↦ false≢true (sym not ∙ carried)
                        | inr (inr before) ↦ (let t = some_is before.0.turn before.3 in
                            none before.0 before.1 before.2 t.0 t.1)
                      ]
                    ])
                  ] in
                  (reason.Turned turn.0, ((λ l. omega arith), inr (no_turn, not, turn.1)))
            ]
      ]
    ]
  where
    turn_in : (o : Option ℕ) → IsSomeAnd o (λ turn. turn < day) → (t : ℕ) × (o ≡ Some t)
    turn_in None k = absurd k
    turn_in (Some t) k = (t, refl)

    not_both : (k : Kind) → k ≡ kind.Semiweekly → k ≡ kind.Monthly → ⊥
    not_both kind.Monthly e f = absurd cc
    not_both kind.Semiweekly e f = absurd cc

pub status_on_line : (own : Entries) (lines : List YearLine) (line : YearLine) (day : ℕ)
    → AreLinesOf own lines → Has lines line → line.year ≡ year_of day
    → (answer : Answer) × IsStatus own day answer
status_on_line own lines line day h has of_day =
    let status : (status : Kind) × HasStatusOn line day status =
    elim (status_or line day) [
      | inl is ↦ (kind.Semiweekly, is)
      | inr not ↦ (kind.Monthly, not)
    ] in
    let why = reason_some own lines line day status.0 h has status.1 in (
      status_answer day status.0 why.0,
      search rules,
    )

pub status_some : (own : Entries) (lines : List YearLine) (day : ℕ) → AreLinesOf own lines
    → is_open own (year_of day) ≡ true → (answer : Answer) × IsStatus own day answer
status_some own lines day h there =
    let line = line_of_year own lines (year_of day) h there in
    status_on_line own lines line.0 day h line.1 line.2

-- ---- the liability of a quarter by day

-- what the days before `end` owe that lie in the quarter
days_below : (sums : List DaySum) (quarter end : ℕ) → (xs : List DaySum) × KeysRise day_of_sum xs
    × ((x : DaySum) → Has xs x ↔ ((x.day < end) × (quarter_of x.day ≡ quarter)
    × (x.cents.0 ≡ liability sums x.day x.day) × (0 < x.cents.0)))
days_below sums quarter zero =
    ([], tt, λ x. ((λ h. absurd h), (λ h. absurd (let l = h.0 in omega arith))))
days_below sums quarter (suc n) =
    let rest = days_below sums quarter n in
    let without : ((quarter_of n ≡ quarter) × (0 < liability sums n n) → ⊥) → (xs : List DaySum)
    × KeysRise day_of_sum xs
    × ((x : DaySum) → Has xs x ↔ ((x.day < suc n) × (quarter_of x.day ≡ quarter)
    × (x.cents.0 ≡ liability sums x.day x.day) × (0 < x.cents.0))) = λ none. (
      rest.0,
      rest.1,
      λ x. (
        (λ h. (let k = (rest.2 x).0 h in let l = k.0 in (omega arith, k.1, k.2, k.3))),
        (λ h. elim (eqb_tells x.day n) [
          | inl same ↦ absurd (none (
            subst (λ d. quarter_of d ≡ quarter) same.1 h.1,
            subst (λ d. 0 < liability sums d d) same.1 (let e = h.2 in let p = h.3 in omega arith),
          ))
          | inr apart ↦ (rest.2 x).1 (below x.day n h.0 apart.1, h.1, h.2, h.3)
        ]),
      ),
    ) in
    elim (eqb_tells (quarter_of n) quarter) [
      | inr apart ↦ without (λ h. apart.1 h.0)
      | inl here ↦ elim (cases_lt 0 (liability sums n n)) [
        | inr none ↦ without (λ h. let l = h.1 in omega arith)
        | inl some ↦
            let x : DaySum = record { day = n; cents = record { 0 = liability sums n n } } in (
              rest.0 ++ x ∷ [],
              rise_more rest.0 x rest.1 (λ y h. ((rest.2 y).0 h).0),
              λ y. (
                (λ h. elim (has_last rest.0 x y h) [
                  | inl k ↦ (let m = (rest.2 y).0 k in let l = m.0 in (omega arith, m.1, m.2, m.3))
                  | inr is ↦ subst (λ (z : DaySum). (z.day < suc n) × (quarter_of z.day ≡ quarter)
                      × (z.cents.0 ≡ liability sums z.day z.day) × (0 < z.cents.0)) (sym is)
                      (omega arith, here.1, refl, some)
                ]),
                (λ h. elim (eqb_tells y.day n) [
                  | inl same ↦ has_right rest.0 (x ∷ []) y (inl (
                      let amount : y.cents.0 ≡ liability sums n n =
                      h.2 ∙ ap (λ d. liability sums d d) same.1 in
                      rw (same.1, amount) refl))
                  | inr apart ↦ has_left rest.0 (x ∷ []) y
                      ((rest.2 y).1 (below y.day n h.0 apart.1, h.1, h.2, h.3))
                ]),
              ),
            )
      ]
    ]
  where
    below : (d n : ℕ) → d < suc n → (d ≡ n → ⊥) → d < n
    below d n l apart = omega arith

    rise_more : (xs : List DaySum) (x : DaySum) → KeysRise day_of_sum xs
        → ((y : DaySum) → Has xs y → y.day < x.day) → KeysRise day_of_sum (xs ++ x ∷ [])
    rise_more [] x h f = ((λ later k. absurd k), tt)
    rise_more (z ∷ xs) x h f = (
      (λ later k. elim (has_last xs x later k) [
        | inl l ↦ h.0 later l
        | inr is ↦ (let d : later.day ≡ x.day = ap (λ (y : DaySum). y.day) is in
            let l = f z (inl refl) in omega arith)
      ]),
      rise_more xs x h.1 (λ y k. f y (inr k)),
    )

-- no liability after all days of the sums
top : List DaySum → ℕ
top [] = 0
top (s ∷ sums) = s.day + 1 + top sums

none_after : (sums : List DaySum) (day : ℕ) → top sums ≤ day → liability sums day day ≡ 0
unfolding top
none_after [] day l = refl
none_after (s ∷ sums) day l =
    let l2 : s.day + 1 + top sums ≤ day = l in
    let rest = none_after sums day (omega arith) in
    let share = share_before s day day (omega arith) in
    rw (share, rest) refl

pub schedule_some : (own : Entries) (name : List ℕ) (quarter : ℕ) → (answer : Answer)
    × IsScheduleB own name quarter answer
schedule_some own name quarter =
    let sums = live_sums own in
    let found = days_below sums quarter (top sums) in (
      days_answer name quarter found.0,
      record {
        listed = found.0;
        by_day = found.1;
        all = λ x. (
          (λ h. (let k = (found.2 x).0 h in (k.1, k.2, k.3))),
          (λ h. (found.2 x).1 (
            elim (cases_lt x.day (top sums)) [
              | inl early ↦ early
              | inr late ↦ absurd (let e = none_after sums x.day late in let f = h.1 in
                  let p = h.2 in omega arith)
            ],
            h.0,
            h.1,
            h.2,
          )),
        );
        told = refl;
      },
    )
