-- The years that open otherwise, one after the other: their obligations and their lines.
use Rattle.std.proofs.Common.{◌≡◌, ◌≢◌, ℕ, ◌+◌, ◌-◌, ◌<◌, ◌≤◌, ◌⊎◌, ◌↔◌, inl, inr, List, [], ◌∷◌}
use Rattle.std.proofs.Common.{◌++◌, refl, sym, ap, ◌∙◌, subst, arith, Bool}
use Rattle.std.specs.Prelude.{IsTrue, is_some}
use Rattle.std.specs.List.{All}
use Rattle.std.proofs.lemmas.Bool.{cases_lt}
use Rattle.ftd_days.specs.Business.{holidays_end}
use Rattle.ftd_days.specs.Calendar.{year_start}
use Rattle.ftd_rules.specs.declared.DaySum.{DaySum}
use Rattle.ftd_rules.specs.declared.Form.{Form}
use Rattle.ftd_rules.specs.declared.Kind.{Kind}
use Rattle.ftd_rules.specs.declared.Kind.TheVariants as kind
use Rattle.ftd_rules.specs.declared.Obligation.{Obligation}
use Rattle.ftd_rules.specs.declared.YearLine.{YearLine}
use Rattle.ftd_rules.specs.Liability.{liability}
use Rattle.ftd_rules.specs.Lists.{Has}
use Rattle.ftd_rules.specs.Years.{TurnedBefore, basis_of, year_last}
use Rattle.ftd_rules.specs.Private.Years.{IsScheduled, OpensBy}
use Rattle.ftd_rules.specs.Private.Walk.{due_date}
use Rattle.ftd_rules.proofs.Lines.{line_equal}
use Rattle.ftd_rules.proofs.Pieces.{IsYear}
use Rattle.ftd_rules.proofs.Schedules.{line_one, schedule_iff, schedule_same, year_divides}
use Rattle.ftd_rules.proofs.Schedules.{year_facts, year_start-mono}
use Rattle.ftd_buckets.specs.declared.Patch.{Patch}
use Rattle.ftd_buckets.specs.Histories.{History}
use Rattle.ftd_buckets.specs.Patches.{AreRows, AreSumsOf, IsOwed}
use Rattle.ftd_buckets.specs.Standing.{AreChangedBefore}
use Rattle.ftd_buckets.specs.Windows.{IsYearOf}
use Rattle.ftd_buckets.proofs.Places.{IsOwedHere, owed_at, rows_are}
use Rattle.ftd_buckets.proofs.Years.{SameAfter, all_changed, one_changed, rows_append}
use Rattle.ftd_repairs.specs.declared.reopening.Anew.{Anew}
use Rattle.ftd_repairs.specs.Anew.{AddsYear}
use Rattle.ftd_repairs.specs.Reopening.{IsReopened, IsReopening, OpensOtherwise, all_year}
use Rattle.ftd_repairs.proofs.LinesAnew.{Stays, basis_same, earlier_stay, line_after}
use Rattle.ftd_repairs.proofs.LinesAnew.{opening_same, opens_is, scheduled, stays_back, stays_of}
use Rattle.ftd_repairs.proofs.LinesAnew.{turned_back, turned_fore, year_after, year_before}

-- each year from the first up to, but without, the next one opens otherwise than before, and this
-- is known of them
pub record IsAnewTo (form : Form) (year next : ℕ) (holidays : List ℕ) (before after : History)
    (known : Anew) : Type 0 where
  pub from : year ≤ next
  pub turned_if : IsTrue known.turned → TurnedBefore after.lines next
  pub if_turned : TurnedBefore after.lines next → IsTrue known.turned
  pub rows : AreRows form after holidays (year_start year) (year_start next) known.rows.items
  pub changed : AreChangedBefore before after next known.years.items
  pub differ : (old new : YearLine) → IsYearOf before after old new → year ≤ old.year
      → old.year < next → old.opening ≢ new.opening

-- no rows begin on no days
no_rows : (form : Form) (h : History) (holidays : List ℕ) (day : ℕ)
    → AreRows form h holidays day day []
no_rows form h holidays day = record {
  by_first_day = tt;
  all = λ o. (
    (λ never. absurd never),
    (λ w. (let w1 = w.1 in let w2 = w.2 in absurd (omega arith))),
  );
}

-- a day before the first year or after the years before the next one lies in no year between them
year_apart : (line : YearLine) (year next day : ℕ) → IsYear line → year_start line.year ≤ day
    → day ≤ year_last line.year → (day < year_start year) ⊎ (year_start next ≤ day)
    → (line.year < year) ⊎ (next ≤ line.year)
year_apart line year next day y from to (inl before) =
    elim (cases_lt line.year year) [
      | inl less ↦ inl less
      | inr more ↦ (let mono = year_start-mono year line.year more in absurd (omega arith))
    ]
year_apart line year next day y from to (inr after) =
    elim (cases_lt line.year next) [
      | inr more ↦ inr more
      | inl less ↦
          (let f = year_facts line.year y.0 y.1 in
          let f3 = f.3 in
          let mono = year_start-mono (line.year + 1) next (omega arith) in absurd (omega arith))
    ]

module _ (form : Form) (year : ℕ) (holidays : List ℕ) (g h : History)
    (c : IsReopening year g h) where
  -- the line of the year after the change
  pub year_of_line : (old : YearLine) → Has g.lines old → (new : YearLine) × IsYearOf g h old new
  year_of_line old has =
      let k = line_after year g h c old has in
      (k.0, record { is_old = has; is_new = k.1; same = ap (λ (z : ℕ × ℕ × Bool). z.0) k.2 })

  -- ---- no year is read yet

  pub anew_none : (known : Anew) → 2001 ≤ year → known.rows.items ≡ [] → known.years.items ≡ []
      → IsTrue known.turned ↔ TurnedBefore g.lines year
      → IsAnewTo form year year holidays g h known
  anew_none known late rows years turned =
      let n : ℕ = year - 1 in
      let e : n + 1 ≡ year = omega arith in
      let same : Stays year g h c n = earlier_stay year g h c n (omega arith) in
      let Fore : ℕ → Type 0 = λ z. TurnedBefore g.lines z → TurnedBefore h.lines z in
      let Back : ℕ → Type 0 = λ z. TurnedBefore h.lines z → TurnedBefore g.lines z in
      let fore = subst Fore e (turned_fore year g h c n same) in
      let back = subst Back e (turned_back year g h c n same) in
      record {
        from = omega arith;
        turned_if = λ t. fore (turned.0 t);
        if_turned = λ t. turned.1 (back t);
        rows = rw rows (no_rows form h holidays (year_start year));
        changed = rw years (record {
          by_year = tt;
          all = λ line. (
            (λ never. absurd never),
            (λ w. (let w2 = w.2 in absurd (w.1 (stays_back year g h c line.year
                (earlier_stay year g h c line.year w2) line w.0 refl)))),
          );
        });
        differ = λ old new is from before. absurd (omega arith);
      }

  -- ---- one year more

  module _ (next : ℕ) (known : Anew) (anew : IsAnewTo form year next holidays g h known)
      (old new : YearLine) (is : IsYearOf g h old new) (of_year : old.year ≡ next)
      (opens : Kind)
      (told : opens ≡ kind.Semiweekly ↔ OpensBy (IsTrue known.turned) old) where
    turned_if : IsTrue known.turned → TurnedBefore h.lines old.year
    turned_if t = subst (λ z. TurnedBefore h.lines z) (sym of_year) (anew.turned_if t)

    if_turned : TurnedBefore h.lines old.year → IsTrue known.turned
    if_turned t = anew.if_turned (subst (λ z. TurnedBefore h.lines z) of_year t)

    pub opens_so : opens ≡ new.opening
    opens_so = opens_is year g h c old new known.turned opens is turned_if if_turned told

    -- it opens as before: it stays
    pub year_stays : opens ≡ old.opening → Stays year g h c next
    year_stays as_before =
        subst (Stays year g h c) of_year
        (stays_of year g h c old new is (opening_same year g h c old new is
        (sym as_before ∙ opens_so)))

    -- it opens otherwise: its rows and its line come to those of the years before
    module _ (differs : opens ≢ old.opening) where
      otherwise : old.opening ≢ new.opening
      otherwise same = differs (opens_so ∙ sym same)

      pub year_opens : OpensOtherwise year g h old new
      year_opens = record {
        of_year = is;
        from = (let from = anew.from in omega arith);
        differs = otherwise;
      }

      module _ (sums : List DaySum) (later : Anew)
          (adds : AddsYear form old holidays sums known later)
          (agree : AreSumsOf h (all_year old.year) sums)
          (calendar : All (λ d. d < holidays_end) holidays) where
        abbrev L : ℕ → ℕ → ℕ
        L = liability g.sums

        abbrev M : ℕ → ℕ → ℕ
        M = liability sums

        same_year : adds.new.year ≡ old.year
        same_year = ap (λ (z : ℕ × ℕ × Bool). z.0) adds.basis

        agree_old : (u t : ℕ) → year_start old.year ≤ u → t ≤ year_last old.year → L u t ≡ M u t
        agree_old u t a b = ap (λ s. liability s u t) (sym c.same_sums) ∙ agree u t a b

        -- the line that was made is that of the year after the change
        one : new ≡ adds.new
        one =
            let y = year_before year g h c old is.is_old in
            let f = year_facts old.year y.0 y.1 in
            let f2 = f.2 in
            let T : Type 0 = TurnedBefore h.lines old.year in
            let P : ℕ → Type 0 = λ z. (u t : ℕ) → year_start z ≤ u → t ≤ year_last z → L u t ≡ M u t
            in
            let agree_new = subst P (sym same_year) agree_old in
            let moved = schedule_same (IsTrue known.turned) M L adds.new (rw same_year (omega
            arith))
            agree_new adds.schedule in
            let mine = schedule_iff (IsTrue known.turned) T L adds.new turned_if if_turned moved in
            let Q : ℕ → Type 0 = λ z. IsScheduled (TurnedBefore h.lines z) L new in
            let theirs : IsScheduled T L new = subst Q (sym is.same) (scheduled year g h c new
            is.is_new)
            in
            let both : basis_of adds.new ≡ basis_of new = adds.basis ∙ basis_same year g h c old
            new is in
            sym (line_equal T L adds.new new both mine theirs)

        has_new : Has h.lines adds.new
        has_new = subst (λ (z : YearLine). Has h.lines z) one is.is_new

        rows_here : AreRows form h holidays (year_start old.year) (year_last old.year + 1)
            adds.added
        rows_here =
            let y = year_after year g h c adds.new has_new in
            let divides = year_divides form adds.new y.0 y.1 y.2 in
            let P : ℕ → Type 0 = λ z. (u t : ℕ) → year_start z ≤ u → t ≤ year_last z
            → liability h.sums u t ≡ M u t in
            let agree_new = subst P (sym same_year) agree in
            let here = rows_are form h holidays adds.new sums (year_start adds.new.year)
            (year_last adds.new.year) adds.added calendar c.is_after has_new (omega arith)
            (omega arith) divides agree_new adds.owed in
            let R : ℕ → Type 0 = λ z. AreRows form h holidays (year_start z) (year_last z + 1)
            adds.added
            in
            subst R same_year here

        -- and the year after it is the next one
        pub anew_more : IsAnewTo form year (next + 1) holidays g h later
        anew_more =
            let y = year_before year g h c old is.is_old in
            let f = year_facts old.year y.0 y.1 in
            let f1 = f.1 in
            let from = anew.from in
            let end : year_last old.year + 1 ≡ year_start (next + 1) = f.3 ∙ ap (λ z. year_start (z
            + 1))
            of_year in
            let mono = year_start-mono year next from in
            let start : year_start old.year ≡ year_start next = ap year_start of_year in
            let fore : AreRows form h holidays (year_start year) (year_start old.year)
            known.rows.items =
            rw (← of_year) at anew.rows in
            let rows = rows_append form h holidays (year_start year) (year_start old.year)
            (year_last old.year + 1) known.rows.items adds.added (omega arith) (omega arith) fore
            rows_here in
            let before : AreChangedBefore g h old.year known.years.items =
            subst (λ n. AreChangedBefore g h n known.years.items) (sym of_year) anew.changed in
            let changed = one_changed g h old new known.years.items c.years c.is_after.years is
            (λ same. otherwise (ap (λ (z : YearLine). z.opening) (sym same))) before in
            let changed_new : AreChangedBefore g h (old.year + 1) (known.years.items ++ (adds.new ∷
            [])) =
            subst (λ (z : YearLine). AreChangedBefore g h (old.year + 1) (known.years.items ++ (z ∷
            [])))
            one changed in
            record {
              from = omega arith;
              turned_if = λ t. (
                adds.new,
                has_new,
                (let e = same_year in omega arith),
                subst IsTrue adds.turned t,
              );
              if_turned = λ t.
                  let t2 = t.2 in
                  let afters = c.is_after.years in
                  let e = same_year in
                  let its : t.0 ≡ adds.new = line_one afters.0 h.lines t.0 adds.new afters.2 t.1
                  has_new
                  (omega arith) in
                  subst IsTrue (sym adds.turned)
                  (subst (λ (z : YearLine). IsTrue (is_some z.turn)) its t.3);
              rows = rw adds.rows (subst (λ n. AreRows form h holidays (year_start year) n
                  (known.rows.items ++ adds.added)) end rows);
              changed = rw adds.years (subst (λ n. AreChangedBefore g h (n + 1)
                  (known.years.items ++ (adds.new ∷ []))) of_year changed_new);
              differ = λ o n its low high. elim (cases_lt o.year next) [
                | inl less ↦ anew.differ o n its low less
                | inr more ↦
                    (let years = c.years in
                    let afters = c.is_after.years in
                    let here : o.year ≡ old.year = omega arith in
                    let o_is : o ≡ old = line_one years.0 g.lines o old years.2 its.is_old
                    is.is_old here
                    in
                    let n_is : n ≡ new = line_one afters.0 h.lines n new afters.2 its.is_new
                    is.is_new
                    (sym its.same ∙ (here ∙ is.same)) in
                    λ same. otherwise (ap (λ (z : YearLine). z.opening) (sym o_is)
                    ∙ (same ∙ ap (λ (z : YearLine). z.opening) n_is)))
              ];
            }

  -- ---- the years from the next one on stay

  module _ (next : ℕ) (known : Anew) (anew : IsAnewTo form year next holidays g h known)
      (stay : (n : ℕ) → next ≤ n → Stays year g h c n)
      (calendar : All (λ d. d < holidays_end) holidays) where
    -- a year of which no day is replaced stays
    outside : (n : ℕ) → (n < year) ⊎ (next ≤ n) → Stays year g h c n
    outside n (inl before) = earlier_stay year g h c n before
    outside n (inr after) = stay n after

    -- where an obligation begins on another day, it is owed by the other lines too
    owed_over : (k l : History) → ((line : YearLine) → Has k.lines line → IsYear line)
        → ((line : YearLine) → Has l.lines line → IsYear line) → k.sums ≡ l.sums
        → ((n : ℕ) → (n < year) ⊎ (next ≤ n) → (line : YearLine) → Has k.lines line
        → line.year ≡ n → Has l.lines line)
        → (o : Obligation) → (o.first < year_start year) ⊎ (year_start next ≤ o.first)
        → IsOwed form k holidays o → IsOwed form l holidays o
    owed_over k l years others same stays o apart owed =
        let w = (owed_at form k holidays o calendar years).0 owed in
        (owed_at form l holidays o calendar others).1 (
          w.0,
          stays w.0.year (year_apart w.0 year next o.first (years w.0 w.1) w.2.0 w.2.1 apart) w.0
              w.1 refl,
          subst (λ s. IsOwedHere form (due_date holidays) (liability s) w.0 o) same w.2,
        )

    owed_fore : (o : Obligation) → (o.first < year_start year) ⊎ (year_start next ≤ o.first)
        → IsOwed form g holidays o → IsOwed form h holidays o
    owed_fore = owed_over g h (year_before year g h c) (year_after year g h c) (sym c.same_sums)
        outside

    owed_back : (o : Obligation) → (o.first < year_start year) ⊎ (year_start next ≤ o.first)
        → IsOwed form h holidays o → IsOwed form g holidays o
    owed_back = owed_over h g (year_after year g h c) (year_before year g h c) c.same_sums
        (λ n out. stays_back year g h c n (outside n out))

    -- what is known makes a patch that is right
    pub anew_right : (patch : Patch) → patch.from ≡ year_start year
        → patch.to + 1 ≡ year_start next → patch.rows ≡ known.rows.items
        → patch.years ≡ known.years.items → 2001 ≤ year
        → IsReopened form year g h holidays patch
    anew_right patch from to rows years late =
        let low = anew.from in
        let mono = year_start-mono year next low in
        let last : ℕ = next - 1 in
        let e : next ≡ last + 1 = omega arith in
        let after : SameAfter h g last =
        λ line has more. stays_back year g h c line.year (stay line.year (omega arith)) line has
        refl
        in
        let side : (o : Obligation) → (o.first < patch.from) ⊎ (patch.to < o.first)
        → (o.first < year_start year) ⊎ (year_start next ≤ o.first) =
        λ o apart. elim apart [
          | inl less ↦ inl (omega arith)
          | inr more ↦ inr (omega arith)
        ] in
        record {
          from = from;
          some = omega arith;
          needed = λ old new is since ends. anew.differ old new is since
              (elim (cases_lt old.year next) [
                | inl less ↦ less
                | inr more ↦
                    (let y = year_before year g h c old is.is_old in
                    let f = year_facts old.year y.0 y.1 in
                    let f1 = f.1 in
                    let over = year_start-mono next old.year more in absurd (omega arith))
              ]);
          replaces = record {
            rows = rw (from, to, rows) anew.rows;
            years = all_changed g h last patch.years
                (rw years (subst (λ n. AreChangedBefore g h n known.years.items) e anew.changed))
                after;
            elsewhere = λ o apart. (owed_fore o (side o apart), owed_back o (side o apart));
          };
        }
