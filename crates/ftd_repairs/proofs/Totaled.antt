-- The line of a year with another lookback total, among the account's lines and in its rows.
use Rattle.std.proofs.Common.{◌≡◌, ◌-◌, ◌++◌, ◌∷◌, ℕ, List, get_or, set, map, refl, sym, ap}
use Rattle.std.proofs.Common.{◌∙◌, subst, arith}
use Rattle.std.specs.Prelude.{filter}
use Rattle.std.specs.List.Sorted.{IsPermutation}
use Rattle.std.proofs.Math.Seq.{set-append_seam}
use Rattle.std.proofs.lemmas.List.{get_or-append_right}
use Rattle.ftd_days.specs.declared.cents.Cents.{Cents}
use Rattle.ftd_rules.specs.declared.Form.{Form}
use Rattle.ftd_rules.specs.declared.YearLine.{YearLine}
use Rattle.ftd_rules.specs.Years.{YearsFrom}
use Rattle.ftd_sql.specs.declared.TableName.TheVariants.{Years}
use Rattle.ftd_sql.specs.Standing.{Tables}
use Rattle.ftd_sql.specs.Tests.{is_year_of}
use Rattle.ftd_store.specs.Rows.{year_row}
use Rattle.ftd_store.specs.Changes.{with_year}
use Rattle.ftd_machine.specs.declared.replies.Difference.{Difference}
use Rattle.ftd_repairs.specs.Reopened.{IsAt, Retotals, lines_with}
use Rattle.ftd_repairs.specs.Reopening.{Reopens, with_total}
use Rattle.ftd_repairs.specs.Reposted.{Repatches}
use Rattle.ftd_repairs.specs.Rescheduled.{HasLines}
use Rattle.ftd_repairs.proofs.Putting.{puts_none, puts_one, years_put}

module _ (year : ℕ) (lines : List YearLine) (at : ℕ) (h : IsAt year lines at) where
  -- the line at that place
  pub line_at : (x : YearLine) → get_or lines at x ≡ h.0.line
  line_at x =
      let rest : List YearLine = h.0.line ∷ h.0.later in
      ap (λ (ls : List YearLine). get_or ls at x) h.0.cut
      ∙ get_or-append_right h.0.earlier rest at at x h.1 (omega arith)
      ∙ ap (λ (n : ℕ). get_or rest n x) (let none : at - at ≡ 0 = omega arith in none)

  -- another line is put there
  pub cut_at : (line : YearLine) → set lines at line ≡ h.0.earlier ++ line ∷ h.0.later
  cut_at line =
      ap (λ (ls : List YearLine). set ls at line) h.0.cut
      ∙ ap (λ (n : ℕ). set (h.0.earlier ++ h.0.line ∷ h.0.later) n line) (sym h.1)
      ∙ set-append_seam h.0.earlier h.0.line h.0.later line

  -- it is of the year still
  pub still_at : (total : Cents) (line : YearLine) → line ≡ with_total total h.0.line
      → IsAt year (set lines at line) at
  still_at total line is = (
    record {
      earlier = h.0.earlier;
      line = line;
      later = h.0.later;
      cut = cut_at line;
      of_year = ap (λ (l : YearLine). l.year) is ∙ h.0.of_year;
    },
    h.1,
  )

  -- the account's rows are those of the lines with it
  pub has_total : (account : List ℕ) (total : Cents) (t : Tables) → HasLines account lines t
      → HasLines account (lines_with year lines h.0 total)
      (with_year account (with_total total h.0.line) t)
  has_total account total t had =
      let line : YearLine = with_total total h.0.line in
      let years : YearsFrom had.1.0 (h.0.earlier ++ h.0.line ∷ h.0.later) =
      subst (YearsFrom had.1.0) h.0.cut had.1.2 in
      let has : IsPermutation (filter (is_year_of account) (t Years))
      (map (year_row account) (h.0.earlier ++ h.0.line ∷ h.0.later)) =
      subst (λ (ls : List YearLine). IsPermutation (filter (is_year_of account) (t Years))
      (map (year_row account) ls)) h.0.cut had.0 in
      let puts = puts_one account h.0.earlier h.0.line line h.0.later had.1.0 t t years refl
      (puts_none account (h.0.earlier ++ h.0.line ∷ h.0.later) t has) in (
        puts.has,
        (
          had.1.0,
          had.1.1,
          years_put had.1.0 h.0.earlier h.0.line line h.0.later refl
              years,
        ),
      )

  -- the line was put, and then the rows were repaired
  pub retotaled : (account : List ℕ) (form : Form) (total : Cents) (day : ℕ) (holidays : List ℕ)
      (line : YearLine) (d : Difference) (t u v : Tables)
      → line ≡ with_total total h.0.line → u ≡ with_year account line t
      → (HasLines account (set lines at line) u → Repatches account day (set lines at line)
      (λ patch. Reopens account form year (set lines at line) holidays patch u) d u v)
      → HasLines account lines t → Retotals account form day year total lines holidays d t v
  retotaled account form total day holidays line d t u v is made repairs had =
      let after : YearLine = with_total total h.0.line in
      let all : List YearLine = lines_with year lines h.0 total in
      let all_are : set lines at line ≡ all =
      cut_at line ∙ ap (λ (l : YearLine). h.0.earlier ++ l ∷ h.0.later) is in
      let changed : Tables = with_year account after t in
      let changed_is : u ≡ changed = made ∙ ap (λ (l : YearLine). with_year account l t) is in
      let there : HasLines account (set lines at line) u =
      subst (λ (ls : List YearLine). HasLines account ls u) (sym all_are)
      (subst (HasLines account all) (sym changed_is) (has_total account total t had)) in
      let repaired : Repatches account day all
      (λ patch. Reopens account form year all holidays patch u) d u v =
      subst (λ (ls : List YearLine). Repatches account day ls
      (λ patch. Reopens account form year ls holidays patch u) d u v) all_are (repairs there) in
      record {
        among = h.0;
        repatches = subst (λ (z : Tables). Repatches account day all
            (λ patch. Reopens account form year all holidays patch z) d z v) changed_is repaired;
      }
