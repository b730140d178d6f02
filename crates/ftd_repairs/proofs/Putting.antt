-- A patch is put line by line.
use Rattle.std.proofs.Common.{◌≡◌, ℕ, ◌+◌, ◌<◌, inl, inr, List, [], ◌∷◌, ◌++◌, append_assoc}
use Rattle.std.proofs.Common.{append-nil, take, drop, set, length, get_or, map, refl, sym, ap, ◌∙◌}
use Rattle.std.proofs.Common.{subst, arith}
use Rattle.std.proofs.Math.Seq.{set-append_seam}
use Rattle.std.proofs.lemmas.List.{get_or-append_right, get_or-drop, length-take-le}
use Rattle.std.specs.Prelude.{filter}
use Rattle.std.specs.List.Sorted.{IsPermutation}
use Rattle.ftd_rules.specs.declared.YearLine.{YearLine}
use Rattle.ftd_rules.specs.Years.{YearsFrom}
use Rattle.ftd_rules.proofs.Items.{drop_item}
use Rattle.ftd_buckets.specs.declared.Patch.{Patch}
use Rattle.ftd_sql.specs.declared.TableName.TheVariants.{Years}
use Rattle.ftd_sql.specs.Rows.{YearRow}
use Rattle.ftd_sql.specs.Standing.{Tables, with_rows}
use Rattle.ftd_sql.proofs.OneOfAll.{set_twice, set_own}
use Rattle.ftd_sql.specs.Tests.{is_year_of}
use Rattle.ftd_store.specs.Rows.{year_row}
use Rattle.ftd_store.specs.Changes.{with_year}
use Rattle.ftd_repairs.specs.Rescheduled.{IsAfter, IsRescheduled, IsUnnamed, AreAfter, HasLines}
use Rattle.ftd_repairs.specs.Rescheduled.{PutsLines, PutsRows, PutsPatch, PutsInto}
use Rattle.ftd_store.proofs.Items.{taken, pairs_more, pairs_length}
use Rattle.ftd_repairs.proofs.YearRows.{put, put_has, put_others}

-- ---- lines one after the other

-- nothing is put yet
pub puts_none : (account : List ℕ) (lines : List YearLine) (t : Tables)
    → IsPermutation (filter (is_year_of account) (t Years)) (map (year_row account) lines)
    → PutsLines account lines t t
puts_none account lines t has = record {
  has = has;
  others = λ other apart. refl;
  only = set_own Years (t Years) t refl;
}

-- one line is put in the place of another one of its year
pub puts_one : (account : List ℕ) (xs : List YearLine) (b line : YearLine) (ys : List YearLine)
    (first : ℕ) (base t : Tables) → YearsFrom first (xs ++ b ∷ ys) → b.year ≡ line.year
    → PutsLines account (xs ++ b ∷ ys) base t → PutsLines account (xs ++ line ∷ ys) base
    (with_year account line t)
puts_one account xs b line ys first base t years year h =
    let rows : List YearRow = put account line (t Years) in record {
      has = put_has account (t Years) xs b line ys first years year h.has;
      others = λ other apart. put_others account other (t Years) xs b line ys apart year h.has
          ∙ h.others other apart;
      only = λ n.
          (let same : t ≡ with_rows Years (t Years) base = λ i m. h.only m i in
          ap (λ (u : Tables). with_rows Years rows u n) same
          ∙ set_twice Years (t Years) rows base n);
    }

-- a line with its own year and another schedule keeps the years in turn
pub years_put : (first : ℕ) (xs : List YearLine) (b line : YearLine) (ys : List YearLine)
    → b.year ≡ line.year → YearsFrom first (xs ++ b ∷ ys) → YearsFrom first (xs ++ line ∷ ys)
years_put first [] b line ys same years = (sym same ∙ years.0, years.1)
years_put first (x ∷ xs) b line ys same years =
    (years.0, years_put (first + 1) xs b line ys same years.1)

-- what is put has the year of the line that was there
same_year : (changed : List YearLine) (line after : YearLine) → IsAfter changed line after
    → after.year ≡ line.year
same_year changed line after (inl (other, has, same, is)) = ap (λ (z : YearLine). z.year) is
same_year changed line after (inr (is, none)) = ap (λ (z : YearLine). z.year) is

pub years_after : (year : ℕ) (changed lines after : List YearLine) → AreAfter lines changed after
    → YearsFrom year lines → YearsFrom year after
years_after year changed [] [] are years = years
years_after year changed [] (z ∷ after) are years = absurd are
years_after year changed (line ∷ lines) [] are years = absurd are
years_after year changed (line ∷ lines) (z ∷ after) are years = (
  same_year changed line z are.0 ∙ years.0,
  years_after (year + 1) changed lines after are.1 years.1,
)

-- the patch is put as far as the first lines: they are so now, those after them as they were
pub record PutSoFar (account : List ℕ) (lines : List YearLine) (patch : Patch) (i : ℕ)
    (now : List YearLine) (old new : Tables) : Type 0 where
  pub placed : Tables
  pub rows : PutsRows account patch old placed
  pub front : List YearLine
  pub are_after : AreAfter (take i lines) patch.years front
  pub now_is : now ≡ front ++ drop i lines
  pub first : ℕ
  pub years : YearsFrom first now
  pub puts : PutsLines account now placed new

pub put_none : (account : List ℕ) (lines : List YearLine) (patch : Patch) (t u : Tables)
    → PutsRows account patch t u → HasLines account lines t
    → PutSoFar account lines patch 0 lines t u
put_none account lines patch t u rows had = record {
  placed = u;
  rows = rows;
  front = [];
  are_after = tt;
  now_is = refl;
  first = had.1.0;
  years = had.1.2;
  puts = puts_none account lines u
      (subst (λ (years : List YearRow). IsPermutation (filter (is_year_of account) years)
      (map (year_row account) lines)) (sym (rows.only Years)) had.0);
}

-- the lines that are put are as many as were gone through
put_count : (account : List ℕ) (lines : List YearLine) (patch : Patch) (i : ℕ) (now : List YearLine)
    (t u : Tables) → i < length lines → (h : PutSoFar account lines patch i now t u)
    → length h.front ≡ i
put_count account lines patch i now t u some h =
    sym (pairs_length (IsAfter patch.years) (take i lines) h.front h.are_after)
    ∙ length-take-le i lines (omega arith)

-- the next line is as it was
put_next : (account : List ℕ) (lines : List YearLine) (patch : Patch) (i : ℕ) (now : List YearLine)
    (x : YearLine) (t u : Tables) → i < length lines → x ≡ get_or now i x
    → PutSoFar account lines patch i now t u → x ≡ get_or lines i x
put_next account lines patch i now x t u some is h =
    let count = put_count account lines patch i now t u some h in
    is ∙ (ap (λ (ls : List YearLine). get_or ls i x) h.now_is
    ∙ (get_or-append_right h.front (drop i lines) i i x count (omega arith)
    ∙ (ap (λ (n : ℕ). get_or (drop i lines) n x) (omega arith)
    ∙ (get_or-drop i lines 0 x ∙ ap (λ (n : ℕ). get_or lines n x) (omega arith)))))

-- of one line more, the one that is put after it
front_more : (lines : List YearLine) (patch : Patch) (i : ℕ) (x after : YearLine)
    (front : List YearLine) → i < length lines → x ≡ get_or lines i x
    → IsAfter patch.years x after → AreAfter (take i lines) patch.years front
    → AreAfter (take (i + 1) lines) patch.years (front ++ after ∷ [])
front_more lines patch i x after front some is so are =
    subst (λ (ls : List YearLine). AreAfter ls patch.years (front ++ after ∷ []))
    (sym (taken lines i x some is))
    (pairs_more (IsAfter patch.years) (take i lines) front x after are so)

-- one line more, which is put
pub put_more : (account : List ℕ) (lines : List YearLine) (patch : Patch) (i : ℕ)
    (now : List YearLine) (x after : YearLine) (t u : Tables) → i < length lines
    → x ≡ get_or now i x → IsRescheduled patch.years x after
    → PutSoFar account lines patch i now t u → PutSoFar account lines patch (i + 1)
    (set now i after) t (with_year account after u)
put_more account lines patch i now x after t u some here scheduled h =
    let is = put_next account lines patch i now x t u some here h in
    let rest : List YearLine = drop (i + 1) lines in
    let cut : now ≡ h.front ++ x ∷ rest = h.now_is ∙ ap (λ (ls : List YearLine). h.front ++ ls)
    (drop_item lines i x is some) in
    let same : x.year ≡ after.year = sym (ap (λ (l : YearLine). l.year) scheduled.3) in
    let base : Tables = h.placed in
    let years : YearsFrom h.first (h.front ++ x ∷ rest) = subst (YearsFrom h.first) cut h.years in
    let puts : PutsLines account (h.front ++ x ∷ rest) base u =
    subst (λ (ls : List YearLine). PutsLines account ls base u) cut h.puts in
    let count : length h.front ≡ i = put_count account lines patch i now t u some h in
    let written : set now i after ≡ h.front ++ after ∷ rest =
    ap (λ (ls : List YearLine). set ls i after) cut
    ∙ (ap (λ (n : ℕ). set (h.front ++ x ∷ rest) n after) (sym count)
    ∙ set-append_seam h.front x rest after) in
    record {
      placed = h.placed;
      rows = h.rows;
      front = h.front ++ after ∷ [];
      are_after = front_more lines patch i x after h.front some is (inl scheduled) h.are_after;
      now_is = written ∙ sym (append_assoc h.front (after ∷ []) rest);
      first = h.first;
      years = subst (YearsFrom h.first) (sym written)
          (years_put h.first h.front x after rest same years);
      puts = subst (λ (ls : List YearLine). PutsLines account ls base (with_year account after u))
          (sym written) (puts_one account h.front x after rest h.first base u years same puts);
    }

-- one line more, which stays
pub put_same : (account : List ℕ) (lines : List YearLine) (patch : Patch) (i : ℕ)
    (now : List YearLine) (x : YearLine) (t u : Tables) → i < length lines → x ≡ get_or now i x
    → IsUnnamed patch.years x
    → PutSoFar account lines patch i now t u → PutSoFar account lines patch (i + 1) now t u
put_same account lines patch i now x t u some here unnamed h =
    let is = put_next account lines patch i now x t u some here h in
    let rest : List YearLine = drop (i + 1) lines in
    record {
      placed = h.placed;
      rows = h.rows;
      front = h.front ++ x ∷ [];
      are_after = front_more lines patch i x x h.front some is (inr (refl, unnamed)) h.are_after;
      now_is = h.now_is ∙ (ap (λ (ls : List YearLine). h.front ++ ls) (drop_item lines i x is some)
          ∙ sym (append_assoc h.front (x ∷ []) rest));
      first = h.first;
      years = h.years;
      puts = h.puts;
    }

-- all lines are through
pub put_all : (account : List ℕ) (lines : List YearLine) (patch : Patch) (i : ℕ)
    (now : List YearLine) (t u : Tables) → take i lines ≡ lines → drop i lines ≡ []
    → PutSoFar account lines patch i now t u → PutsInto account lines patch now t u
put_all account lines patch i now t u front back h =
    let all : now ≡ h.front = h.now_is ∙ (ap (λ (ls : List YearLine). h.front ++ ls) back
    ∙ append-nil h.front) in
    let put : PutsPatch account lines patch t u = record {
      after = h.front;
      are_after = subst (λ (ls : List YearLine). AreAfter ls patch.years h.front) front h.are_after;
      placed = h.placed;
      rows = h.rows;
      puts = subst (λ (ls : List YearLine). PutsLines account ls h.placed u) all h.puts;
    } in
    (put, all)
