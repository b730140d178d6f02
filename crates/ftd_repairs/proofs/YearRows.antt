-- A line in the place of the one of its year, over the rows of the open years.
use Rattle.std.proofs.Common.{◌≡◌, ◌≢◌, ℕ, ℤ, pos, ◌+◌, inl, inr, List, [], ◌∷◌, ◌++◌, map, Bool}
use Rattle.std.proofs.Common.{true, false, refl, sym, ap, ◌∙◌, subst, arith}
use Rattle.std.specs.Prelude.{filter, bytes_eq}
use Rattle.std.specs.Ordering.{int_eq}
use Rattle.std.specs.List.{list_any}
use Rattle.std.specs.List.Sorted.{IsPermutation}
use Rattle.std.proofs.lemmas.Bool.{cases_Bool, false≢true, and_parts}
use Rattle.std.proofs.lemmas.Bool.Decides.{Decides-int_eq}
use Rattle.std.proofs.lemmas.List.Sorted.{IsPermutation-map, list_any-IsPermutation}
use Rattle.std.proofs.Math.Bool.{or-true}
use Rattle.ftd_days.proofs.Spelling.{same_text}
use Rattle.ftd_rules.specs.declared.YearLine.{YearLine}
use Rattle.ftd_rules.specs.Lists.{Has}
use Rattle.ftd_rules.specs.Years.{YearsFrom}
use Rattle.ftd_rules.proofs.Schedules.{years_within}
use Rattle.ftd_rules.proofs.Members.{filter_in, filter_out}
use Rattle.ftd_sql.specs.Kept.{changed}
use Rattle.ftd_sql.specs.Rows.{YearRow}
use Rattle.ftd_sql.specs.Tests.{is_year, is_year_of}
use Rattle.ftd_store.specs.Rows.{year_row}
use Rattle.ftd_store.specs.Changes.{put_among}
use Rattle.ftd_store.proofs.Same.{same_int}
use Rattle.ftd_machine.proofs.Adding.{own_name, other_name}
use Rattle.ftd_store.proofs.Items.{has_middle}

-- ---- tests

int_is : (a b : ℤ) → a ≡ b → int_eq a b ≡ true
int_is a b same = (Decides-int_eq a b).1 same

int_is_not : (a b : ℤ) → a ≢ b → int_eq a b ≡ false
int_is_not a b other =
    elim (cases_Bool (int_eq a b)) [
      | inl same ↦ absurd (other (same_int a b same))
      | inr no_one ↦ no_one
    ]

year_is : (a b : ℕ) → pos a ≡ pos b → a ≡ b
year_is a b h = cc

-- ---- one row

-- the row of the line in the place of the account's row of its year
abbrev pub placed : List ℕ → YearLine → YearRow → YearRow
placed account line = changed (is_year account (pos line.year)) (λ x. year_row account line)

left_as : (account : List ℕ) (line : YearLine) (r : YearRow) → r.year ≢ pos line.year
    → placed account line r ≡ r
left_as account line r other =
    elim (cases_Bool (bytes_eq r.account account)) [
      | inl own ↦ rw (own, int_is_not r.year (pos line.year) other) refl
      | inr not_own ↦ rw not_own refl
    ]

put_as : (account : List ℕ) (line : YearLine) (r : YearRow) → is_year_of account r ≡ true
    → r.year ≡ pos line.year → placed account line r ≡ year_row account line
put_as account line r own same = rw (own, int_is r.year (pos line.year) same) refl

placed_own : (account : List ℕ) (line : YearLine) (r : YearRow)
    → is_year_of account (placed account line r) ≡ is_year_of account r
placed_own account line r =
    elim (cases_Bool (is_year account (pos line.year) r)) [
      | inl is ↦ (let a = and_parts (bytes_eq r.account account) (int_eq r.year (pos line.year)) is
          in
          rw is (own_name account ∙ sym a.0))
      | inr is_not ↦ rw is_not refl
    ]

placed_other : (account other : List ℕ) (line : YearLine) (r : YearRow) → other ≢ account
    → is_year_of other r ≡ true → placed account line r ≡ r
placed_other account other line r apart theirs =
    let not_own : bytes_eq r.account account ≡ false = other_name r.account account
    (λ same. apart (sym (same_text r.account other theirs) ∙ same)) in
    rw not_own refl

placed_theirs : (account other : List ℕ) (line : YearLine) (r : YearRow) → other ≢ account
    → is_year_of other (placed account line r) ≡ is_year_of other r
placed_theirs account other line r apart =
    elim (cases_Bool (is_year account (pos line.year) r)) [
      | inl is ↦
          (let a = and_parts (bytes_eq r.account account) (int_eq r.year (pos line.year)) is in
          let mine : r.account ≡ account = same_text r.account account a.0 in
          rw is (other_name account other (λ same. apart (sym same))
          ∙ sym (other_name r.account other (λ same. apart (sym same ∙ mine)))))
      | inr is_not ↦ rw is_not refl
    ]

-- ---- all rows: the account's, and those of another

own_placed : (account : List ℕ) (line : YearLine) (rows : List YearRow)
    → filter (is_year_of account) (map (placed account line) rows) ≡ map (placed account line)
    (filter (is_year_of account) rows)
own_placed account line [] = refl
own_placed account line (r ∷ rows) =
    let p : YearRow → Bool = is_year_of account in
    let f : YearRow → YearRow = placed account line in
    let rest = own_placed account line rows in
    elim (cases_Bool (p r)) [
      | inl own ↦
          filter_in p (f r) (map f rows) (placed_own account line r ∙ own)
          ∙ (ap (λ more. f r ∷ more) rest ∙ sym (ap (map f) (filter_in p r rows own)))
      | inr not_own ↦ filter_out p (f r) (map f rows) (placed_own account line r ∙ not_own)
          ∙ (rest ∙ sym (ap (map f) (filter_out p r rows not_own)))
    ]

others_placed : (account other : List ℕ) (line : YearLine) → other ≢ account → (rows : List YearRow)
    → filter (is_year_of other) (map (placed account line) rows) ≡ filter (is_year_of other) rows
others_placed account other line apart [] = refl
others_placed account other line apart (r ∷ rows) =
    let p : YearRow → Bool = is_year_of other in
    let f : YearRow → YearRow = placed account line in
    let rest = others_placed account other line apart rows in
    elim (cases_Bool (p r)) [
      | inl theirs ↦
          filter_in p (f r) (map f rows) (placed_theirs account other line r apart ∙ theirs)
          ∙ (ap (λ x. x ∷ filter p (map f rows)) (placed_other account other line r apart theirs)
          ∙ (ap (λ more. r ∷ more) rest ∙ sym (filter_in p r rows theirs)))
      | inr not_theirs ↦ filter_out p (f r) (map f rows) (placed_theirs account other line r apart
          ∙ not_theirs) ∙ (rest ∙ sym (filter_out p r rows not_theirs))
    ]

-- ---- the rows of lines

rows_left : (account : List ℕ) (line : YearLine) (ls : List YearLine)
    → ((l : YearLine) → Has ls l → l.year ≢ line.year) → map (placed account line)
    (map (year_row account) ls) ≡ map (year_row account) ls
rows_left account line [] apart = refl
rows_left account line (l ∷ ls) apart =
    let here = left_as account line (year_row account l)
    (λ same. apart l (inl refl) (year_is l.year line.year same)) in
    let rest = rows_left account line ls (λ k has. apart k (inr has)) in
    ap (λ r. r ∷ map (placed account line) (map (year_row account) ls)) here
    ∙ ap (λ rs. year_row account l ∷ rs) rest

rows_put : (account : List ℕ) (line b : YearLine) (first : ℕ) (xs ys : List YearLine)
    → b.year ≡ line.year → YearsFrom first (xs ++ b ∷ ys)
    → map (placed account line) (map (year_row account) (xs ++ b ∷ ys)) ≡ map (year_row account)
    (xs ++ line ∷ ys)
rows_put account line b first [] ys same years =
    let here = put_as account line (year_row account b) (own_name account) (ap pos same) in
    let rest = rows_left account line ys (λ l has year. let w =
    years_within (first + 1) ys l years.1 has in let w0 = w.0 in let at = years.0 in
    absurd (omega arith)) in
    ap (λ r. r ∷ map (placed account line) (map (year_row account) ys)) here
    ∙ ap (λ rs. year_row account line ∷ rs) rest
rows_put account line b first (x ∷ xs) ys same years =
    let w = years_within (first + 1) (xs ++ b ∷ ys) b years.1 (has_middle xs b ys) in
    let w0 = w.0 in
    let at = years.0 in
    let here = left_as account line (year_row account x) (λ year. let y : x.year ≡ line.year =
    year_is x.year line.year year in absurd (omega arith)) in
    let rest = rows_put account line b (first + 1) xs ys same years.1 in
    ap (λ r. r ∷ map (placed account line) (map (year_row account) (xs ++ b ∷ ys))) here
    ∙ ap (λ rs. year_row account x ∷ rs) rest

-- ---- that there is such a row

among : (account : List ℕ) (line b : YearLine) (ls : List YearLine) → b.year ≡ line.year → Has ls b
    → list_any (λ (r : YearRow). int_eq r.year (pos line.year)) (map (year_row account) ls) ≡ true
among account line b [] same has = absurd has
among account line b (l ∷ ls) same (inl is) =
    rw (int_is (pos l.year) (pos line.year)
    (ap pos (sym (ap (λ (z : YearLine). z.year) is) ∙ same))) refl
among account line b (l ∷ ls) same (inr has) = rw (among account line b ls same has)
    (or-true (int_eq (pos l.year) (pos line.year)))

none_among : (account : List ℕ) (year : ℤ) (rows : List YearRow)
    → filter (is_year account year) rows ≡ [] → list_any (λ (r : YearRow). int_eq r.year year)
    (filter (is_year_of account) rows) ≡ false
none_among account year [] none = refl
none_among account year (r ∷ rows) none =
    elim (cases_Bool (bytes_eq r.account account)) [
      | inl own ↦ elim (cases_Bool (int_eq r.year year)) [
        | inl here ↦ absurd (let k = rw (own, here) at none in cc)
        | inr not_here ↦ (let k = rw (own, not_here) at none in
            rw (own, not_here) (none_among account year rows k))
      ]
      | inr other ↦ (let k = rw other at none in rw other (none_among account year rows k))
    ]

put_there : (found : List YearRow) (y : YearRow) (rows : List YearRow) → (found ≡ [] → ⊥)
    → put_among found y rows ≡ map (changed (is_year y.account y.year) (λ x. y)) rows
put_there [] y rows some = absurd (some refl)
put_there (there ∷ more) y rows some = refl

-- ---- a line is put in the place of one of its year

-- the rows once the line is put among them
abbrev pub put : List ℕ → YearLine → List YearRow → List YearRow
put account line rows = put_among (filter (is_year account (pos line.year)) rows)
    (year_row account line) rows

pub put_placed : (account : List ℕ) (rows : List YearRow) (xs : List YearLine) (b line : YearLine)
    (ys : List YearLine) → b.year ≡ line.year
    → IsPermutation (filter (is_year_of account) rows) (map (year_row account) (xs ++ b ∷ ys))
    → put account line rows ≡ map (placed account line) rows
put_placed account rows xs b line ys year h =
    put_there (filter (is_year account (pos line.year)) rows) (year_row account line) rows
    (λ none. false≢true (sym (none_among account (pos line.year) rows none)
    ∙ (list_any-IsPermutation (λ (r : YearRow). int_eq r.year (pos line.year))
    (filter (is_year_of account) rows) (map (year_row account) (xs ++ b ∷ ys)) h
    ∙ among account line b (xs ++ b ∷ ys) year (has_middle xs b ys))))

-- the account's rows are those of the lines with it
pub put_has : (account : List ℕ) (rows : List YearRow) (xs : List YearLine) (b line : YearLine)
    (ys : List YearLine) (first : ℕ) → YearsFrom first (xs ++ b ∷ ys) → b.year ≡ line.year
    → IsPermutation (filter (is_year_of account) rows) (map (year_row account) (xs ++ b ∷ ys))
    → IsPermutation (filter (is_year_of account) (put account line rows))
    (map (year_row account) (xs ++ line ∷ ys))
put_has account rows xs b line ys first years year h =
    let own : List YearRow = filter (is_year_of account) rows in
    let all : List YearRow = map (year_row account) (xs ++ b ∷ ys) in
    let moved : IsPermutation (map (placed account line) own) (map (placed account line) all) =
    IsPermutation-map (placed account line) own all h in
    let now : filter (is_year_of account) (put account line rows) ≡ map (placed account line) own =
    ap (filter (is_year_of account)) (put_placed account rows xs b line ys year h)
    ∙ own_placed account line rows in
    subst (λ (rs : List YearRow). IsPermutation rs (map (year_row account) (xs ++ line ∷ ys)))
    (sym now)
    (subst (λ (rs : List YearRow). IsPermutation (map (placed account line) own) rs)
    (rows_put account line b first xs ys year years) moved)

-- those of another account stay
pub put_others : (account other : List ℕ) (rows : List YearRow) (xs : List YearLine)
    (b line : YearLine) (ys : List YearLine) → other ≢ account → b.year ≡ line.year
    → IsPermutation (filter (is_year_of account) rows) (map (year_row account) (xs ++ b ∷ ys))
    → filter (is_year_of other) (put account line rows) ≡ filter (is_year_of other) rows
put_others account other rows xs b line ys apart year h = ap (filter (is_year_of other))
    (put_placed account rows xs b line ys year h) ∙ others_placed account other line apart rows
