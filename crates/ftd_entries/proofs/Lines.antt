-- What the rows of an account's open years tell of its lines.
use Rattle.std.proofs.Common.{◌≡◌, ℕ, Bool, true, false, pos, ◌+◌, List, [], ◌∷◌, map, Option, None}
use Rattle.std.proofs.Common.{Some, Vec, inl, inr, refl, sym, ap, ◌∙◌, arith}
use Rattle.std.specs.Prelude.{option_map, IsTrue}
use Rattle.std.proofs.lemmas.List.Sorted.{IsPermutation-trans, IsPermutation-sym}
use Rattle.ftd_rules.proofs.Lines.{line_same}
use Rattle.ftd_rules.specs.declared.Kind.{Kind}
use Rattle.ftd_rules.specs.declared.Kind.TheVariants.{Monthly, Semiweekly}
use Rattle.ftd_rules.specs.declared.YearLine.{YearLine}
use Rattle.ftd_rules.specs.Lists.{Has, KeysRise}
use Rattle.ftd_rules.specs.Years.{YearsFrom, OnlyFirstCarried}
use Rattle.ftd_rules.proofs.Rising.{sorted_is, next_do_not_fall}
use Rattle.ftd_rules.proofs.Schedules.{years_within}
use Rattle.ftd_rules.proofs.Members.{has_mapped}
use Rattle.ftd_sql.specs.Rows.{YearRow}
use Rattle.ftd_sql.specs.Standing.{Tables}
use Rattle.ftd_store.specs.declared.account_cells.Account.{Account as StoredAccount}
use Rattle.ftd_store.specs.Cells.{day_number, schedule_number}
use Rattle.ftd_store.specs.Lists.{Pairs}
use Rattle.ftd_store.specs.Rows.{year_row}
use Rattle.ftd_store.specs.Years.{FirstCarriedAs, is_carried as is_carried_in}
use Rattle.ftd_store.specs.Finds.{IsYear, ListsYears, FindsInForce}
use Rattle.ftd_machine.specs.State.{State, entries_of}
use Rattle.ftd_machine.specs.History.{is_carried, AreCarried}
use Rattle.ftd_entries.specs.Standing.{StandsFor, IsSettled}
use Rattle.ftd_entries.proofs.Corrected.{carried_known}
use Rattle.ftd_entries.proofs.Found.{day_is}
use Rattle.ftd_entries.proofs.CalendarRows.{whole, whole_rises}

-- ---- a line by its row

schedule_is : (a b : Kind) → schedule_number a ≡ schedule_number b → a ≡ b
schedule_is Monthly Monthly h = refl
schedule_is Monthly Semiweekly h = absurd cc
schedule_is Semiweekly Monthly h = absurd cc
schedule_is Semiweekly Semiweekly h = refl

turn_is : (a b : Option ℕ) → option_map day_number a ≡ option_map day_number b → a ≡ b
turn_is None None h = refl
turn_is None (Some b) h = absurd cc
turn_is (Some a) None h = absurd cc
turn_is (Some a) (Some b) h = let same : day_number a ≡ day_number b = cc in
    ap Some (day_is a b same)

line_is : (name : List ℕ) (x y : YearLine) → year_row name x ≡ year_row name y
    → x.carried ≡ y.carried → x ≡ y
line_is name x y rows carried =
    let years : pos x.year ≡ pos y.year = ap (λ (r : YearRow). r.year) rows in
    let year : x.year ≡ y.year = cc in
    let totals : pos x.lookback.0 ≡ pos y.lookback.0 = ap (λ (r : YearRow). r.lookback) rows in
    let total : x.lookback.0 ≡ y.lookback.0 = cc in
    let opening = schedule_is x.opening y.opening (ap (λ (r : YearRow). r.opening) rows) in
    let turn = turn_is x.turn y.turn (ap (λ (r : YearRow). r.turn) rows) in
    line_same x y (rw (year, total, carried) refl) opening turn

lines_are : (name : List ℕ) (carried : Bool) (xs ys : List YearLine) → map (year_row name) xs ≡ map
    (year_row name) ys → AreCarried carried xs → AreCarried carried ys → xs ≡ ys
lines_are name carried [] [] rows a b = refl
lines_are name carried [] (y ∷ ys) rows a b = absurd cc
lines_are name carried (x ∷ xs) [] rows a b = absurd cc
lines_are name carried (x ∷ xs) (y ∷ ys) rows a b =
    let first : year_row name x ≡ year_row name y = cc in
    let later : map (year_row name) xs ≡ map (year_row name) ys = cc in
    let head : x ≡ y = line_is name x y first (a.0 ∙ sym b.0) in
    let tail : xs ≡ ys = lines_are name false xs ys later a.1 b.1 in
    cc

-- ---- which line is carried

not_true : (b : Bool) → (IsTrue b → ⊥) → b ≡ false
not_true true off = absurd (off refl)
not_true false off = refl

none_carried : (lines : List YearLine)
    → ((other : YearLine) → Has lines other → IsTrue other.carried → ⊥) → AreCarried false lines
none_carried [] off = tt
none_carried (line ∷ lines) off = (
  not_true line.carried (off line (inl refl)),
  none_carried lines (λ other has. off other (inr has)),
)

listed_carried : (name : List ℕ) (t : Tables) (s : State) (found : Option StoredAccount)
    (lines : List YearLine) → StandsFor t s → FindsInForce name found t → FirstCarriedAs found lines
    → OnlyFirstCarried lines
    → AreCarried (is_carried (entries_of s name).account) lines
listed_carried name t s found [] stands finds first others = tt
listed_carried name t s found (line ∷ lines) stands finds first others = (
  first.2 ∙ sym (carried_known name found t s finds stands ∙ ap is_carried_in first.1),
  none_carried lines others,
)

-- ---- lines in their order

abbrev line_key : YearRow → ℕ
line_key row = whole row.year

lines_rise : (name : List ℕ) (year : ℕ) (lines : List YearLine) → YearsFrom year lines
    → KeysRise line_key (map (year_row name) lines)
lines_rise name year [] from = tt
lines_rise name year (line ∷ lines) from = (
  (λ later has.
      (let its = has_mapped (year_row name) lines later has in
      let within = years_within (year + 1) lines its.0 from.1 its.1 in
      let low = within.0 in
      let first = from.0 in
      let second : line_key later ≡ its.0.year = ap line_key its.2 in
      omega arith)),
  lines_rise name (year + 1) lines from.1,
)

paired : (name : List ℕ) (rows : List YearRow) (lines : List YearLine)
    → Pairs (IsYear name) rows lines → rows ≡ map (year_row name) lines
paired name [] [] pairs = refl
paired name [] (line ∷ lines) pairs = absurd pairs
paired name (row ∷ rows) [] pairs = absurd pairs
paired name (row ∷ rows) (line ∷ lines) pairs = ap (λ r. r ∷ rows) pairs.0
    ∙ ap (λ rs. year_row name line ∷ rs) (paired name rows lines pairs.1)

-- the lines that were listed are the account's lines
pub lines_known : {A : Type 0} (name : List ℕ) (listed : Vec YearLine A) (t : Tables) (s : State)
    → StandsFor t s → ListsYears name listed t → (settled : IsSettled t s name)
    → listed.items ≡ settled.lines
lines_known name listed t s stands lists settled =
    let l = lists.listed in
    let years = settled.are_lines.schedules.years in
    let sorted : l.ordered ≡ map (year_row name) settled.lines =
    sorted_is line_key (map (year_row name) settled.lines) l.ordered
    (lines_rise name years.0 settled.lines years.2)
    (next_do_not_fall line_key l.ordered (λ k d less. whole_rises _ _ (l.rise k d less)))
    (IsPermutation-trans _ _ _ (IsPermutation-sym _ _ settled.line_rows) l.same) in
    let rows : map (year_row name) listed.items ≡ map (year_row name) settled.lines =
    sym (paired name l.ordered listed.items l.pairs) ∙ sorted in
    lines_are name (is_carried (entries_of s name).account) listed.items settled.lines rows
    (listed_carried name t s lists.first.0 listed.items stands lists.first.1 lists.first.2
    lists.others) settled.are_lines.carried
