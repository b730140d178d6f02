-- Corrections under their numbers are the rows of entries where their numbers count those before
-- them.
use Rattle.std.proofs.Common.{◌≡◌, ◌∙◌, ◌+◌, ◌++◌, ◌==◌, ℕ, inl, inr, refl, sym, ap, subst}
use Rattle.std.proofs.Common.{Bool, true, false, cond, suc, List, [], ◌∷◌, map, filter, length}
use Rattle.std.proofs.Common.{arith, length-append, append-nil, append_assoc}
use Rattle.std.proofs.lemmas.List.{length-map, map-append}
use Rattle.std.specs.Prelude.{bytes_eq}
use Rattle.std.proofs.lemmas.List.Elements.{filter-append}
use Rattle.ftd_days.specs.declared.cents.Cents.{Cents}
use Rattle.ftd_rules.specs.Lists.{Has}
use Rattle.ftd_rules.proofs.Members.{filter_in, has_mapped}
use Rattle.ftd_sql.specs.Rows.{CorrectedQuarterRow, CorrectedYearRow, CorrectedAccountRow}
use Rattle.ftd_store.specs.Added.{quarter_correction_row, listed_year_correction_row}
use Rattle.ftd_store.specs.Rows.{account_correction_row, correction_row, year_correction_row}
use Rattle.ftd_store.specs.declared.added_cells.QuarterCorrection.{QuarterCorrection}
use Rattle.ftd_store.specs.declared.added_cells.YearCorrection.{YearCorrection}
use Rattle.ftd_store.specs.declared.correction_cells.AccountCorrection.{AccountCorrection}
use Rattle.ftd_machine.specs.declared.entries.Beginning.{Beginning}
use Rattle.ftd_machine.specs.State.{Entry, Move, all_at, has_key, content_of, is_of, moves_of}
use Rattle.ftd_machine.specs.State.{is_move_of, beginning_of}
use Rattle.ftd_machine.proofs.Adding.{own_name}
use Rattle.ftd_sound.specs.Entered.{entry_of}
use Rattle.ftd_entries.specs.Standing.{with_earlier, correction_entry, year_correction_entry}
use Rattle.ftd_entries.specs.Standing.{account_correction_entry}
use Rattle.ftd_entries.proofs.Kept.{quarter_is, same_nat}
use Rattle.ftd_check.specs.Numbers.{AreNumbered, count_at}
use Rattle.ftd_check.proofs.Counting.{count_more}
use Rattle.ftd_check.specs.Parts.{AreNamed, move_to}
use Rattle.ftd_check.specs.Private.Values.{quarter_key, year_key, account_key, quarter_pair}
use Rattle.ftd_check.specs.Private.Values.{year_pair, beginning_corrected}

-- mapped twice
pub map_twice : {X Y Z : Type 0} (f : Y → Z) (g : X → Y) (xs : List X)
    → map (λ x. f (g x)) xs ≡ map f (map g xs)
map_twice f g [] = refl
map_twice f g (x ∷ xs) = ap (λ ys. f (g x) ∷ ys) (map_twice f g xs)

-- numbers that count on from those before
abbrev pub CountOn : List (ℕ × ℕ) → List (ℕ × ℕ) → Type 0
CountOn before rows =
    (p : List (ℕ × ℕ) × (ℕ × ℕ)) → Has (with_earlier before rows) p
    → p.1.1 ≡ count_at p.1.0 p.0 + 1

count_on : (before : List (ℕ × ℕ)) (x : ℕ × ℕ) (xs : List (ℕ × ℕ))
    → x.1 ≡ count_at x.0 before + 1 → CountOn (before ++ x ∷ []) xs → CountOn before (x ∷ xs)
count_on before x xs first later p (inl is) =
    subst (λ (q : List (ℕ × ℕ) × (ℕ × ℕ)). q.1.1 ≡ count_at q.1.0 q.0 + 1) (sym is) first
count_on before x xs first later p (inr has) = later p has

-- ---- rows of values that have numbers, and rows of entries

module _ {R E X : Type 0} (row : R → X) (entry : List E × E → X) (key : R → ℕ × ℕ)
    -- so many of a key were entered before
    (Counts : List E → List (ℕ × ℕ) → Type 0) (IsOwn : E → Type 0)
    -- an entry whose row is that of a value has its key, and the number that follows
    (same : (before : List E) (rows : List (ℕ × ℕ)) (e : E) (r : R) → Counts before rows → IsOwn e
    → row r ≡ entry (before, e)
    → ((key r).1 ≡ count_at (key r).0 rows + 1)
    × Counts (before ++ e ∷ []) (rows ++ key r ∷ [])) where
  rows_count : (before es : List E) (rows : List (ℕ × ℕ)) (rs : List R) → Counts before rows
      → ((e : E) → Has es e → IsOwn e) → map row rs ≡ map entry (with_earlier before es)
      → CountOn rows (map key rs)
  rows_count before es rows [] counts own are = λ p has. absurd has
  rows_count before [] rows (r ∷ rs) counts own are = absurd cc
  rows_count before (e ∷ es) rows (r ∷ rs) counts own are =
      let first : row r ≡ entry (before, e) = cc in
      let rest : map row rs ≡ map entry (with_earlier (before ++ e ∷ []) es) = cc in
      let its = same before rows e r counts (own e (inl refl)) first in
      count_on rows (key r) (map key rs) its.0
      (rows_count (before ++ e ∷ []) es (rows ++ key r ∷ []) rs its.1 (λ d has. own d (inr has))
      rest)

module _ {R E X : Type 0} (row : R → X) (entry : List E × E → X) (key : R → ℕ × ℕ) (make : R → E)
    (fits : (before : List R) (r : R) → (key r).1 ≡ count_at (key r).0 (map key before) + 1
    → row r ≡ entry (map make before, make r)) where
  rows_entered : (before rs : List R) → CountOn (map key before) (map key rs)
      → map row rs ≡ map entry (with_earlier (map make before) (map make rs))
  rows_entered before [] counts = refl
  rows_entered before (r ∷ rs) counts =
      let first = fits before r (counts (map key before, key r) (inl refl)) in
      let keys : map key (before ++ r ∷ []) ≡ map key before ++ key r ∷ [] =
      map-append key before (r ∷ []) in
      let makes : map make (before ++ r ∷ []) ≡ map make before ++ make r ∷ [] =
      map-append make before (r ∷ []) in
      let rest = rows_entered (before ++ r ∷ []) rs (subst (λ (b : List (ℕ × ℕ)).
      CountOn b (map key rs)) (sym keys) (λ p has. counts p (inr has))) in
      ap (λ x. x ∷ map row rs) first
      ∙ ap (λ xs. entry (map make before, make r) ∷ xs)
      (rest ∙ ap (λ (b : List E). map entry (with_earlier b (map make rs))) makes)

-- ---- corrections of totals

-- so many of each key were entered before
abbrev CountsKeys : List ℕ → List (Entry Cents) → List (ℕ × ℕ) → Type 0
CountsKeys name before rows =
    (key : ℕ) → length (all_at key (filter (is_of name) before)) ≡ count_at key rows

no_keys : (name : List ℕ) → CountsKeys name [] []
no_keys name key = refl

keys_more : (name : List ℕ) (before : List (Entry Cents)) (rows : List (ℕ × ℕ)) (e : Entry Cents)
    (x : ℕ × ℕ) → CountsKeys name before rows → e.name ≡ name → e.key ≡ x.0
    → CountsKeys name (before ++ e ∷ []) (rows ++ x ∷ [])
keys_more name before rows e x counts named keyed key =
    let kept : filter (is_of name) (before ++ e ∷ []) ≡ filter (is_of name) before ++ e ∷ [] =
    filter-append (is_of name) before (e ∷ [])
    ∙ ap (λ (es : List (Entry Cents)). filter (is_of name) before ++ es)
    (filter_in (is_of name) e [] (ap (λ n. bytes_eq n name) named ∙ own_name name)) in
    ap (λ (es : List (Entry Cents)). length (all_at key es)) kept
    ∙ all_more (filter (is_of name) before)
    ∙ ap (λ n. n + cond (e.key == key) 1 0) (counts key)
    ∙ ap (λ k. count_at key rows + cond (k == key) 1 0) keyed
    ∙ sym (count_more key rows x)
  where
    by : (b : Bool) → length (cond b (e ∷ []) []) ≡ cond b 1 0
    by true = refl
    by false = refl

    all_more : (es : List (Entry Cents)) → length (all_at key (es ++ e ∷ []))
        ≡ length (all_at key es) + cond (e.key == key) 1 0
    all_more es =
        length-map (filter (has_key key) (es ++ e ∷ [])) content_of
        ∙ ap length (filter-append (has_key key) es (e ∷ []))
        ∙ length-append (filter (has_key key) es) (filter (has_key key) (e ∷ []))
        ∙ ap (λ n. n + length (filter (has_key key) (e ∷ [])))
        (sym (length-map (filter (has_key key) es) content_of))
        ∙ ap (λ n. length (all_at key es) + n) (by (e.key == key))

module _ {R : Type 0} (name : List ℕ) (key : R → ℕ × ℕ) (make : R → Entry Cents)
    (named : (r : R) → (make r).name ≡ name) (keyed : (r : R) → (make r).key ≡ (key r).0) where
  keys_from : (before : List (Entry Cents)) (rows : List (ℕ × ℕ)) (rs : List R)
      → CountsKeys name before rows → CountsKeys name (before ++ map make rs) (rows ++ map key rs)
  keys_from before rows [] counts =
      subst (λ (es : List (Entry Cents)). CountsKeys name es (rows ++ [])) (sym (append-nil before))
      (subst (λ (xs : List (ℕ × ℕ)). CountsKeys name before xs) (sym (append-nil rows)) counts)
  keys_from before rows (r ∷ rs) counts =
      let more = keys_from (before ++ make r ∷ []) (rows ++ key r ∷ []) rs
      (keys_more name before rows (make r) (key r) counts (named r) (keyed r)) in
      subst (λ (es : List (Entry Cents)). CountsKeys name es (rows ++ map key (r ∷ rs)))
      (append_assoc before (make r ∷ []) (map make rs))
      (subst (λ (xs : List (ℕ × ℕ)).
      CountsKeys name ((before ++ make r ∷ []) ++ map make rs) xs)
      (append_assoc rows (key r ∷ []) (map key rs)) more)

  keys_made : (rs : List R) → CountsKeys name (map make rs) (map key rs)
  keys_made rs = keys_from [] [] rs (no_keys name)

-- ---- corrections of totals of quarters

module _ (name : List ℕ) where
  abbrev pub corrected_quarter : QuarterCorrection → Entry Cents
  corrected_quarter c = entry_of name (quarter_pair c)

  quarter_fits : (before : List QuarterCorrection) (c : QuarterCorrection)
      → (quarter_key c).1 ≡ count_at (quarter_key c).0 (map quarter_key before) + 1
      → quarter_correction_row name c
      ≡ correction_entry (map corrected_quarter before, corrected_quarter c)
  quarter_fits before c is =
      let made = keys_made name quarter_key corrected_quarter (λ r. refl) (λ r. refl) before in
      ap (λ n. correction_row name c.quarter (record { number = n; cents = c.correction.cents }))
      (is ∙ ap (λ n. n + 1) (sym (made c.quarter)))

  quarter_same : (before : List (Entry Cents)) (rows : List (ℕ × ℕ)) (e : Entry Cents)
      (c : QuarterCorrection) → CountsKeys name before rows → e.name ≡ name
      → quarter_correction_row name c ≡ correction_entry (before, e)
      → ((quarter_key c).1 ≡ count_at (quarter_key c).0 rows + 1)
      × CountsKeys name (before ++ e ∷ []) (rows ++ quarter_key c ∷ [])
  quarter_same before rows e c counts own is =
      let years = same_nat _ _ (ap (λ (r : CorrectedQuarterRow). r.year) is) in
      let parts = same_nat _ _ (ap (λ (r : CorrectedQuarterRow). r.quarter) is) in
      let numbers = same_nat _ _ (ap (λ (r : CorrectedQuarterRow). r.number) is) in
      let quarter = quarter_is c.quarter e.key years parts in (
        numbers
            ∙ ap (λ n. length (all_at e.key (filter (is_of n) before)) + 1) own
            ∙ ap (λ n. n + 1) (counts e.key)
            ∙ ap (λ k. count_at k rows + 1) (sym quarter),
        keys_more name before rows e (quarter_key c) counts own (sym quarter),
      )

  pub quarters_numbered : (es : List (Entry Cents)) (cs : List QuarterCorrection)
      → AreNamed name es
      → map (quarter_correction_row name) cs ≡ map correction_entry (with_earlier [] es)
      → AreNumbered (map quarter_key cs)
  quarters_numbered es cs named are =
      rows_count (quarter_correction_row name) correction_entry quarter_key (CountsKeys name)
      (λ e. e.name ≡ name) quarter_same [] es [] cs (no_keys name) named are

  pub quarters_entered : (cs : List QuarterCorrection) → AreNumbered (map quarter_key cs)
      → map (quarter_correction_row name) cs
      ≡ map correction_entry (with_earlier [] (map (entry_of name) (map quarter_pair cs)))
  quarters_entered cs numbered =
      rows_entered (quarter_correction_row name) correction_entry quarter_key corrected_quarter
      quarter_fits [] cs numbered
      ∙ ap (λ (es : List (Entry Cents)). map correction_entry (with_earlier [] es))
      (map_twice (entry_of name) quarter_pair cs)

-- ---- corrections of totals of years

module _ (name : List ℕ) where
  abbrev pub corrected_year : YearCorrection → Entry Cents
  corrected_year c = entry_of name (year_pair c)

  year_fits : (before : List YearCorrection) (c : YearCorrection)
      → (year_key c).1 ≡ count_at (year_key c).0 (map year_key before) + 1
      → listed_year_correction_row name c
      ≡ year_correction_entry (map corrected_year before, corrected_year c)
  year_fits before c is =
      let made = keys_made name year_key corrected_year (λ r. refl) (λ r. refl) before in
      ap (λ n. year_correction_row name c.year (record { number = n; cents = c.correction.cents }))
      (is ∙ ap (λ n. n + 1) (sym (made c.year)))

  year_same : (before : List (Entry Cents)) (rows : List (ℕ × ℕ)) (e : Entry Cents)
      (c : YearCorrection) → CountsKeys name before rows → e.name ≡ name
      → listed_year_correction_row name c ≡ year_correction_entry (before, e)
      → ((year_key c).1 ≡ count_at (year_key c).0 rows + 1)
      × CountsKeys name (before ++ e ∷ []) (rows ++ year_key c ∷ [])
  year_same before rows e c counts own is =
      let year = same_nat _ _ (ap (λ (r : CorrectedYearRow). r.year) is) in
      let numbers = same_nat _ _ (ap (λ (r : CorrectedYearRow). r.number) is) in (
        numbers
            ∙ ap (λ n. length (all_at e.key (filter (is_of n) before)) + 1) own
            ∙ ap (λ n. n + 1) (counts e.key)
            ∙ ap (λ k. count_at k rows + 1) (sym year),
        keys_more name before rows e (year_key c) counts own (sym year),
      )

  pub years_numbered : (es : List (Entry Cents)) (cs : List YearCorrection) → AreNamed name es
      → map (listed_year_correction_row name) cs ≡ map year_correction_entry (with_earlier [] es)
      → AreNumbered (map year_key cs)
  years_numbered es cs named are =
      rows_count (listed_year_correction_row name) year_correction_entry year_key
      (CountsKeys name) (λ e. e.name ≡ name) year_same [] es [] cs (no_keys name) named are

  pub years_entered : (cs : List YearCorrection) → AreNumbered (map year_key cs)
      → map (listed_year_correction_row name) cs
      ≡ map year_correction_entry (with_earlier [] (map (entry_of name) (map year_pair cs)))
  years_entered cs numbered =
      rows_entered (listed_year_correction_row name) year_correction_entry year_key corrected_year
      year_fits [] cs numbered
      ∙ ap (λ (es : List (Entry Cents)). map year_correction_entry (with_earlier [] es))
      (map_twice (entry_of name) year_pair cs)

-- ---- corrections of the account

module _ (name : List ℕ) where
  abbrev pub corrected_account : AccountCorrection → Move
  corrected_account c = move_to name (beginning_corrected c)

  -- so many were entered before
  abbrev CountsMoves : List Move → List (ℕ × ℕ) → Type 0
  CountsMoves before rows = length (moves_of name before) ≡ count_at 0 rows

  moves_more : (before : List Move) (rows : List (ℕ × ℕ)) (m : Move) (number : ℕ)
      → CountsMoves before rows → m.name ≡ name
      → CountsMoves (before ++ m ∷ []) (rows ++ (0, number) ∷ [])
  moves_more before rows m number counts own =
      let kept : filter (is_move_of name) (before ++ m ∷ [])
      ≡ filter (is_move_of name) before ++ m ∷ [] =
      filter-append (is_move_of name) before (m ∷ [])
      ∙ ap (λ (ms : List Move). filter (is_move_of name) before ++ ms)
      (filter_in (is_move_of name) m [] (ap (λ n. bytes_eq n name) own ∙ own_name name)) in
      let long = length-map (filter (is_move_of name) (before ++ m ∷ [])) beginning_of in
      let short = length-map (filter (is_move_of name) before) beginning_of in
      let sum = length-append (filter (is_move_of name) before) (m ∷ []) in
      let same : length (filter (is_move_of name) (before ++ m ∷ []))
      ≡ length (filter (is_move_of name) before ++ m ∷ []) = ap length kept in
      let more = count_more 0 rows (0, number) in
      omega arith

  moves_made : (cs : List AccountCorrection)
      → CountsMoves (map corrected_account cs) (map account_key cs)
  moves_made [] = refl
  moves_made (c ∷ cs) =
      let kept = filter_in (is_move_of name) (corrected_account c) (map corrected_account cs)
      (own_name name) in
      ap (λ (ms : List Move). length (map beginning_of ms)) kept ∙ ap suc (moves_made cs)

  account_fits : (before : List AccountCorrection) (c : AccountCorrection)
      → (account_key c).1 ≡ count_at (account_key c).0 (map account_key before) + 1
      → account_correction_row name c
      ≡ account_correction_entry (map corrected_account before, corrected_account c)
  account_fits before c is =
      ap (λ n. account_correction_row name (record { number = n; account = c.account }))
      (is ∙ ap (λ n. n + 1) (sym (moves_made before)))

  account_same : (before : List Move) (rows : List (ℕ × ℕ)) (m : Move) (c : AccountCorrection)
      → CountsMoves before rows → m.name ≡ name
      → account_correction_row name c ≡ account_correction_entry (before, m)
      → ((account_key c).1 ≡ count_at (account_key c).0 rows + 1)
      × CountsMoves (before ++ m ∷ []) (rows ++ account_key c ∷ [])
  account_same before rows m c counts own is =
      let numbers = same_nat _ _ (ap (λ (r : CorrectedAccountRow). r.number) is) in (
        numbers
            ∙ ap (λ n. length (moves_of n before) + 1) own
            ∙ ap (λ n. n + 1) counts,
        moves_more before rows m c.number counts own,
      )

  pub moves_numbered : (ms : List Beginning) (cs : List AccountCorrection)
      → map (account_correction_row name) cs
      ≡ map account_correction_entry (with_earlier [] (map (move_to name) ms))
      → AreNumbered (map account_key cs)
  moves_numbered ms cs are =
      rows_count (account_correction_row name) account_correction_entry account_key CountsMoves
      (λ m. m.name ≡ name) account_same [] (map (move_to name) ms) [] cs refl
      (λ m has. ap (λ (x : Move). x.name) (has_mapped (move_to name) ms m has).2) are

  pub moves_entered : (cs : List AccountCorrection) → AreNumbered (map account_key cs)
      → map (account_correction_row name) cs
      ≡ map account_correction_entry
      (with_earlier [] (map (move_to name) (map beginning_corrected cs)))
  moves_entered cs numbered =
      rows_entered (account_correction_row name) account_correction_entry account_key
      corrected_account account_fits [] cs numbered
      ∙ ap (λ (ms : List Move). map account_correction_entry (with_earlier [] ms))
      (map_twice (move_to name) beginning_corrected cs)
