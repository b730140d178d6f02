-- A list that is told as JSON is read as the objects of its rows.
use Rattle.std.proofs.Common.{◌≡◌, ◌∙◌, refl, sym, ap, ℕ, ◌≤◌, inl, inr, List, true, []}
use Rattle.std.proofs.Common.{◌∷◌, ◌++◌, map, Some, append_assoc, arith}
use Rattle.std.specs.Prelude.{Option, codes, option_and_then, option_map, unwrap_or}
use Rattle.std.specs.List.{join_with_byte}
use Rattle.json.specs.Json as json
use Rattle.json.specs.Print.{escape, escape_byte}
use Rattle.json.specs.Tree.{HasNumbers, ItemsHaveNumbers, MembersHaveNumbers, depth, items_depth}
use Rattle.json.specs.Tree.{members_depth}
use Rattle.serde_json.specs.Data.{Data, array, object, string, null, Items, no_items, item}
use Rattle.serde_json.specs.Data.{Members, no_members, member}
use Rattle.serde_json.specs.Find.{as_array, get}
use Rattle.serde_json.specs.Read.{of_items, of_json, read}
use Rattle.serde_json.specs.View.{items_of}
use Rattle.serde_json.specs.Written.{compact_text, items_outline, items_text, members_outline}
use Rattle.serde_json.specs.Written.{members_text, outline}
use Rattle.ftd_rules.specs.Lists.{Has}
use Rattle.ftd_answers.specs.Fields.{Field, array_of, json_of, member as told_member, members_of}
use Rattle.ftd_answers.specs.Fields.{object_of, object_told, quoted, told_by}
use Rattle.ftd_read_back.specs.Cells.{cents_read}
use Rattle.ftd_read_back.specs.Objects.{elements, objects_read, text_in}
use Rattle.ftd_read_back.proofs.Texts.{line_read}

-- ---- the text of an object, by the names of its members and their values

abbrev pub Pairs : Type 0
Pairs = List (List ℕ × Data)

abbrev pub members_from : Pairs → Members
members_from [] = no_members
members_from (p ∷ ps) = member p.0 p.1 (members_from ps)

abbrev pub member_text : List ℕ × Data → List ℕ
member_text p = told_member p.0 (compact_text p.1)

abbrev pub AreNames : Pairs → Type 0
AreNames [] = Unit {0}
AreNames (p ∷ ps) = (escape p.0 ≡ p.0) × AreNames ps

one_last : (q c end : List ℕ) → q ++ 58 ∷ (c ++ end) ≡ (q ++ (58 ∷ c)) ++ end
one_last q c end = sym (append_assoc q (58 ∷ c) end)

one_more : (q c rest end : List ℕ)
    → q ++ 58 ∷ (c ++ 44 ∷ (rest ++ end)) ≡ ((q ++ (58 ∷ c)) ++ (44 ∷ rest)) ++ end
one_more q c rest end = simp append_assoc

some_members : (p : List ℕ × Data) (ps : Pairs) → AreNames (p ∷ ps)
    → quoted p.0 ++ 58 ∷ (compact_text p.1 ++ members_text true (members_from ps))
    ≡ join_with_byte 44 (map member_text (p ∷ ps)) ++ 125 ∷ []
some_members p [] are = one_last (quoted p.0) (compact_text p.1) (125 ∷ [])
some_members p (next ∷ ps) are =
    rw are.1.0
    (ap (λ (t : List ℕ). quoted p.0 ++ 58 ∷ (compact_text p.1 ++ 44 ∷ t))
    (some_members next ps are.1)
    ∙ one_more (quoted p.0) (compact_text p.1) (join_with_byte 44 (map member_text (next ∷ ps)))
    (125 ∷ []))

pub object_text : (ps : Pairs) → AreNames ps
    → compact_text (object (members_from ps)) ≡ object_of (map member_text ps)
object_text [] are = refl
object_text (p ∷ ps) are = rw are.0 (ap (λ (t : List ℕ). 123 ∷ t) (some_members p ps are))

-- ---- the text of an array

some_items : (d : Data) (ds : List Data) → compact_text d ++ items_text true (items_of ds)
    ≡ join_with_byte 44 (map compact_text (d ∷ ds)) ++ 93 ∷ []
some_items d [] = refl
some_items d (next ∷ ds) =
    ap (λ (t : List ℕ). compact_text d ++ 44 ∷ t) (some_items next ds)
    ∙ sym (append_assoc (compact_text d) (44 ∷ join_with_byte 44 (map compact_text (next ∷ ds)))
    (93 ∷ []))

pub array_text : (ds : List Data)
    → compact_text (array (items_of ds)) ≡ array_of (map compact_text ds)
array_text [] = refl
array_text (d ∷ ds) = ap (λ (t : List ℕ). 91 ∷ t) (some_items d ds)

-- ---- a list: an object whose member `rows` has an object for each row, with other members behind

module _ {T : Type 0} (value : T → Data) where
  abbrev pub rows_value : List T → Items
  rows_value rows = items_of (map value rows)

  -- its object is flat, and has no number that is none
  abbrev pub IsFlat : T → Type 0
  IsFlat x = (depth (outline (value x)) ≤ 1) × HasNumbers (outline (value x))

  flat : (rows : List T) → ((x : T) → Has rows x → IsFlat x)
      → (items_depth (items_outline (rows_value rows)) ≤ 1)
      × ItemsHaveNumbers (items_outline (rows_value rows))
  flat [] are = (omega arith, tt)
  flat (x ∷ rows) are =
      let own = are x (inl refl) in
      let rest = flat rows (λ y has. are y (inr has)) in
      let a = own.0 in let b = rest.0 in
      (omega arith, (own.1, rest.1))

  texts : (text : T → List ℕ) (rows : List T)
      → ((x : T) → Has rows x → compact_text (value x) ≡ text x)
      → compact_text (array (rows_value rows)) ≡ array_of (map text rows)
  texts text rows are = array_text (map value rows) ∙ ap array_of (each rows are)
    where
      each : (others : List T) → ((x : T) → Has others x → compact_text (value x) ≡ text x)
          → map compact_text (map value others) ≡ map text others
      each [] same = refl
      each (x ∷ others) same =
          ap (λ (t : List ℕ). t ∷ map compact_text (map value others)) (same x (inl refl))
          ∙ ap (λ (ts : List (List ℕ)). text x ∷ ts) (each others (λ y has. same y (inr has)))

  module _ {A : Type 0} (read_by : Data → A) (told : T → A) where
    -- a row is read as what is told
    abbrev pub IsFound : T → Type 0
    IsFound x =
        (d : Data) × (of_json (outline (value x)) ≡ Some d) × (read_by d ≡ told x)

    found : (rows : List T) → ((x : T) → Has rows x → IsFound x)
        → (items : Items) × (of_items (items_outline (rows_value rows)) ≡ Some items)
        × (map read_by (elements items) ≡ map told rows)
    found [] are = (no_items, refl, refl)
    found (x ∷ rows) are =
        let own = are x (inl refl) in
        let rest = found rows (λ y has. are y (inr has)) in (
          item own.0 rest.0,
          rw (own.1, rest.1) refl,
          ap (λ (a : A). a ∷ map read_by (elements rest.0)) own.2
              ∙ ap (λ (t : List A). told x ∷ t) rest.2,
        )

-- what is read of the whole
abbrev pub rows_of : {A : Type 0} → (Data → A) → Option Data → Option (List A)
rows_of read_by o =
    option_map (λ items. map read_by (elements items))
    (option_and_then as_array (option_and_then (get (codes "rows")) o))

abbrev pub sum_under : List ℕ → Option Data → Option ℕ
sum_under name o = option_and_then (λ d. cents_read (text_in d name)) o

-- ---- the whole

abbrev pub text_value : List ℕ → List ℕ → List ℕ × Data
text_value name text = (name, string text)

-- as it is read, which has its members by their names
abbrev pub sorted : Data → Data
sorted d = unwrap_or (of_json (outline d)) null

module _ {T A : Type 0} (fields : List (Field T)) (pairs : T → Pairs) (read_by : Data → A)
    (told : T → A) where
  abbrev pub value_of : T → Data
  value_of x = object (members_from (pairs x))

  -- a row is told as its object, and read as what is told
  abbrev pub IsObject : T → Type 0
  IsObject x =
      (map member_text (pairs x) ≡ members_of (told_by fields x)) × AreNames (pairs x)
      × IsFlat value_of x × IsFound value_of read_by told x

  abbrev pub row_told : T → List ℕ
  row_told x = object_told (told_by fields x)

  row_text : (x : T) → IsObject x → compact_text (value_of x) ≡ row_told x
  unfolding object_told
  row_text x is = object_text (pairs x) is.1 ∙ ap object_of is.0

  pub array_told : (rows : List T) → ((x : T) → Has rows x → IsObject x)
      → compact_text (array (rows_value value_of rows)) ≡ array_of (map row_told rows)
  array_told rows are = texts value_of row_told rows (λ x has. row_text x (are x has))

  pub array_flat : (rows : List T) → ((x : T) → Has rows x → IsObject x)
      → (items_depth (items_outline (rows_value value_of rows)) ≤ 1)
      × ItemsHaveNumbers (items_outline (rows_value value_of rows))
  array_flat rows are = flat value_of rows (λ x has. (are x has).2)

  pub array_found : (rows : List T) → ((x : T) → Has rows x → IsObject x)
      → (items : Items) × (of_items (items_outline (rows_value value_of rows)) ≡ Some items)
      × (map read_by (elements items) ≡ map told rows)
  array_found rows are = found value_of read_by told rows (λ x has. (are x has).3)

  -- with these members behind the rows, which are told so, and with which the whole is read so
  module _ (behind : Pairs) (sums : List (List ℕ)) (read_as : Items → Data) where
    abbrev pub AreBehind : Type 0
    AreBehind =
        (map member_text behind ≡ sums) × AreNames behind
        × (members_depth (members_outline (members_from behind)) ≤ 1)
        × MembersHaveNumbers (members_outline (members_from behind))
        × ((inside : json.Items) (items : Items) → of_items inside ≡ Some items
        → of_json (json.object (json.member (codes "rows") (json.array inside)
        (members_outline (members_from behind)))) ≡ Some (read_as items))

    abbrev whole : List T → Pairs
    whole rows = (codes "rows", array (rows_value value_of rows)) ∷ behind

    whole_text : (rows : List T) → ((x : T) → Has rows x → IsObject x) → AreBehind
        → json_of fields sums rows ≡ compact_text (object (members_from (whole rows))) ++ 10 ∷ []
    unfolding escape_byte
    whole_text rows are end =
        let inside = array_told rows are in
        let members : map member_text (whole rows)
        ≡ told_member (codes "rows") (array_of (map row_told rows)) ∷ sums =
        rw (inside, end.0) refl in
        ap (λ (t : List ℕ). t ++ 10 ∷ [])
        (sym (object_text (whole rows) (refl, end.1) ∙ ap object_of members))

    pub list_is : (rows : List T) → ((x : T) → Has rows x → IsObject x) → AreBehind
        → (items : Items) × (read (json_of fields sums rows) ≡ Some (read_as items))
        × (map read_by (elements items) ≡ map told rows)
    list_is rows are end =
        let shape = array_flat rows are in
        let deep = shape.0 in let low = end.2 in
        let own = array_found rows are in (
          own.0,
          ap read (whole_text rows are end)
              ∙ line_read (object (members_from (whole rows))) (shape.1, end.3) (omega arith)
              ∙ end.4 (items_outline (rows_value value_of rows)) own.0 own.1,
          own.2,
        )

  -- with nothing behind them
  pub objects : (rows : List T) → ((x : T) → Has rows x → IsObject x)
      → objects_read read_by (json_of fields [] rows) ≡ Some (map told rows)
  objects rows are =
      let own = list_is [] [] (λ items. object (member (codes "rows") (array items) no_members))
      rows are (refl, tt, omega arith, tt, λ inside items is. (rw is refl)) in
      ap (rows_of read_by) own.1 ∙ ap Some own.2
