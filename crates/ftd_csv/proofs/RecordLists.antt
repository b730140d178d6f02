-- Lists of records.
use Rattle.std.proofs.Common.{◌≡◌, ◌<◌, ◌+◌, ℕ, suc, List, [], ◌∷◌, ◌++◌, length, map}
use Rattle.std.proofs.Common.{take, drop, get_or, drop-cons, add-one, Some, None, refl, sym, ap}
use Rattle.std.proofs.Common.{arith}
use Rattle.std.proofs.Common.{◌∙◌, length-append}
use Rattle.std.specs.List.{filter}
use Rattle.std.proofs.lemmas.List.{get_or-map, length-map, map-append, take-append-drop, take_more}
use Rattle.std.proofs.lemmas.List.Elements.{filter_map-append}
use Rattle.ftd_csv.specs.Places.{number_of, records_left, rows_after, said_left, sheet_of}
use Rattle.ftd_csv.specs.Records.{entry_in, numbered_from}
use Rattle.ftd_csv.specs.declared.entries.Content.{Content}
use Rattle.ftd_csv.specs.declared.entries.Content.TheVariants as content
use Rattle.ftd_csv.specs.declared.reading.Records.{Records}
use Rattle.ftd_machine.specs.declared.requests.Request.{Request}
use Rattle.ftd_csv.specs.Lists.{IsListOf, has_post, kept_of, post_in, posts_of}
use Rattle.ftd_csv.specs.declared.lists.Place.{Place}
use Rattle.ftd_csv.specs.declared.lists.RecordList.{RecordList}

-- ---- the records that are left
length_numbered : (number : ℕ) (said : List Content)
    → length (numbered_from number said) ≡ length said
length_numbered number [] = refl
length_numbered number (said ∷ others) = ap suc (length_numbered (number + 1) others)

pub length_left : (records : Records) → length (records_left records) ≡ length (rows_after records)
length_left records = length_numbered (number_of records + 1) (said_left records)
    ∙ length-map (rows_after records) (entry_in (sheet_of records))

-- ---- a list with one more record
pub list_more : (before : List (ℕ × Content)) (old new : RecordList)
    (at : ℕ × Content) (place : Place)
    (posts : List Request) → place ≡ kept_of at → posts ≡ posts_of (at ∷ [])
    → new.places.items ≡ old.places.items ++ place ∷ []
    → new.posts.items ≡ old.posts.items ++ posts → IsListOf before old
    → IsListOf (before ++ at ∷ []) new
list_more before old new at place posts kept post places_more posts_more is = record {
  places = places_more ∙ ap (λ (ps : List Place). ps ++ place ∷ []) is.places
      ∙ ap (λ (p : Place). map kept_of before ++ p ∷ []) kept
      ∙ sym (map-append kept_of before (at ∷ []));
  posts = posts_more ∙ ap (λ (ps : List Request). ps ++ posts) is.posts
      ∙ ap (λ (ps : List Request). posts_of before ++ ps) post
      ∙ sym (filter_map-append post_in before (at ∷ []));
}

-- ---- the record at a place of a list
pub record IsNext (records : List (ℕ × Content)) (i : ℕ) (place : Place) : Type 0 where
  pub at : ℕ × Content
  pub rest : drop i records ≡ at ∷ drop (i + 1) records
  pub more : take (i + 1) records ≡ take i records ++ at ∷ []
  pub kept : place ≡ kept_of at

pub next_of : (records : List (ℕ × Content)) (places : List Place) (i : ℕ) (default : Place)
    → places ≡ map kept_of records → i < length places → IsNext records i (get_or places i default)
next_of records places i default are within =
    let none : ℕ × Content = (0, content.Malformed 0) in
    let long : length places ≡ length records = ap length are ∙ length-map records kept_of in
    let here : i < length records = omega arith in
    record {
      at = get_or records i none;
      rest = rw add-one (drop-cons records i none here);
      more = take_more records i none here;
      kept = ap (λ (ps : List Place). get_or ps i default) are
          ∙ get_or-map kept_of records i none default here;
    }

pub next_split : (records : List (ℕ × Content)) (i : ℕ) (place : Place)
    (next : IsNext records i place)
    → records ≡ take i records ++ next.at ∷ drop (i + 1) records
next_split records i place next = sym (take-append-drop i records)
    ∙ ap (λ (rs : List (ℕ × Content)). take i records ++ rs) next.rest

pub is_entry : (at : ℕ × Content) (place : Place) → place ≡ kept_of at → place.malformed ≡ None
    → (it : Request) × (at ≡ (place.number, content.Entry it))
is_entry (number, content.Entry it) place kept none = (it, rw kept refl)
is_entry (number, content.Malformed field) place kept none = let e = rw kept at none in absurd (cc)

pub is_malformed : (at : ℕ × Content) (place : Place) (field : ℕ) → place ≡ kept_of at
    → place.malformed ≡ Some field → at ≡ (place.number, content.Malformed field)
is_malformed (number, content.Entry it) place field kept bad = let e = rw kept at bad in absurd (cc)
is_malformed (number, content.Malformed other) place field kept bad =
    let e = rw kept at bad in let same : other ≡ field = cc in rw (kept, same) refl

-- ---- posts
pub posts_count : (records : List (ℕ × Content))
    → length (posts_of records) ≡ length (filter has_post (map kept_of records))
posts_count [] = refl
posts_count ((number, content.Entry it) ∷ records) = ap suc (posts_count records)
posts_count ((number, content.Malformed field) ∷ records) = posts_count records

-- an entry's post is there
pub post_there : (records : List (ℕ × Content)) (i : ℕ) (place : Place) (left : List Request)
    → IsNext records i place → left ≡ posts_of (drop i records) → place.malformed ≡ None
    → 0 < length left
post_there records i place left next is none =
    let (it, at) = is_entry next.at place next.kept none in
    let first : left ≡ it ∷ posts_of (drop (i + 1) records) =
    is ∙ ap posts_of (next.rest ∙ ap (λ (r : ℕ × Content). r ∷ drop (i + 1) records) at) in
    omega (arith, ap length first)

-- the posts that are left are those of the next record and of those after it
pub next_posts : (records : List (ℕ × Content)) (i : ℕ) (place : Place) (left : List Request)
    (next : IsNext records i place) → left ≡ posts_of (drop i records)
    → left ≡ posts_of (next.at ∷ drop (i + 1) records)
next_posts records i place left next is = is ∙ ap posts_of next.rest

-- a record without an entry has none
pub posts_passed : (records : List (ℕ × Content)) (i : ℕ) (place : Place) (field : ℕ)
    (left : List Request) → IsNext records i place → left ≡ posts_of (drop i records)
    → place.malformed ≡ Some field → left ≡ posts_of (drop (i + 1) records)
posts_passed records i place field left next is bad =
    is ∙ ap posts_of (next.rest ∙ ap (λ (r : ℕ × Content). r ∷ drop (i + 1) records)
    (is_malformed next.at place field next.kept bad))

-- ---- lists
pub places_count : (records : List (ℕ × Content)) (list : RecordList) → IsListOf records list
    → length list.places.items ≡ length records
places_count records list is = ap length is.places ∙ length-map records kept_of

-- so many are left after those that were passed
pub left_count : (old new : Records) (passed : List (ℕ × Content))
    → records_left old ≡ passed ++ records_left new
    → length (rows_after old) ≡ length passed + length (rows_after new)
left_count old new passed split =
    sym (length_left old) ∙ ap length split ∙ length-append passed (records_left new)
    ∙ ap (λ n. length passed + n) (length_left new)

-- the first of the posts is the entry's
pub first_post : (number : ℕ) (it : Request) (at : ℕ × Content) (later : List (ℕ × Content))
    (posts others : List Request) (first : Request) → at ≡ (number, content.Entry it)
    → posts ≡ posts_of (at ∷ later) → posts ≡ first ∷ others → first ≡ it
first_post number it at later posts others first is of split =
    let both : first ∷ others ≡ it ∷ posts_of later = sym split ∙ of
    ∙ ap (λ (said : ℕ × Content). posts_of (said ∷ later)) is in cc

-- and the others are those of the records after it
pub later_posts : (number : ℕ) (it : Request) (at : ℕ × Content) (later : List (ℕ × Content))
    (posts others : List Request) (first : Request) → at ≡ (number, content.Entry it)
    → posts ≡ posts_of (at ∷ later) → posts ≡ first ∷ others → others ≡ posts_of later
later_posts number it at later posts others first is of split =
    let both : first ∷ others ≡ it ∷ posts_of later = sym split ∙ of
    ∙ ap (λ (said : ℕ × Content). posts_of (said ∷ later)) is in cc
