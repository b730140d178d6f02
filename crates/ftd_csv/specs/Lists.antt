-- Records in a list: the place of each, and the posts of those that enter something.
use Rattle.std.specs.Prelude.{◌≡◌, ◌++◌, ℕ, Bool, true, false, List, Option, None, Some, length}
use Rattle.std.specs.Prelude.{map}
use Rattle.std.specs.List.{filter_map}
use Rattle.ftd_csv.specs.Places.{CanAdvance, records_left}
use Rattle.ftd_csv.specs.declared.entries.Content.{Content}
use Rattle.ftd_csv.specs.declared.entries.Content.TheVariants as content
use Rattle.ftd_csv.specs.declared.reading.Records.{Records}
use Rattle.ftd_machine.specs.declared.requests.Request.{Request}
use Rattle.ftd_csv.specs.declared.lists.Place.{Place}
use Rattle.ftd_csv.specs.declared.lists.RecordList.{RecordList}

-- the post of a record, which is what it enters
abbrev pub post_in : ℕ × Content → Option Request
post_in (number, content.Entry it) = Some it
post_in (number, content.Malformed field) = None

-- the posts of records
abbrev pub posts_of : List (ℕ × Content) → List Request
posts_of records = filter_map post_in records

-- what is kept of a record beside its post: its number, and its field that is bad, if it has one
abbrev pub kept_of : ℕ × Content → Place
kept_of (number, content.Entry it) = record { number = number; malformed = None }
kept_of (number, content.Malformed field) = record { number = number; malformed = Some field }

-- the record has a post
abbrev pub is_none : Option ℕ → Bool
is_none None = true
is_none (Some field) = false

abbrev pub has_post : Place → Bool
has_post place = is_none place.malformed

-- the list is of these records
pub record IsListOf (records : List (ℕ × Content)) (list : RecordList) : Type 0 where
  pub places : list.places.items ≡ map kept_of records
  pub posts : list.posts.items ≡ posts_of records

-- it is a list of some records
abbrev pub IsList : RecordList → Type 0
IsList list = (records : List (ℕ × Content)) × IsListOf records list

-- the list is of so many of the next records
pub record TakesList (old new : Records) (count : ℕ) (list : RecordList) : Type 0 where
  pub taken : List (ℕ × Content)
  pub split : records_left old ≡ taken ++ records_left new
  pub counted : length taken ≡ count
  pub is : IsListOf taken list
  pub can : CanAdvance new
