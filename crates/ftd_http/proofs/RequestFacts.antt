-- Where a path gives a field.
use Rattle.std.proofs.Common.{◌≡◌, ◌∙◌, ◌+◌, ℕ, Bool, List, [], ◌∷◌, Option}
use Rattle.std.proofs.Common.{cond, map, not, refl, sym, ap}
use Rattle.std.proofs.lemmas.List.{length-map}
use Rattle.std.specs.List.{position, prefix_len}
use Rattle.ftd_verbs.specs.Rows.{VerbRow, part_seen, row_of, row_seen}
use Rattle.ftd_verbs.specs.declared.field.Field.{Field}
use Rattle.ftd_verbs.specs.declared.rows.Row.{Row}
use Rattle.ftd_verbs.specs.declared.rows.Verb.{Verb}
use Rattle.ftd_http.specs.Requests.{gives}

-- the first place of a list, by what its elements are seen as
prefix_seen : {X Y : Type 0} (p : Y → Bool) (seen : X → Y) (xs : List X)
    → prefix_len p (map seen xs) ≡ prefix_len (λ x. p (seen x)) xs
prefix_seen p seen [] = refl
prefix_seen p seen (x ∷ xs) = ap (λ n. cond (p (seen x)) (1 + n) 0) (prefix_seen p seen xs)

pub position_seen : {X Y : Type 0} (p : Y → Bool) (seen : X → Y) (xs : List X)
    → position p (map seen xs) ≡ position (λ x. p (seen x)) xs
position_seen p seen xs =
    rw (prefix_seen (λ y. not (p y)) seen xs, length-map xs seen) refl

-- the place in the path of a row as it stands in the code
pub place_said : (row : Row) (verb : Verb) (at : Field) (place : Option ℕ)
    → row_seen row ≡ row_of verb
    → place ≡ position (λ part. gives at (part_seen part)) row.path.now
    → place ≡ position (gives at) (row_of verb).path
place_said row verb at place same is =
    is ∙ (sym (position_seen (gives at) part_seen row.path.now)
    ∙ ap (λ (w : VerbRow). position (gives at) w.path) same)
