-- The parts of a journal, one after the other.
use Rattle.std.proofs.Common.{◌≡◌, ◌∙◌, refl, sym, ap, ℕ, ◌+◌, ◌<◌, ◌≤◌, List, [], ◌∷◌, ◌++◌}
use Rattle.std.proofs.Common.{map, take, length, get_or, Ok, append_assoc, append-nil}
use Rattle.std.specs.Prelude.{flat_map}
use Rattle.std.proofs.lemmas.Grind.{flat_map-append}
use Rattle.std.proofs.lemmas.List.{map-append}
use Rattle.std.proofs.lemmas.List.Folds.{flat_map-map}
use Rattle.sqlite.specs.Store as store
use Rattle.ftd_sql.specs.Standing.{Tables}
use Rattle.ftd_store.specs.Frame.{Reads}
use Rattle.ftd_store.specs.declared.tx.Tx.{Tx}
use Rattle.ftd_store.proofs.Items.{taken}
use Rattle.ftd_store.proofs.Replaced.{all_taken}
use Rattle.ftd_store.proofs.Telling.{then_reads}
use Rattle.ftd_machine.specs.Journal.{corrections_from}
use Rattle.ftd_machine.specs.Sound.{IsSound}
use Rattle.ftd_machine.specs.State.{State}
use Rattle.ftd_machine.specs.declared.requests.Correction.{Correction}
use Rattle.ftd_machine.specs.declared.requests.Request.{Request}
use Rattle.ftd_machine.specs.declared.requests.Request.TheVariants.{Correct}
use Rattle.ftd_entries.specs.Standing.{StandsFor}
use Rattle.ftd_journal.specs.Parts.{AddsPart}

-- ---- two parts

pub part_then : (first second : State → List Request) (a b c : List Request) (t : Tables)
    → AddsPart first a b t → AddsPart second b c t
    → AddsPart (λ s. first s ++ second s) a c t
part_then first second a b c t one two s stands sound =
    two s stands sound ∙ ap (λ rs. rs ++ second s) (one s stands sound)
    ∙ append_assoc a (first s) (second s)

pub parts_read : {S A B C : Type 0} {g : store.Ghosts S} {old mid new : Tx S} {x : A} {y : B}
    (first second : State → List Request) (a b c : List Request) (z : C)
    → Reads g old mid (Ok x) (λ done. AddsPart first a b)
    → Reads g mid new (Ok y) (λ done. AddsPart second b c)
    → Reads g old new (Ok z) (λ done. AddsPart (λ s. first s ++ second s) a c)
parts_read first second a b c z p q =
    then_reads z (λ done. AddsPart (λ s. first s ++ second s) a c) p q
    (λ t one two. part_then first second a b c t one two)

-- ---- the entries of an account, of which rows were read

pub entries_added : {X Y : Type 0} (of : State → X → List Request) (entry : Y → X)
    (own : State → List X) (ys : List Y) (before after : List Request) (t : Tables)
    → ((s : State) → StandsFor t s → IsSound s → map entry ys ≡ own s)
    → AddsPart (λ s. flat_map (λ y. of s (entry y)) ys) before after t
    → AddsPart (λ s. flat_map (of s) (own s)) before after t
entries_added of entry own ys before after t known adds s stands sound =
    adds s stands sound
    ∙ ap (λ rs. before ++ rs)
    (sym (flat_map-map (of s) entry ys) ∙ ap (flat_map (of s)) (known s stands sound))

-- ---- one item more

pub mapped_more : {X Y : Type 0} (f : X → Y) (front : List Y) (xs : List X) (i : ℕ) (x : X)
    → i < length xs → x ≡ get_or xs i x
    → (front ++ map f (take i xs)) ++ f x ∷ [] ≡ front ++ map f (take (i + 1) xs)
mapped_more f front xs i x some is =
    append_assoc front (map f (take i xs)) (f x ∷ [])
    ∙ ap (λ ys. front ++ ys)
    (sym (ap (map f) (taken xs i x some is) ∙ map-append f (take i xs) (x ∷ [])))

pub joined_more : {X Y : Type 0} (f : X → List Y) (front : List Y) (xs : List X) (i : ℕ) (x : X)
    → i < length xs → x ≡ get_or xs i x
    → (front ++ flat_map f (take i xs)) ++ f x ≡ front ++ flat_map f (take (i + 1) xs)
joined_more f front xs i x some is =
    append_assoc front (flat_map f (take i xs)) (f x)
    ∙ ap (λ ys. front ++ ys)
    (sym (ap (flat_map f) (taken xs i x some is) ∙ flat_map-append f (take i xs) (x ∷ [])
    ∙ ap (λ ys. flat_map f (take i xs) ++ ys) (append-nil (f x))))

-- ---- corrections under their numbers

-- those that were made of what was read are those of what it says
pub numbered_as : {X Y : Type 0} (of : Y → Correction) (value : X → Y) (n : ℕ) (xs : List X)
    → corrections_from n (λ (one : Correction). one) (map (λ x. of (value x)) xs)
    ≡ corrections_from n of (map value xs)
numbered_as of value n [] = refl
numbered_as of value n (x ∷ xs) =
    ap (λ rs. Correct n (of (value x)) ∷ rs) (numbered_as of value (n + 1) xs)

pub numbered_is : {X : Type 0} (of : X → Correction) (n : ℕ) (xs : List X)
    → corrections_from n (λ (one : Correction). one) (map of xs) ≡ corrections_from n of xs
numbered_is of n [] = refl
numbered_is of n (x ∷ xs) = ap (λ rs. Correct n (of x) ∷ rs) (numbered_is of (n + 1) xs)

-- ---- item after item of a list that was read

-- as far as a loop has come: what is known of the list, and the parts of its first items
abbrev pub SoFar : {Y : Type 0} → (Tables → Type 0) → (Y → State → List Request) → List Y → ℕ
    → List Request → List Request → Tables → Type 0
SoFar Known of ys i before after t =
    Known t × AddsPart (λ s. flat_map (λ y. of y s) (take i ys)) before after t

pub so_far_none : {Y : Type 0} (Known : Tables → Type 0) (of : Y → State → List Request)
    (ys : List Y) (before : List Request) (t : Tables) → Known t
    → SoFar Known of ys 0 before before t
so_far_none Known of ys before t known = (known, λ s stands sound. sym (append-nil before))

pub so_far_more : {Y : Type 0} (Known : Tables → Type 0) (of : Y → State → List Request)
    (ys : List Y) (i : ℕ) (y : Y) (before mid after : List Request) (t : Tables)
    → i < length ys → y ≡ get_or ys i y → SoFar Known of ys i before mid t
    → AddsPart (of y) mid after t → SoFar Known of ys (i + 1) before after t
so_far_more Known of ys i y before mid after t some is so_far one = (
  so_far.0,
  λ s stands sound.
      one s stands sound ∙ ap (λ rs. rs ++ of y s) (so_far.1 s stands sound)
      ∙ joined_more (λ z. of z s) before ys i y some is,
)

pub so_far_all : {Y : Type 0} (Known : Tables → Type 0) (of : Y → State → List Request)
    (ys : List Y) (i : ℕ) (before after : List Request) (t : Tables)
    → length ys ≤ i → SoFar Known of ys i before after t
    → Known t × AddsPart (λ s. flat_map (λ y. of y s) ys) before after t
so_far_all Known of ys i before after t through so_far = (
  so_far.0,
  λ s stands sound.
      so_far.1 s stands sound
      ∙ ap (λ zs. before ++ flat_map (λ y. of y s) zs) (all_taken ys i through),
)
