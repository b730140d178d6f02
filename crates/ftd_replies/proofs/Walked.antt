-- What a subcommand makes of its words, where some of them are values: words that are no flags,
-- whatever bytes they have.
use Rattle.std.proofs.Common.{◌≡◌, ℕ, Bool, true, false, List, [], ◌∷◌, map, Option, Some, None}
use Rattle.std.proofs.Common.{cond, refl, ap, ap₂, ◌∙◌}
use Rattle.std.specs.Prelude.{◌==◌, not, fold, is_some}
use Rattle.std.specs.List.{list_all}
use Rattle.std.proofs.lemmas.Bool.{and_parts}
use Rattle.clap.specs.Faults.{check_fault, defaults_fault, level_fault, settle_fault, step_fault}
use Rattle.clap.specs.Faults.{turn_fault, walk_fault, word_fault}
use Rattle.clap.specs.Kinds.{Kinds, or_else}
use Rattle.clap.specs.Simple.{Shape, rows_at}
use Rattle.clap.specs.Walk.{Held, Rule, Text, Waiting, Walk, after_step, finished, nothing_held}
use Rattle.clap.specs.Walk.{idle, option, plain_word, positional, settled, subcommand_met}
use Rattle.clap.specs.Walk.{walk_from, walked, walked_from, word_met}
use Rattle.ftd_replies.specs.LineRequests.{is_value}

-- ---- words that are values

-- a word of a command: a value, or one that is read as it stands
pub data Item : Type 0 where
  place : Text → Item
  flag : Text → Item

-- how it is written
abbrev pub text_of : Item → Text
text_of (place text) = text
text_of (flag text) = text

-- a value is none that begins with a hyphen
abbrev pub may_be_item : Item → Bool
may_be_item (place text) = is_value text
may_be_item (flag text) = true

-- so of all words
abbrev pub are_items : List Item → Bool
are_items items = list_all may_be_item items

-- ---- one word

-- a value goes to the option that waits for one, or to the next place
abbrev pub placed : List Rule → Walk → Text → Option (Text × List Text) → Bool → Walk
placed c w text None false =
    after_step c text w (plain_word c w.waiting text w.held).0
    (plain_word c w.waiting text w.held).1
placed c w text (Some stop) is_trailing = walked c [] w text
placed c w text None true = walked c [] w text

-- where the walk stands behind a word
abbrev pub read : List Rule → Walk → Item → Walk
read c w (place text) = placed c w text w.stopped w.is_trailing
read c w (flag text) = walked c [] w text

-- the faults of a value, and of a word
abbrev pub placed_fault : Shape → Walk → Text → Option (Text × List Text) → Bool → Kinds
placed_fault s w text None false =
    step_fault s w.position (plain_word s.rules w.waiting text w.held).0
    (plain_word s.rules w.waiting text w.held).1
placed_fault s w text (Some stop) is_trailing = turn_fault s [] w text
placed_fault s w text None true = turn_fault s [] w text

abbrev pub item_fault : Shape → Walk → Item → Kinds
item_fault s w (place text) = placed_fault s w text w.stopped w.is_trailing
item_fault s w (flag text) = turn_fault s [] w text

-- where a command has no subcommand none is met
none_met : (w : Waiting) (text : Text) → subcommand_met [] w text ≡ None
none_met idle text = refl
none_met (option id) text = refl
none_met positional text = refl

-- a value is no flag, so it is a word like any other
plain_met : (c : List Rule) (w : Waiting) (position : ℕ) (text : Text) (h : Held)
    → is_value text ≡ true
    → word_met c [] false w position text h ≡ plain_word c w text h
plain_met c w position [] h e = cc e
plain_met c w position (first ∷ others) h e = go (first == 45) refl e
  where
    go : (b : Bool) → (first == 45) ≡ b → not b ≡ true
        → word_met c [] false w position (first ∷ others) h ≡ plain_word c w (first ∷ others) h
    go true is e = cc e
    go false is e = rw (none_met w (first ∷ others), is, is) refl

-- and as such it has no fault of its own
no_word_fault : (s : Shape) (w : Waiting) (text : Text) (h : Held) → is_value text ≡ true
    → word_fault s [] false w text h ≡ []
no_word_fault s w [] h e = cc e
no_word_fault s w (first ∷ others) h e = go (first == 45) refl e
  where
    go : (b : Bool) → (first == 45) ≡ b → not b ≡ true
        → word_fault s [] false w (first ∷ others) h ≡ []
    go true is e = cc e
    go false is e = rw (none_met w (first ∷ others), is, is) refl

-- the walk goes on from a value as from a word that is placed
value_walked : (c : List Rule) (w : Walk) (text : Text) → is_value text ≡ true
    → (stopped : Option (Text × List Text)) (is_trailing : Bool) → w.stopped ≡ stopped
    → w.is_trailing ≡ is_trailing
    → walked c [] w text ≡ placed c w text stopped is_trailing
unfolding walked
value_walked c w text e None false s t =
    let met : word_met c [] w.is_trailing w.waiting w.position text w.held
    ≡ plain_word c w.waiting text w.held =
    ap (λ b. word_met c [] b w.waiting w.position text w.held) t
    ∙ plain_met c w.waiting w.position text w.held e in
    ap (λ o. walked_from c [] o w text) s ∙ ap (λ m. after_step c text w m.0 m.1) met
value_walked c w text e (Some stop) is_trailing s t = refl
value_walked c w text e None true s t = refl

-- and so do its faults
value_turn : (s : Shape) (w : Walk) (text : Text) → is_value text ≡ true
    → (stopped : Option (Text × List Text)) (is_trailing : Bool) → w.stopped ≡ stopped
    → w.is_trailing ≡ is_trailing
    → turn_fault s [] w text ≡ placed_fault s w text stopped is_trailing
value_turn s w text e None false stop t =
    let met : word_met s.rules [] w.is_trailing w.waiting w.position text w.held
    ≡ plain_word s.rules w.waiting text w.held =
    ap (λ b. word_met s.rules [] b w.waiting w.position text w.held) t
    ∙ plain_met s.rules w.waiting w.position text w.held e in
    let none : word_fault s [] w.is_trailing w.waiting text w.held ≡ [] =
    ap (λ b. word_fault s [] b w.waiting text w.held) t ∙ no_word_fault s w.waiting text w.held e in
    ap (λ o. cond (is_some o) [] (or_else (word_fault s [] w.is_trailing w.waiting text w.held)
    (step_fault s w.position
    (word_met s.rules [] w.is_trailing w.waiting w.position text w.held).0
    (word_met s.rules [] w.is_trailing w.waiting w.position text w.held).1))) stop
    ∙ ap₂ (λ k m. or_else k (step_fault s w.position m.0 m.1)) none met
value_turn s w text e (Some stop) is_trailing s' t = refl
value_turn s w text e None true s' t = refl

-- so the walk, and its faults, go on from each word by what it is
item_walked : (c : List Rule) (w : Walk) (item : Item) → may_be_item item ≡ true
    → walked c [] w (text_of item) ≡ read c w item
item_walked c w (place text) e = value_walked c w text e w.stopped w.is_trailing refl refl
item_walked c w (flag text) e = refl

item_turn : (s : Shape) (w : Walk) (item : Item) → may_be_item item ≡ true
    → turn_fault s [] w (text_of item) ≡ item_fault s w item
item_turn s w (place text) e = value_turn s w text e w.stopped w.is_trailing refl refl
item_turn s w (flag text) e = refl

-- ---- all words

-- where the walk stands behind all words, and their faults
abbrev pub read_all : List Rule → Walk → List Item → Walk
read_all c w items = fold (read c) w items

unfoldable pub items_fault : Shape → Walk → List Item → Kinds
items_fault s w [] = []
items_fault s w (item ∷ items) =
    or_else (item_fault s w item) (items_fault s (read s.rules w item) items)

-- the walk over words is that by what they are
all_walked : (c : List Rule) (w : Walk) (items : List Item) → are_items items ≡ true
    → fold (walked c []) w (map text_of items) ≡ read_all c w items
all_walked c w [] e = refl
all_walked c w (item ∷ items) e =
    let parts = and_parts (may_be_item item) (are_items items) e in
    ap (λ v. fold (walked c []) v (map text_of items)) (item_walked c w item parts.0)
    ∙ all_walked c (read c w item) items parts.1

-- so are its faults
all_faults : (s : Shape) (w : Walk) (items : List Item) → are_items items ≡ true
    → walk_fault s [] w (map text_of items) ≡ items_fault s w items
unfolding walk_fault items_fault
all_faults s w [] e = refl
all_faults s w (item ∷ items) e =
    let parts = and_parts (may_be_item item) (are_items items) e in
    ap₂ (λ k v. or_else k (walk_fault s [] v (map text_of items))) (item_turn s w item parts.0)
    (item_walked s.rules w item parts.0)
    ∙ ap (or_else (item_fault s w item)) (all_faults s (read s.rules w item) items parts.1)

-- ---- a subcommand

-- where the walk begins
abbrev pub start : Walk
start = walk_from nothing_held

-- what a subcommand fails by, with these faults of its words, and these values at their end
abbrev pub end_fault : Shape → Kinds → Held → Kinds
end_fault s words end =
    or_else words (or_else [] (or_else (settle_fault s.rules s.args_override_self end)
    (or_else (defaults_fault (settled s.rules end).rows s.rules)
    (check_fault s (finished s.rules end) false))))

-- the faults of words, and the values that they give, by what the words are
pub level_by_items : (s : Shape) (items : List Item) → are_items items ≡ true
    → level_fault s [] nothing_held (map text_of items) false []
    ≡ end_fault s (items_fault s start items) (read_all s.rules start items).held
level_by_items s items e =
    ap₂ (λ k (w : Walk). end_fault s k w.held) (all_faults s start items e)
    (all_walked s.rules start items e)

-- the values that the words give, by what they are
pub rows_by_items : (s : Shape) (items : List Item) → are_items items ≡ true
    → rows_at s (map text_of items)
    ≡ (s.name, finished s.rules (read_all s.rules start items).held)
rows_by_items s items e =
    ap (λ (w : Walk). (s.name, finished s.rules w.held)) (all_walked s.rules start items e)
