-- What a command line makes of words that begin with the name of one of its subcommands.
use Rattle.std.proofs.Common.{◌≡◌, Bool, true, false, List, [], ◌∷◌, map, Option, Some}
use Rattle.std.proofs.Common.{option_map, refl, sym, ap, ap₂, ◌∙◌}
use Rattle.std.specs.Prelude.{find, fold, is_some}
use Rattle.std.specs.Option.{option_map_or}
use Rattle.clap.specs.Faults.{built_fault, check_fault, defaults_fault, entered_fault, level_fault}
use Rattle.clap.specs.Faults.{other_fault, settle_fault, step_fault, turn_fault, walk_fault}
use Rattle.clap.specs.Kinds.{Kinds, or_else}
use Rattle.clap.specs.Simple.{App, Shape, entered, label_of, names_of, rows_at}
use Rattle.clap.specs.Walk.{Held, Row, Text, Walk, after_step, answers_to, finished, idle}
use Rattle.clap.specs.Walk.{nothing_held, settled, stop_after, subcommand_met, subcommand_or_other}
use Rattle.clap.specs.Walk.{walk, walk_from, walked}
use Rattle.clap.proofs.FaultLemmas.{stopped_fault}
use Rattle.clap.proofs.WalkLemmas.{walk_stopped}

-- the subcommand that the word names
abbrev pub named : Text → List Shape → Option Shape
named word subs = find (λ s. answers_to word (label_of s)) subs

named_label : (word : Text) (subs : List Shape)
    → find (answers_to word) (map label_of subs) ≡ option_map label_of (named word subs)
named_label word [] = refl
named_label word (s ∷ subs) = go (answers_to word (label_of s)) refl (named_label word subs) where
  go : (b : Bool) → answers_to word (label_of s) ≡ b
      → find (answers_to word) (map label_of subs) ≡ option_map label_of (named word subs)
      → find (answers_to word) (map label_of (s ∷ subs))
      ≡ option_map label_of (named word (s ∷ subs))
  go true e h = rw e refl
  go false e h = rw e h

-- where the walk stands before the first word
abbrev start : Walk
start = walk_from nothing_held

-- what a level fails by: its words, the subcommand that it enters, and what is left at its end
abbrev level : Shape → Kinds → Held → Bool → Kinds → Kinds
level top words end has_subcommand below =
    or_else words (or_else below (or_else (settle_fault top.rules top.args_override_self end)
    (or_else (defaults_fault (settled top.rules end).rows top.rules)
    (check_fault top (finished top.rules end) has_subcommand))))

abbrev above_fault : Shape → Text → Kinds
above_fault top word =
    or_else (or_else (other_fault top (Some word) word nothing_held) []) []

-- the faults of words of which the first names this subcommand
abbrev pub faults_of : Shape → Shape → Text → List Text → Kinds
faults_of top s word rest =
    level top (above_fault top word) nothing_held true (level_fault s [] nothing_held rest false [])

module _ (a : App) (word : Text) (s : Shape) (is : named word a.subs ≡ Some s)
    (same : s.name ≡ word) where
  met : subcommand_met (names_of a) idle word ≡ Some word
  met = ap (option_map (λ l. l.0)) (named_label word a.subs ∙ ap (option_map label_of) is)
      ∙ ap Some same

  first : walked a.top.rules (names_of a) start word ≡ record start { stopped = Some (word, []) }
  unfolding walked
  first = ap (λ m.
      after_step a.top.rules word start
      (subcommand_or_other a.top.rules m idle 1 word nothing_held).0
      (subcommand_or_other a.top.rules m idle 1 word nothing_held).1) met

  pub walk_named : (rest : List Text)
      → walk a.top.rules (names_of a) nothing_held (word ∷ rest)
      ≡ record start { stopped = Some (word, rest) }
  walk_named rest = ap (λ w. fold (walked a.top.rules (names_of a)) w rest) first
      ∙ sym (walk_stopped a.top.rules (names_of a) start word [] rest)

  pub entered_named : (rest : List Text)
      → entered a (stop_after a.top.rules (names_of a) (word ∷ rest)) ≡ Some (rows_at s rest)
  entered_named rest = ap (λ (w : Walk). entered a w.stopped) (walk_named rest)
      ∙ ap (option_map (λ t. rows_at t rest)) is

  turn : turn_fault a.top (names_of a) start word
      ≡ or_else (other_fault a.top (Some word) word nothing_held) []
  turn = ap (λ m.
      or_else (other_fault a.top m word nothing_held)
      (step_fault a.top 1 (subcommand_or_other a.top.rules m idle 1 word nothing_held).0
      (subcommand_or_other a.top.rules m idle 1 word nothing_held).1)) met

  walk_fault_named : (rest : List Text) → walk_fault a.top (names_of a) start (word ∷ rest)
      ≡ or_else (or_else (other_fault a.top (Some word) word nothing_held) []) []
  unfolding walk_fault
  walk_fault_named rest = ap₂ or_else turn
      (ap (λ w. walk_fault a.top (names_of a) w rest) first
      ∙ stopped_fault a.top (names_of a) start (word, []) rest)

  entered_fault_named : (rest : List Text) → entered_fault a (Some (word, rest))
      ≡ level_fault s [] nothing_held rest false []
  entered_fault_named rest =
      ap (λ o. option_map_or (λ t. level_fault t [] nothing_held rest false []) o []) is

  -- the faults of the words: those of this subcommand, and of what stands above it
  pub fault_named : (rest : List Text) → built_fault a nothing_held (word ∷ rest)
      ≡ faults_of a.top s word rest
  fault_named rest = ap₂ (λ (k : Kinds) (w : Walk).
      level a.top k w.held (is_some (entered a w.stopped)) (entered_fault a w.stopped))
      (walk_fault_named rest) (walk_named rest)
      ∙ ap₂ (λ (o : Option (Text × List Row)) (k : Kinds).
      level a.top (above_fault a.top word) nothing_held (is_some o) k)
      (ap (option_map (λ t. rows_at t rest)) is) (entered_fault_named rest)
