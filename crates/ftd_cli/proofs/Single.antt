-- The command line with one subcommand alone reads the words that name it as the whole one does.
use Rattle.std.proofs.Common.{◌≡◌, Bool, true, false, List, [], ◌∷◌, ◌++◌, map, Some}
use Rattle.std.proofs.Common.{refl, sym, ap, ◌∙◌}
use Rattle.std.specs.Prelude.{◌||◌, find}
use Rattle.std.specs.List.{list_all}
use Rattle.std.specs.Str.{bytes_eq}
use Rattle.clap.proofs.OnLiterals.{clap_on_literals}
use Rattle.clap.specs.Faults.{has_free_rules, is_simple_and_free}
use Rattle.clap.specs.Simple.{App, Shape, built, built_leaf, help_shape, inherited, is_ready_leaf}
use Rattle.clap.specs.Simple.{is_simple, is_simple_leaf, label_of, marked_built, new_app}
use Rattle.clap.specs.Simple.{with_leaf_noted, with_rule}
use Rattle.clap.specs.Walk.{Rule, Text, answers_to}
use Rattle.ftd_days.proofs.Spelling.{same_text}
use Rattle.ftd_cli.specs.Apps.{app_for, ftd_app, program, rule_for, single, with_fields, with_names}
use Rattle.ftd_cli.specs.Apps.{with_words}
use Rattle.ftd_cli.specs.Parses.{ReadsAsWhole}
use Rattle.ftd_cli.specs.Table.{all_names, fields_in, name_text, words_of}
use Rattle.ftd_cli.specs.Tasks.{command_named, named_command}
use Rattle.ftd_cli.specs.declared.table.Name.{Name}
use Rattle.ftd_cli.specs.declared.table.Word.{Word}
use Rattle.ftd_cli.specs.declared.table.Word.TheVariants as word
use Rattle.ftd_verbs.specs.declared.field.Field.{Field}
use Rattle.ftd_cli.proofs.Named.{entered_named, fault_named, named}
use Rattle.ftd_cli.proofs.Simple.{free, simple}

-- ---- the command lines as they are built

-- what stands above the subcommands
abbrev above : Shape
above = with_leaf_noted (marked_built (record program.top { is_leaf = false }))

abbrev leaf : Name → Shape
leaf name = built_leaf (inherited above (app_for name).top)

abbrev help_leaf : Shape
help_leaf = built_leaf help_shape

whole_subs : (built ftd_app).subs ≡ map leaf all_names ++ help_leaf ∷ []
unfolding ftd_app with_names
whole_subs = refl

single_subs : (name : Name) → (built (single name)).subs ≡ leaf name ∷ help_leaf ∷ []
single_subs name = refl

-- ---- a subcommand has its name and no other

words_add_rules : (app : App) (words : List Word)
    → (rules : List Rule) × ((with_words app words).top ≡ record app.top { rules = rules })
words_add_rules app [] = (app.top.rules, refl)
words_add_rules app (w ∷ words) = words_add_rules (with_rule app (rule_for w)) words

fields_add_rules : (app : App) (fields : List Field)
    → (rules : List Rule) × ((with_fields app fields).top ≡ record app.top { rules = rules })
fields_add_rules app [] = (app.top.rules, refl)
fields_add_rules app (at ∷ fields) =
    fields_add_rules (with_rule app (rule_for (word.Field at))) fields

label_is : (name : Name) → label_of (leaf name) ≡ (name_text name, [])
label_is name =
    let words = words_add_rules (new_app (name_text name)) (words_of name) in
    let fields = fields_add_rules (with_words (new_app (name_text name)) (words_of name))
    (fields_in name) in
    ap (λ s. label_of (built_leaf (inherited above s)))
    (fields.1 ∙ ap (λ (s : Shape). record s { rules = fields.0 }) words.1)

answers_is : (text : Text) (name : Name) → answers_to text (label_of (leaf name))
    ≡ (bytes_eq (name_text name) text || false)
answers_is text name = ap (answers_to text) (label_is name)

-- ---- the name that a word has

found_holds : {X : Type 0} (p : X → Bool) (xs : List X) (x : X) → find p xs ≡ Some x → p x ≡ true
found_holds p [] x e = cc
found_holds p (y ∷ xs) x e = go (p y) refl (found_holds p xs x) e where
  go : (b : Bool) → p y ≡ b → (find p xs ≡ Some x → p x ≡ true) → find p (y ∷ xs) ≡ Some x
      → p x ≡ true
  go true is h e = let same : x ≡ y = cc in rw same is
  go false is h e = h cc

all_found : {X : Type 0} (p q : X → Bool) (xs : List X) (x : X) → list_all p xs ≡ true
    → find q xs ≡ Some x → p x ≡ true
all_found p q [] x all e = cc
all_found p q (y ∷ xs) x all e = go (q y) (p y) refl refl (all_found p q xs x) all e where
  go : (b c : Bool) → q y ≡ b → p y ≡ c
      → (list_all p xs ≡ true → find q xs ≡ Some x → p x ≡ true)
      → list_all p (y ∷ xs) ≡ true → find q (y ∷ xs) ≡ Some x → p x ≡ true
  go true true is holds h all e = let same : x ≡ y = cc in rw same holds
  go true false is holds h all e = cc
  go false true is holds h all e =
      let others : list_all p xs ≡ true = cc in
      let later : find q xs ≡ Some x = cc in
      h others later
  go false false is holds h all e = cc

found_leaf : (text : Text) (name : Name) (rest : List Shape) (names : List Name)
    → find (λ n. bytes_eq (name_text n) text) names ≡ Some name
    → named text (map leaf names ++ rest) ≡ Some (leaf name)
found_leaf text name rest [] e = cc
found_leaf text name rest (n ∷ names) e =
    go (bytes_eq (name_text n) text) refl (found_leaf text name rest names) e where
      go : (b : Bool) → bytes_eq (name_text n) text ≡ b
          → (find (λ m. bytes_eq (name_text m) text) names ≡ Some name
          → named text (map leaf names ++ rest) ≡ Some (leaf name))
          → find (λ m. bytes_eq (name_text m) text) (n ∷ names) ≡ Some name
          → named text (map leaf (n ∷ names) ++ rest) ≡ Some (leaf name)
      go true is h e =
          let same : n ≡ name = cc in
          rw (answers_is text n, is) (ap (λ m. Some (leaf m)) same)
      go false is h e = rw (answers_is text n, is) (h cc)

-- ---- it is as simple as the whole

simple_leaves : list_all (λ name. is_simple_leaf (app_for name).top) all_names ≡ true
unfolding clap_on_literals
simple_leaves = refl

ready_leaves : list_all (λ name. is_ready_leaf (leaf name)) all_names ≡ true
unfolding clap_on_literals
ready_leaves = refl

free_leaves : list_all (λ name. has_free_rules (leaf name)) all_names ≡ true
unfolding clap_on_literals
free_leaves = refl

module _ (text : Text) (name : Name) (e : command_named text ≡ Some name) where
  simple_leaf : is_simple_leaf (app_for name).top ≡ true
  unfolding command_named
  simple_leaf = all_found (λ n. is_simple_leaf (app_for n).top)
      (λ n. bytes_eq (name_text n) text) all_names name simple_leaves e

  ready_leaf : is_ready_leaf (leaf name) ≡ true
  unfolding command_named
  ready_leaf = all_found (λ n. is_ready_leaf (leaf n)) (λ n. bytes_eq (name_text n) text)
      all_names name ready_leaves e

  free_leaf : has_free_rules (leaf name) ≡ true
  unfolding command_named
  free_leaf = all_found (λ n. has_free_rules (leaf n)) (λ n. bytes_eq (name_text n) text)
      all_names name free_leaves e

  single_simple : is_simple (single name) ≡ true
  unfolding clap_on_literals
  single_simple = rw (simple_leaf, ready_leaf) refl

  single_free : is_simple_and_free (single name) ≡ true
  unfolding clap_on_literals
  single_free = rw (single_simple, free_leaf) refl

  -- ---- it reads the words that name it as the whole

  in_whole : named text (built ftd_app).subs ≡ Some (leaf name)
  unfolding command_named
  in_whole = ap (named text) whole_subs ∙ found_leaf text name (help_leaf ∷ []) all_names e

  has_name : bytes_eq (name_text name) text ≡ true
  unfolding command_named
  has_name = found_holds (λ n. bytes_eq (name_text n) text) all_names name e

  in_single : named text (built (single name)).subs ≡ Some (leaf name)
  in_single = rw (answers_is text name, has_name) refl

  same_name : (leaf name).name ≡ text
  same_name = ap (λ l. l.0) (label_is name) ∙ same_text _ _ has_name

  pub single_reads : (first : Text) (rest : List Text)
      → ReadsAsWhole (single name) (first ∷ text ∷ rest)
  unfolding ftd_app with_names
  single_reads first rest = record {
    simple = single_simple;
    free = single_free;
    faults = fault_named (built (single name)) text (leaf name) in_single same_name rest
        ∙ sym (fault_named (built ftd_app) text (leaf name) in_whole same_name rest);
    called = entered_named (built (single name)) text (leaf name) in_single same_name rest
        ∙ sym (entered_named (built ftd_app) text (leaf name) in_whole same_name rest);
  }

pub named_reads : (words : List Text) (name : Name) → named_command words ≡ Some name
    → ReadsAsWhole (single name) words
named_reads [] name e = cc
named_reads (first ∷ []) name e = cc
named_reads (first ∷ text ∷ rest) name e = single_reads text name e first rest

pub whole_reads : (words : List Text) → ReadsAsWhole ftd_app words
whole_reads words = record { simple = simple; free = free; faults = refl; called = refl }
