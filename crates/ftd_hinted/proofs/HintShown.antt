-- A text shows a command, by the words that it is made of.
use Rattle.std.proofs.Common.{◌≡◌, ℕ, true, List, [], ◌∷◌, ◌++◌, refl, ap, ◌∙◌}
use Rattle.std.specs.Prelude.{codes}
use Rattle.std.specs.List.{concat, list_all}
use Rattle.clap.specs.Words.{Text}
use Rattle.ftd_cli.specs.Asking.{Wanted}
use Rattle.ftd_verbs.specs.Rows.{row_of}
use Rattle.ftd_verbs.specs.declared.rows.Verb.{Verb}
use Rattle.ftd_replies.specs.Commands.{command_of, command_on, file_text, is_plain}
use Rattle.ftd_hinted.specs.Hinted.{Ask, IsFile, Shows, are_plain, command_in, is_space, words_in}
use Rattle.ftd_hinted.proofs.HintValues.{IsWord}
use Rattle.ftd_hinted.proofs.HintWords.{file_shown, next_word, shown_plain}

-- the words of a command before the file
abbrev pub opening : Verb → List Text
opening verb = codes "ftd" ∷ (row_of verb).command ∷ codes "--db" ∷ []

-- a text whose command begins with these words, whatever stands behind it
pub record Opens (before : List ℕ) (verb : Verb) : Type 0 where
  pub plain : list_all is_plain (row_of verb).command ≡ true
  pub opens : (rest : List ℕ) → command_in (before ++ rest) ≡ opening verb ++ words_in rest

-- a text with the command of a verb, the file, and these words, shows it
pub shows : (db text : List ℕ) (verb : Verb) (between after holders filling : List Text)
    (wanted : Wanted) → IsFile db → list_all is_plain (row_of verb).command ≡ true
    → command_in text ≡ opening verb ++ file_text db ∷ (between ++ (holders ++ after))
    → are_plain (between ++ (holders ++ after)) ≡ true
    → Ask (opening verb ++ db ∷ (between ++ (filling ++ after))) wanted
    → Shows db text holders filling wanted
shows db text verb between after holders filling wanted f verb_plain is plain asks = record {
  before = opening verb;
  between = between;
  after = after;
  command = is;
  plain = ap are_plain is ∙ rw (verb_plain, shown_plain (file_text db) (file_shown db f)) plain;
  asks = asks;
}

module _ (db before : List ℕ) (verb : Verb) (space : ℕ) (rest : List ℕ)
    (after holders filling : List Text) (wanted : Wanted) (f : IsFile db)
    (o : Opens before verb) (is_end : is_space space ≡ true)
    (ends : words_in (rest ++ []) ≡ holders ++ after)
    (plain : are_plain (holders ++ after) ≡ true) where
  -- the file, and one word behind it
  pub shows_on : (word : Text) → IsWord word
      → Ask (opening verb ++ db ∷ word ∷ (filling ++ after)) wanted
      → Shows db (command_on before db word (space ∷ rest)) holders filling wanted
  shows_on word w asks =
      let tail : List ℕ = concat (word ∷ (space ∷ rest) ∷ []) in
      shows db (command_on before db word (space ∷ rest)) verb (word ∷ []) after holders filling
      wanted f o.plain
      (o.opens (concat (file_text db ∷ codes " " ∷ word ∷ (space ∷ rest) ∷ []))
      ∙ ap (λ ws. opening verb ++ ws) (next_word (file_text db) 32 tail (file_shown db f) refl
      ∙ ap (λ ws. file_text db ∷ ws) (next_word word space (rest ++ []) w.shown is_end
      ∙ ap (λ ws. word ∷ ws) ends)))
      (rw (shown_plain word w.shown) plain) asks

  -- the file, and two words behind it
  pub shows_of : (account word : Text) → IsWord account → IsWord word
      → Ask (opening verb ++ db ∷ account ∷ word ∷ (filling ++ after)) wanted
      → Shows db (command_of before db account word (space ∷ rest)) holders filling wanted
  shows_of account word a w asks =
      let tail : List ℕ = concat (word ∷ (space ∷ rest) ∷ []) in
      let more : List ℕ = concat (account ∷ codes " " ∷ word ∷ (space ∷ rest) ∷ []) in
      shows db (command_of before db account word (space ∷ rest)) verb (account ∷ word ∷ []) after
      holders filling wanted f o.plain
      (o.opens (file_text db ++ (codes " " ++ more))
      ∙ ap (λ ws. opening verb ++ ws) (next_word (file_text db) 32 more (file_shown db f) refl
      ∙ ap (λ ws. file_text db ∷ ws) (next_word account 32 tail a.shown refl
      ∙ ap (λ ws. account ∷ ws) (next_word word space (rest ++ []) w.shown is_end
      ∙ ap (λ ws. word ∷ ws) ends))))
      (rw (shown_plain account a.shown, shown_plain word w.shown) plain) asks
