-- A text of JSON with the end of a line behind it is read as it is without.
use Rattle.std.proofs.Common.{◌≡◌, ◌∙◌, refl, sym, ap, ap₂, ℕ, ◌≤◌, Bool, true, false, cond, ◌&&◌}
use Rattle.std.proofs.Common.{List, [], ◌∷◌, ◌++◌, append_assoc, append-nil}
use Rattle.std.specs.Prelude.{option_and_then}
use Rattle.json.specs.Json.{if_last, value}
use Rattle.json.specs.Lex.{Lexeme, between, comma, colon, fresh, lex, punctuate, string_token}
use Rattle.json.specs.Lex.{token, tokens}
use Rattle.json.specs.Print.{ArePrintable, IsPrintable, begins, ends, escape, print, print_from}
use Rattle.json.specs.Print.{quoted, separator, token_text}
use Rattle.json.specs.Token.{Token, begin_object, end_object, begin_array, end_array, key, string}
use Rattle.json.specs.Token.{number, boolean, null, bad}
use Rattle.json.specs.Tree.{HasNumbers, depth, json_tokens}
use Rattle.json.specs.Word.{ends_word, word}
use Rattle.json.proofs.Printed.Numbers.{in_word-ended, lex-number}
use Rattle.json.proofs.Printed.Strings.{content-escape, lex-escape}
use Rattle.json.proofs.Printed.Tokens.{tokens-print}
use Rattle.json.proofs.Printed.Trees.{ArePrintable-json_tokens, value-json_tokens}
use Rattle.serde_json.specs.Data.{Data}
use Rattle.serde_json.specs.Read.{max_depth, of_json, read}
use Rattle.serde_json.specs.Written.{compact_text, outline}
use Rattle.serde_json.proofs.Texts.{print-outline}

-- ---- the lexemes of a token, and of tokens with commas between

abbrev token_lexemes : Token → List Lexeme
token_lexemes begin_object = token begin_object ∷ []
token_lexemes end_object = token end_object ∷ []
token_lexemes begin_array = token begin_array ∷ []
token_lexemes end_array = token end_array ∷ []
token_lexemes (key s) = token (string s) ∷ colon ∷ []
token_lexemes (string s) = token (string s) ∷ []
token_lexemes (number s) = token (number s) ∷ []
token_lexemes (boolean b) = token (boolean b) ∷ []
token_lexemes null = token null ∷ []
token_lexemes bad = []

abbrev lexemes : Bool → List Token → List Lexeme
lexemes later [] = []
lexemes later (t ∷ ts) =
    cond (later && begins t) (comma ∷ []) [] ++ (token_lexemes t ++ lexemes (ends t) ts)

text_lexemes : (s rest : List ℕ)
    → lex between (quoted s ++ rest) ≡ token (string s) ∷ lex between rest
unfolding lex
text_lexemes s rest =
    ap (λ l. lex between (34 ∷ l)) (append_assoc (escape s) (34 ∷ []) rest)
    ∙ ap₂ (λ o l. token (string_token o) ∷ l) (content-escape s rest) (lex-escape s rest)

own_lexemes : (t : Token) (rest : List ℕ) → IsPrintable t → (ends t ≡ true → ends_word rest ≡ true)
    → lex between (token_text t ++ rest) ≡ token_lexemes t ++ lex between rest
unfolding lex word
own_lexemes begin_object rest is ended = refl
own_lexemes end_object rest is ended = refl
own_lexemes begin_array rest is ended = refl
own_lexemes end_array rest is ended = refl
own_lexemes (key s) rest is ended =
    ap (lex between) (append_assoc (quoted s) (58 ∷ []) rest) ∙ text_lexemes s (58 ∷ rest)
own_lexemes (string s) rest is ended = text_lexemes s rest
own_lexemes (number s) rest is ended = lex-number s rest is (ended refl)
own_lexemes (boolean true) rest is ended =
    ap₂ (λ b l. token (cond b (boolean true) bad) ∷ l) (ended refl)
    (in_word-ended rest (ended refl))
own_lexemes (boolean false) rest is ended =
    ap₂ (λ b l. token (cond b (boolean false) bad) ∷ l) (ended refl)
    (in_word-ended rest (ended refl))
own_lexemes null rest is ended =
    ap₂ (λ b l. token (cond b null bad) ∷ l) (ended refl) (in_word-ended rest (ended refl))
own_lexemes bad rest is ended = absurd is

comma_lexemes : (b : Bool) (rest : List ℕ)
    → lex between (cond b (44 ∷ []) [] ++ rest) ≡ cond b (comma ∷ []) [] ++ lex between rest
unfolding lex
comma_lexemes true rest = refl
comma_lexemes false rest = refl

-- ---- before a tail without lexemes

module _ (tail : List ℕ) (ended : ends_word tail ≡ true) (none : lex between tail ≡ []) where
  behind_value : (ts : List Token) → ends_word (print_from true ts ++ tail) ≡ true
  unfolding print_from
  behind_value [] = ended
  behind_value (begin_object ∷ ts) = refl
  behind_value (end_object ∷ ts) = refl
  behind_value (begin_array ∷ ts) = refl
  behind_value (end_array ∷ ts) = refl
  behind_value (key s ∷ ts) = refl
  behind_value (string s ∷ ts) = refl
  behind_value (number s ∷ ts) = refl
  behind_value (boolean b ∷ ts) = refl
  behind_value (null ∷ ts) = refl
  behind_value (bad ∷ ts) = refl

  printed_lexemes : (later : Bool) (ts : List Token) → ArePrintable ts
      → lex between (print_from later ts ++ tail) ≡ lexemes later ts
  unfolding print_from ArePrintable
  printed_lexemes later [] are = none
  printed_lexemes later (t ∷ ts) are =
      let rest : List ℕ = print_from (ends t) ts in
      ap (lex between) (append_assoc (separator later t) (token_text t ++ rest) tail
      ∙ ap (λ l. separator later t ++ l) (append_assoc (token_text t) rest tail))
      ∙ comma_lexemes (later && begins t) (token_text t ++ (rest ++ tail))
      ∙ ap (λ l. cond (later && begins t) (comma ∷ []) [] ++ l)
      (own_lexemes t (rest ++ tail) are.0
      (λ e. ap (λ b. ends_word (print_from b ts ++ tail)) e ∙ behind_value ts)
      ∙ ap (λ l. token_lexemes t ++ l) (printed_lexemes (ends t) ts are.1))

line_tokens : (ts : List Token) → ArePrintable ts → tokens (print ts ++ 10 ∷ []) ≡ ts
unfolding lex
line_tokens ts are =
    ap (punctuate fresh) (printed_lexemes (10 ∷ []) refl refl false ts are
    ∙ sym (printed_lexemes [] refl refl false ts are)
    ∙ ap (lex between) (append-nil (print ts)))
    ∙ tokens-print ts are

-- a text with the tokens of a value is read as the value
tokens_read : (d : Data) (text : List ℕ) → depth (outline d) ≤ max_depth
    → tokens text ≡ json_tokens (outline d) → read text ≡ of_json (outline d)
tokens_read d text shallow is =
    let ts : List Token = json_tokens (outline d) in
    ap (λ l. option_and_then of_json (option_and_then (λ p. if_last p.0 p.1) (value max_depth l)))
    (is ∙ sym (append-nil ts))
    ∙ ap (λ o. option_and_then of_json (option_and_then (λ p. if_last p.0 p.1) o))
    (value-json_tokens (outline d) max_depth [] shallow)

-- so are its text, and its line
pub value_read : (d : Data) → HasNumbers (outline d) → depth (outline d) ≤ max_depth
    → read (compact_text d) ≡ of_json (outline d)
value_read d numbers shallow =
    tokens_read d (compact_text d) shallow (ap tokens (sym (print-outline d))
    ∙ tokens-print (json_tokens (outline d)) (ArePrintable-json_tokens (outline d) numbers))

pub line_read : (d : Data) → HasNumbers (outline d) → depth (outline d) ≤ max_depth
    → read (compact_text d ++ 10 ∷ []) ≡ of_json (outline d)
line_read d numbers shallow =
    tokens_read d (compact_text d ++ 10 ∷ []) shallow
    (ap (λ l. tokens (l ++ 10 ∷ [])) (sym (print-outline d))
    ∙ line_tokens (json_tokens (outline d)) (ArePrintable-json_tokens (outline d) numbers))
