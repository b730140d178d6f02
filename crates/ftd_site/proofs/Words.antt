-- Each form has its title, its sentence, and a label and a help for each of its fields.
use Rattle.std.proofs.Common.{◌≡◌, ℕ, List, [], length, refl, Bool, ◌&&◌, ◌||◌, ◌==◌, nat_lt}
use Rattle.std.specs.List.{filter}
use Rattle.ftd_verbs.specs.Rows.{all_verbs, row_of}
use Rattle.ftd_verbs.specs.declared.field.Field.{Field}
use Rattle.ftd_verbs.specs.declared.rows.Verb.{Verb}
use Rattle.ftd_site.specs.FormWords.{help_of, label_of, sentence_of, title_of}
use Rattle.ftd_site.specs.Forms.{has_form}

abbrev pub is_empty : List ℕ → Bool
is_empty text = length text == 0

abbrev pub is_wordless_field : Field → Bool
is_wordless_field field = is_empty (label_of field) || is_empty (help_of field)

abbrev pub is_wordless : Verb → Bool
is_wordless verb =
    is_empty (title_of verb) || is_empty (sentence_of verb)
    || nat_lt 0 (length (filter is_wordless_field (row_of verb).fields))

pub form_words : filter (λ verb. has_form verb && is_wordless verb) all_verbs ≡ []
form_words = refl
