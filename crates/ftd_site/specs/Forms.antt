-- The page with the form of a verb.
use Rattle.std.specs.Prelude.{ℕ, Bool, true, false, List, [], ◌∷◌, ◌++◌, codes}
use Rattle.std.specs.List.{concat, flat_map}
use Rattle.std.specs.Str.{bytes_eq}
use Rattle.ftd_verbs.specs.FieldRows.{key_of}
use Rattle.ftd_verbs.specs.Rows.{row_of}
use Rattle.ftd_verbs.specs.declared.field.Field.{Field}
use Rattle.ftd_verbs.specs.declared.field.Field.TheVariants.{Account}
use Rattle.ftd_verbs.specs.declared.rows.Method.{Method}
use Rattle.ftd_verbs.specs.declared.rows.Method.TheVariants as method
use Rattle.ftd_verbs.specs.declared.rows.Verb.{Verb}
use Rattle.ftd_site.specs.Controls.{control_of, filled_in}
use Rattle.ftd_site.specs.FormWords.{help_of, label_of, sentence_of, title_of}
use Rattle.ftd_pages.specs.Pages.{page_of, titled}
use Rattle.ftd_pages.specs.Sections.{page_heading}
use Rattle.ftd_site.specs.declared.controls.Filled.{Filled}
use Rattle.ftd_pages.specs.declared.frames.Frame.{Frame}

-- whether a verb has a form: each that changes something, and no question
abbrev pub changes : Method → Bool
changes method.Get = false
changes method.Post = true
changes method.Put = true
changes method.Delete = true

abbrev pub has_form : Verb → Bool
has_form verb = changes (row_of verb).method

-- ---- a field

-- the label of a control, and below the control its help
unfoldable pub label_text : List ℕ → List ℕ → List ℕ
label_text name label =
    concat (codes "<p>\n<label for=\"" ∷ name ∷ codes "\">" ∷ label ∷ codes "</label>\n" ∷ [])

unfoldable pub help_text : List ℕ → List ℕ → List ℕ
help_text name help =
    concat (codes "<small id=\"" ∷ name ∷ codes "-help\">" ∷ help ∷ codes "</small>\n</p>\n" ∷ [])

-- a field of a form: its label, its control with what is filled in, and its help
unfoldable pub field_part : Field → Bool → List ℕ → List ℕ
field_part field bad text =
    label_text (key_of field) (label_of field)
    ++ (control_of field bad text ++ help_text (key_of field) (help_of field))

-- ---- a form

-- what a form is for, where it is sent, and what sends it
unfoldable pub sentence_text : List ℕ → List ℕ
sentence_text sentence = concat (codes "<p>" ∷ sentence ∷ codes "</p>\n" ∷ [])

unfoldable pub form_start : List ℕ → List ℕ
form_start command =
    concat (codes "<form method=\"post\" action=\"/forms/" ∷ command ∷ codes "\">\n" ∷ [])

unfoldable pub form_end : List ℕ → List ℕ
form_end button =
    concat (codes "<p><button type=\"submit\">" ∷ button ∷ codes "</button></p>\n</form>\n" ∷ [])

-- for each field of the verb's row, in their order, its part; the field of this name, if there is
-- one, is bad
abbrev pub fields_of : Verb → List ℕ → List Filled → List ℕ
fields_of verb bad filled =
    flat_map (λ field. field_part field (bytes_eq bad (key_of field)) (filled_in filled field))
    (row_of verb).fields

unfoldable pub form_of : Verb → List ℕ → List Filled → List ℕ
form_of verb bad filled =
    form_start (row_of verb).command ++ (fields_of verb bad filled ++ form_end (title_of verb))

-- the heading, the sentence, and the form, of which no field is bad
unfoldable pub form_part : Verb → List Filled → List ℕ
form_part verb filled =
    page_heading (titled (title_of verb ∷ []))
    ++ (sentence_text (sentence_of verb) ++ form_of verb [] filled)

-- the page is of the account that is filled in
abbrev pub form_page : Frame → Verb → List Filled → List ℕ
form_page frame verb filled =
    page_of frame (filled_in filled Account) (titled (title_of verb ∷ [])) (form_part verb filled)
