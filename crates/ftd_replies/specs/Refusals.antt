-- The lines of refusals, and their exit statuses.
use Rattle.std.specs.Prelude.{ℕ, List, [], ◌∷◌, ◌++◌, codes, if◌then◌else◌}
use Rattle.std.specs.Fmt.{decimal}
use Rattle.std.specs.List.{concat}
use Rattle.ftd_days.specs.Text.{quarter_text}
use Rattle.ftd_machine.specs.Refusals.{is_failure, name_text, subject_of, number_of}
use Rattle.ftd_machine.specs.declared.replies.Subject.{Subject}
use Rattle.ftd_machine.specs.declared.replies.Subject.TheVariants.{Nothing, Year, Quarter, Number}
use Rattle.ftd_machine.specs.declared.replies.Refusal.{Refusal}

-- where memory or the store failed it is a failure, else a refusal
abbrev pub verb_text : Refusal → List ℕ
verb_text refusal = if is_failure refusal then codes "failed " else codes "refused "

-- the year, the quarter or the number that it names, after a space
abbrev pub subject_text : Subject → List (List ℕ)
subject_text Nothing = []
subject_text (Year year) = codes " " ∷ decimal year ∷ []
subject_text (Quarter quarter) = codes " " ∷ quarter_text quarter ∷ []
subject_text (Number count) = codes " " ∷ decimal count ∷ []

-- a verb, a number, a name, and what is named
abbrev pub line_of : List ℕ → ℕ → List ℕ → List (List ℕ) → List ℕ
line_of verb number name named =
    concat (verb ∷ decimal number ∷ codes " " ∷ name ∷ (named ++ ((10 ∷ []) ∷ [])))

-- `refused 17 QuarterMissing 2024Q2`
unfoldable pub refusal_text : Refusal → List ℕ
refusal_text refusal =
    line_of (verb_text refusal) (number_of refusal) (name_text refusal)
    (subject_text (subject_of refusal))

abbrev pub refusal_status : Refusal → ℕ
refusal_status refusal = if is_failure refusal then 3 else 1
