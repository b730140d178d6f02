-- What is printed of a check of the desk's tables.
use Rattle.std.specs.Prelude.{◌≡◌, ◌⊎◌, ℕ, Bool, List, [], ◌∷◌, Option, Err, codes}
use Rattle.std.specs.Fmt.{decimal}
use Rattle.std.specs.Io.KnownBytes.{Appends}
use Rattle.std.specs.List.{concat}
use Rattle.sqlite.specs.State.{HasCleanDisk}
use Rattle.sqlite.specs.Store as store
use Rattle.ftd_sql.specs.Standing.{Tables}
use Rattle.ftd_machine.specs.Runs.{IsFault}
use Rattle.ftd_machine.specs.declared.replies.Refusal.{Refusal}
use Rattle.ftd_questions.specs.Walks.{StandIfOpen}
use Rattle.ftd_check.specs.Soundness.{Finds}
use Rattle.ftd_check.specs.declared.sizes.Sizes.{Sizes}
use Rattle.ftd_check.specs.declared.soundness.Part.{Part}
use Rattle.ftd_check.specs.declared.soundness.Part.TheVariants as part
use Rattle.ftd_check.specs.declared.soundness.Soundness.{Soundness}
use Rattle.ftd_check.specs.declared.soundness.Soundness.TheVariants as soundness
use Rattle.ftd_desk.specs.Desks.{held}
use Rattle.ftd_desk.specs.Telling.{StandsAsBefore}
use Rattle.ftd_desk.specs.declared.desk.Desk.{Desk}
use Rattle.ftd_replies.specs.Putting.{IsPut}
use Rattle.ftd_replies.specs.declared.hints.HintFacts.TheVariants.{Nothing}
use Rattle.ftd_program.specs.Journals.{all_asked}
use Rattle.ftd_program.specs.Performing.{FailsOutput, PrintsOut, PrintsRefusal}
use Rattle.ftd_program.specs.declared.performing.JobEnd.{JobEnd}

-- `sound accounts 3 years 5 runs 40 payments 12 obligations 44`: an account has one form
unfoldable pub sound_text : Sizes → List ℕ
sound_text sizes =
    concat (codes "sound accounts " ∷ decimal sizes.forms ∷ codes " years " ∷ decimal sizes.years
    ∷ codes " runs " ∷ decimal sizes.runs ∷ codes " payments " ∷ decimal sizes.payments
    ∷ codes " obligations " ∷ decimal sizes.obligations ∷ (10 ∷ []) ∷ [])

-- `unsound account elm`
abbrev pub unsound_text : Part → List ℕ
unsound_text part.Holidays = codes "unsound holidays\n"
unsound_text part.Accounts = codes "unsound accounts\n"
unsound_text (part.Account name) = concat (codes "unsound account " ∷ name ∷ (10 ∷ []) ∷ [])
unsound_text part.Rows = codes "unsound rows\n"

-- what is said below it
abbrev pub unsound_hint : List ℕ
unsound_hint =
    codes "hint: something other than ftd changed the file: go back to a copy of it, or make a new file of a journal that you kept\n"

module _ {O E : Type 0} (o_taken : O → Option (List ℕ)) (o_failed : O → Bool)
    (e_taken : E → Option (List ℕ)) (e_failed : E → Bool)
    (out : O) (err : E) (p : JobEnd O E) where
  -- the part that shows it on standard output, and the hint on standard error, with status 1
  pub record PrintsPart (found : Part) : Type 0 where
    pub status_is : p.status ≡ 1
    pub whole : Appends (o_taken out) (o_taken p.out) (unsound_text found)
    pub hint : IsPut (e_taken err) (e_taken p.err) (e_failed p.err) unsound_hint

  abbrev pub PrintsUnsound : Part → Type 0
  PrintsUnsound found =
      PrintsPart found ⊎ FailsOutput o_taken o_failed e_taken e_failed out err p (unsound_text found)

  -- that the tables are sound, and how many rows they have, with status 0; or the part that shows
  -- that they are not
  abbrev pub PrintsSoundness : Soundness → Type 0
  PrintsSoundness (soundness.Sound sizes) =
      PrintsOut o_taken o_failed e_taken e_failed out err p 0 (sound_text sizes)
  PrintsSoundness (soundness.Unsound found) = PrintsUnsound found

module _ {S O E : Type 0} (g : store.Ghosts S) (o_taken : O → Option (List ℕ)) (o_failed : O → Bool)
    (e_taken : E → Option (List ℕ)) (e_failed : E → Bool)
    (out : O) (err : E) (p : JobEnd O E) where
  -- what is found of the desk's tables was printed, whatever rows they have; or there was no memory,
  -- or the store failed. The desk stands as before.
  pub data Checks (old new : Desk S) (db : List ℕ) : Type 0 where
    found : (what : Soundness)
        → (HasCleanDisk (held g new).db → (t : Tables) → StandIfOpen (held g old).db t
        → Finds what t)
        → StandsAsBefore (held g old) (held g new)
        → PrintsSoundness o_taken o_failed e_taken e_failed out err p what
        → Checks old new db
    unread : (refusal : Refusal) → IsFault (Err refusal)
        → StandsAsBefore (held g old) (held g new)
        → PrintsRefusal o_taken o_failed e_taken e_failed out err p db all_asked Nothing refusal
        → Checks old new db
