-- What was read of a journal, as a response.
use Rattle.std.proofs.Common.{◌≡◌, ◌⊎◌, ◌∙◌, ℕ, List, Option, Some, None, Result, Ok, Err, inl, inr}
use Rattle.std.proofs.Common.{ap, refl, sym}
use Rattle.std.specs.Prelude.{IfErr, IfOk, Vec, option_map}
use Rattle.sqlite.specs.State.{HasCleanDisk}
use Rattle.sqlite.specs.Store as store
use Rattle.ftd_journal.specs.Parts.{journal_of}
use Rattle.ftd_machine.specs.Journal.{journal}
use Rattle.ftd_machine.specs.Runs.{IsFault}
use Rattle.ftd_machine.specs.State.{State}
use Rattle.ftd_machine.specs.declared.replies.Refusal.{Refusal}
use Rattle.ftd_machine.specs.declared.replies.Refusal.TheVariants.{Memory}
use Rattle.ftd_machine.specs.declared.requests.Request.{Request}
use Rattle.ftd_desk.specs.Desks.{KeepsIfOpen, held}
use Rattle.ftd_desk.specs.Telling.{StandsAsBefore}
use Rattle.ftd_desk.specs.declared.desk.Desk.{Desk}
use Rattle.ftd_program.specs.Journals.{StoodFor}
use Rattle.ftd_verbs.specs.Formats.{as_text}
use Rattle.ftd_replies.specs.RequestLines.{lines_of}
use Rattle.ftd_server.specs.Refusals.{refused}
use Rattle.ftd_server.specs.Replying.{Responds}
use Rattle.ftd_connections.specs.Responses.{Said, formatted}
use Rattle.ftd_server.specs.Tables.{handles}
use Rattle.ftd.specs.Journals as journals
use Rattle.ftd.specs.Journals.{TellsOwn, TellsWhole, told_or_refused, years_asked}

module _ {S : Type 0} (g : store.Ghosts S) (old new : Desk S) where
  -- lines of the journal, or the refusal that came in place of them
  pub whole_told : {A : Type 0} (lines : Result (Vec ℕ A) Refusal) (said : Said)
      → (HasCleanDisk (held g new).db → (s : State) → StoodFor (held g old) s
      → IfOk lines (λ read. read.items ≡ lines_of (journal s)))
      → IfErr lines (λ refusal. IsFault (Err refusal)) → StandsAsBefore (held g old) (held g new)
      → said ≡ told_or_refused lines → TellsWhole g old new said
  whole_told (Ok read) said knows fault stands is = journals.told read.items knows stands is
  whole_told (Err refusal) said knows fault stands is = journals.unread refusal fault stands is

  -- what was read of an account is its journal
  pub own_known : {A : Type 0} (name : List ℕ) (found known : Option (Vec Request A))
      → found ≡ known
      → (HasCleanDisk (held g new).db → (s : State) → KeepsIfOpen (held g old) s
      → option_map (λ it. it.items) found ≡ journal_of s name)
      → HasCleanDisk (held g new).db → (s : State) → StoodFor (held g old) s
      → journal_of s name ≡ option_map (λ it. it.items) known
  own_known name found known is knows clean s stood =
      sym (knows clean s stood.0) ∙ ap (option_map (λ it. it.items)) is

  -- lines of the account's journal, or the refusal that came in place of them
  pub own_told : {A : Type 0} (name : List ℕ) (requests : List Request)
      (lines : Result (Vec ℕ A) Refusal) (said : Said)
      → (HasCleanDisk (held g new).db → (s : State) → StoodFor (held g old) s
      → journal_of s name ≡ Some requests)
      → IfOk lines (λ read. read.items ≡ lines_of requests)
      → IfErr lines (λ refusal. IsFault (Err refusal)) → StandsAsBefore (held g old) (held g new)
      → said ≡ told_or_refused lines → TellsOwn g old new name said
  own_told name requests (Ok read) said knows are fault stands is =
      journals.told requests knows stands (is ∙ ap (formatted as_text) are)
  own_told name requests (Err refusal) said knows are fault stands is =
      journals.unread refusal fault stands is

  -- where the response of the desk to who asks for the years was lost
  pub own_lost : (name : List ℕ) (between : Desk S)
      → (HasCleanDisk (held g between).db → (s : State) → StoodFor (held g old) s
      → journal_of s name ≡ None)
      → StandsAsBefore (held g old) (held g between)
      → (new ≡ between)
      ⊎ ((said : Said) × Responds (handles g) None between (years_asked name) said new)
      → (said : Said) × TellsOwn g old new name said
  own_lost name between knows stands (inl same) =
      (refused Memory, journals.unread Memory (inl refl) (rw same stands) refl)
  own_lost name between knows stands (inr (said, responds)) =
      (said, journals.unknown between knows stands responds)
