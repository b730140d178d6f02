-- A transaction that begins over committed rows, or does not.
use Rattle.std.proofs.Common.{◌⊎◌, inl, inr, sym, ◌∙◌}
use Rattle.std.specs.Prelude.{true}
use Rattle.sqlite.specs.State.{State, Shows, Fails, IsUnchanged, IsRolledBack}
use Rattle.sqlite.specs.declared.error.Error.{Error}
use Rattle.ftd_store.specs.Ends.{Begins, IsSettled, LeavesRows}

pub begins_settled : (old new : State) → Shows old new old.now old.committed true → IsSettled old
    → Begins old new
begins_settled old new shows settled = record { shows = shows; settled = settled shows.was_open }

pub failed_rests : (old new : State) → IsSettled old → IsUnchanged old new ⊎ IsRolledBack old new
    → LeavesRows old new
failed_rests old new settled (inl h) = record {
  was_open = λ on. h.0.was_open;
  now_is = λ on. h.0.now_is;
  committed_is = λ on. h.0.committed_is;
}
failed_rests old new settled (inr h) = record {
  was_open = h.was_open;
  now_is = λ on. (h.undone on).0 ∙ sym (settled (h.was_open on));
  committed_is = λ on. (h.undone on).1;
}

pub settled_stays : (old new : State) → IsUnchanged old new → IsSettled old → IsSettled new
settled_stays old new same settled on = same.0.now_is ∙ settled same.0.was_open
    ∙ sym same.0.committed_is

-- a reading that stops leaves the rows
pub stopped_rests : (old new : State) (e : Error) → IsSettled old → Fails old new ⊥ e
    ⊎ IsUnchanged old new → LeavesRows old new
stopped_rests old new e settled (inl fails) = failed_rests old new settled (inr fails.3)
stopped_rests old new e settled (inr same) = failed_rests old new settled (inl same)
