-- A machine that answers as long as its files are those that it opened.
use Rattle.std.specs.Prelude.{◌≡◌, ℕ, Bool, false, List}
use Rattle.ftd_http.specs.declared.ask.Inquiry.{Inquiry}
use Rattle.ftd_http.specs.declared.status.Status.TheVariants as status
use Rattle.ftd_connections.specs.Responses.{Said, bare}
use Rattle.ftd_connections.specs.declared.watched.Watched.{Watched}

module _ {M W : Type 0} (tells : W → Bool → Type 0) where
  -- the watch told that the files are others, and nothing was asked of the machine
  pub record IsTurnedAway (old new : Watched M W) : Type 0 where
    pub told : tells old.watch.now false
    pub same : new ≡ old

  -- Either the machine answers a message as it does alone; or the watch told that the files are
  -- others, and the response says by its status that nothing was done.
  pub data AnswersWatched (goes : M → Inquiry → List ℕ → Said → M → Type 0) (old : Watched M W)
      (asked : Inquiry) (body : List ℕ) (said : Said) (new : Watched M W) : Type 0 where
    answered : goes old.machine asked body said new.machine → new.watch ≡ old.watch
        → AnswersWatched goes old asked body said new
    turned_away : IsTurnedAway old new → said ≡ bare status.InternalServerError
        → AnswersWatched goes old asked body said new

  -- Either the machine tells whether it still answers; or the watch told that the files are others.
  pub data StaysWatched (stays : M → Bool → M → Type 0) (old : Watched M W) (answers : Bool)
      (new : Watched M W) : Type 0 where
    asked : stays old.machine answers new.machine → new.watch ≡ old.watch
        → StaysWatched stays old answers new
    stopped : IsTurnedAway old new → answers ≡ false → StaysWatched stays old answers new
