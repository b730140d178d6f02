use Rattle.std.proofs.Common.{◌≡◌, ◌≤◌, ◌+◌, ◌∷◌, Ok, length, take}
use Rattle.std.specs.Prelude.{vec_len, vec_capacity}
use Rattle.ftd_store.specs.Frame.{Calls}
use Rattle.ftd_desk.specs.Words.{AreAnswers, ServesAll}
use Rattle.ftd_desk.specs.declared.listed.ServedAll.{ServedAll}
use Rattle.ftd_desk.proofs.listed.serve_all.Given as goal

abbrev pub invariant-loop-request : goal.invariant-loop-request
invariant-loop-request g l = record {
  count : vec_len l.answers ≡ l.request-index + 1;
  room : length l.later + 1 ≤ vec_capacity l.answers;
  answers : AreAnswers (l.first ∷ take l.request-index l.later) l.answers.items;
  serves : Calls {A = ServedAll} g.S.Store l.fn.tx l.tx
      (Ok (record { answers = l.answers; known = l.known }))
      (ServesAll l.fn.known (l.fn.first ∷ take l.request-index l.later));
}
