use Rattle.std.proofs.Common.{All, take}
use Rattle.ftd_desk.specs.Unrefused.{IsReply}
use Rattle.ftd_desk.proofs.unrefused.are_replies.Given as goal

abbrev pub invariant-loop-answer : goal.invariant-loop-answer
invariant-loop-answer l = All IsReply (take l.answer-index l.answers)
