use Rattle.ftd_replies.proofs.LineFacts.{asks_it, is_command_line, is_one_line, is_short_line}
use Rattle.ftd_replies.proofs.RequestLines.{line_is}
use Rattle.ftd_replies.proofs.laws.a_line_asks_its_request.Goals as goal

pub returns : goal.returns
returns c = record {
  asks = λ request db today h. asks_it request (line_is request h) today db;
  one_line = λ request rest h. is_one_line request (line_is request h) rest;
  short = λ request h short. is_short_line request (line_is request h) short;
  command = λ request h. is_command_line request (line_is request h);
}
