use Rattle.std.proofs.Common.{◌∙◌, ap, ℕ}
use Rattle.std.specs.Global.{Vec}
use Rattle.ftd_shell.specs.Shells.{Ways}
use Rattle.ftd.proofs.commands.served.answer_body.Goals as goal

pub returns-clause-answers : goal.returns-clause-answers
returns-clause-answers g c = record {
  out = c.new-out.result;
  is_out = ap (λ (bytes : Vec ℕ). bytes.items) c.new-out.ensures.inner ∙ c.new.ensures.items;
  err = c.new-err.result;
  is_err = ap (λ (bytes : Vec ℕ). bytes.items) c.new-err.ensures.inner ∙ c.new-2.ensures.items;
  failed = c.answer_script.new.script.has_failed;
  answers = c.answer_script.ensures.answers;
}

pub returns-clause-file : goal.returns-clause-file
returns-clause-file g c = ap (λ (ways : Ways). ways.db) c.answer_script.ensures.stays
