use Rattle.std.proofs.Common.{◌∙◌, ap, ℕ}
use Rattle.std.specs.Global.{Vec}
use Rattle.ftd_local.proofs.checking.checked.Goals as goal

pub returns : goal.returns
returns g c = record {
  out = c.new-out.result;
  is_out = ap (λ (bytes : Vec ℕ). bytes.items) c.new-out.ensures.inner ∙ c.new.ensures.items;
  err = c.new-err.result;
  is_err = ap (λ (bytes : Vec ℕ). bytes.items) c.new-err.ensures.inner ∙ c.new-2.ensures.items;
  checks = c.perform.ensures;
}
