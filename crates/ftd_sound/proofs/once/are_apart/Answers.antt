use Rattle.std.proofs.Common.{subst}
use Rattle.std.specs.Prelude.{◌↔◌, IsTrue, List}
use Rattle.std.specs.List.Sorted.{IsStrictlyIncreasing}
use Rattle.std.proofs.Common.{ℕ}
use Rattle.ftd_sound.proofs.Apart.{apart_ordered}
use Rattle.ftd_sound.proofs.once.are_apart.Goals as goal

pub returns : goal.returns
returns c =
    let P : List ℕ → Type 0 = λ ys. IsTrue c.are_rising.result ↔ IsStrictlyIncreasing ys in
    apart_ordered c.args.numbers.items c.sort_unstable.new.self.items c.are_rising.result
    c.sort_unstable.ensures.permutation c.sort_unstable.ensures.sorted
    (subst P c.deref.ensures.value c.are_rising.ensures)
