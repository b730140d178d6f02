use Rattle.std.proofs.Common.{arith, refl}
use Rattle.ftd_program.proofs.performing.put_malformed.Goals as goal

pub returns-then-malformed-eq0 : goal.returns-then-malformed-eq0
returns-then-malformed-eq0 g c =
    let none = c.if-malformed-eq0.true in
    record {
      hinted = c.args.err.now;
      no_hint = λ is. refl;
      hints = λ some. absurd (some (omega (arith, none)));
      no_more = λ few. refl;
      more = λ many. absurd (omega (arith, none, many));
    }
