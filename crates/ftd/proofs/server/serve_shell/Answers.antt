use Rattle.std.proofs.Common.{refl, sym}
use Rattle.ftd.proofs.server.serve_shell.Goals as goal

pub returns : goal.returns
returns g c =
    let (lines, takes) = c.serve_on-taken.ensures.takes in
    record {
      new = c.into_desk.result;
      becomes = record {
        start = c.args.watched;
        end = c.serve_on-taken.new.machine;
        starts = refl;
        ends = sym c.into_desk.ensures;
        file_is = refl;
        lines = lines;
        takes = takes;
      };
      keeps = c.close_desk.ensures.keeps;
    }
