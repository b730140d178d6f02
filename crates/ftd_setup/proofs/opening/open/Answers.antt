use Rattle.std.proofs.Common.{Ok, Err}
use Rattle.sqlite.specs.Held.{state}
use Rattle.ftd_setup.specs.Ended.{seen_of}
use Rattle.ftd_setup.proofs.Answering.{opens_rows}
use Rattle.ftd_setup.proofs.Readings.{tagged}
use Rattle.ftd_setup.proofs.opening.open.Goals as goal

pub returns-in-Ok-clause-ended : goal.returns-in-Ok-clause-ended
returns-in-Ok-clause-ended g c =
    let old = state g.S.Store c.args.conn in
    let did = c.in-Ok.ensures in
    record {
      new_database = λ none free clean. did.new_database none clean free;
      never_refused = λ none. tt;
      foreign = λ taken bare. (did.foreign taken bare).0;
      read = did.read;
      version = λ metas l clean. opens_rows old (seen_of g.S.Store c.prepare.new.self) metas
          (Ok (tt {0})) l (did.read (tagged old.now metas l) clean);
      kept = λ clean on. tt;
      crash = did.crash;
    }

pub returns-in-Err-clause-ended : goal.returns-in-Err-clause-ended
returns-in-Err-clause-ended g c =
    let old = state g.S.Store c.args.conn in
    let did = c.in-Err.ensures in
    record {
      new_database = λ none free clean. tt;
      never_refused = did.never_refused;
      foreign = λ taken bare. (did.foreign taken bare).0;
      read = did.read;
      version = λ metas l clean. opens_rows old (seen_of g.S.Store c.prepare.new.self) metas
          (Err c.in-Err.fault) l (did.read (tagged old.now metas l) clean);
      kept = did.kept;
      crash = did.crash;
    }
