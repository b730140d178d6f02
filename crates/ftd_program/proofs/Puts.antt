-- What is put on standard error.
use Rattle.std.proofs.Common.{ℕ, Bool, List, [], Option, Result, Ok, Err, refl, sym}
use Rattle.std.proofs.KnownBytes.{Appends-nil}
use Rattle.std.proofs.lemmas.List.{append-nil}
use Rattle.ftd_ports.specs.Writing.{Writes, WritesPrefix}
use Rattle.ftd_ports.specs.declared.writing.WriteFault.{WriteFault}

-- where nothing is written, it is a prefix of any text
pub nothing_put : (now : Option (List ℕ)) (text : List ℕ) → WritesPrefix now now text
nothing_put now text = record {
  written = [];
  unwritten = text;
  parts = refl;
  appends = Appends-nil now;
}

-- what is written, whole or not, is a prefix of the text
pub prefix_put : (result : Result (Unit {0}) WriteFault) (before after : Option (List ℕ))
    (failed : Bool) (text : List ℕ) → Writes result before after failed text
    → WritesPrefix before after text
prefix_put (Ok done) before after failed text writes = record {
  written = text;
  unwritten = [];
  parts = sym (append-nil text);
  appends = writes.ok;
}
prefix_put (Err fault) before after failed text writes = writes.err
