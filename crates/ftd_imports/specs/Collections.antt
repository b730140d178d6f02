-- What is collected of the records of an import.
use Rattle.std.specs.Prelude.{◌≡◌, ◌++◌, List, IsTrue}
use Rattle.ftd_imports.specs.declared.collection.Collection.{Collection}

-- after some more records: what was there before, and this, where there was memory for all of it
abbrev pub Follow : {T : Type 0} → Collection T → List T → Collection T → Type 0
Follow before more after =
    IsTrue after.are_all → IsTrue before.are_all
    × (after.entries.items ≡ before.entries.items ++ more)

-- this is what was collected, where there was memory for all of it
abbrev pub Collects : {T : Type 0} → Collection T → List T → Type 0
Collects collection entries = IsTrue collection.are_all → collection.entries.items ≡ entries
