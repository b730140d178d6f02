-- What the program prints of the deposits of one account out of pay runs.
use Rattle.std.specs.Prelude.{◌≡◌, ◌⊎◌, ℕ, Bool, true, List, [], ◌∷◌, ◌++◌, Option, Result}
use Rattle.std.specs.Prelude.{MatchResult, codes}
use Rattle.std.specs.Io.KnownBytes.{Appends}
use Rattle.std.specs.Fmt.{decimal}
use Rattle.ftd_plain.specs.Faults.{fault_text}
use Rattle.ftd_plain.specs.Plain.{PlainFails, PlainGives}
use Rattle.ftd_plain.specs.declared.fault.PlainFault.{PlainFault}
use Rattle.ftd_plain.specs.declared.fault.PlainFault.TheVariants as fault
use Rattle.ftd_csv.specs.declared.sheets.Sheet.TheVariants.{Runs}
use Rattle.ftd_cli.specs.declared.tasks.PlainTask.{PlainTask}
use Rattle.ftd_ports.specs.Writing.{WritesPrefix}
use Rattle.ftd_csv.specs.Headers.{header_hint}
use Rattle.ftd_csv.specs.Hints.{record_hints}
use Rattle.ftd_program.specs.Performing.{PrintsOut}
use Rattle.ftd_program.specs.declared.performing.JobEnd.{JobEnd}

-- `refused header`, `record 4 malformed field 3`, `run 2 differs`
unfoldable pub record_line : ℕ → ℕ → List ℕ
record_line number field =
    codes "record " ++ (decimal number ++ (codes " malformed field " ++ (decimal field ++ 10 ∷ [])))

unfoldable pub run_line : ℕ → List ℕ
run_line number = codes "run " ++ (decimal number ++ codes " differs\n")

abbrev pub fault_line : PlainFault → List ℕ
fault_line fault = fault_text fault ++ 10 ∷ []

-- the hints of a bad header, and of the malformed record; none of the others
abbrev pub fault_hints : List ℕ → PlainFault → List ℕ
fault_hints input fault.BadHeader = header_hint Runs input
fault_hints input (fault.Malformed number field) = record_hints Runs 1 input
fault_hints input _ = []

abbrev pub fault_status : PlainFault → ℕ
fault_status fault.Memory = 3
fault_status _ = 1

-- the line was written whole, and below it as many of its hints as there was memory for; or the
-- target failed after a prefix of the line
abbrev pub IsHinted : Option (List ℕ) → Option (List ℕ) → Bool → List ℕ → List ℕ → Type 0
IsHinted before after failed line hints =
    ((told : Option (List ℕ)) × Appends before told line × WritesPrefix told after hints)
    ⊎ (WritesPrefix before after line × (failed ≡ true))

-- why there are none, on standard error
pub record PrintsFault {O E : Type 0} (e_taken : E → Option (List ℕ)) (e_failed : E → Bool)
    (out : O) (err : E) (p : JobEnd O E) (input : List ℕ) (why : PlainFault) : Type 0 where
  pub status_is : p.status ≡ fault_status why
  pub out_is : p.out ≡ out
  pub lines : IsHinted (e_taken err) (e_taken p.err) (e_failed p.err) (fault_line why)
      (fault_hints input why)

module _ {O E : Type 0} (o_taken : O → Option (List ℕ)) (o_failed : O → Bool)
    (e_taken : E → Option (List ℕ)) (e_failed : E → Bool)
    (out : O) (err : E) (p : JobEnd O E) where
  -- the deposits were printed, or why there are none
  pub record PerformsPlain (input : List ℕ) (task : PlainTask) : Type 0 where
    pub deposits : Result (List ℕ) PlainFault
    pub gives : MatchResult deposits
        (λ text. PlainGives input task.account task.year task.holidays text)
        (λ fault. PlainFails input task.account task.year task.holidays fault)
    pub prints : MatchResult deposits
        (λ text. PrintsOut o_taken o_failed e_taken e_failed out err p 0 text)
        (λ fault. PrintsFault e_taken e_failed out err p input fault)
