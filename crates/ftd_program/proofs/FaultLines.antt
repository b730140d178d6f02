-- The lines of `plain`'s faults are their texts, and a line's end.
use Rattle.std.proofs.Common.{◌≡◌, ℕ, [], ◌∷◌, ◌++◌, sym, ap, ◌∙◌, append_assoc}
use Rattle.std.specs.Prelude.{codes}
use Rattle.std.specs.Fmt.{decimal}
use Rattle.ftd_plain.specs.declared.fault.PlainFault.TheVariants.{Malformed, RunDiffers}
use Rattle.ftd_program.specs.PlainLines.{fault_line, record_line, run_line}

pub record_is : (number field : ℕ) → record_line number field ≡ fault_line (Malformed number field)
unfolding record_line
record_is number field =
    ap (λ z. codes "record " ++ z)
    (sym (append_assoc (decimal number) (codes " malformed field " ++ decimal field) (10 ∷ [])
    ∙ ap (λ z. decimal number ++ z) (append_assoc (codes " malformed field ") (decimal field)
    (10 ∷ []))))

pub run_is : (number : ℕ) → run_line number ≡ fault_line (RunDiffers number)
unfolding run_line
run_is number = ap (λ z. codes "run " ++ z)
    (sym (append_assoc (decimal number) (codes " differs") (10 ∷ [])))
