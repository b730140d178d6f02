-- What counts of the figure of the quarter before.
use Rattle.std.proofs.Common.{◌≡◌, ◌-◌, ℕ, List, Option, None, sym, ap, ◌∙◌}
use Rattle.ftd_days.specs.declared.cents.Cents.{Cents}
use Rattle.ftd_rules.specs.declared.Form.{Form}
use Rattle.ftd_rules.specs.declared.Form.TheVariants.{F941, F943}
use Rattle.ftd_sql.specs.Standing.{Tables}
use Rattle.ftd_machine.specs.State.{entries_of, figure_at}
use Rattle.ftd_machine.specs.Asking.{preceding}
use Rattle.ftd_machine.specs.declared.entries.ReturnPeriod.TheVariants.{Quarter}
use Rattle.ftd_entries.specs.Known.{KnowsFigure}
use Rattle.ftd_entries.specs.Returns.{KnowsPreceding}

pub on_941 : (name : List ℕ) (form : Form) (quarter before : ℕ) (found : Option Cents) (t : Tables)
    → form ≡ F941 → before ≡ quarter - 1 → KnowsFigure name (Quarter before) found t
    → KnowsPreceding name form quarter found t
on_941 name form quarter before found t is same knows s stands =
    let own = entries_of s name in
    ap (λ f. preceding f own quarter) is
    ∙ (ap (λ q. figure_at q own.reported own.corrected) (sym same)
    ∙ knows s stands.entries.figures)

pub on_943 : (name : List ℕ) (form : Form) (quarter : ℕ) (t : Tables) → form ≡ F943
    → KnowsPreceding name form quarter None t
on_943 name form quarter t is s stands = ap (λ f. preceding f (entries_of s name) quarter) is
