use Rattle.std.proofs.Common.{◌≡◌, ℕ, ◌==◌, count_by, rules, sym, ◌∙◌}
use Rattle.std.specs.Prelude.{filter}
use Rattle.std.proofs.lemmas.List.{length-map}
use Rattle.std.proofs.lemmas.List.Sums.{length-filter}
use Rattle.ftd_days.specs.declared.cents.Cents.{Cents}
use Rattle.ftd_sound.specs.Private.Plain.{is_under, content_in}
use Rattle.ftd_sound.proofs.totals.corrections_of.Goals as goal

pub returns : goal.returns
returns c =
    let xs = c.args.corrected.now in
    let by : c.count.result ≡ count_by (λ (e : ℕ × Cents). e.0 == c.args.key) xs = search rules in
    by ∙ sym (length-filter (is_under c.args.key) xs)
    ∙ sym (length-map (filter (is_under c.args.key) xs) content_in)
