-- One subcommand more.
use Rattle.std.proofs.Common.{◌≡◌, ℕ, List, ◌+◌, ◌<◌, length, drop, get_or, add-one, drop-cons, sym}
use Rattle.std.proofs.Common.{ap, ◌∙◌}
use Rattle.clap.specs.Words.{App, with_subcommand}
use Rattle.ftd_cli.specs.declared.table.Name.{Name}
use Rattle.ftd_cli.specs.Apps.{app_for, with_names}

step : (app : App) (names : List Name) (i : ℕ) (d : Name) → i < length names
    → with_names app (drop i names) ≡ with_names
    (with_subcommand app (app_for (get_or names i d)).top) (drop (i + 1) names)
unfolding with_names
step app names i d h = rw add-one (ap (λ (z : List Name). with_names app z) (drop-cons names i d h))

pub names_next : (app next sub whole : App) (names : List Name) (i : ℕ) (d : Name)
    → i < length names
    → next ≡ with_subcommand app sub.top → sub ≡ app_for (get_or names i d)
    → with_names app (drop i names) ≡ whole → with_names next (drop (i + 1) names) ≡ whole
names_next app next sub whole names i d h e s w =
    ap (λ a. with_names a (drop (i + 1) names)) (e ∙ ap (λ (a : App). with_subcommand app a.top) s)
    ∙ (sym (step app names i d h) ∙ w)
