use Rattle.std.proofs.Common.{◌≡◌, ◌∙◌, refl, rules, sym, tests, true}
use Rattle.std.specs.List.{list_any}
use Rattle.std.specs.String.{string_bytes}
use Rattle.std.proofs.lemmas.Iterator.{YieldsList-from_slice}
use Rattle.std.proofs.lemmas.Iterator.Search.{any_from_yields_List}
use Rattle.ftd_cli.specs.Files.{names_file}
use Rattle.ftd_cli.specs.Lines.{is_with_file}
use Rattle.ftd_cli.proofs.Joined.{any_mapped}
use Rattle.ftd_cli.proofs.file.wants_file.Goals as goal

pub returns-then-is_with_file : goal.returns-then-is_with_file
returns-then-is_with_file c =
    let rest = c.args.rest.now in
    let found : c.any.result ≡ list_any (λ word. names_file (string_bytes word)) rest =
    any_from_yields_List (λ word. names_file (string_bytes word)) _ _ c.any.result
    c.any.ensures.ran (YieldsList-from_slice rest cc) (λ x b q k. search (rules, tests)) in
    let takes : is_with_file c.args.name.now ≡ true =
    sym c.is_with_file.ensures ∙ c.if-is_with_file.true in
    rw (takes, found ∙ any_mapped names_file string_bytes rest) refl
