use Rattle.std.proofs.Common.{◌≡◌, ◌∙◌, ◌<◌, ◌≤◌, ℕ, suc, List, Bor, Option, None, Some, length, ap}
use Rattle.std.proofs.Common.{option_map, sym, arith}
use Rattle.std.specs.Prelude.{MatchOption}
use Rattle.ftd_csv.specs.Fields.{numbered_field}
use Rattle.ftd_csv.specs.Sheets.{header_row}
use Rattle.ftd_csv.proofs.HeaderRecords.{column_is}
use Rattle.ftd_csv.proofs.sheets.Sheet.column.Goals as goal

bounds : {A : Type 0} (found : Option A) (n i : ℕ) (P : A → Type 0)
    → MatchOption found (n ≤ i) (λ x. (i < n) × P x) → MatchOption found (n ≤ i) (λ x. i < n)
bounds None n i P past = past
bounds (Some x) n i P at = at.0

pub returns : goal.returns
returns c =
    let found = c.get.ensures.lookup in
    let columns = c.columns.result.now in
    let next : c.args.number ≡ suc c.from.result = let is = c.in_ok-place.ensures in
    let from = c.from.ensures in omega arith in
    ap (λ o. option_map (λ (name : Bor (List ℕ)). name.now) o) c.copied.ensures
    ∙ column_is (header_row c.args.self) (header_row c.args.self) columns c.columns.ensures
    c.from.result c.get.result found.1 (bounds c.get.result (length columns) c.from.result _
    found.3)
    ∙ ap (λ n. numbered_field (header_row c.args.self) n) (sym next)
