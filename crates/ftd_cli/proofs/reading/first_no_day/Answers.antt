use Rattle.std.proofs.Common.{arith, rules, tests, ◌≡◌, ℕ, Bool, List, [], ◌∷◌, Bor, map}
use Rattle.std.proofs.Common.{option_map, refl, sym, ap, ◌∙◌}
use Rattle.std.specs.List.{find}
use Rattle.std.specs.Option.{is_none}
use Rattle.std.proofs.lemmas.Grind.{common_steps}
use Rattle.std.proofs.lemmas.Iterator.{YieldsList-from_slice}
use Rattle.std.proofs.lemmas.Iterator.Adapters.{option_map_id}
use Rattle.std.proofs.lemmas.Iterator.Consumers.{YieldsList-from_copied}
use Rattle.std.proofs.lemmas.Iterator.Search.{find_from_yields_List}
use Rattle.ftd_days.specs.Spelling.{day_of}
use Rattle.ftd_cli.proofs.reading.first_no_day.Goals as goal

-- what is found by a view of the items
found_by : {A B : Type 0} (view : A → B) (test : B → Bool) (xs : List A)
    → option_map view (find (λ x. test (view x)) xs) ≡ find test (map view xs)
found_by view test [] = refl
found_by view test (x ∷ xs) = grind (arith, common_steps, found_by view test xs)

pub returns : goal.returns
returns c =
    let texts = c.args.texts.now in
    let view = λ (text : Bor (List ℕ)). text.now in
    let test = λ (text : List ℕ). is_none (day_of text) in
    let is : option_map (λ x. x) c.find.result ≡ find (λ x. test (view x)) texts =
    find_from_yields_List (λ x. test (view x)) _ _ c.find.result c.find.ensures.ran
    (YieldsList-from_copied (YieldsList-from_slice texts cc)) (λ x b q k. search (rules, tests)) in
    ap (option_map view) (sym (option_map_id c.find.result) ∙ is) ∙ found_by view test texts
