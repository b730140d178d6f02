use Rattle.std.proofs.Common.{◌≡◌, ◌∙◌, ap, sym, length, rules}
use Rattle.std.proofs.lemmas.List.{length-map}
use Rattle.ftd_machine.specs.State.{numbered}
use Rattle.ftd_entries.specs.Known.{begins_at, beginnings_of}
use Rattle.ftd_entries.proofs.Corrected.{moves_listed}
use Rattle.ftd_entries.proofs.Reading.{three_told}
use Rattle.ftd_entries.proofs.beginnings.known_for_correction.Goals as goal

pub returns : goal.returns
returns g c =
    let name = c.args.name.now in
    let number = c.args.number in
    let corrections = c.in_ok-corrections.corrections in
    let count : length corrections.items ≡ c.in-Ok.count = search rules in
    record {
      call = three_told c.in_ok-account.ensures.call c.in_ok-corrections.ensures.call
          c.in_ok-is_unused.ensures.call _ _ (λ t account moves unused. record {
            account = account;
            known = λ s stands.
                ap (numbered number) (sym (moves_listed name corrections.items t s moves stands))
                ∙ sym (c.numbered.ensures
                ∙ ap (λ cs. numbered number (beginnings_of cs)) c.deref.ensures.value);
            is_unused = unused;
            count = λ s stands.
                ap length (sym (moves_listed name corrections.items t s moves stands))
                ∙ length-map corrections.items begins_at ∙ count;
          });
    }
