use Rattle.std.proofs.Common.{rules, tests, ◌≡◌}
use Rattle.std.proofs.lemmas.List.Sorted.{answers_always}
use Rattle.ftd_sound.proofs.Following.{is_next, follow_decided}
use Rattle.ftd_sound.proofs.years.follow.Goals as goal

pub returns : goal.returns
returns c = follow_decided c.args.years.now c.is_sorted_by.result
    (c.is_sorted_by.ensures.cases is_next
    (answers_always _ (λ a r. r ≡ is_next a.0.now a.1.0.now) _
    (λ f a r g k. search (rules, tests))))
