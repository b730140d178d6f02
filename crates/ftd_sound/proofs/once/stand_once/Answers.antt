use Rattle.ftd_sound.proofs.Apart.{keys_decided}
use Rattle.ftd_sound.proofs.once.stand_once.Goals as goal

pub returns : goal.returns
returns g c = keys_decided c.args.entries.now c.in_ok-keys_of.field-0.items c.are_apart.result
    c.in_ok-keys_of.ensures c.are_apart.ensures
