use Rattle.ftd_hinted.proofs.HintLaws.{void_hint, void_pay_hint}
use Rattle.ftd_hinted.proofs.laws.what_has_the_number_is_voided_by_its_hint.Goals as goal

pub returns : goal.returns
returns c = record { run = void_hint; payment = void_pay_hint }
