use Rattle.std.proofs.Common.{◌≡◌, ◌∷◌, ◌∙◌, sym}
use Rattle.ftd_http.proofs.LengthFacts.{none_empty, none_long, none_first, none_others}
use Rattle.ftd_http.proofs.LengthFacts.{some_number}
use Rattle.ftd_http.proofs.lengths.number_in.Goals as goal
use Rattle.ftd_http.proofs.lengths.number_in.Goals.{then-others-gt9-via-then-others-gt9}
use Rattle.ftd_http.proofs.lengths.number_in.Goals.{then-others-gt9-via-else-others-gt9+then-not-is_ascii_digit}

pub returns-in_err-first : goal.returns-in_err-first
returns-in_err-first c = c.from_residual.ensures
    ∙ sym (none_empty c.args.text.now c.in_err-first.ensures.cases)

pub returns-then-others-gt9 : goal.returns-then-others-gt9
returns-then-others-gt9 c =
    let cut : c.args.text.now ≡ c.in_ok-first.first.now ∷ c.in_ok-first.others.now =
    c.in_ok-first.ensures.cases.0 in
    elim c.then-others-gt9.branch [
      | then-others-gt9-via-then-others-gt9 w ↦
          rw cut (sym
          (none_long c.in_ok-first.first.now c.in_ok-first.others.now w.if-others-gt9.true))
      | then-others-gt9-via-else-others-gt9+then-not-is_ascii_digit w ↦
          rw cut (sym (none_first c.in_ok-first.first.now c.in_ok-first.others.now
          (sym w.if-not-is_ascii_digit.ensures.value)))
    ]

pub returns-in_err-low : goal.returns-in_err-low
returns-in_err-low c =
    let cut : c.args.text.now ≡ c.in_ok-first.first.now ∷ c.in_ok-first.others.now =
    c.in_ok-first.ensures.cases.0 in
    c.from_residual-in_err-low.ensures
    ∙ rw cut (sym (none_others c.in_ok-first.first.now c.in_ok-first.others.now
    c.in_err-low.ensures))

pub returns : goal.returns
returns c =
    let cut : c.args.text.now ≡ c.in_ok-first.first.now ∷ c.in_ok-first.others.now =
    c.in_ok-first.ensures.cases.0 in
    rw (c.from.ensures, c.pow.ensures, c.from-2.ensures, c.in_ok-low.ensures.1, cut)
    (sym (some_number c.in_ok-first.first.now c.in_ok-first.others.now c.if-others-gt9.false
    (sym c.if-not-is_ascii_digit.ensures.value) c.in_ok-low.ensures.0))
