use Rattle.std.proofs.Common.{arith}
use Rattle.std.proofs.KnownBytes.{Appends-nil}
use Rattle.ftd_csv.proofs.Texts.{all_left, no_hints}
use Rattle.ftd_csv.proofs.records.write_record_hints.Goals as goal

pub returns-in-Ok-clause-ok : goal.returns-in-Ok-clause-ok
returns-in-Ok-clause-ok g c =
    rw (all_left c.args.sheet c.args.most _ _ c.in-Ok.ensures) c.write_hints_of.ensures.ok

pub returns-in-Ok-clause-err : goal.returns-in-Ok-clause-err
returns-in-Ok-clause-err g c =
    rw (all_left c.args.sheet c.args.most _ _ c.in-Ok.ensures) c.write_hints_of.ensures.err

pub returns-in-Err-BadHeader : goal.returns-in-Err-BadHeader
returns-in-Err-BadHeader g c =
    let fails = rw c.in-Err-BadHeader.field-0-is at c.in-Err-BadHeader.ensures in
    let none = no_hints c.args.sheet c.args.most c.args.text.now (λ has. fails.1 has.1) in
    record { ok = rw none (Appends-nil _); err = tt; fault = λ e. cc }

pub returns-in-Err-TooLong : goal.returns-in-Err-TooLong
returns-in-Err-TooLong g c =
    let fails = rw c.in-Err-TooLong.field-0-is at c.in-Err-TooLong.ensures in
    let none = no_hints c.args.sheet c.args.most c.args.text.now
    (λ has. omega (arith, has.0, fails)) in
    record { ok = rw none (Appends-nil _); err = tt; fault = λ e. cc }
