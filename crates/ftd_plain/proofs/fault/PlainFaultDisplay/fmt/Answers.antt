use Rattle.ftd_plain.proofs.fault.PlainFaultDisplay.fmt.Goals as goal

pub returns-in-Malformed-clause-writes : goal.returns-in-Malformed-clause-writes
returns-in-Malformed-clause-writes g c = λ plain ok. rw c.in-Malformed.is
    (c.write.ensures.writes plain ok)
