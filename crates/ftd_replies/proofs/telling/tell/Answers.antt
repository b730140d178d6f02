use Rattle.ftd_replies.proofs.telling.tell.Goals as goal

pub returns-in-BadArgument : goal.returns-in-BadArgument
returns-in-BadArgument g c = search (c.in-BadArgument.is, ← c.as_str.ensures.value)

pub returns-in-NoToday : goal.returns-in-NoToday
returns-in-NoToday g c = search (c.in-NoToday.is, ← c.text.ensures, ← c.as_bytes.ensures.value)

pub returns-in-Usage : goal.returns-in-Usage
returns-in-Usage g c = search (c.in-Usage.is, ← c.as_bytes-in-Usage.ensures.value)

pub returns-in-Memory : goal.returns-in-Memory
returns-in-Memory g c = search c.in-Memory.is
