use Rattle.ftd_csv.proofs.ReadRows.{next_is}
use Rattle.ftd_csv.proofs.rows.next_row.Goals as goal

pub returns : goal.returns
returns c =
    next_is c.args.reader.now c.read_byte_record.new.self c.in-Ok.found _ c.requires
    (c.in-Ok.ensures.ready c.requires.as_it_stands)
    (c.in-Ok.ensures.reads c.requires.as_it_stands c.requires.ready)
