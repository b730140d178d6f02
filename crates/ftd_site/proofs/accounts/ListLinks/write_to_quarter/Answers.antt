use Rattle.ftd_site.proofs.accounts.ListLinks.write_to_quarter.Goals as goal

pub returns : goal.returns
returns g c = rw c.quarter.ensures at c.write_link.ensures
