use Rattle.ftd_pages.proofs.kept_rows.KeptPaymentPageRow.write_part.Goals as goal

pub returns : goal.returns
returns g c = rw (c.class_if.ensures, c.way_to.ensures) at c.write_linked_fields.ensures
