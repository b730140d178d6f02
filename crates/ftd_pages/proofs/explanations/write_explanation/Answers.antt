use Rattle.ftd_pages.proofs.explanations.write_explanation.Goals as goal

pub returns-in-Alone : goal.returns-in-Alone
returns-in-Alone g c =
    rw c.in-Alone.is (rw c.as_str-account.ensures at c.write_explanation_page.ensures)

pub returns-in-Section : goal.returns-in-Section
returns-in-Section g c =
    rw c.in-Section.is (rw c.as_str-account.ensures at c.write_explained_section.ensures)
