use Rattle.std.proofs.Common.{◌∙◌, ap, subst, sym}
use Rattle.ftd_store.specs.Frame.{Calls}
use Rattle.ftd_machine.specs.declared.requests.Question.TheVariants.{Agenda, DueList, Explain, Owed}
use Rattle.ftd_desk.specs.Shown.{Shows}
use Rattle.ftd_desk.proofs.answering.ask.Goals as goal

pub returns-in-DueList-clause-shows : goal.returns-in-DueList-clause-shows
returns-in-DueList-clause-shows g c =
    let quarter = c.in-DueList.quarter in
    let as_of = c.in-DueList.as_of in
    subst (λ question. Calls g.S.Store c.args.tx.now c.due_list.new.tx c.due_list.result
    (λ answer before after t. Shows question answer t))
    (sym (c.in-DueList.is
    ∙ ap (λ name. DueList name quarter as_of) (sym c.as_str-in-DueList.ensures)))
    c.due_list.ensures.shows

pub returns-in-Explain-clause-shows : goal.returns-in-Explain-clause-shows
returns-in-Explain-clause-shows g c =
    subst (λ question. Calls g.S.Store c.args.tx.now c.explain.new.tx c.explain.result
    (λ answer before after t. Shows question answer t))
    (sym (c.in-Explain.is
    ∙ ap (λ name. Explain name c.in-Explain.day) (sym c.as_str-in-Explain.ensures)))
    c.explain.ensures.shows

pub returns-in-Agenda-clause-shows : goal.returns-in-Agenda-clause-shows
returns-in-Agenda-clause-shows g c =
    subst (λ question. Calls g.S.Store c.args.tx.now c.agenda.new.tx c.agenda.result
    (λ answer before after t. Shows question answer t)) (sym c.in-Agenda.is)
    c.agenda.ensures.shows

pub returns-in-Owed-clause-shows : goal.returns-in-Owed-clause-shows
returns-in-Owed-clause-shows g c =
    subst (λ question. Calls g.S.Store c.args.tx.now c.owed_list.new.tx c.owed_list.result
    (λ answer before after t. Shows question answer t)) (sym c.in-Owed.is)
    c.owed_list.ensures.shows
