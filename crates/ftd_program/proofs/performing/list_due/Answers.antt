use Rattle.std.proofs.Common.{◌≡◌, inl, inr, ◌++◌, ◌∷◌, refl, sym, ap, ◌∙◌, subst, arith}
use Rattle.std.specs.Prelude.{IfOk}
use Rattle.sqlite.specs.State.{HasCleanDisk}
use Rattle.ftd_machine.specs.State.{State}
use Rattle.ftd_machine.specs.declared.requests.Question.TheVariants.{DueList}
use Rattle.ftd_machine.specs.declared.requests.Request.TheVariants.{Question}
use Rattle.ftd_machine.specs.Told.{due_facts}
use Rattle.ftd_machine.specs.declared.replies.Reply.TheVariants.{Told}
use Rattle.ftd_machine.proofs.Listed.{lists_bounded}
use Rattle.ftd_desk.specs.Desks.{KeepsIfOpen, held}
use Rattle.ftd_program.specs.Mending.{KnowsFor}
use Rattle.ftd_program.proofs.Mended.{known_of, nothing_of, stands_on}
use Rattle.ftd_answers.specs.DueTexts.{BreaksAt, TakesRow, writer_of}
use Rattle.ftd_ports.specs.Writing.{WritesPrefix}
use Rattle.ftd_answers.specs.DueLists.{due_text}
use Rattle.ftd_program.specs.Performing.{broken, failed, refused, unbegun, whole}
use Rattle.ftd_program.proofs.DueFacts.{as_refused, as_sink, come_to, fault_status, has_broken}
use Rattle.ftd_program.proofs.DueFacts.{has_first, has_taken, some_status, worked}
use Rattle.ftd_program.proofs.performing.list_due.Goals as goal

pub returns-in-Ok-end : goal.returns-in-Ok-end
returns-in-Ok-end g c =
    record {
      stands = c.in-Ok.ensures.stands;
      prints = λ clean s keeps.
          let told = c.in-Ok.ensures.tells clean s (λ on. keeps) in
          let has = has_taken g.O.Target.taken (g.O.Target.taken c.args.out) c.args.account.now
          c.args.quarter c.args.as_of told.0 c.begin-text.result c.due_into.new.sink
          c.begin-text.ensures.rows told.2 in
          whole told.0 told.1
          (record {
            status_is = refl;
            err_is = refl;
            whole = c.in-Ok-end.ensures.text _ _ _ _ told.0 has;
          });
      shows = λ clean zero t stands.
          let shown = c.in-Ok.ensures.shows clean t stands in
          let has = has_taken g.O.Target.taken (g.O.Target.taken c.args.out) c.args.account.now
          c.args.quarter c.args.as_of shown.0 c.begin-text.result c.due_into.new.sink
          c.begin-text.ensures.rows shown.1 in (
            shown.0,
            shown.2,
            record {
              status_is = refl;
              err_is = refl;
              whole = c.in-Ok-end.ensures.text _ _ _ _ shown.0 has;
            },
          );
    }

pub returns-in-Err : goal.returns-in-Err
returns-in-Err g c =
    record {
      stands = c.in-Ok.ensures.stands;
      prints = λ clean s keeps.
          let told = c.in-Ok.ensures.tells clean s (λ on. keeps) in
          let has = has_taken g.O.Target.taken (g.O.Target.taken c.args.out) c.args.account.now
          c.args.quarter c.args.as_of told.0 c.begin-text.result c.due_into.new.sink
          c.begin-text.ensures.rows told.2 in
          let out = c.fail_output.ensures.out in
          failed told.0 told.1 (record {
            status_is = c.fail_output.ensures.status;
            part = subst (λ o. WritesPrefix (g.O.Target.taken c.args.out) (g.O.Target.taken o)
                (due_text c.args.account.now c.args.quarter c.args.as_of told.0)) (sym out)
                (c.in-Err.ensures.prefix _ _ _ _ told.0 has);
            reason = ap g.O.Target.failed out ∙ worked _ has.works c.in-Err.ensures.fault;
            line = c.fail_output.ensures.line;
          });
      shows = λ clean zero. absurd (let three = c.fail_output.ensures.status in omega arith);
    }

pub returns-in-Err-Refused : goal.returns-in-Err-Refused
returns-in-Err-Refused g c =
    let refusal = c.in-Err-Refused.refusal in
    let mended = c.known_for.ensures in
    let printed = rw (c.requires.asked, c.or_nothing-known.ensures) at c.print_refusal.ensures in
    let knows : HasCleanDisk (held g.S.Store c.known_for.new.desk).db
    → (s : State) → KeepsIfOpen (held g.S.Store c.due_into.new.self) s
    → IfOk c.known_for.result
    (KnowsFor s (Question (DueList c.args.account.now c.args.quarter c.args.as_of)) refusal) =
    rw c.requires.asked at mended.knows in
    let writer : c.print_refusal.result.out ≡ writer_of c.due_into.new.sink = printed.out_is
    ∙ c.into_writer-out.ensures in
    record {
      stands = stands_on _ _ _ c.due_into.ensures.stands mended.stands;
      prints = λ clean s keeps.
          let then = mended.stands.honest clean in
          let known = knows clean s (λ on. c.due_into.ensures.stands.stands then on s keeps) in
          (elim (as_refused (TakesRow g.O.Target.taken)
          (BreaksAt g.O.Target.taken g.O.Target.failed) s c.args.account.now c.args.quarter
          c.args.as_of c.begin-text.result c.due_into.new.sink c.due_into.result
          c.in-Err-Refused.field-0 c.in-Err-Refused.is refusal
          c.in-Err-Refused.field-0-is (c.due_into.ensures.tells then s (λ on. keeps))) [
            | inl refuses ↦ refused refusal c.known_for.result refuses.0
                (known_of s (Question (DueList c.args.account.now c.args.quarter c.args.as_of))
                refusal c.known_for.result known mended.fault)
                (record {
                  status_is = printed.status_is;
                  out_is = writer
                      ∙ (ap writer_of refuses.1 ∙ c.begin-text.ensures.writer);
                  line = printed.line;
                })
            | inr faulted ↦
                let none = nothing_of s
                (Question (DueList c.args.account.now c.args.quarter c.args.as_of)) refusal
                c.known_for.result faulted.0 known in
                let bare = rw none at printed in (elim faulted.1 [
                  | inl same ↦ unbegun refusal faulted.0
                      (record {
                        status_is = bare.status_is;
                        out_is = writer
                            ∙ (ap writer_of same ∙ c.begin-text.ensures.writer);
                        line = bare.line;
                      })
                  | inr first ↦ broken refusal (first.0 ++ first.1) faulted.0 first.2
                      (record {
                        status_is = bare.status_is ∙ fault_status refusal faulted.0;
                        part = subst (λ o. WritesPrefix (g.O.Target.taken c.args.out)
                            (g.O.Target.taken o)
                            (due_text c.args.account.now c.args.quarter c.args.as_of
                            (first.0 ++ first.1))) (sym writer)
                            (has_first g.O.Target.taken (g.O.Target.taken c.args.out)
                            c.args.account.now c.args.quarter c.args.as_of first.0 first.1
                            c.begin-text.result c.due_into.new.sink c.begin-text.ensures.rows first.3);
                        line = bare.line;
                      })
                ])
          ]);
      shows = λ clean zero. absurd (some_status refusal (sym printed.status_is ∙ zero));
    }

pub returns-in-Err-Sink : goal.returns-in-Err-Sink
returns-in-Err-Sink g c =
    let writer : c.fail_output-in-Err-Sink.result.out ≡ writer_of c.due_into.new.sink =
    c.fail_output-in-Err-Sink.ensures.out ∙ c.into_writer.ensures in
    record {
      stands = c.due_into.ensures.stands;
      prints = λ clean s keeps.
          let told = as_sink (TakesRow g.O.Target.taken)
          (BreaksAt g.O.Target.taken g.O.Target.failed) s c.args.account.now c.args.quarter
          c.args.as_of c.begin-text.result c.due_into.new.sink c.due_into.result c.in-Err-Sink.field-0
          c.in-Err-Sink.is c.in-Err-Sink.field-0-is
          (c.due_into.ensures.tells clean s (λ on. keeps)) in
          let rows = told.0 ++ told.1 ∷ told.2 in
          let breaks = has_broken g.O.Target.taken (g.O.Target.taken c.args.out) c.args.account.now
          c.args.quarter c.args.as_of g.O.Target.failed told.0 told.2 told.1 c.begin-text.result
          told.4 c.due_into.new.sink c.begin-text.ensures.rows told.5 told.6 in
          failed rows told.3 (record {
            status_is = c.fail_output-in-Err-Sink.ensures.status;
            part = subst (λ o. WritesPrefix (g.O.Target.taken c.args.out) (g.O.Target.taken o)
                (due_text c.args.account.now c.args.quarter c.args.as_of rows))
                (sym writer) breaks.part;
            reason = (elim breaks.reason [
              | inl fails ↦ ap g.O.Target.failed writer ∙ fails
              | inr over ↦ absurd (let reached = come_to told.0 told.2 told.1 over in
                  let below = lists_bounded s
                  (Question (DueList c.args.account.now c.args.quarter c.args.as_of))
                  (Told (due_facts c.args.account.now c.args.quarter c.args.as_of rows)) s
                  keeps.rests.kept.sound told.3 in omega arith)
            ]);
            line = c.fail_output-in-Err-Sink.ensures.line;
          });
      shows = λ clean zero. absurd (let three = c.fail_output-in-Err-Sink.ensures.status in
          omega arith);
    }
