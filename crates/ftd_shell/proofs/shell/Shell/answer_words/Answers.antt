use Rattle.std.proofs.Common.{◌≡◌, ◌∙◌, ap, refl, ℕ}
use Rattle.std.specs.Global.{Vec}
use Rattle.ftd_cli.specs.Lines.{shown_words}
use Rattle.ftd_shell.specs.Shells.{Ways, answered, said_in}
use Rattle.ftd_shell.proofs.UnderstoodLines.{asked_does}
use Rattle.ftd_shell.proofs.shell.Shell.answer_words.Goals as goal

pub returns-clause-answers : goal.returns-clause-answers
returns-clause-answers g c = λ said shown asks.
    let shows : c.answer_asked-end.new.self.shows ≡ c.args.self.now.shows =
    ap (λ (ways : Ways). ways.shows) c.answer_asked-end.ensures.stays in
    let kept : c.deref-3.result.now ≡ said_in c.answer_asked-end.result.err =
    c.deref-3.ensures.value ∙ ap (λ (bytes : Vec ℕ). bytes.items) c.into_inner.ensures in
    let first : c.deref.result.now ≡ shown_words said = c.deref.ensures ∙ shown in
    let second : c.deref-2.result.now ≡ shown_words said = c.deref-2.ensures ∙ shown in
    answered (record {
      shown = c.show_command.new.out;
      shows = rw first at c.in-Ok.ensures.ok;
      unsaid = c.new-said.result;
      is_unsaid =
          ap (λ (bytes : Vec ℕ). bytes.items) c.new-said.ensures.inner ∙ c.new.ensures.items;
      end = c.answer_asked-end.result;
      answers = asked_does g.S.Store g.O.Target.taken g.O.Target.failed _ _ _ _ _ _ _ _ said _ asks
          c.answer_asked-end.ensures.answers;
      status_is = refl;
      out_is = refl;
      puts = rw (shows, second, kept) at c.put_said.ensures;
    })
