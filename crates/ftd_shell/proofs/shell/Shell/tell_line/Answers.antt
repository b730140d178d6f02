use Rattle.std.proofs.Common.{◌≡◌, ◌∙◌, ap, refl, string_bytes, ℕ}
use Rattle.std.specs.Global.{Vec}
use Rattle.ftd_cli.specs.Lines.{shown_words}
use Rattle.ftd_shell.specs.Listed.{told}
use Rattle.ftd_shell.specs.Shells.{said_in}
use Rattle.ftd_shell.proofs.shell.Shell.tell_line.Goals as goal

pub returns : goal.returns
returns g c = λ number entered listed is.
    let words = shown_words entered.asked.words in
    let kept : c.deref-4.result.now ≡ said_in c.tell_answer-end.result.err =
    c.deref-4.ensures.value ∙ ap (λ (bytes : Vec ℕ). bytes.items) c.into_inner.ensures in
    let first : c.deref.result.now ≡ words = c.deref.ensures ∙ listed.shown_is in
    let second : c.deref-3.result.now ≡ words = c.deref-3.ensures ∙ listed.shown_is in
    let db : c.deref-2.result.now ≡ string_bytes c.args.self.now.db = c.deref-2.ensures in
    told (record {
      shown = c.show_command.new.out;
      shows = rw first at c.in-Ok.ensures.ok;
      unsaid = c.new-said.result;
      is_unsaid =
          ap (λ (bytes : Vec ℕ). bytes.items) c.new-said.ensures.inner ∙ c.new.ensures.items;
      end = c.tell_answer-end.result;
      tells = rw db at c.tell_answer-end.ensures entered is listed.format_is;
      status_is = refl;
      out_is = refl;
      puts = rw (listed.number_is, second, kept) at c.put_said.ensures;
    })
