use Rattle.std.proofs.Common.{◌≡◌, ◌∙◌, ap, get_or, refl, sym}
use Rattle.std.proofs.lemmas.Bool.{true≢false}
use Rattle.ftd_shell.specs.Listed.{broken_of}
use Rattle.ftd_shell.specs.Shells.{ways_of}
use Rattle.ftd_shell.proofs.Listing.{listed_first}
use Rattle.ftd_shell.proofs.shell.Shell.tell_broken.Goals as goal

pub returns : goal.returns
returns g c = λ number asked later holds.
    let line = c.in-Some.line.now in
    let request = c.in-Some-first.request.now in
    let listed = listed_first (ways_of c.args.self.now) number c.args.listed.now.lines.items line
    asked later holds.lines
    (rw c.deref.ensures.value at c.in-Some.ensures.item.1) in
    let same : request ≡ asked.request =
    c.in-Some-first.ensures.item.1
    ∙ ap (λ xs. get_or xs 0 request) (c.deref-2.ensures.value ∙ holds.requests) in
    c.tell_next.ensures number (broken_of asked) listed (record {
      request_is = same;
      answer_is = refl;
      note_is = refl;
      asked_after = λ some. absurd (true≢false (sym some));
      no_question = listed.asks.no_question;
    })
