use Rattle.std.proofs.Common.{[], ◌∷◌, ◌++◌, ◌∙◌, true, refl, sym, ap, subst, inl, inr, arith}
use Rattle.std.proofs.lemmas.Bool.{true≢false}
use Rattle.std.proofs.KnownBytes.{Appends-nil}
use Rattle.ftd_ports.proofs.WritingFacts.{breaks_off, prefix_more}
use Rattle.ftd_answers.specs.DueTexts.{HasRows}
use Rattle.ftd_answers.specs.declared.due_texts.DueText.{DueText}
use Rattle.ftd_answers.proofs.RowFacts.{one_more, more_left}
use Rattle.ftd_answers.proofs.due_texts.DueTextDueSink.row.Goals as goal

pub returns-in_default-clause-broke : goal.returns-in_default-clause-broke
returns-in_default-clause-broke g c =
    record {
      fails = refl;
      writes = record { written = []; unwritten = _; parts = refl; appends = Appends-nil _ };
      reason = inr (inr (c.in_default.ensures.full refl));
      stays = λ fails. absurd (true≢false (sym fails ∙ c.if-self.false));
      breaks = λ start account quarter as_of rows others has.
          record {
            part = breaks_off (more_left g.W.Target.taken start account quarter as_of rows
                c.args.self.now has c.args.row.now others)
                (record { written = []; unwritten = _; parts = refl; appends = Appends-nil _ });
            reason = let over = c.in_default.ensures.full refl in let before = has.total in
                inr (omega arith);
          };
    }

pub returns-in-Err-clause-broke : goal.returns-in-Err-clause-broke
returns-in-Err-clause-broke g c = record {
  fails = refl;
  writes = c.in-Err.ensures.writes.err;
  reason = inr (inl c.in-Err.ensures.writes.fault);
  stays = λ fails. absurd (true≢false (sym fails ∙ c.if-self.false));
  breaks = λ start account quarter as_of rows others has.
      record {
        part = breaks_off (more_left g.W.Target.taken start account quarter as_of rows
            c.args.self.now has c.args.row.now others)
            (prefix_more _ refl c.in-Err.ensures.writes.err);
        reason = inl c.in-Err.ensures.writes.fault;
      };
}

pub returns-in-Ok-clause-took : goal.returns-in-Ok-clause-took
returns-in-Ok-clause-took g c = record {
  worked = c.if-self.false;
  works = ap (λ (t : DueText g.row.W.Denot). t.failed) c.in-Ok.ensures.begun ∙ c.if-self.false;
  writes = c.in-Ok.ensures.writes.ok;
  counts = c.in-Some.ensures.counts.0;
  below = c.in-Some.ensures.counts.1;
  goes = λ start account quarter as_of rows has.
      let sum = c.in-Some.ensures.counts in
      let made = one_more g.W.Target.taken start account quarter as_of rows c.args.self.now has
      c.args.row.now _ c.in-Ok.ensures.writes.ok in
      subst (λ text. HasRows g.W.Target.taken start account quarter as_of
      (rows ++ c.args.row.now ∷ []) (record text { total = c.in-Some.total }))
      (sym c.in-Ok.ensures.begun)
      (subst (λ total. HasRows g.W.Target.taken start account quarter as_of
      (rows ++ c.args.row.now ∷ []) (record c.args.self.now {
        writer = c.write.new.self.writer;
        begun = true;
        total = total;
      })) (sym sum.0) made);
}
