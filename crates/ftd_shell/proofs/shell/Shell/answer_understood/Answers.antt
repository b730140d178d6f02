use Rattle.std.proofs.Common.{refl}
use Rattle.ftd_shell.specs.Shells.{ways_of}
use Rattle.ftd_shell.proofs.UnderstoodLines.{entry_answers, no_memory_answers, no_text_answers}
use Rattle.ftd_shell.proofs.UnderstoodLines.{nothing_answers, too_long_answers, words_answer}
use Rattle.ftd_shell.proofs.shell.Shell.answer_understood.Goals as goal

pub returns-in-Nothing-clause-answers : goal.returns-in-Nothing-clause-answers
returns-in-Nothing-clause-answers g c = λ piece is.
    nothing_answers g.S.Store g.O.Target.taken g.O.Target.failed g.E.Target.taken
    g.E.Target.failed c.args.out c.args.err
    (record { status = 0; out = c.args.out; err = c.args.err })
    c.args.self.now.desk c.args.self.now.desk
    (ways_of c.args.self.now) c.args.number piece (rw c.in-Nothing.is at is) refl refl

pub returns-in-NoText-clause-answers : goal.returns-in-NoText-clause-answers
returns-in-NoText-clause-answers g c = λ piece is.
    no_text_answers g.S.Store g.O.Target.taken g.O.Target.failed g.E.Target.taken
    g.E.Target.failed c.args.out c.args.err
    c.tell_bad.result c.args.self.now.desk c.args.self.now.desk
    (ways_of c.args.self.now) c.args.number piece (rw c.in-NoText.is at is) refl
    (record {
      status_is = c.tell_bad.ensures.status_is;
      out_is = c.tell_bad.ensures.out_is;
      line = c.tell_bad.ensures.line;
    })

pub returns-in-TooLong-clause-answers : goal.returns-in-TooLong-clause-answers
returns-in-TooLong-clause-answers g c = λ piece is.
    too_long_answers g.S.Store g.O.Target.taken g.O.Target.failed g.E.Target.taken
    g.E.Target.failed c.args.out c.args.err
    c.tell_bad-in-TooLong.result c.args.self.now.desk c.args.self.now.desk
    (ways_of c.args.self.now) c.args.number piece (rw c.in-TooLong.is at is) refl
    (record {
      status_is = c.tell_bad-in-TooLong.ensures.status_is;
      out_is = c.tell_bad-in-TooLong.ensures.out_is;
      line = c.tell_bad-in-TooLong.ensures.line;
    })

pub returns-in-NoMemory-clause-answers : goal.returns-in-NoMemory-clause-answers
returns-in-NoMemory-clause-answers g c = λ piece is.
    no_memory_answers g.S.Store g.O.Target.taken g.O.Target.failed g.E.Target.taken
    g.E.Target.failed c.args.out c.args.err
    c.fail_memory.result c.args.self.now.desk c.args.self.now.desk
    (ways_of c.args.self.now) c.args.number piece (rw c.in-NoMemory.is at is) refl
    (record {
      status_is = c.fail_memory.ensures.status_is;
      out_is = c.fail_memory.ensures.out_is;
      line = c.fail_memory.ensures.line;
    })

pub returns-in-Enters-clause-answers : goal.returns-in-Enters-clause-answers
returns-in-Enters-clause-answers g c = λ piece is.
    entry_answers g.S.Store g.O.Target.taken g.O.Target.failed g.E.Target.taken
    g.E.Target.failed c.args.out c.args.err
    c.answer_words.result c.args.self.now.desk c.answer_words.new.self.desk
    (ways_of c.args.self.now) c.args.number piece c.in-Enters.entry c.into_words.result
    c.into_words.ensures (rw c.in-Enters.is at is) c.answer_words.ensures.answers

pub returns-in-Asks-clause-answers : goal.returns-in-Asks-clause-answers
returns-in-Asks-clause-answers g c = λ piece is.
    words_answer g.S.Store g.O.Target.taken g.O.Target.failed g.E.Target.taken
    g.E.Target.failed c.args.out c.args.err
    c.answer_words-in-Asks.result c.args.self.now.desk c.answer_words-in-Asks.new.self.desk
    (ways_of c.args.self.now) c.args.number piece c.in-Asks.words
    (rw c.in-Asks.is at is) c.answer_words-in-Asks.ensures.answers
