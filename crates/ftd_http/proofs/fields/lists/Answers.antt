use Rattle.std.proofs.Common.{◌∙◌, sym}
use Rattle.ftd_http.proofs.ListFacts.{lists_behind, lists_first, lists_last}
use Rattle.ftd_http.proofs.fields.lists.Goals as goal

pub returns-in_default : goal.returns-in_default
returns-in_default c = c.is_word.ensures
    ∙ sym (c.words.invariant ∙ lists_last c.args.word.now c.words.rest.now
    (sym c.separator_in.ensures.value ∙ c.in_default.is))

pub returns-then-is_word : goal.returns-then-is_word
returns-then-is_word c =
    sym (c.words.invariant ∙ lists_first c.args.word.now c.words.rest.now c.split_at.result.0.now
    c.in-Some.end
    (sym c.separator_in.ensures.value ∙ c.in-Some.is) c.split_at.ensures.front
    (sym c.is_word-in-words.ensures ∙ c.if-is_word.true))

pub words-preserved : goal.words-preserved
words-preserved c =
    c.words.invariant ∙ lists_behind c.args.word.now c.words.rest.now c.split_at.result.0.now
    c.split_at.result.1.now c.in-Some.end
    (sym c.separator_in.ensures.value ∙ c.in-Some.is) c.split_at.ensures.front
    c.split_at.ensures.back
    (sym c.is_word-in-words.ensures ∙ c.if-is_word.false)
