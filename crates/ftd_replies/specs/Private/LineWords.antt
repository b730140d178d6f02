-- A word of a request's line, as it is written.
use Rattle.std.specs.Prelude.{ℕ, List}
use Rattle.ftd_answers.specs.Fields.{shown_as}
use Rattle.ftd_replies.specs.RequestLines.{mark, named, word}
use Rattle.ftd_replies.specs.declared.request_lines.LineWord.{LineWord}
use Rattle.ftd_replies.specs.declared.request_lines.LineWord.TheVariants.{Place, Named, Mark}

abbrev pub word_of : LineWord → List ℕ
word_of (Place value) = word (shown_as value).plain
word_of (Named at value) = named at (shown_as value).plain
word_of (Mark at is_there) = mark at is_there
