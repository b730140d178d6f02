-- What is told, in a format that may be a page.
use Rattle.std.specs.Prelude.{ℕ, List}
use Rattle.ftd_machine.specs.declared.facts.Facts.{Facts}
use Rattle.ftd_answers.specs.Facts.{facts_text}
use Rattle.ftd_verbs.specs.declared.formats.AnswerFormat.{AnswerFormat}
use Rattle.ftd_verbs.specs.declared.formats.AnswerFormat.TheVariants.{Plain, Page}
use Rattle.ftd_pages.specs.Facts.{facts_page}
use Rattle.ftd_pages.specs.declared.frames.Frame.{Frame}

-- a page stands in the frame, which is the frame of who tells it
abbrev pub facts_as : Frame → AnswerFormat → Facts → List ℕ
facts_as frame (Plain format) facts = facts_text format facts
facts_as frame Page facts = facts_page frame facts
