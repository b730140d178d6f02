-- The texts of replies.
use Rattle.std.specs.Prelude.{ℕ, List, [], ◌∷◌, codes, length}
use Rattle.std.specs.Fmt.{decimal}
use Rattle.std.specs.List.{concat}
use Rattle.ftd_days.specs.Text.{day_text}
use Rattle.ftd_machine.specs.declared.replies.Difference.{Difference}
use Rattle.ftd_machine.specs.declared.replies.Reply.{Reply}
use Rattle.ftd_machine.specs.declared.replies.Reply.TheVariants as reply
use Rattle.ftd_pages.specs.Formats.{facts_as}
use Rattle.ftd_pages.specs.declared.frames.Frame.{Frame}
use Rattle.ftd_pages.specs.declared.frames.Style.TheVariants.{Within}
use Rattle.ftd_pages.specs.declared.frames.Ways.TheVariants.{Nowhere}
use Rattle.ftd_verbs.specs.declared.formats.AnswerFormat.{AnswerFormat}

-- `posted 2024-05-01 2024-05-31 removed 0 added 1`
unfoldable pub posted_text : Difference → List ℕ
posted_text d =
    concat (codes "posted " ∷ day_text d.from ∷ codes " " ∷ day_text d.to ∷ codes " removed "
    ∷ decimal (length d.removed) ∷ codes " added " ∷ decimal (length d.added) ∷ (10 ∷ []) ∷ [])

-- the frame of a command's page: it has the style within, so that it needs no server, and no ways
abbrev pub command_frame : Frame
command_frame = record { style = Within; ways = Nowhere }

-- the text of a reply, in a format where it has several
abbrev pub reply_text : AnswerFormat → Reply → List ℕ
reply_text format reply.Done = concat (codes "done" ∷ (10 ∷ []) ∷ [])
reply_text format reply.Already = concat (codes "already" ∷ (10 ∷ []) ∷ [])
reply_text format (reply.Posted difference) = posted_text difference
reply_text format (reply.Told facts) = facts_as command_frame format facts
