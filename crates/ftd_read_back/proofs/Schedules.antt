-- The deposit schedule of a day that is told as JSON is read back.
use Rattle.std.proofs.Common.{◌≡◌, ◌∙◌, refl, sym, ap, ℕ, ◌≤◌, [], ◌∷◌, map, Some, arith}
use Rattle.std.specs.Prelude.{codes}
use Rattle.json.specs.Print.{escape_byte}
use Rattle.serde_json.specs.Data.{object}
use Rattle.serde_json.specs.Written.{compact_text}
use Rattle.ftd_days.specs.Calendar.{last_day}
use Rattle.ftd_days.specs.Text.{day_text}
use Rattle.ftd_rules.specs.declared.Kind.{Kind}
use Rattle.ftd_machine.specs.declared.facts.DaySchedule.{DaySchedule}
use Rattle.ftd_machine.specs.declared.replies.Reason.{Reason}
use Rattle.ftd_machine.specs.declared.replies.Reason.TheVariants as reason
use Rattle.ftd_answers.specs.Explanations.{reason_name}
use Rattle.ftd_answers.specs.Fields.{members_of, object_of, object_told}
use Rattle.ftd_answers.specs.Listings.{kind_name}
use Rattle.ftd_answers.specs.Schedules.{schedule_as, schedule_fields}
use Rattle.ftd_answers.specs.declared.formats.Format.TheVariants.{List as Listed}
use Rattle.ftd_answers.specs.declared.formats.ListFormat.TheVariants.{Json}
use Rattle.ftd_read_back.specs.Explained.{object_read, schedule_object, schedule_read}
use Rattle.ftd_read_back.specs.Rows.{IsReasonInRange}
use Rattle.ftd_read_back.proofs.Listed.{AreNames, Pairs, member_text, members_from, object_text}
use Rattle.ftd_read_back.proofs.Listed.{text_value}
use Rattle.ftd_read_back.proofs.Members.{day_kept}
use Rattle.ftd_read_back.proofs.Spelled.{day_reread, kind_reread}
use Rattle.ftd_read_back.proofs.Texts.{value_read}
use Rattle.ftd_read_back.proofs.Values.{plain_kind, unescaped}

abbrev reason_pairs : ℕ → Kind → Reason → Pairs
reason_pairs day kind why =
    text_value (codes "day") (day_text day) ∷ text_value (codes "kind") (kind_name kind)
    ∷ text_value (codes "reason") (reason_name why) ∷ []

abbrev schedule_pairs : ℕ → Kind → Reason → Pairs
schedule_pairs day kind reason.Lookback = reason_pairs day kind reason.Lookback
schedule_pairs day kind reason.Carried = reason_pairs day kind reason.Carried
schedule_pairs day kind (reason.Turned turn) =
    text_value (codes "day") (day_text day) ∷ text_value (codes "kind") (kind_name kind)
    ∷ text_value (codes "reason") (codes "turned") ∷ text_value (codes "turn") (day_text turn) ∷ []

schedule_names : (day : ℕ) (kind : Kind) (why : Reason) → AreNames (schedule_pairs day kind why)
unfolding escape_byte
schedule_names day kind reason.Lookback = (refl, (refl, (refl, tt)))
schedule_names day kind reason.Carried = (refl, (refl, (refl, tt)))
schedule_names day kind (reason.Turned turn) = (refl, (refl, (refl, (refl, tt))))

schedule_members : (day : ℕ) (kind : Kind) (why : Reason)
    → map member_text (schedule_pairs day kind why)
    ≡ members_of (schedule_fields (record { day = day; kind = kind; reason = why }))
schedule_members day kind reason.Lookback = rw (
  day_kept day,
  unescaped (kind_name kind) (plain_kind kind),
  unescaped (reason_name reason.Lookback) refl,
) refl
schedule_members day kind reason.Carried = rw (
  day_kept day,
  unescaped (kind_name kind) (plain_kind kind),
  unescaped (reason_name reason.Carried) refl,
) refl
schedule_members day kind (reason.Turned turn) = rw (
  day_kept day,
  unescaped (kind_name kind) (plain_kind kind),
  unescaped (codes "turned") refl,
  day_kept turn,
) refl

schedule_text : (x : DaySchedule)
    → schedule_as (Listed Json) x ≡ object_of (map member_text
    (schedule_pairs x.day x.kind x.reason))
unfolding object_told
schedule_text x = ap object_of (sym (schedule_members x.day x.kind x.reason))

schedule_found : (day : ℕ) (kind : Kind) (why : Reason) → day ≤ last_day → IsReasonInRange why
    → object_read schedule_read (object_of (map member_text (schedule_pairs day kind why)))
    ≡ Some (schedule_object day kind why)
schedule_found day kind why early late =
    ap (object_read schedule_read)
    (sym (object_text (schedule_pairs day kind why) (schedule_names day kind why)))
    ∙ go why late
  where
    go : (own : Reason) → IsReasonInRange own
        → object_read schedule_read (compact_text (object (members_from
        (schedule_pairs day kind own)))) ≡ Some (schedule_object day kind own)
    go reason.Lookback low =
        rw (
          value_read (object (members_from (schedule_pairs day kind reason.Lookback)))
              (tt, (tt, (tt, tt))) (omega arith),
          day_reread day early,
          kind_reread kind,
        ) refl
    go reason.Carried low =
        rw (
          value_read (object (members_from (schedule_pairs day kind reason.Carried)))
              (tt, (tt, (tt, tt))) (omega arith),
          day_reread day early,
          kind_reread kind,
        ) refl
    go (reason.Turned turn) low =
        rw (
          value_read (object (members_from (schedule_pairs day kind (reason.Turned turn))))
              (tt, (tt, (tt, (tt, tt)))) (omega arith),
          day_reread day early,
          kind_reread kind,
          day_reread turn low,
        ) refl

pub schedule_reread : (x : DaySchedule) → x.day ≤ last_day → IsReasonInRange x.reason
    → object_read schedule_read (schedule_as (Listed Json) x)
    ≡ Some (schedule_object x.day x.kind x.reason)
schedule_reread x early late =
    ap (object_read schedule_read) (schedule_text x)
    ∙ schedule_found x.day x.kind x.reason early late
