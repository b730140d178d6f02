-- Those of some items of which something holds, and the years that are on another schedule.
use Rattle.std.proofs.Common.{◌≡◌, ◌⊎◌, ◌∙◌, inl, inr, ℕ, ◌+◌, List, [], ◌∷◌, refl, subst, sym}
use Rattle.std.proofs.Common.{arith}
use Rattle.ftd_rules.specs.declared.YearLine.{YearLine}
use Rattle.ftd_rules.specs.Lists.{Has, KeysRise}
use Rattle.ftd_rules.specs.Years.{YearsFrom}
use Rattle.ftd_rules.proofs.Schedules.{years_within}
use Rattle.ftd_machine.specs.History.{year_of_line}
use Rattle.ftd_machine.specs.Posting.{AreThose, IsScheduledAs, AreOnOtherSchedules}

module _ {X : Type 0} (key : X → ℕ) (Holds : X → Type 0) where
  pub none_those : (items : List X) → ((x : X) → Has items x → Holds x → ⊥)
      → AreThose key Holds items []
  none_those items none = record {
    in_order = tt;
    all = λ x. ((λ has. absurd has), (λ k. none x k.0 k.1));
  }

  pub all_those : (items : List X) → KeysRise key items → ((x : X) → Has items x → Holds x)
      → AreThose key Holds items items
  all_those items rise holds = record {
    in_order = rise;
    all = λ x. ((λ has. (has, holds x has)), (λ k. k.0));
  }

  -- there are such items always, where it can be told of each whether it holds
  pub those_some : ((x : X) → Holds x ⊎ (Holds x → ⊥)) → (items : List X) → KeysRise key items
      → (those : List X) × AreThose key Holds items those
  those_some decide [] rise = ([], none_those [] (λ x has k. has))
  those_some decide (x ∷ items) rise =
      let rest = those_some decide items rise.1 in
      elim (decide x) [
        | inl holds ↦ (
          x ∷ rest.0,
          record {
            in_order = (
              (λ later has. rise.0 later ((rest.1.all later).0 has).0),
              rest.1.in_order,
            );
            all = λ o. (
              (λ h. elim h [
                | inl is ↦ (inl is, subst Holds (sym is) holds)
                | inr has ↦ (let k = (rest.1.all o).0 has in (inr k.0, k.1))
              ]),
              (λ h. elim h.0 [
                | inl is ↦ inl is
                | inr has ↦ inr ((rest.1.all o).1 (has, h.1))
              ]),
            );
          },
        )
        | inr fails ↦ (
          rest.0,
          record {
            in_order = rest.1.in_order;
            all = λ o. (
              (λ h. (let k = (rest.1.all o).0 h in (inr k.0, k.1))),
              (λ h. elim h.0 [
                | inl is ↦ absurd (fails (subst Holds is h.1))
                | inr has ↦ (rest.1.all o).1 (has, h.1)
              ]),
            );
          },
        )
      ]

-- the lines of open years are in the order of their years
pub lines_in_order : (year : ℕ) (lines : List YearLine) → YearsFrom year lines
    → KeysRise year_of_line lines
lines_in_order year [] from = tt
lines_in_order year (line ∷ lines) from = (
  (λ later has.
      (let within = years_within (year + 1) lines later from.1 has in
      let low = within.0 in
      let first = from.0 in
      omega arith)),
  lines_in_order (year + 1) lines from.1,
)

-- ---- years that are on another schedule than before

-- each of the lines is scheduled as one of the others
abbrev pub AreScheduledAs : List YearLine → List YearLine → Type 0
AreScheduledAs lines others = (line : YearLine) → Has lines line
    → (other : YearLine) × Has others other × IsScheduledAs line other

-- and each of the others as one of them
abbrev pub HaveSameSchedules : List YearLine → List YearLine → Type 0
HaveSameSchedules lines others = AreScheduledAs lines others × AreScheduledAs others lines

scheduled_as_itself : (lines : List YearLine) → AreScheduledAs lines lines
scheduled_as_itself lines line has = (line, has, (refl, refl, refl))

pub same_lines : (lines others : List YearLine) → lines ≡ others → HaveSameSchedules lines others
same_lines lines others is =
    subst (HaveSameSchedules lines) is (scheduled_as_itself lines, scheduled_as_itself lines)

then_same : (a b c : YearLine) → IsScheduledAs a b → IsScheduledAs a c → IsScheduledAs b c
then_same a b c d e = (sym d.0 ∙ e.0, sym d.1 ∙ e.1, sym d.2 ∙ e.2)

-- the same years are on another schedule than the one before, and than the other one
pub other_schedules : (before earlier after years : List YearLine)
    → HaveSameSchedules before earlier → AreOnOtherSchedules before after years
    → AreOnOtherSchedules earlier after years
other_schedules before earlier after years same h = record {
  in_order = h.in_order;
  all = λ line. (
    (λ has. (let k = (h.all line).0 has in (
      k.0,
      λ old in_earlier is. (let b = same.1 old in_earlier in
          k.1 b.0 b.1 (then_same old b.0 line b.2 is)),
    ))),
    (λ k. (h.all line).1 (
      k.0,
      λ old in_before is. (let e = same.0 old in_before in
          k.1 e.0 e.1 (then_same old e.0 line e.2 is)),
    )),
  );
}
