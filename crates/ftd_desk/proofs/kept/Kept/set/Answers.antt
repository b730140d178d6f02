use Rattle.std.proofs.Common.{rules, ◌∙◌, refl, sym}
use Rattle.std.specs.Prelude.{is_ok}
use Rattle.ftd_desk.proofs.Keeping.{changed, Without, all_left, none_left, not_added, added}
use Rattle.ftd_desk.proofs.kept.Kept.set.Given.{Over}
use Rattle.ftd_desk.proofs.kept.Kept.set.Goals as goal
use Rattle.ftd_desk.proofs.kept.Kept.set.Goals.{After-new, then-len-ge-MOST_ACCOUNTS}
use Rattle.ftd_desk.proofs.kept.Kept.set.Goals.{else-len-ge-MOST_ACCOUNTS}

-- what is kept of the others where the account's is put
room_left : (g : Over) (c : After-new g) → Without c.args.self.now.entries.items c.args.name.now
    c.if-len-ge-MOST_ACCOUNTS.self.entries.items
room_left g c =
    let old = c.args.self.now.entries.items in
    let name = c.args.name.now in
    let room = c.if-len-ge-MOST_ACCOUNTS.self.entries.items in
    elim c.if-len-ge-MOST_ACCOUNTS.branch [
      | then-len-ge-MOST_ACCOUNTS w ↦ none_left old name room (search rules)
      | else-len-ge-MOST_ACCOUNTS w ↦ all_left old name (sym c.place.ensures ∙ c.in_default.is) room
          (search rules)
    ]

pub returns-in-Some : goal.returns-in-Some
returns-in-Some g c =
    changed c.args.self.now.entries.items c.args.name.now _ c.in-Some.place c.index_mut.result.now
    c.args.content
    (sym c.place.ensures ∙ c.in-Some.is) c.index_mut.ensures.value refl

pub returns-then-not-is_account_name : goal.returns-then-not-is_account_name
returns-then-not-is_account_name g c =
    let old = c.args.self.now.entries.items in
    let name = c.args.name.now in
    not_added old name old c.args.content
    (all_left old name (sym c.place.ensures ∙ c.in_default.is) old refl)

pub returns-in-Ok : goal.returns-in-Ok
returns-in-Ok g c =
    added c.args.self.now.entries.items c.args.name.now _
    c.if-len-ge-MOST_ACCOUNTS.self.entries.items c.in-Ok.made c.args.content (is_ok c.push.result)
    (room_left g (goal.at.returns-in-Ok g c).After-new) c.in-Ok.ensures.account
    c.in-Ok.ensures.content c.push.ensures.items

pub returns-in_default-new : goal.returns-in_default-new
returns-in_default-new g c =
    let room = c.if-len-ge-MOST_ACCOUNTS.self.entries.items in
    not_added c.args.self.now.entries.items c.args.name.now room c.args.content
    (room_left g (goal.at.returns-in_default-new g c).After-new)
