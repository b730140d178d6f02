use Rattle.std.proofs.Common.{arith, ◌≡◌, [], refl, sym, ◌∙◌, ap, drop}
use Rattle.std.proofs.lemmas.List.{nil_from_length}
use Rattle.ftd_rules.specs.declared.YearLine.{YearLine}
use Rattle.ftd_rules.proofs.Items.{head_item}
use Rattle.ftd_buckets.specs.declared.state.Stage.TheVariants as stage
use Rattle.ftd_buckets.proofs.Openings.{kinds_same, kinds_differ}
use Rattle.ftd_buckets.proofs.Onward.{next_line, onward_done, onward_last, onward_next}
use Rattle.ftd_buckets.proofs.state.Progress.after_year.Goals as goal
use Rattle.ftd_buckets.proofs.state.Progress.after_year.Goals.{in-Some+else-ne, in_default}

pub first_day-requires-clause-to : goal.first_day-requires-clause-to
first_day-requires-clause-to c =
    let x : YearLine = c.in-Some.next.now in
    let item = c.in-Some.ensures.item in
    let e = head_item c.split_at.result.1.now x item.3.0 item.1 in
    let n = next_line c.args.self.lines.now c.args.self.asked.to c.args.new.now.year
    c.split_at.result.1.now x c.requires.ready c.split_at.ensures.back e in
    let top = n.end in
    omega arith

pub last_day-requires-clause-to : goal.last_day-requires-clause-to
last_day-requires-clause-to c =
    let x : YearLine = c.in-Some.next.now in
    let item = c.in-Some.ensures.item in
    let e = head_item c.split_at.result.1.now x item.3.0 item.1 in
    (next_line c.args.self.lines.now c.args.self.asked.to c.args.new.now.year
    c.split_at.result.1.now x c.requires.ready c.split_at.ensures.back e).end

pub returns-clause-serves : goal.returns-clause-serves
returns-clause-serves c = λ day holidays before after k.
    let lines : c.split_at.result.1.now ≡ drop 1 c.args.self.lines.now = c.split_at.ensures.back in
    let years = c.patch.ensures.years ∙ c.in_ok-push.ensures.items in
    elim c.match-first.branch [
      | in-Some+else-ne w ↦
          (let x : YearLine = w.in-Some.next.now in
          let item = w.in-Some.ensures.item in
          let e = head_item c.split_at.result.1.now x item.3.0 item.1 in
          let same : w.opens.result ≡ x.opening = kinds_same w.opens.result x.opening
          (sym w.ne.ensures ∙ w.if-ne.false) in
          onward_done c.args.self.form day holidays before after c.args.self c.args.new.now
          c.patch.result c.split_at.result.1.now x w.opens.result k c.requires.ready lines e
          (rw c.is_some-turned.ensures at w.opens.ensures) same c.patch.ensures.from
          c.patch.ensures.to c.patch.ensures.rows years)
      | in_default w ↦
          (let none : c.split_at.result.1.now ≡ [] = nil_from_length c.split_at.result.1.now
          (let h = w.in_default.ensures.item.3 in omega arith) in
          onward_last c.args.self.form day holidays before after c.args.self c.args.new.now
          c.patch.result k c.requires.ready (sym lines ∙ none)
          c.patch.ensures.from c.patch.ensures.to c.patch.ensures.rows years)
    ]

pub returns-then-ne-clause-serves : goal.returns-then-ne-clause-serves
returns-then-ne-clause-serves c = λ day holidays before after k.
    let x : YearLine = c.in-Some.next.now in
    let item = c.in-Some.ensures.item in
    let e = head_item c.split_at.result.1.now x item.3.0 item.1 in
    let other = kinds_differ c.opens.result x.opening (sym c.ne.ensures ∙ c.if-ne.true) in
    rw c.need.ensures
    (onward_next c.args.self.form day holidays before after c.args.self c.args.new.now
    c.split_at.result.1.now x c.opens.result _ k c.requires.ready c.split_at.ensures.back e
    (rw c.is_some-turned.ensures at c.opens.ensures) other refl k.calendar refl
    (λ i. record { from = c.first_day.ensures i; to = c.last_day.ensures i }) refl
    c.in_ok-push.ensures.items (ap stage.Year c.is_some-turned.ensures))
