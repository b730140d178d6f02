-- Why an obligation is so, told as JSON, is read back.
use Rattle.std.proofs.Common.{◌≡◌, ◌∙◌, refl, sym, ap, ℕ, ◌≤◌, List, true, [], ◌∷◌, ◌++◌, map}
use Rattle.std.proofs.Common.{Option, None, Some, arith}
use Rattle.std.specs.Prelude.{IfSome, codes, option_map}
use Rattle.json.specs.Print.{escape_byte}
use Rattle.json.specs.Tree.{HasNumbers, depth}
use Rattle.serde_json.specs.Data.{Data, Items, array, null, object}
use Rattle.serde_json.specs.Read.{of_json}
use Rattle.serde_json.specs.Written.{compact_text, outline}
use Rattle.ftd_days.specs.Calendar.{last_day}
use Rattle.ftd_days.specs.Text.{cents_text, day_text}
use Rattle.ftd_rules.specs.Accounts.{is_account_name}
use Rattle.ftd_rules.specs.Lists.{Has}
use Rattle.ftd_rules.specs.Text.{rule_text}
use Rattle.ftd_rules.specs.declared.Kind.{Kind}
use Rattle.ftd_rules.specs.declared.Obligation.{Obligation}
use Rattle.ftd_machine.specs.declared.explained.CountedDay.{CountedDay}
use Rattle.ftd_machine.specs.declared.explained.DayKind.{DayKind}
use Rattle.ftd_machine.specs.declared.explained.DayKind.TheVariants as day_kind
use Rattle.ftd_machine.specs.declared.explained.Explanation.{Explanation}
use Rattle.ftd_machine.specs.declared.explained.RunningSum.{RunningSum}
use Rattle.ftd_machine.specs.declared.kept.KeptPayment.{KeptPayment}
use Rattle.ftd_machine.specs.declared.replies.Reason.{Reason}
use Rattle.ftd_machine.specs.declared.replies.Reason.TheVariants as reason
use Rattle.ftd_answers.specs.ExplanationForms.{asked_fields, counted_fields, explained_members}
use Rattle.ftd_answers.specs.ExplanationForms.{explanation_json, explanation_members}
use Rattle.ftd_answers.specs.ExplanationForms.{obligation_fields, payday_fields, status_fields}
use Rattle.ftd_answers.specs.Explanations.{day_kind_name, reason_name, turn_of}
use Rattle.ftd_answers.specs.Fields.{members_of, object_of, object_told}
use Rattle.ftd_answers.specs.KeptForms.{payment_fields}
use Rattle.ftd_answers.specs.Listings.{kind_name}
use Rattle.ftd_read_back.specs.Explained.{counted_object, counted_read, day_kind_read}
use Rattle.ftd_read_back.specs.Explained.{explained_object, explained_read, object_read}
use Rattle.ftd_read_back.specs.Explained.{obligation_object, obligation_read, payday_object}
use Rattle.ftd_read_back.specs.Explained.{payday_read, schedule_object, schedule_read}
use Rattle.ftd_read_back.specs.Objects.{payment_object, payment_object_read}
use Rattle.ftd_read_back.specs.Rows.{IsExplanationInRange, IsPaydayInRange, IsReasonInRange}
use Rattle.ftd_read_back.proofs.Listed.{AreNames, IsObject, Pairs, array_flat, array_found}
use Rattle.ftd_read_back.proofs.Listed.{array_told, member_text, members_from, object_text}
use Rattle.ftd_read_back.proofs.Listed.{rows_value, sorted, text_value, value_of}
use Rattle.ftd_read_back.proofs.Members.{cents_kept, day_as_read, day_flat, day_kept, day_told}
use Rattle.ftd_read_back.proofs.Members.{day_value}
use Rattle.ftd_read_back.proofs.Objects.{payment_pairs, payment_row}
use Rattle.ftd_read_back.proofs.Spelled.{cents_reread, day_reread, kind_reread, rule_reread}
use Rattle.ftd_read_back.proofs.Texts.{line_read}
use Rattle.ftd_read_back.proofs.Values.{plain_day_kind, plain_kind, plain_name, plain_reason}
use Rattle.ftd_read_back.proofs.Values.{plain_rule, unescaped}

-- ---- paydays

abbrev payday_pairs : RunningSum → Pairs
payday_pairs x =
    text_value (codes "day") (day_text x.day) ∷ text_value (codes "amount") (cents_text x.cents.0)
    ∷ text_value (codes "total") (cents_text x.total.0) ∷ []

payday_names : (x : RunningSum) → AreNames (payday_pairs x)
unfolding escape_byte
payday_names x = (refl, (refl, (refl, tt)))

payday_row : (x : RunningSum) → IsPaydayInRange x
    → IsObject payday_fields payday_pairs payday_read payday_object x
payday_row x is = (
  rw (day_kept x.day, cents_kept x.cents.0, cents_kept x.total.0) refl,
  payday_names x,
  (omega arith, (tt, (tt, (tt, tt)))),
  (
    sorted (object (members_from (payday_pairs x))),
    refl,
    rw (
      day_reread x.day is.day,
      cents_reread x.cents.0 is.amount,
      cents_reread x.total.0 is.total,
    ) refl,
  ),
)

-- ---- days that are counted

day_kind_reread : (own : DayKind) → day_kind_read (day_kind_name own) ≡ Some own
day_kind_reread day_kind.Business = refl
day_kind_reread day_kind.Saturday = refl
day_kind_reread day_kind.Sunday = refl
day_kind_reread day_kind.Holiday = refl

abbrev counted_pairs : CountedDay → Pairs
counted_pairs x =
    text_value (codes "day") (day_text x.day) ∷ text_value (codes "is") (day_kind_name x.kind) ∷ []

counted_names : (x : CountedDay) → AreNames (counted_pairs x)
unfolding escape_byte
counted_names x = (refl, (refl, tt))

counted_row : (x : CountedDay) → x.day ≤ last_day
    → IsObject counted_fields counted_pairs counted_read counted_object x
counted_row x early = (
  rw (day_kept x.day, unescaped (day_kind_name x.kind) (plain_day_kind x.kind)) refl,
  counted_names x,
  (omega arith, (tt, (tt, tt))),
  (
    sorted (object (members_from (counted_pairs x))),
    refl,
    rw (day_reread x.day early, day_kind_reread x.kind) refl,
  ),
)

-- ---- the obligation, and the deposit schedule of its first day

abbrev obligation_pairs : Obligation → Pairs
obligation_pairs o =
    text_value (codes "first") (day_text o.first) ∷ text_value (codes "last") (day_text o.last)
    ∷ text_value (codes "rule") (rule_text o.rule)
    ∷ text_value (codes "amount") (cents_text o.cents.0)
    ∷ text_value (codes "due") (day_text o.due) ∷ []

abbrev obligation_value : Obligation → Data
obligation_value o = object (members_from (obligation_pairs o))

obligation_names : (o : Obligation) → AreNames (obligation_pairs o)
unfolding escape_byte
obligation_names o = (refl, (refl, (refl, (refl, (refl, tt)))))

obligation_text : (o : Obligation)
    → compact_text (obligation_value o) ≡ object_told (obligation_fields o)
unfolding object_told
obligation_text o =
    let members : map member_text (obligation_pairs o) ≡ members_of (obligation_fields o) = rw (
      day_kept o.first,
      day_kept o.last,
      unescaped (rule_text o.rule) (plain_rule o.rule),
      cents_kept o.cents.0,
      day_kept o.due,
    ) refl in
    object_text (obligation_pairs o) (obligation_names o) ∙ ap object_of members

obligation_found : (e : Explanation) → IsExplanationInRange e
    → obligation_read (sorted (obligation_value e.obligation)) ≡ obligation_object e.obligation
obligation_found e is = rw (
  day_reread e.obligation.first is.first,
  day_reread e.obligation.last is.last,
  rule_reread e.obligation.rule,
  cents_reread e.obligation.cents.0 is.amount,
  day_reread e.obligation.due is.due,
) refl

abbrev status_pairs : ℕ → Kind → Reason → Pairs
status_pairs day kind why =
    text_value (codes "day") (day_text day) ∷ text_value (codes "kind") (kind_name kind)
    ∷ text_value (codes "reason") (reason_name why) ∷ (codes "turn", day_value (turn_of why)) ∷ []

abbrev status_value : ℕ → Kind → Reason → Data
status_value day kind why = object (members_from (status_pairs day kind why))

status_names : (day : ℕ) (kind : Kind) (why : Reason) → AreNames (status_pairs day kind why)
unfolding escape_byte
status_names day kind why = (refl, (refl, (refl, (refl, tt))))

status_text : (day : ℕ) (kind : Kind) (why : Reason)
    → compact_text (status_value day kind why) ≡ object_told (status_fields day kind why)
unfolding object_told
status_text day kind why =
    let members : map member_text (status_pairs day kind why)
    ≡ members_of (status_fields day kind why) = rw (
      day_kept day,
      unescaped (kind_name kind) (plain_kind kind),
      unescaped (reason_name why) (plain_reason why),
      day_told (turn_of why),
    ) refl in
    object_text (status_pairs day kind why) (status_names day kind why) ∙ ap object_of members

status_as_read : (day : ℕ) (kind : Kind) (why : Reason)
    → of_json (outline (status_value day kind why)) ≡ Some (status_value day kind why)
status_as_read day kind why = rw (day_as_read (turn_of why)) refl

status_found : (day : ℕ) (kind : Kind) (why : Reason) → day ≤ last_day → IsReasonInRange why
    → schedule_read (status_value day kind why) ≡ schedule_object day kind why
status_found day kind reason.Lookback early low =
    rw (day_reread day early, kind_reread kind) refl
status_found day kind reason.Carried early low =
    rw (day_reread day early, kind_reread kind) refl
status_found day kind (reason.Turned turn) early low =
    rw (day_reread day early, kind_reread kind, day_reread turn low) refl

-- ---- the whole

module _ (account : List ℕ) (name : is_account_name account ≡ true) (day : ℕ)
    (early : day ≤ last_day) where
  -- where there is no obligation

  abbrev none_pairs : Pairs
  none_pairs =
      text_value (codes "account") account ∷ text_value (codes "day") (day_text day)
      ∷ (codes "obligation", null) ∷ []

  none_names : AreNames none_pairs
  unfolding escape_byte
  none_names = (refl, (refl, (refl, tt)))

  none_reread : object_read explained_read (explanation_json account day None)
      ≡ Some (explained_object account day None)
  unfolding explanation_json
  none_reread =
      let members : map member_text none_pairs
      ≡ members_of (asked_fields account day) ++ explained_members account None =
      rw (unescaped account (plain_name account name), day_kept day) refl in
      ap (λ (t : List ℕ). object_read explained_read (t ++ 10 ∷ []))
      (sym (object_text none_pairs none_names ∙ ap object_of members))
      ∙ rw (
        line_read (object (members_from none_pairs)) (tt, (tt, (tt, tt))) (omega arith),
        day_reread day early,
      ) refl

  -- where there is one

  module _ (e : Explanation) (is : IsExplanationInRange e) where
    abbrev paydays_value : Items
    paydays_value =
        rows_value (value_of payday_fields payday_pairs payday_read payday_object) e.paydays

    abbrev days_value : Items
    days_value =
        rows_value (value_of counted_fields counted_pairs counted_read counted_object) e.days

    abbrev payments_value : Items
    payments_value =
        rows_value (value_of (payment_fields account) (payment_pairs account name)
        payment_object_read (payment_object account)) e.payments

    abbrev some_pairs : Pairs
    some_pairs =
        text_value (codes "account") account ∷ text_value (codes "day") (day_text day)
        ∷ (codes "obligation", obligation_value e.obligation)
        ∷ (codes "status", status_value e.obligation.first e.kind e.reason)
        ∷ (codes "paydays", array paydays_value) ∷ (codes "days", array days_value)
        ∷ text_value (codes "return_due") (day_text e.return_due)
        ∷ (codes "payments", array payments_value) ∷ []

    some_names : AreNames some_pairs
    unfolding escape_byte
    some_names = (refl, (refl, (refl, (refl, (refl, (refl, (refl, (refl, tt))))))))

    paydays_are : (x : RunningSum) → Has e.paydays x
        → IsObject payday_fields payday_pairs payday_read payday_object x
    paydays_are x has = payday_row x (is.paydays x has)

    days_are : (x : CountedDay) → Has e.days x
        → IsObject counted_fields counted_pairs counted_read counted_object x
    days_are x has = counted_row x (is.days x has)

    payments_are : (x : KeptPayment) → Has e.payments x
        → IsObject (payment_fields account) (payment_pairs account name) payment_object_read
        (payment_object account) x
    payments_are x has = payment_row account name x (is.payments x has)

    some_members : map member_text some_pairs
        ≡ members_of (asked_fields account day) ++ explanation_members account e
    some_members = rw (
      unescaped account (plain_name account name),
      day_kept day,
      obligation_text e.obligation,
      status_text e.obligation.first e.kind e.reason,
      array_told payday_fields payday_pairs payday_read payday_object e.paydays paydays_are,
      array_told counted_fields counted_pairs counted_read counted_object e.days days_are,
      day_kept e.return_due,
      array_told (payment_fields account) (payment_pairs account name) payment_object_read
          (payment_object account) e.payments payments_are,
    ) refl

    abbrev some_value : Data
    some_value = object (members_from some_pairs)

    some_flat : (depth (outline some_value) ≤ 127) × HasNumbers (outline some_value)
    some_flat =
        let paydays = array_flat payday_fields payday_pairs payday_read payday_object e.paydays
        paydays_are in
        let days = array_flat counted_fields counted_pairs counted_read counted_object e.days
        days_are in
        let payments = array_flat (payment_fields account) (payment_pairs account name)
        payment_object_read (payment_object account) e.payments payments_are in
        let turn = day_flat (turn_of e.reason) in
        let a = paydays.0 in let b = days.0 in let c = payments.0 in let d = turn.0 in (
          omega arith,
          (
            tt,
            (
              tt,
              (
                (tt, (tt, (tt, (tt, (tt, tt))))),
                (
                  (tt, (tt, (tt, (turn.1, tt)))),
                  (paydays.1, (days.1, (tt, (payments.1, tt)))),
                ),
              ),
            ),
          ),
        )

    -- as it is read, with these arrays
    abbrev some_as : Items → Items → Items → Data
    some_as paydays days payments =
        object (members_from (text_value (codes "account") account
        ∷ text_value (codes "day") (day_text day) ∷ (codes "days", array days)
        ∷ (codes "obligation", sorted (obligation_value e.obligation))
        ∷ (codes "paydays", array paydays) ∷ (codes "payments", array payments)
        ∷ text_value (codes "return_due") (day_text e.return_due)
        ∷ (codes "status", status_value e.obligation.first e.kind e.reason) ∷ []))

    some_reread : object_read explained_read (explanation_json account day (Some e))
        ≡ Some (explained_object account day (Some e))
    unfolding explanation_json
    some_reread =
        let paydays = array_found payday_fields payday_pairs payday_read payday_object e.paydays
        paydays_are in
        let days = array_found counted_fields counted_pairs counted_read counted_object e.days
        days_are in
        let payments = array_found (payment_fields account) (payment_pairs account name)
        payment_object_read (payment_object account) e.payments payments_are in
        let sorts : of_json (outline some_value) ≡ Some (some_as paydays.0 days.0 payments.0) =
        rw (
          status_as_read e.obligation.first e.kind e.reason,
          paydays.1,
          days.1,
          payments.1,
        ) refl in
        let says : explained_read (some_as paydays.0 days.0 payments.0)
        ≡ explained_object account day (Some e) = rw (
          day_reread day early,
          obligation_found e is,
          status_found e.obligation.first e.kind e.reason is.first is.reason,
          paydays.2,
          days.2,
          day_reread e.return_due is.return_due,
          payments.2,
        ) refl in
        ap (λ (t : List ℕ). object_read explained_read (t ++ 10 ∷ []))
        (sym (object_text some_pairs some_names ∙ ap object_of some_members))
        ∙ ap (λ (o : Option Data). option_map explained_read o)
        (line_read some_value some_flat.1 some_flat.0 ∙ sorts)
        ∙ ap Some says

  explained_reread : (found : Option Explanation) → IfSome found IsExplanationInRange
      → object_read explained_read (explanation_json account day found)
      ≡ Some (explained_object account day found)
  explained_reread None is = none_reread
  explained_reread (Some e) is = some_reread e is

pub explanation_reread : (account : List ℕ) (day : ℕ) (found : Option Explanation)
    → is_account_name account ≡ true → day ≤ last_day → IfSome found IsExplanationInRange
    → object_read explained_read (explanation_json account day found)
    ≡ Some (explained_object account day found)
explanation_reread account day found name early is =
    explained_reread account name day early found is
