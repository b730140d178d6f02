-- A state and a request have one answer.
use Rattle.std.proofs.Common.{◌≡◌, ◌∙◌, ◌⊎◌, inl, inr, refl, sym, ap, subst, ℕ, Bool, true}
use Rattle.std.proofs.Common.{false, List, [], ◌∷◌, ◌++◌, map, Some, Ok, arith}
use Rattle.std.proofs.lemmas.Bool.{true≢false}
use Rattle.std.proofs.lemmas.Option.{same_Some}
use Rattle.ftd_days.specs.declared.cents.Cents.{Cents}
use Rattle.ftd_rules.specs.declared.Form.{Form}
use Rattle.ftd_rules.specs.declared.Form.TheVariants.{F941, F943}
use Rattle.ftd_rules.specs.declared.Kind.{Kind}
use Rattle.ftd_rules.specs.declared.Kind.TheVariants as kind
use Rattle.ftd_rules.specs.declared.YearLine.{YearLine}
use Rattle.ftd_rules.specs.declared.Obligation.{Obligation}
use Rattle.ftd_rules.specs.declared.verdict.DueRow.{DueRow}
use Rattle.ftd_rules.specs.Lists.{Has, KeysRise}
use Rattle.ftd_rules.specs.Lookback.{lookback_quarters, IsFirstMissing, AreReportedOnce}
use Rattle.ftd_rules.specs.Years.{basis_of, YearsFrom, HasStatusOn}
use Rattle.ftd_rules.specs.Obligations.{AreObligations}
use Rattle.ftd_rules.proofs.Figures.{together_one, together_all, year_one, year_none}
use Rattle.ftd_rules.proofs.Stated.{lookback_together, rows_owed}
use Rattle.ftd_rules.proofs.Lines.{lines_one}
use Rattle.ftd_rules.proofs.Schedules.{line_one}
use Rattle.ftd_rules.proofs.Only.{obligations_one, members_one as same_members}
use Rattle.ftd_machine.specs.State.{Entry, Entries}
use Rattle.ftd_machine.specs.History.{start_of, form_of, is_carried, live_sums, figures}
use Rattle.ftd_machine.specs.History.{quarter_figures, year_figures, IsLookbackOn, HasLookback}
use Rattle.ftd_machine.specs.History.{IsMissingOn, AreCarried, year_of_line, AreLinesOf, AreOwed}
use Rattle.ftd_machine.specs.Checks.{Answer}
use Rattle.ftd_machine.specs.Posting.{AreThose, Spans, Differ, IsOnOtherSchedule}
use Rattle.ftd_machine.specs.Posting.{AreOnOtherSchedules, IsPosted}
use Rattle.ftd_machine.specs.Asking.{IsTurnBefore, HasNoTurnBefore, IsReason, IsStatus, IsDueRow}
use Rattle.ftd_machine.specs.Asking.{first_of_row, IsDueList, day_of_sum, IsScheduleB}
use Rattle.ftd_machine.specs.declared.replies.Reason.{Reason}
use Rattle.ftd_machine.specs.declared.replies.Reason.TheVariants as reason
use Rattle.ftd_machine.specs.Told.{days_answer, due_answer, status_answer}
use Rattle.ftd_machine.specs.declared.replies.Difference.{Difference}
use Rattle.ftd_machine.specs.declared.replies.Reply.TheVariants.{Posted}
use Rattle.ftd_machine.specs.declared.replies.Refusal.{Refusal}
use Rattle.ftd_machine.specs.declared.replies.Refusal.TheVariants.{QuarterMissing, YearMissing}
use Rattle.ftd_machine.proofs.Counting.{neither}

-- ---- a list by its members

pub members_one : {X : Type 0} (key : X → ℕ) (xs ys : List X) → KeysRise key xs → KeysRise key ys
    → ((x : X) → Has xs x → Has ys x) → ((x : X) → Has ys x → Has xs x) → xs ≡ ys
members_one key = same_members key (KeysRise key) (λ x xs h. h)

-- ---- the lookback period

-- nothing is reported twice, whatever is put right of it
pub record IsOnce (own : Entries) : Type 0 where
  pub quarters : (corrected : List (Entry Cents)) → AreReportedOnce (figures own.reported corrected)
  pub years : (corrected : List (Entry Cents))
      → AreReportedOnce (figures own.reported_years corrected)

pub lookback_one : (form : Form) (own : Entries) (year : ℕ) (c d : Cents) → IsOnce own
    → IsLookbackOn form own year c → IsLookbackOn form own year d → c.0 ≡ d.0
lookback_one F941 own year c d once h k =
    let reported = quarter_figures own in
    let start = start_of own.account in
    together_one reported start (lookback_quarters year) c.0 d.0
    (once.quarters own.corrected)
    (lookback_together reported start year c.0 h) (lookback_together reported start year d.0 k)
lookback_one F943 own year c d once h k = year_one (year_figures own)
    (start_of own.account) year c d (once.years own.corrected_years) h k

pub lacks_none : (form : Form) (own : Entries) (year : ℕ) (refusal : Refusal) (c : Cents)
    → IsMissingOn form own year refusal → IsLookbackOn form own year c → ⊥
lacks_none F941 own year refusal c missing h =
    together_all (quarter_figures own) (start_of own.account) (lookback_quarters year) c.0
    missing.0 missing.1.0 missing.1.1
    (lookback_together (quarter_figures own) (start_of own.account) year c.0 h)
lacks_none F943 own year refusal c missing h = year_none (year_figures own)
    (start_of own.account) year missing.0 c missing.1 h

first_one : (reported : List (ℕ × Cents)) (start year q r : ℕ)
    → IsFirstMissing reported start year q → IsFirstMissing reported start year r → q ≡ r
first_one reported start year q r h k = neither q r (λ less. k.2 q h.0 less h.1)
    (λ less. h.2 r k.0 less k.1)

pub lacks_one : (form : Form) (own : Entries) (year : ℕ) (refusal other : Refusal)
    → IsMissingOn form own year refusal → IsMissingOn form own year other → refusal ≡ other
lacks_one F941 own year refusal other h k =
    h.2 ∙ ap QuarterMissing (first_one (quarter_figures own) (start_of own.account) year h.0 k.0
    h.1 k.1) ∙ sym k.2
lacks_one F943 own year refusal other h k = h.2 ∙ ap YearMissing (h.1.0 ∙ sym k.1.0) ∙ sym k.2

-- ---- lines and obligations

pub given_one : (own : Entries) (carried : Bool) (xs ys : List YearLine) → IsOnce own
    → map year_of_line xs ≡ map year_of_line ys
    → ((line : YearLine) → Has xs line → HasLookback own line.year line.lookback)
    → ((line : YearLine) → Has ys line → HasLookback own line.year line.lookback)
    → AreCarried carried xs → AreCarried carried ys → map basis_of xs ≡ map basis_of ys
given_one own carried [] [] once e f g c d = refl
given_one own carried [] (y ∷ ys) once e f g c d = absurd cc
given_one own carried (x ∷ xs) [] once e f g c d = absurd cc
given_one own carried (x ∷ xs) (y ∷ ys) once e f g c d =
    let year : x.year ≡ y.year = cc in
    let years : map year_of_line xs ≡ map year_of_line ys = cc in
    let there : HasLookback own x.year y.lookback = subst (λ n. HasLookback own n y.lookback)
    (sym year) (g y (inl refl)) in
    let amount : x.lookback.0 ≡ y.lookback.0 = lookback_one (form_of own.account) own x.year
    x.lookback y.lookback once (f x (inl refl)) there in
    let flag : x.carried ≡ y.carried = c.0 ∙ sym d.0 in
    let rest : map basis_of xs ≡ map basis_of ys =
    given_one own false xs ys once years (λ line has. f line (inr has))
    (λ line has. g line (inr has)) c.1 d.1 in
    rw (year, amount, flag, rest) refl

pub lines_of_one : (own : Entries) (xs ys : List YearLine) → IsOnce own → AreLinesOf own xs
    → AreLinesOf own ys → xs ≡ ys
lines_of_one own xs ys once g h =
    lines_one (live_sums own) xs ys g.schedules h.schedules
    (given_one own (is_carried own.account) xs ys once (g.years ∙ sym h.years) g.lookbacks
    h.lookbacks g.carried h.carried)

pub owed_one : (holidays : List ℕ) (own : Entries) (rows others : List Obligation) → IsOnce own
    → AreOwed holidays own rows → AreOwed holidays own others → rows ≡ others
owed_one holidays own rows others once g h =
    let form = form_of own.account in
    let sums = live_sums own in
    let same : g.0 ≡ h.0 = lines_of_one own g.0 h.0 once g.1 h.1 in
    let other : AreObligations form g.0 sums holidays others =
    subst (λ lines. AreObligations form lines sums holidays others) (sym same) h.2 in
    obligations_one form g.0 sums holidays rows others (rows_owed form g.0 sums holidays rows g.2)
    (rows_owed form g.0 sums holidays others other)

-- ---- what is posted

those_one : {X : Type 0} (key : X → ℕ) (Holds : X → Type 0) (items xs ys : List X)
    → AreThose key Holds items xs → AreThose key Holds items ys → xs ≡ ys
those_one key Holds items xs ys g h =
    members_one key xs ys g.in_order h.in_order (λ x k. (h.all x).1 ((g.all x).0 k))
    (λ x k. (g.all x).1 ((h.all x).0 k))

spans_one : (rows : List Obligation) (from to from' to' : ℕ) → Spans rows from to
    → Spans rows from' to' → (from ≡ from') × (to ≡ to')
spans_one rows from to from' to' g h =
    let a = g.within h.first h.has_first in
    let b = g.within h.last h.has_last in
    let c = h.within g.first g.has_first in
    let d = h.within g.last g.has_last in
    let e = g.from_is in
    let f = g.to_is in
    let i = h.from_is in
    let j = h.to_is in
    (omega arith, omega arith)

spans_none : (rows : List Obligation) (from to : ℕ) → rows ≡ [] → Spans rows from to → ⊥
spans_none rows from to e g = subst (λ xs. Has xs g.first) e g.has_first

days_one : (rows : List Obligation) (payday from to from' to' : ℕ)
    → Spans rows from to ⊎ ((rows ≡ []) × (from ≡ payday) × (to ≡ payday))
    → Spans rows from' to' ⊎ ((rows ≡ []) × (from' ≡ payday) × (to' ≡ payday)) → (from ≡ from')
    × (to ≡ to')
days_one rows payday from to from' to' (inl g) (inl h) = spans_one rows from to from' to' g h
days_one rows payday from to from' to' (inl g) (inr h) = absurd (spans_none rows from to h.0 g)
days_one rows payday from to from' to' (inr g) (inl h) = absurd (spans_none rows from' to' g.0 h)
days_one rows payday from to from' to' (inr g) (inr h) = (g.1 ∙ sym h.1, g.2 ∙ sym h.2)

difference_as : (d e : Difference) → d.from ≡ e.from → d.to ≡ e.to → d.removed ≡ e.removed
    → d.added ≡ e.added → d.years ≡ e.years → d ≡ e
difference_as d e from to removed added years = rw (from, to, removed, added, years) refl

differ_one : (before after : List Obligation) (payday : ℕ) (d e : Difference)
    → Differ before after payday d → Differ before after payday e → d.years ≡ e.years → d ≡ e
differ_one before after payday d e g h years =
    let gone = those_one (λ (o : Obligation). o.first) (λ o. Has after o → ⊥) before d.removed
    e.removed g.are_removed h.are_removed in
    let come = those_one (λ (o : Obligation). o.first) (λ o. Has before o → ⊥) after d.added e.added
    g.are_added h.are_added in
    let both : e.removed ++ e.added ≡ d.removed ++ d.added = rw (gone, come) refl in
    let days = days_one (d.removed ++ d.added) payday d.from d.to e.from e.to g.days
    (subst (λ rows. Spans rows e.from e.to
    ⊎ ((rows ≡ []) × (e.from ≡ payday) × (e.to ≡ payday))) both h.days) in
    difference_as d e days.0 days.1 gone come years

pub posted_one : (holidays : List ℕ) (own after : Entries) (payday : ℕ) (a b : Answer) → IsOnce own
    → IsOnce after
    → IsPosted holidays own after payday a → IsPosted holidays own after payday b → a ≡ b
posted_one holidays own after payday a b once once_after g h =
    let rows = owed_one holidays own g.rows h.rows once g.owed h.owed in
    let rows_after = owed_one holidays after g.rows_after h.rows_after once_after g.owed_after
    h.owed_after in
    let there : Differ g.rows g.rows_after payday h.difference =
    subst (λ xs. Differ xs g.rows_after payday h.difference) (sym rows)
    (subst (λ xs. Differ h.rows xs payday h.difference) (sym rows_after) h.differ) in
    let lines = lines_of_one own h.owed.0 g.owed.0 once h.owed.1 g.owed.1 in
    let lines_after = lines_of_one after h.owed_after.0 g.owed_after.0 once_after h.owed_after.1
    g.owed_after.1 in
    let others : AreOnOtherSchedules g.owed.0 g.owed_after.0 h.difference.years =
    subst (λ ls. AreOnOtherSchedules ls g.owed_after.0 h.difference.years) lines
    (subst (λ ls. AreOnOtherSchedules h.owed.0 ls h.difference.years) lines_after h.years) in
    let years = those_one year_of_line (IsOnOtherSchedule g.owed.0) g.owed_after.0
    g.difference.years h.difference.years g.years others in
    g.told ∙ ap (λ d. Ok (Posted d)) (differ_one g.rows g.rows_after payday g.difference h.difference
    g.differ there years) ∙ sym h.told

-- ---- what is asked

pub due_list_one : (holidays : List ℕ) (own : Entries) (name : List ℕ) (quarter as_of : ℕ)
    (a b : Answer) → IsOnce own
    → IsDueList holidays own name quarter as_of a → IsDueList holidays own name quarter as_of b
    → a ≡ b
due_list_one holidays own name quarter as_of a b once g h =
    let rows : g.rows ≡ h.rows = owed_one holidays own g.rows h.rows once g.owed h.owed in
    let to : (row : DueRow) → IsDueRow holidays own g.rows quarter as_of row
    → IsDueRow holidays own h.rows quarter as_of row =
    λ row is. subst (λ xs. IsDueRow holidays own xs quarter as_of row) rows is in
    let back : (row : DueRow) → IsDueRow holidays own h.rows quarter as_of row
    → IsDueRow holidays own g.rows quarter as_of row =
    λ row is. subst (λ xs. IsDueRow holidays own xs quarter as_of row) (sym rows) is in
    let listed : g.listed ≡ h.listed = members_one first_of_row g.listed h.listed g.by_first_day
    h.by_first_day
    (λ row k. (h.all row).1 (to row ((g.all row).0 k)))
    (λ row k. (g.all row).1 (back row ((h.all row).0 k))) in
    g.told ∙ ap (due_answer name quarter as_of) listed ∙ sym h.told

pub schedule_one : (own : Entries) (name : List ℕ) (quarter : ℕ) (a b : Answer)
    → IsScheduleB own name quarter a → IsScheduleB own name quarter b → a ≡ b
schedule_one own name quarter a b g h =
    let listed : g.listed ≡ h.listed = members_one day_of_sum g.listed h.listed g.by_day h.by_day
    (λ x k. (h.all x).1 ((g.all x).0 k)) (λ x k. (g.all x).1 ((h.all x).0 k)) in
    g.told ∙ ap (days_answer name quarter) listed ∙ sym h.told

before_one : (year : ℕ) (lines : List YearLine) (line : YearLine) (turn other : ℕ)
    → YearsFrom year lines
    → IsTurnBefore lines line turn → IsTurnBefore lines line other → turn ≡ other
before_one year lines line turn other from g h =
    let years : g.0.year ≡ h.0.year = let a = g.2 in let b = h.2 in omega arith in
    let same : g.0 ≡ h.0 = line_one year lines g.0 h.0 from g.1 h.1 years in
    same_Some turn other (sym g.3 ∙ ap (λ (l : YearLine). l.turn) same ∙ h.3)

turned_one : (year : ℕ) (lines : List YearLine) (line : YearLine) (turn other : ℕ)
    → YearsFrom year lines
    → IsTurnBefore lines line turn ⊎ (HasNoTurnBefore lines line × (line.carried ≡ false)
    × (line.turn ≡ Some turn))
    → IsTurnBefore lines line other ⊎ (HasNoTurnBefore lines line × (line.carried ≡ false)
    × (line.turn ≡ Some other)) → turn ≡ other
turned_one year lines line turn other from (inl g) (inl h) =
    before_one year lines line turn other from g h
turned_one year lines line turn other from (inl g) (inr h) = absurd (h.0 turn g)
turned_one year lines line turn other from (inr g) (inl h) = absurd (g.0 other h)
turned_one year lines line turn other from (inr g) (inr h) = same_Some turn other (sym g.2 ∙ h.2)

not_carried : (lines : List YearLine) (line : YearLine) (turn : ℕ) → HasNoTurnBefore lines line
    → line.carried ≡ true
    → IsTurnBefore lines line turn ⊎ (HasNoTurnBefore lines line × (line.carried ≡ false)
    × (line.turn ≡ Some turn)) → ⊥
not_carried lines line turn none carried (inl g) = none turn g
not_carried lines line turn none carried (inr g) = true≢false (sym carried ∙ g.1)

reason_one : (year : ℕ) (lines : List YearLine) (line : YearLine) (status : Kind)
    (why other : Reason) → YearsFrom year lines
    → IsReason lines line status why → IsReason lines line status other → why ≡ other
reason_one year lines line status reason.Lookback reason.Lookback from g h = refl
reason_one year lines line status reason.Lookback (reason.Turned other) from g h = absurd (h.0 g)
reason_one year lines line status reason.Lookback reason.Carried from g h = absurd (h.0 g)
reason_one year lines line status (reason.Turned turn) reason.Lookback from g h = absurd (g.0 h)
reason_one year lines line status (reason.Turned turn) (reason.Turned other) from g h =
    ap reason.Turned (turned_one year lines line turn other from g.1 h.1)
reason_one year lines line status (reason.Turned turn) reason.Carried from g h =
    absurd (not_carried lines line turn h.1 h.2 g.1)
reason_one year lines line status reason.Carried reason.Lookback from g h = absurd (g.0 h)
reason_one year lines line status reason.Carried (reason.Turned other) from g h =
    absurd (not_carried lines line other g.1 g.2 h.1)
reason_one year lines line status reason.Carried reason.Carried from g h = refl

kind_one : (line : YearLine) (day : ℕ) (status other : Kind) → HasStatusOn line day status
    → HasStatusOn line day other → status ≡ other
kind_one line day kind.Monthly kind.Monthly g h = refl
kind_one line day kind.Monthly kind.Semiweekly g h = absurd (g h)
kind_one line day kind.Semiweekly kind.Monthly g h = absurd (h g)
kind_one line day kind.Semiweekly kind.Semiweekly g h = refl

pub status_one : (own : Entries) (day : ℕ) (a b : Answer) → IsOnce own → IsStatus own day a
    → IsStatus own day b → a ≡ b
status_one own day a b once g h =
    let lines : h.lines ≡ g.lines = lines_of_one own h.lines g.lines once h.are_lines g.are_lines in
    let from = g.are_lines.schedules.years in
    let open_year : Has g.lines h.line = subst (λ xs. Has xs h.line) lines h.open_year in
    let line : h.line ≡ g.line = line_one from.0 g.lines h.line g.line from.2 open_year g.open_year
    (h.of_day ∙ sym g.of_day) in
    let status : HasStatusOn g.line day h.status = subst (λ l. HasStatusOn l day h.status) line
    h.has_status in
    let same : h.status ≡ g.status = kind_one g.line day h.status g.status status g.has_status in
    let why : IsReason g.lines g.line g.status h.why =
    subst (λ k. IsReason g.lines g.line k h.why) same
    (subst (λ l. IsReason g.lines l h.status h.why) line
    (subst (λ xs. IsReason xs h.line h.status h.why) lines h.is_why)) in
    let reasons : h.why ≡ g.why = reason_one from.0 g.lines g.line g.status h.why g.why from.2 why
    g.is_why in
    let told : status_answer day g.status g.why ≡ status_answer day h.status h.why =
    rw (same, reasons) refl in
    g.told ∙ told ∙ sym h.told
