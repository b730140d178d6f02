-- What is settled once the sums of a whole year are fed.
use Rattle.ftd_rules.specs.declared.Form.{Form}
use Rattle.std.proofs.Common.{◌≡◌, ℕ, ◌+◌, ◌<◌, ◌≤◌, List, ◌++◌, Bool, sym, ap, ◌∙◌, subst, arith, rules}
use Rattle.std.specs.Prelude.{⊤, IsTrue, IfOk, Result, Ok, Err}
use Rattle.std.specs.List.{All}
use Rattle.ftd_days.specs.Calendar.{year_start}
use Rattle.ftd_days.specs.Business.{holidays_end}
use Rattle.ftd_days.specs.Holidays.{holidays_of}
use Rattle.ftd_rules.specs.declared.DaySum.{DaySum}
use Rattle.ftd_rules.specs.declared.YearLine.{YearLine}
use Rattle.ftd_rules.specs.declared.Obligation.{Obligation}
use Rattle.ftd_rules.specs.Liability.{liability}
use Rattle.ftd_rules.specs.Lists.{Has}
use Rattle.ftd_rules.specs.Years.{basis_of, year_last, TurnedBefore}
use Rattle.ftd_rules.specs.Private.Years.{semiweekly_from, IsScheduled}
use Rattle.ftd_rules.specs.Private.Walk.{due_date, AreOwed, periods}
use Rattle.ftd_rules.proofs.Schedules.{year_facts, year_divides, schedule_same, schedule_iff}
use Rattle.ftd_rules.proofs.Lines.{line_equal}
use Rattle.ftd_rules.proofs.Covering.{line_is}
use Rattle.ftd_buckets.specs.declared.state.Next.{Next}
use Rattle.ftd_buckets.specs.declared.state.Next.TheVariants.{Done, Need}
use Rattle.ftd_buckets.specs.declared.state.Progress.{Progress}
use Rattle.ftd_buckets.specs.declared.state.Stage.TheVariants as stage
use Rattle.ftd_buckets.specs.Histories.{History}
use Rattle.ftd_buckets.specs.Patches.{AreRows, AreSumsOf}
use Rattle.ftd_buckets.specs.Ready.{repairing}
use Rattle.ftd_buckets.specs.Standing.{Stands, StandsIn}
use Rattle.ftd_buckets.specs.Private.Answered.{Holds, IsSettledYear}
use Rattle.ftd_buckets.proofs.Chain.{basis_same}
use Rattle.ftd_buckets.proofs.Places.{rows_are}
use Rattle.ftd_buckets.proofs.Years.{rows_append}

pub if_ok2 : {A E : Type 0} (P Q R : A → Type 0) (r : Result A E) → ((x : A) → P x → Q x → R x)
    → IfOk r P → IfOk r Q → IfOk r R
if_ok2 P Q R (Ok x) f p q = f x p q
if_ok2 P Q R (Err e) f p q = tt

pub if_ok_true : {A E : Type 0} (r : Result A E) → IfOk r (λ x. ⊤)
if_ok_true (Ok x) = tt
if_ok_true (Err e) = tt

pub holds_more : (form : Form) (m n : ℕ) (next : Next) → m ≤ n → Holds form m next
    → Holds form n next
holds_more form m n (Done patch) l h = tt
holds_more form m n (Need repair window) l h = (let h1 = h.1 in (h.0, omega arith, h.2))

-- a later year, from its own sums
pub year_settled : (form : Form) → (day : ℕ) (holidays : List ℕ) (before after : History)
    (s t : Progress) (turned : Bool) (sums : List DaySum) (new : YearLine) (added : List Obligation)
    → All (λ d. d < holidays_end) (holidays_of s.holidays.now)
    → (st : Stands form day holidays before after (repairing s (stage.Year turned)))
    → AreSumsOf after s.asked sums
    → basis_of new ≡ basis_of st.old → IsScheduled (IsTrue turned) (liability sums) new
    → AreOwed (due_date (holidays_of s.holidays.now)) (liability sums)
    (periods form (semiweekly_from new)) (year_start new.year) (year_last new.year + 1) added
    → t.lines.now ≡ s.lines.now → holidays_of t.holidays.now ≡ holidays_of s.holidays.now
    → t.from ≡ s.from → t.years.items ≡ s.years.items → t.rows.items ≡ s.rows.items ++ added
    → IsSettledYear form day holidays before after t new
year_settled form day holidays before after s t turned sums new added known0 st agree0 e schedule
    owed0 lines calendar from years rows =
    let c = st.common.change in
    let old = st.old in
    let M = liability after.sums in
    let known : All (λ d. d < holidays_end) holidays =
    subst (λ (z : List ℕ). All (λ d. d < holidays_end) z) st.calendar known0 in
    let year : new.year ≡ old.year = ap (λ (z : ℕ × ℕ × Bool). z.0) e in
    let y = line_is before.lines before.sums old c.is_before st.common.year.is_old in
    let f = year_facts old.year y.0 y.1 in
    let f1 = f.1 in let f2 = f.2 in
    let w_from = st.at.from in
    let w_to = st.at.to in
    let agree : (u v : ℕ) → year_start old.year ≤ u → v ≤ year_last old.year
    → M u v ≡ liability sums u v = λ u v a b. agree0 u v (omega arith) (omega arith) in
    let P : ℕ → Type 0 = λ z. (u v : ℕ) → year_start z ≤ u → v ≤ year_last z
    → M u v ≡ liability sums u v in
    let agree_new = subst P (sym year) agree in
    let T : Type 0 = TurnedBefore after.lines old.year in
    let moved = schedule_same (IsTrue turned) (liability sums) M new (rw year (omega arith))
    agree_new schedule in
    let mine = schedule_iff (IsTrue turned) T M new st.at.turned_if st.at.if_turned moved in
    let Q : ℕ → Type 0 = λ z. IsScheduled (TurnedBefore after.lines z) M st.new in
    let theirs : IsScheduled T M st.new = subst Q (sym st.common.year.same)
    (c.is_after.schedules st.new st.common.year.is_new) in
    let both : basis_of new ≡ basis_of st.new = e
    ∙ basis_same day before after c old st.new st.common.year.is_old st.common.year.is_new
    st.common.year.same in
    let one : st.new ≡ new = sym (line_equal T M new st.new both mine theirs) in
    let has : Has after.lines new = subst (λ (z : YearLine). Has after.lines z) one
    st.common.year.is_new in
    let common = subst (λ (z : YearLine). StandsIn form day holidays before after s.lines.now s.from
    s.years.items old z) one st.common in
    let z = line_is after.lines after.sums new c.is_after has in
    let divides = year_divides form new z.0 z.1 z.2 in
    let owed = subst (λ (v : List ℕ). AreOwed (due_date v) (liability sums)
    (periods form (semiweekly_from new)) (year_start new.year) (year_last new.year + 1) added)
    st.calendar owed0 in
    let here0 = rows_are form after holidays new sums (year_start new.year) (year_last new.year)
    added known c.is_after has (omega arith) (omega arith) divides agree_new owed in
    let R : ℕ → Type 0 = λ v. AreRows form after holidays (year_start v) (year_last v + 1) added in
    let here = subst R year here0 in
    let later = st.at.later in
    let begins = st.common.begins in
    let p = st.common.is_period.2.1 in
    let fore : AreRows form after holidays s.from (year_start old.year) s.rows.items =
    rw w_from at st.at.rows in
    let differs : new ≡ old → ⊥ = λ same.
    st.at.differs (ap (λ (v : YearLine). v.opening) (sym (one ∙ same))) in
    let kept : AreRows form after holidays s.from (year_last old.year + 1) (s.rows.items ++ added) =
    rows_append form after holidays s.from (year_start old.year) (year_last old.year + 1)
    s.rows.items added (omega arith) (omega arith) fore here in
    search (rules, lines, from, years, rows, calendar ∙ st.calendar)
