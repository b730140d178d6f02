use Rattle.std.proofs.Common.{◌≡◌, ◌≢◌, ◌+◌, ℕ, List, ◌∷◌, true, false, inl, inr, not}
use Rattle.std.proofs.Common.{length, drop, refl, sym, ap, ◌∙◌, subst, arith}
use Rattle.std.proofs.Math.Seq.{drop-append_seam}
use denote.Enum.Bare.{sameb}
use Rattle.ftd_days.specs.Calendar.{year_start}
use Rattle.ftd_days.specs.Holidays.{holidays_of}
use Rattle.ftd_rules.specs.contracts.Kind.{the_type}
use Rattle.ftd_rules.specs.declared.Kind.{Kind}
use Rattle.ftd_rules.specs.declared.YearLine.{YearLine}
use Rattle.ftd_rules.specs.Years.{AreOpenYears}
use Rattle.ftd_rules.proofs.Schedules.{year_facts}
use Rattle.ftd_buckets.proofs.Openings.{kinds_differ, kinds_same}
use Rattle.ftd_repairs.specs.declared.reopening.Anew.{Anew}
use Rattle.ftd_repairs.specs.Reopened.{IsAt}
use Rattle.ftd_repairs.specs.Anew.{AddsYearOf, IsPatchFrom, ReopensRows, ReplacesFrom}
use Rattle.ftd_repairs.proofs.Begun.{begun_ends, begun_reads}
use Rattle.ftd_repairs.proofs.YearsAnew.{Through, end_is, is_open, through_all, through_more}
use Rattle.ftd_repairs.proofs.YearsAnew.{through_none, through_same}
use Rattle.ftd_repairs.proofs.reopening.reopened.Goals as goal

kind_is : (a b : Kind) → sameb the_type a b ≡ true → a ≡ b
kind_is a b same = kinds_same a b (ap not same)

kind_is_not : (a b : Kind) → sameb the_type a b ≡ false → a ≢ b
kind_is_not a b other = kinds_differ a b (ap not other)

-- the lines from the year's place on begin with its line, and are of open years
rest_at : (year at : ℕ) (lines rest : List YearLine) (h : IsAt year lines at) → rest ≡ drop at lines
    → rest ≡ h.0.line ∷ h.0.later
rest_at year at lines rest h is =
    is ∙ (ap (λ n. drop n lines) (sym h.1) ∙ (ap (drop (length h.0.earlier)) h.0.cut
    ∙ drop-append_seam h.0.earlier (h.0.line ∷ h.0.later)))

rest_open : (at : ℕ) (lines rest : List YearLine) → rest ≡ drop at lines
    → AreOpenYears (drop at lines) → AreOpenYears rest
rest_open at lines rest is years = subst AreOpenYears (sym is) years

pub yesterday-requires : goal.yesterday-requires
yesterday-requires g c =
    let f = year_facts c.args.year c.requires.from c.requires.to in
    let f0 = f.0 in let is = c.first_day-from.ensures in omega arith

pub loop-line-init : goal.loop-line-init
loop-line-init g c =
    let name = c.args.account.now in
    let form = c.args.form in
    let year = c.args.year in
    let lines : List YearLine = c.args.lines.now in
    let holidays : List ℕ = holidays_of c.args.holidays.now in
    let f = year_facts year c.requires.from c.requires.to in
    let f0 = f.0 in let first = c.first_day-from.ensures in let before = c.yesterday.ensures in
    let e : year ≡ year + 0 = omega arith in
    let starts : c.yesterday.result + 1 ≡ year_start year = omega arith in
    let known : Anew = record {
      to = c.yesterday.result;
      turned = c.has_turned.result;
      rows = c.new.result;
      years = c.new-2.result;
      total = 0;
    } in
    record {
      to = subst (λ n. c.yesterday.result + 1 ≡ year_start n) e starts;
      small = omega arith;
      begun = inl (
        refl,
        λ t. subst (λ n. Through name form year lines holidays n known t) e
            (through_none name form year lines holidays known t c.requires.from c.new.ensures.items
            c.new-2.ensures.items c.has_turned.ensures),
      );
    }

pub returns-then-eq : goal.returns-then-eq
returns-then-eq g c =
    let name = c.args.account.now in
    let form = c.args.form in
    let year = c.args.year in
    let lines : List YearLine = c.args.lines.now in
    let holidays : List ℕ = holidays_of c.args.holidays.now in
    let at = c.requires.at in
    let rest : List YearLine = c.split_at.result.1.now in
    let x : YearLine = c.line-item.result in
    let known = c.loop-line.known in
    let here = year + c.loop-line.line-index in
    record {
      call = begun_ends g.S.Store c.args.tx.now c.loop-line.tx c.known_replacement.new.tx
          c.known_replacement.result (Through name form year lines holidays here known)
          (ReplacesFrom name c.first_day-from.result known)
          (ReopensRows name form year lines holidays)
          (λ r t through replaces. (
            through_same name form year lines holidays at.0 rest
                (rest_at year c.args.at lines rest at c.split_at.ensures.back)
                (rest_open c.args.at lines rest c.split_at.ensures.back c.requires.years)
                c.end_before_2100.ensures
                c.loop-line.line-index x c.loop-line-test.true c.line-item.is known c.opens.result
                c.opens.ensures t through r.patch
                (kind_is c.opens.result x.opening (sym c.if-eq.ensures))
                (subst (λ day. IsPatchFrom day known r.patch) c.first_day-from.ensures replaces.0)
                c.loop-line.invariant.to,
            replaces.1,
          ))
          c.loop-line.invariant.begun c.known_replacement.ensures.call;
    }

pub add_anew-requires-clause-from : goal.add_anew-requires-clause-from
add_anew-requires-clause-from g c =
    let lines : List YearLine = c.args.lines.now in
    let rest : List YearLine = c.split_at.result.1.now in
    let at = c.requires.at in
    (is_open c.args.account.now c.args.form c.args.year lines (holidays_of c.args.holidays.now)
    at.0 rest
    (rest_at c.args.year c.args.at lines rest at c.split_at.ensures.back)
    (rest_open c.args.at lines rest c.split_at.ensures.back c.requires.years)
    c.end_before_2100.ensures
    c.loop-line.line-index c.line-item.result c.loop-line-test.true c.line-item.is).0

pub add_anew-requires-clause-to : goal.add_anew-requires-clause-to
add_anew-requires-clause-to g c =
    let lines : List YearLine = c.args.lines.now in
    let rest : List YearLine = c.split_at.result.1.now in
    let at = c.requires.at in
    (is_open c.args.account.now c.args.form c.args.year lines (holidays_of c.args.holidays.now)
    at.0 rest
    (rest_at c.args.year c.args.at lines rest at c.split_at.ensures.back)
    (rest_open c.args.at lines rest c.split_at.ensures.back c.requires.years)
    c.end_before_2100.ensures
    c.loop-line.line-index c.line-item.result c.loop-line-test.true c.line-item.is).1

pub loop-line-preserved : goal.loop-line-preserved
loop-line-preserved g c =
    let name = c.args.account.now in
    let form = c.args.form in
    let year = c.args.year in
    let lines : List YearLine = c.args.lines.now in
    let holidays : List ℕ = holidays_of c.args.holidays.now in
    let at = c.requires.at in
    let rest : List YearLine = c.split_at.result.1.now in
    let x : YearLine = c.line-item.result in
    let known = c.loop-line.known in
    let later = c.in_ok-known.known in
    let i = c.loop-line.line-index in
    record {
      to = ap (λ day. day + 1) c.in_ok-known.ensures.to
          ∙ end_is name form year lines holidays at.0 rest
          (rest_at year c.args.at lines rest at c.split_at.ensures.back)
          (rest_open c.args.at lines rest c.split_at.ensures.back c.requires.years)
          c.end_before_2100.ensures i x
          c.loop-line-test.true c.line-item.is;
      small = c.in_ok-known.ensures.small;
      begun = inr (begun_reads g.S.Store c.args.tx.now c.loop-line.tx c.add_anew.new.tx later tt
          (Through name form year lines holidays (year + i) known)
          (AddsYearOf name form x holidays known)
          (λ none. Through name form year lines holidays (year + (i + 1)) later)
          (λ t through adds. through_more name form year lines holidays at.0 rest
          (rest_at year c.args.at lines rest at c.split_at.ensures.back)
          (rest_open c.args.at lines rest c.split_at.ensures.back c.requires.years)
          c.end_before_2100.ensures i x
          c.loop-line-test.true c.line-item.is known c.opens.result c.opens.ensures t through later
          (kind_is_not c.opens.result x.opening (sym c.if-eq.ensures)) adds)
          c.loop-line.invariant.begun c.in_ok-known.ensures.call);
    }

pub returns : goal.returns
returns g c =
    let name = c.args.account.now in
    let form = c.args.form in
    let year = c.args.year in
    let lines : List YearLine = c.args.lines.now in
    let holidays : List ℕ = holidays_of c.args.holidays.now in
    let at = c.requires.at in
    let rest : List YearLine = c.split_at.result.1.now in
    let known = c.loop-line.known in
    let end = c.loop-line-test.false in
    let i = c.loop-line.line-index in
    let count : i ≡ length rest = (let most = c.loop-line.auto.line-index-end in omega arith) in
    record {
      call = begun_ends g.S.Store c.args.tx.now c.loop-line.tx c.known_replacement-2.new.tx
          c.known_replacement-2.result (Through name form year lines holidays (year + i) known)
          (ReplacesFrom name c.first_day-from.result known)
          (ReopensRows name form year lines holidays)
          (λ r t through replaces. (
            through_all name form year lines holidays at.0 rest
                (rest_at year c.args.at lines rest at c.split_at.ensures.back)
                (rest_open c.args.at lines rest c.split_at.ensures.back c.requires.years)
                c.end_before_2100.ensures
                known t r.patch
                (subst (λ n. Through name form year lines holidays (year + n) known t) count
                through)
                (subst (λ day. IsPatchFrom day known r.patch) c.first_day-from.ensures replaces.0)
                (subst (λ n. known.to + 1 ≡ year_start (year + n)) count c.loop-line.invariant.to),
            replaces.1,
          ))
          c.loop-line.invariant.begun c.known_replacement-2.ensures.call;
    }
