use Rattle.std.proofs.Common.{◌≡◌, ◌++◌, ℕ, List, Vec, Global}
use Rattle.ftd_days.specs.Holidays.{holidays_of}
use Rattle.ftd_rules.specs.declared.Obligation.{Obligation}
use Rattle.ftd_rules.specs.declared.YearLine.{YearLine}
use Rattle.ftd_buckets.specs.declared.Patch.{Patch}
use Rattle.ftd_sql.specs.Standing.{Tables}
use Rattle.ftd_repairs.specs.Repaired.{Repairs}
use Rattle.ftd_repairs.specs.Replaced.{AreBetween}
use Rattle.ftd_repairs.specs.Rescheduled.{HasLines}
use Rattle.ftd_repairs.specs.Reposted.{Repatches}
use Rattle.ftd_repairs.proofs.Fed.{repairs_all}
use Rattle.ftd_repairs.proofs.Reposting.{repatched}
use Rattle.ftd_store.proofs.Telling.{then_reads}
use Rattle.ftd_store.proofs.Turning.{read_then_turn}
use Rattle.ftd_repairs.proofs.patching.repair_rows.Goals as goal

pub returns : goal.returns
returns g c =
    let name = c.args.account.now in
    let form = c.args.form in
    let day = c.args.day in
    let lines : List YearLine = c.args.known.lines.items in
    let rest : List YearLine = c.in-Some.rest.now in
    let holidays : List ℕ = holidays_of c.args.known.holidays in
    let patch = c.in_ok-patch.patch in
    let from : (earlier : List YearLine) × (lines ≡ earlier ++ rest) =
    rw c.deref.ensures.value at c.in-Some.ensures.rest in
    let right : Patch → Tables → Type 0 = λ p t. Repairs name form day lines holidays p t in
    let after : List YearLine = c.place_patch.new.lines in
    let gone : List Obligation = c.in_ok-gone.gone.items in
    let read = λ (q : Patch × Vec Obligation Global) (t : Tables).
    Repairs name form day rest holidays q.0 t × AreBetween name patch.from patch.to q.1.items t in
    record {
      call = read_then_turn
          (λ d t u. HasLines name lines t → Repatches name day lines (λ p. right p t) d t u)
          (then_reads (patch, c.in_ok-gone.gone) read c.in_ok-patch.ensures.call
          c.in_ok-gone.ensures.call (λ t one two. (one, two)))
          (rw (c.deref_mut.ensures.value, c.deref-2.ensures.value) at
          c.in_ok-difference.ensures.call)
          (λ d t u told places had. (repatched name day lines after (λ p. right p t) patch d t u
          (repairs_all name form day lines from.0 rest holidays patch t from.1 told.0)
          (places told.1 had)).0);
    }
