-- An account's rows are read, its runs change, and its rows are repaired.
use Rattle.std.proofs.Common.{◌≡◌, ℕ, List, map, Ok, sym, ap, subst, ◌∙◌}
use Rattle.std.specs.Prelude.{filter}
use Rattle.std.specs.List.Sorted.{IsPermutation}
use Rattle.sqlite.specs.Store as store
use Rattle.ftd_days.specs.Holidays.{holidays_of}
use Rattle.ftd_rules.specs.declared.Form.{Form}
use Rattle.ftd_rules.specs.declared.YearLine.{YearLine}
use Rattle.ftd_buckets.specs.declared.Patch.{Patch}
use Rattle.ftd_sql.specs.declared.TableName.TheVariants.{Years}
use Rattle.ftd_sql.specs.Rows.{YearRow}
use Rattle.ftd_sql.specs.Standing.{Tables}
use Rattle.ftd_sql.specs.Orders.{YearsRise}
use Rattle.ftd_sql.specs.Tests.{is_year_of}
use Rattle.ftd_store.specs.Rows.{year_row}
use Rattle.ftd_store.specs.declared.tx.Tx.{Tx}
use Rattle.ftd_store.specs.Frame.{Reads, Rewrites}
use Rattle.ftd_machine.specs.declared.replies.Difference.{Difference}
use Rattle.ftd_machine.specs.Posting.{AreOnOtherSchedules}
use Rattle.ftd_repairs.specs.declared.reading.KnownYears.{KnownYears}
use Rattle.ftd_repairs.specs.Calendars.{KnowsYears}
use Rattle.ftd_repairs.specs.Rescheduled.{HasLines}
use Rattle.ftd_repairs.specs.Repaired.{Repairs}
use Rattle.ftd_repairs.specs.Reposted.{Places, Repatches, RepairsRows, IsReposted}
use Rattle.ftd_repairs.proofs.Differing.{are_listed}
use Rattle.ftd_store.proofs.Turning.{reads_turn, turns_then}

-- the rows are those of the lines that were read, and stay so where only other tables change
pub has_lines : (account : List ℕ) (day : ℕ) (known : KnownYears) (t u : Tables)
    → KnowsYears account day known t → u Years ≡ t Years → HasLines account known.lines.items u
has_lines account day known t u told same =
    let rows : List YearRow = map (year_row account) known.lines.items in (
      subst (λ (years : List YearRow). IsPermutation (filter (is_year_of account) years) rows)
          (sym same) (are_listed YearsRise (year_row account) _ known.lines.items
          told.listed.listed),
      told.listed.whole,
    )

-- a patch that is right was put in place, by which these are the lines now
pub repatched : (account : List ℕ) (day : ℕ) (lines after : List YearLine) (IsRight : Patch
    → Type 0) (patch : Patch) (d : Difference) (t u : Tables)
    → IsRight patch → Places account day lines patch after d t u
    → (done : Repatches account day lines IsRight d t u) × (after ≡ done.put.after)
repatched account day lines after IsRight patch d t u right places = (
  record {
    patch = patch;
    right = right;
    compared = places.compared;
    put = places.put.0;
    years = subst (λ (ls : List YearLine). AreOnOtherSchedules lines ls d.years) places.put.1
        places.years;
  },
  places.put.1,
)

module _ {S A : Type 0} (g : store.Ghosts S) (account : List ℕ) (form : Form) (day : ℕ)
    (change : Tables → Tables) where
  pub reposts : (old read mid new : Tx S) (known : KnownYears) (x : A) (d : Difference)
      → ((t : Tables) → change t Years ≡ t Years)
      → Reads g old read (Ok known) (KnowsYears account day) → Rewrites g read mid (Ok x)
      (λ y t u. u ≡ change t)
      → Rewrites g mid new (Ok d) (RepairsRows account form day known)
      → Rewrites g old new (Ok d) (λ e t u. IsReposted account form day t (change t) u e)
  reposts old read mid new known x d keeps p q r =
      let Changed : Tables → Tables → Type 0 = λ t u. KnowsYears account day known t
      × (u ≡ change t) in
      let begun : Rewrites g old mid (Ok known) (λ k. Changed) =
      turns_then known (λ k. Changed) (reads_turn p) q
      (λ t u v told is. (told.0, subst (λ (z : Tables). v ≡ change z) told.1 is)) in
      turns_then d (λ e t u. IsReposted account form day t (change t) u e) begun r
      (λ t u v told repairs. record {
        lines = known.lines;
        listed = told.0.listed;
        holidays = holidays_of known.holidays;
        read = told.0.read;
        repatches = subst (λ (z : Tables). Repatches account day known.lines.items
            (λ p. Repairs account form day known.lines.items (holidays_of known.holidays) p z) d z
            v) told.1
            (repairs (has_lines account day known t u told.0 (ap (λ (z : Tables). z Years) told.1
            ∙ keeps t)));
      })
