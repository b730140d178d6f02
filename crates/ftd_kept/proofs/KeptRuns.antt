-- The runs of a quarter that were read are those that are kept.
use Rattle.std.proofs.Common.{◌≡◌, ◌∙◌, sym, ap, subst, ℕ, ◌+◌, ◌≤◌, ◌&&◌, pos, Bool, true}
use Rattle.std.proofs.Common.{List, map, Some, refl}
use Rattle.std.specs.Prelude.{◌↔◌, filter, bytes_eq, int_le}
use Rattle.ftd_days.specs.Calendar.{quarter_start, quarter_year}
use Rattle.ftd_rules.specs.declared.run.PayRun.{PayRun}
use Rattle.ftd_rules.specs.declared.run.Voidable.{Voidable}
use Rattle.ftd_rules.specs.Lists.{Has}
use Rattle.ftd_rules.proofs.Members.{has_mapped, mapped_has}
use Rattle.ftd_sql.specs.Orders.{RunsRise}
use Rattle.ftd_sql.specs.Rows.{RunRow}
use Rattle.ftd_sql.specs.Standing.{Tables}
use Rattle.ftd_sql.specs.Tests.{is_run_between}
use Rattle.ftd_sql.specs.declared.TableName.TheVariants.{Runs}
use Rattle.ftd_store.specs.Cells.{day_number}
use Rattle.ftd_store.specs.Lists.{Lists}
use Rattle.ftd_store.specs.Rows.{run_row}
use Rattle.ftd_store.specs.declared.kept_cells.NumberedRun.{NumberedRun}
use Rattle.ftd_store.specs.Kept.{IsNumberedRun}
use Rattle.ftd_machine.specs.Kept.{IsRunIn}
use Rattle.ftd_machine.specs.Sound.{IsSound}
use Rattle.ftd_machine.specs.State.{State, Entry, entries_of, kept_at}
use Rattle.ftd_machine.specs.declared.kept.KeptRun.{KeptRun}
use Rattle.ftd_machine.proofs.Adding.{own_name}
use Rattle.ftd_entries.specs.Standing.{StandsFor, run_entry}
use Rattle.ftd_entries.proofs.Kept.{same_nat, run_is}
use Rattle.ftd_entries.proofs.ListedRows.{entry_listed, passing_value}
use Rattle.ftd_entries.proofs.QuarterDays.{days_from, days_into, in_quarter, of_quarter}
use Rattle.ftd_kept.specs.Kept.{kept_run}
use Rattle.ftd_machine.proofs.Entered.{is_kept, of_kept}

-- the row of a run of the account
abbrev row_of : List ℕ → NumberedRun → RunRow
row_of name x = run_row name (pos x.number) x.run.value x.run.voided

-- a run with a payday between two days
abbrev is_between : List ℕ → ℕ → ℕ → RunRow → Bool
is_between name first last = is_run_between name (day_number first) (day_number last)

module _ (name : List ℕ) (quarter last : ℕ) (is_last : last + 1 ≡ quarter_start (quarter + 1))
    (early : quarter_year quarter ≤ 2098) (t : Tables) (s : State) (stands : StandsFor t s)
    (sound : IsSound s) (found : List NumberedRun)
    (lists : Lists RunsRise (IsNumberedRun name)
    (filter (is_between name (quarter_start quarter) last) (t Runs)) found) where
  abbrev test : RunRow → Bool
  test = is_between name (quarter_start quarter) last

  run_in : (x : NumberedRun) → Has found x → IsRunIn (entries_of s name) quarter (kept_run x)
  run_in x has =
      let from = entry_listed (row_of name) RunsRise test found run_entry s.runs
      stands.entries.paid.runs lists x has in
      let e : Entry (Voidable PayRun) = from.0 in
      let named : e.name ≡ name = ap (λ (r : RunRow). r.account) from.2 in
      let key : e.key ≡ x.number = same_nat e.key x.number (ap (λ (r : RunRow). r.number) from.2) in
      let content : e.content ≡ x.run = run_is name x.number e x.run from.2 in
      let kept = is_kept name s.runs sound.runs e from.1 named in
      let days = days_from name (quarter_start quarter) last x.run.value.payday
      (bytes_eq name name) from.3 in (
        subst (λ k. kept_at k (entries_of s name).runs ≡ Some x.run) key (kept ∙ ap Some content),
        of_quarter quarter last is_last x.run.value.payday early days.1 days.2,
      )

  run_there : (x : KeptRun) → IsRunIn (entries_of s name) quarter x
      → (y : NumberedRun) × Has found y × (x ≡ kept_run y)
  run_there x is =
      let content : Voidable PayRun = record { value = x.run; voided = x.voided } in
      let kept = of_kept name s.runs sound.runs x.number content is.0 in
      let e = kept.0 in
      let days = in_quarter quarter last is_last x.run.payday early is.1 in
      let y : NumberedRun = record { number = x.number; run = content } in
      let row : run_entry e ≡ row_of name y =
      ap (λ (d : Entry (Voidable PayRun)). run_entry d) (same_entry e kept.2 kept.3 kept.4) in
      let there : Has (t Runs) (row_of name y) =
      subst (λ rs. Has rs (row_of name y)) (sym stands.entries.paid.runs)
      (subst (Has (map run_entry s.runs)) row (mapped_has run_entry s.runs e kept.1)) in
      let passes : test (row_of name y) ≡ true =
      ap (λ b. b && (int_le (day_number (quarter_start quarter)) (day_number x.run.payday)
      && int_le (day_number x.run.payday) (day_number last))) (own_name name)
      ∙ days_into (quarter_start quarter) last x.run.payday days.0 days.1 in
      let item = passing_value (row_of name) RunsRise test (t Runs) found lists (row_of name y)
      there
      passes in
      let same : kept_run y ≡ kept_run item.0 = same_run y item.0 item.2 in
      (item.0, item.1, same)
    where
      same_entry : (e : Entry (Voidable PayRun)) → e.name ≡ name → e.key ≡ x.number
          → e.content ≡ record { value = x.run; voided = x.voided }
          → e ≡ record {
            name = name;
            key = x.number;
            content = record { value = x.run; voided = x.voided };
          }
      same_entry e a b c = rw (sym a, sym b, sym c) refl

      same_run : (y z : NumberedRun) → row_of name y ≡ row_of name z → kept_run y ≡ kept_run z
      same_run y z e =
          let number : y.number ≡ z.number = same_nat y.number z.number
          (ap (λ (r : RunRow). r.number) e) in
          let run : y.run ≡ z.run = run_is name z.number
          (record { name = name; key = y.number; content = y.run }) z.run e in
          rw (number, run) refl

  pub runs_are : (x : KeptRun) → Has (map kept_run found) x ↔ IsRunIn (entries_of s name) quarter x
  runs_are x = (
    (λ has.
        (let from = has_mapped kept_run found x has in
        subst (IsRunIn (entries_of s name) quarter) (sym from.2) (run_in from.0 from.1))),
    (λ is.
        (let there = run_there x is in
        subst (Has (map kept_run found)) (sym there.2)
        (mapped_has kept_run found there.0 there.1))),
  )
