-- The obligations of an account that begin on some day or later.
use Rattle.std.proofs.Common.{◌≡◌, ◌∙◌, refl, sym, ap, subst, ℕ, ◌≤◌, inl, inr, Bool, true, List}
use Rattle.std.proofs.Common.{[], ◌∷◌, ◌++◌, map, arith}
use Rattle.std.specs.Prelude.{filter, nat_le}
use Rattle.std.specs.List.Sorted.{IsPermutation}
use Rattle.std.proofs.lemmas.Bool.{le-leb, leb-true, and_parts}
use Rattle.std.proofs.lemmas.List.Elements.{filter-append}
use Rattle.ftd_days.specs.Calendar.{last_day}
use Rattle.ftd_rules.specs.declared.Form.{Form}
use Rattle.ftd_rules.specs.declared.Obligation.{Obligation}
use Rattle.ftd_rules.specs.Lists.{Has}
use Rattle.ftd_rules.specs.Obligations.{ByFirstDay, begins_on}
use Rattle.ftd_rules.proofs.Covering.{within_period}
use Rattle.ftd_rules.proofs.Only.{rows_one}
use Rattle.ftd_rules.proofs.Stated.{piece_owed}
use Rattle.ftd_rules.proofs.Members.{filter_in, has_kept}
use Rattle.ftd_sql.specs.declared.TableName.TheVariants.{Obligations}
use Rattle.ftd_sql.specs.Standing.{Tables}
use Rattle.ftd_sql.specs.Tests.{is_obligation_between}
use Rattle.ftd_store.specs.Cells.{day_number}
use Rattle.ftd_store.specs.Rows.{obligation_row}
use Rattle.ftd_buckets.specs.Histories.{History, IsHistory}
use Rattle.ftd_buckets.specs.Patches.{IsOwed}
use Rattle.ftd_machine.specs.History.{form_of, live_sums}
use Rattle.ftd_machine.specs.State.{State, entries_of, holidays}
use Rattle.ftd_machine.specs.Sound.{IsSound}
use Rattle.ftd_machine.proofs.Single.{owed_one}
use Rattle.ftd_machine.proofs.Members.{has_filtered}
use Rattle.ftd_machine.proofs.Soundness.{sound_once}
use Rattle.ftd_store.proofs.Sifted.{both_tests}
use Rattle.ftd_entries.specs.Standing.{StandsFor}
use Rattle.ftd_entries.proofs.OwedRows.{kept_by_first_day}
use Rattle.ftd_repairs.specs.Replaced.{AreBetween, HasObligations, begins_before}
use Rattle.ftd_repairs.specs.Replaced.{begins_after, patched}
use Rattle.ftd_posting.specs.Books.{begins_since, AreOwedSince}
use Rattle.ftd_posting.proofs.RightByAll.{last_is_day}
use Rattle.ftd_posting.proofs.RowsPlaced.{filter_within, gone_are, rows_between}

-- an obligation begins on a day
first_is_day : (form : Form) (h : History) (holidays : List ℕ) (o : Obligation) → IsHistory h
    → IsOwed form h holidays o → o.first ≤ last_day
first_is_day form h holidays o are owed =
    let inside = within_period form h.lines h.sums holidays o
    (piece_owed form h.lines h.sums holidays o owed) in
    let first = inside.1 in
    let last = last_is_day form h holidays o are owed in
    omega arith

-- those that were read are all that begin on the day or later
pub owed_read : (name : List ℕ) (since : ℕ) (rows : List Obligation) (t : Tables) (s : State)
    → StandsFor t s → AreBetween name since last_day rows t → AreOwedSince since (holidays s)
    (entries_of s name) rows
owed_read name since rows t s stands read =
    let was = stands.settled name in
    let own = entries_of s name in
    let all : List Obligation = was.owed in
    let h : History = record { lines = was.lines; sums = live_sums own } in
    let are = gone_are name since last_day (t Obligations) all rows was.owed_rows read.are in (
      all,
      (was.lines, was.are_lines, was.are_owed),
      rows_one rows (filter (begins_since since) all) read.by_first_day
          (kept_by_first_day (begins_since since) all was.are_owed.by_first_day)
          (λ o has. (let k = (are o).0 has in
          has_kept (begins_since since) all o k.0 (le-leb since o.first k.1.0)))
          (λ o has.
          (let k = has_filtered (begins_since since) all o has in
          (are o).1 (
            k.0,
            (
              leb-true since o.first k.1,
              first_is_day (form_of own.account) h
                  (holidays s) o was.are_lines.schedules ((was.are_owed.all o).0 k.0),
            ),
          ))),
    )

-- of the obligations from a day on those that begin on later days are those of all
on_since : (since from to : ℕ) (rows : List Obligation) → since ≤ from → filter (begins_on from to)
    (filter (begins_since since) rows) ≡ filter (begins_on from to) rows
on_since since from to rows low =
    filter_within (begins_on from to) (begins_since since)
    (λ o on. (let k = and_parts (nat_le from o.first) (nat_le o.first to) on in
    let l = leb-true from o.first k.0 in le-leb since o.first (omega arith))) rows

-- they are those of the tables
pub owed_between : (name : List ℕ) (since : ℕ) (rows : List Obligation) (t : Tables) (s : State)
    → StandsFor t s → IsSound s → AreOwedSince since (holidays s) (entries_of s name) rows
    → HasObligations name since rows t
owed_between name since rows t s stands sound owed from to low =
    let was = stands.settled name in
    let own = entries_of s name in
    let p : Obligation → Bool = begins_on from to in
    let all : owed.0 ≡ was.owed = owed_one (holidays s) own owed.0 was.owed
    (sound_once s sound name) owed.1 (was.lines, was.are_lines, was.are_owed) in
    let on : filter p was.owed ≡ filter p rows =
    sym (ap (filter p) owed.2
    ∙ (ap (λ (os : List Obligation). filter p (filter (begins_since since) os)) all
    ∙ on_since since from to was.owed low)) in
    record {
      by_first_day = subst ByFirstDay on (kept_by_first_day p was.owed was.are_owed.by_first_day);
      are = subst (λ (os : List Obligation). IsPermutation
          (filter (is_obligation_between name (day_number from) (day_number to)) (t Obligations))
          (map (obligation_row name) os)) on
          (rows_between name from to (t Obligations) was.owed was.owed_rows);
    }

-- where all pass, all are kept
all_kept : (p : Obligation → Bool) (rows : List Obligation)
    → ((o : Obligation) → Has rows o → p o ≡ true) → filter p rows ≡ rows
all_kept p [] all = refl
all_kept p (o ∷ rows) all = filter_in p o rows (all o (inl refl))
    ∙ ap (λ (l : List Obligation). o ∷ l) (all_kept p rows (λ q has. all q (inr has)))

-- a patch of later days is put into those from a day on as into all
pub patched_since : (since from to : ℕ) (rows patch : List Obligation) → since ≤ from
    → ((o : Obligation) → Has patch o → from ≤ o.first)
    → filter (begins_since since) (patched from to rows patch) ≡ patched from to
    (filter (begins_since since) rows) patch
patched_since since from to rows patch low come =
    let p : Obligation → Bool = begins_since since in
    let front : List Obligation = filter (begins_before from) rows in
    let back : List Obligation = filter (begins_after to) rows in
    let new : filter p patch ≡ patch = all_kept p patch (λ o has. (let l = come o has in
    le-leb since o.first (omega arith))) in
    filter-append p front (patch ++ back)
    ∙ (ap (λ (l : List Obligation). l ++ filter p (patch ++ back))
    (both_tests p (begins_before from) rows)
    ∙ ap (λ (l : List Obligation). filter (begins_before from) (filter p rows) ++ l)
    (filter-append p patch back ∙ (ap (λ (l : List Obligation). l ++ filter p back) new
    ∙ ap (λ (l : List Obligation). patch ++ l) (both_tests p (begins_after to) rows))))
