-- What is answered to a year that is to be opened, by what was read.
use Rattle.std.proofs.Common.{◌≡◌, ℕ, ◌-◌, ◌==◌, ◌||◌, Bool, true, false, List, [], ◌∷◌, length}
use Rattle.std.proofs.Common.{map, Option, None, Some, Result, Ok, Err, refl, sym, ap, subst, ◌∙◌}
use Rattle.std.specs.List.{list_any}
use Rattle.std.proofs.lemmas.List.{length-map}
use Rattle.ftd_days.specs.declared.cents.Cents.{Cents}
use Rattle.ftd_rules.specs.declared.YearLine.{YearLine}
use Rattle.sqlite.specs.Store as store
use Rattle.ftd_sql.specs.Standing.{Tables}
use Rattle.ftd_store.specs.declared.tx.Tx.{Tx}
use Rattle.ftd_store.specs.Changes.{with_year}
use Rattle.ftd_store.specs.Frame.{Calls, Reads, Writes}
use Rattle.ftd_store.proofs.Telling.{then_reads}
use Rattle.ftd_machine.specs.declared.entries.Account.{Account}
use Rattle.ftd_machine.specs.State.{State, entries_of, is_open}
use Rattle.ftd_machine.specs.History.{is_carried, year_of_line, year_of_entry}
use Rattle.ftd_machine.specs.Sound.{IsSound}
use Rattle.ftd_machine.specs.Checks.{Answer, first_of, needs}
use Rattle.ftd_machine.specs.Requests.{open_year_checks}
use Rattle.ftd_machine.specs.Step.{Step}
use Rattle.ftd_machine.specs.declared.requests.Request.TheVariants.{Enter}
use Rattle.ftd_machine.specs.declared.requests.Entry.TheVariants as entry
use Rattle.ftd_machine.specs.declared.replies.Reply.TheVariants.{Done}
use Rattle.ftd_machine.specs.declared.replies.Refusal.{Refusal}
use Rattle.ftd_machine.specs.declared.replies.Refusal.TheVariants.{YearNotOpen}
use Rattle.ftd_entries.specs.Standing.{StandsFor}
use Rattle.ftd_entries.specs.Opening.{is_line_of, IsNextLine, KeepsYear, KnowsToOpen}
use Rattle.ftd_entries.specs.Totals.{KnowsTotal}
use Rattle.ftd_entries.specs.Words.{Serves}
use Rattle.ftd_entries.specs.declared.open_years.KnownYear.{KnownYear}
use Rattle.ftd_entries.proofs.Totals.{figures_once}
use Rattle.ftd_entries.proofs.KnownYears.{open_lines}
use Rattle.ftd_entries.proofs.Opening.{open_decided, open_lacks, open_waits, open_done}
use Rattle.ftd_entries.proofs.Serving.{served_looked, served_changed}

module _ (name : List ℕ) (year : ℕ) (known : KnownYear) (there : Bool)
    (is_there : there ≡ list_any (is_line_of year) known.lines.items) where
  abbrev pub checks : Option Answer
  checks = first_of (open_year_checks name year known.account there known.given known.next)

  -- what each state keeps for which the tables stand
  keeps : (t : Tables) (s : State) → StandsFor t s → IsSound s → KnowsToOpen name year known t
      → KeepsYear name year known.account there known.given known.next s
  keeps t s stands sound knows =
      subst (λ b. KeepsYear name year known.account b known.given known.next s) (sym is_there)
      (knows s stands sound).0

  -- a check decides
  pub year_decided : (answer : Answer) → checks ≡ Some answer → (t : Tables) (s : State)
      → StandsFor t s → IsSound s → KnowsToOpen name year known t
      → Step s (Enter (entry.Year name year)) answer s
  year_decided answer is t s stands sound knows = open_decided name year known.account there
      known.given known.next s (keeps t s stands sound knows) answer is

  module _ (account : Account) (found : known.account ≡ Some account)
      (all_passed : checks ≡ None) where
    -- what was read of the year, and of its lookback period
    abbrev pub Knows : Result Cents Refusal → Tables → Type 0
    Knows total t = KnowsToOpen name year known t × KnowsTotal name account year total t

    module _ (t : Tables) (s : State) (stands : StandsFor t s) (sound : IsSound s) where
      account_is : KnowsToOpen name year known t → (entries_of s name).account ≡ Some account
      account_is knows = (keeps t s stands sound knows).account_is ∙ found

      -- a figure is missing
      pub year_lacks : (refusal : Refusal) → Knows (Err refusal) t
          → Step s (Enter (entry.Year name year)) (Err refusal) s
      year_lacks refusal knows =
          open_lacks name year known.account there known.given known.next s
          (keeps t s stands sound knows.0) all_passed refusal
          (knows.1 s stands.entries.figures (figures_once s sound name) (account_is knows.0))

      -- whether the year before lets it be opened
      may_is : KnowsToOpen name year known t
          → ((length (entries_of s name).open_years == 0) || is_open (entries_of s name) (year - 1))
          ≡ ((length known.lines.items == 0) || list_any (is_line_of (year - 1)) known.lines.items)
      may_is knows =
          let own = entries_of s name in
          let years : map year_of_line known.lines.items ≡ map year_of_entry own.open_years =
          ap (map year_of_line) (knows s stands sound).1 ∙ (stands.settled name).are_lines.years in
          let lengths : length own.open_years ≡ length known.lines.items =
          sym (length-map own.open_years year_of_entry) ∙ sym (ap length years)
          ∙ length-map known.lines.items year_of_line in
          ap (λ n. (n == 0) || is_open own (year - 1)) lengths
          ∙ ap (λ b. (length known.lines.items == 0) || b)
          (open_lines (year - 1) known.lines.items own.open_years years)

      pub year_waits : (total : Cents)
          → ((length known.lines.items == 0) || list_any (is_line_of (year - 1)) known.lines.items)
          ≡ false → Knows (Ok total) t
          → Step s (Enter (entry.Year name year)) (Err (YearNotOpen (year - 1))) s
      year_waits total may_not knows =
          open_waits name year known.account there known.given known.next s
          (keeps t s stands sound knows.0) all_passed total (Err (YearNotOpen (year - 1)))
          (knows.1 s stands.entries.figures (figures_once s sound name) (account_is knows.0))
          (ap (λ b. first_of (needs b (YearNotOpen (year - 1)) ∷ [])) (may_is knows.0 ∙ may_not))

      pub year_done : (total : Cents) (line : YearLine)
          → ((length known.lines.items == 0) || list_any (is_line_of (year - 1)) known.lines.items)
          ≡ true
          → IsNextLine account.carried known.lines.items year total line → Knows (Ok total) t
          → (next : State) × Step s (Enter (entry.Year name year)) (Ok Done) next
          × StandsFor (with_year name line t) next
      year_done total line may is_next knows =
          open_done name year known.account there known.given known.next s
          (keeps t s stands sound knows.0) all_passed t stands sound total
          (knows.1 s stands.entries.figures (figures_once s sound name) (account_is knows.0))
          (ap (λ b. first_of (needs b (YearNotOpen (year - 1)) ∷ [])) (may_is knows.0 ∙ may)) line
          (subst (λ carried. IsNextLine carried (stands.settled name).lines year total line)
          (sym (ap is_carried (account_is knows.0)))
          (subst (λ lines. IsNextLine account.carried lines year total line)
          (knows.0 s stands sound).1 is_next))

-- ---- the calls

module _ (name : List ℕ) (year : ℕ) (known : KnownYear) (there : Bool)
    (is_there : there ≡ list_any (is_line_of year) known.lines.items)
    (account : Account) (found : known.account ≡ Some account)
    (passed : checks name year known there is_there ≡ None)
    {S : Type 0} {g : store.Ghosts S} {old mid new : Tx S} where
  -- what was read, with the lookback total or what lacks for it
  total_read : {total is : Result Cents Refusal} → total ≡ is
      → Reads g old mid (Ok known) (KnowsToOpen name year)
      → Reads g mid new (Ok total) (KnowsTotal name account year)
      → Reads g old new (Ok is) (Knows name year known there is_there account found passed)
  total_read {is = is} same p q = then_reads is _ p q
      (λ t told of_total. (told, subst (λ r. KnowsTotal name account year r t) same of_total))

  -- a figure is missing
  pub served_lacking : {total : Result Cents Refusal} {refusal : Refusal} → total ≡ Err refusal
      → Reads g old mid (Ok known) (KnowsToOpen name year)
      → Reads g mid new (Ok total) (KnowsTotal name account year)
      → Calls g old new (Ok (Err refusal)) (Serves (Enter (entry.Year name year)))
  served_lacking {refusal = refusal} same p q =
      served_looked (Enter (entry.Year name year)) (Err refusal) (total_read same p q)
      (λ t s stands sound knows. year_lacks name year known there is_there account found passed t s
      stands sound refusal knows)

  -- the year before has to be opened first
  pub served_waiting : {total : Result Cents Refusal} {cents : Cents} → total ≡ Ok cents
      → (length known.lines.items == 0) ≡ false
      → list_any (is_line_of (year - 1)) known.lines.items ≡ false
      → Reads g old mid (Ok known) (KnowsToOpen name year)
      → Reads g mid new (Ok total) (KnowsTotal name account year)
      → Calls g old new (Ok (Err (YearNotOpen (year - 1)))) (Serves (Enter (entry.Year name year)))
  served_waiting {cents = cents} same some none p q =
      served_looked (Enter (entry.Year name year)) (Err (YearNotOpen (year - 1))) (total_read same
      p q)
      (λ t s stands sound knows. year_waits name year known there is_there account found passed t s
      stands sound cents (rw (some, none) refl) knows)

  -- the year is opened
  pub served_opened : {B : Type 0} {end : Tx S} {y : B} {total : Result Cents Refusal}
      {cents : Cents} {line : YearLine} → total ≡ Ok cents
      → ((length known.lines.items == 0) || list_any (is_line_of (year - 1)) known.lines.items)
      ≡ true → IsNextLine account.carried known.lines.items year cents line
      → Reads g old mid (Ok known) (KnowsToOpen name year)
      → Reads g mid new (Ok total) (KnowsTotal name account year)
      → Writes g new end (Ok y) (with_year name line)
      → Calls g old end (Ok (Ok Done)) (Serves (Enter (entry.Year name year)))
  served_opened {cents = cents} {line = line} same may next p q w =
      served_changed (Enter (entry.Year name year)) (Ok Done) (total_read same p q) w
      (λ t s stands sound knows. year_done name year known there is_there account found passed t s
      stands sound cents line may next knows)
