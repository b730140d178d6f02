-- The entries of an account, by plain values.
use Rattle.std.specs.Prelude.{ℕ, List, map, Some}
use Rattle.ftd_machine.specs.State.{Entry, Entries, account_in_force}
use Rattle.ftd_sound.specs.declared.own.Own.{Own}

-- an entry of the account of this name: its key, and its content
abbrev pub entry_of : {X : Type 0} → List ℕ → ℕ × X → Entry X
entry_of name e = record { name = name; key = e.0; content = e.1 }

abbrev pub year_opened : List ℕ → ℕ → Entry (Unit {0})
year_opened name year = record { name = name; key = year; content = tt }

-- what the machine keeps of an account of this name with these values
abbrev pub entries_in : List ℕ → Own → Entries
entries_in name own = record {
  enrolled = Some own.account;
  moves = own.moves.items;
  account = account_in_force (Some own.account) own.moves.items;
  reported = map (entry_of name) own.reported.items;
  reported_years = map (entry_of name) own.reported_years.items;
  open_years = map (year_opened name) own.open_years.items;
  runs = map (entry_of name) own.runs.items;
  payments = map (entry_of name) own.payments.items;
  corrected = map (entry_of name) own.corrected.items;
  corrected_years = map (entry_of name) own.corrected_years.items;
}
