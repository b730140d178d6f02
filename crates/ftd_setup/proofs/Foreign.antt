-- Tables of other names, where no name of the desk's is taken.
use Rattle.std.proofs.Common.{◌≡◌, ◌≢◌, ℕ, zero, suc, ◌+◌, List, [], ◌∷◌, Bool, true, false, Option}
use Rattle.std.proofs.Common.{None, Some, cond, refl, sym, subst, ◌∙◌, slice_get, get_or, length}
use Rattle.std.proofs.Common.{◌<◌, arith}
use Rattle.std.specs.Prelude.{is_some}
use Rattle.std.specs.List.{position_from}
use Rattle.std.proofs.lemmas.Bool.{false≢true, or_parts}
use Rattle.std.proofs.lemmas.List.Folds.{list_any_at}
use Rattle.sqlite.specs.Schema.{Schema}
use Rattle.sqlite.specs.Table.{Table}
use Rattle.sqlite_schema.specs.Names.{same_name, table_named}
use Rattle.ftd_sql.specs.Places.{IsAt}
use Rattle.ftd_sql.specs.declared.TableName.{TableName}
use Rattle.ftd_sql.specs.declared.TableName.TheVariants.{Metas, Accounts, ReportedQuarters}
use Rattle.ftd_sql.specs.declared.TableName.TheVariants.{CalendarYears, Holidays, Years, Runs}
use Rattle.ftd_sql.specs.declared.TableName.TheVariants.{Payments, Obligations, Forms}
use Rattle.ftd_sql.specs.declared.TableName.TheVariants.{ReportedYears, AddedHolidays}
use Rattle.ftd_sql.specs.declared.TableName.TheVariants.{CorrectedQuarters, CorrectedYears}
use Rattle.ftd_sql.specs.declared.TableName.TheVariants.{ChangedHolidays, CorrectedAccounts}
use Rattle.ftd_sql.specs.Names.{name_of, all_names, is_taken}
use Rattle.ftd_sql.specs.Standing.{IsForeign}
use Rattle.ftd_sql.proofs.Making.{self_named}
use Rattle.ftd_setup.specs.Versions.{IsNew}

unfound : {X : Type 0} (p : X → Bool) (i k : ℕ) (xs : List X) (x : X) → position_from p i xs ≡ None
    → slice_get xs k ≡ Some x → p x ≡ false
unfound p i k [] x none at = absurd cc
unfound {X = X} p i zero (y ∷ ys) x none at = let same : y ≡ x = cc in go (p y) refl none
  where
    go : (b : Bool) → p y ≡ b → cond b (Some i) (position_from p (i + 1) ys) ≡ None → p x ≡ false
    go true is e = absurd cc
    go false is e = subst (λ z. p z ≡ false) (let same : y ≡ x = cc in same) is
unfound {X = X} p i (suc k) (y ∷ ys) x none at = go (p y) (λ e. unfound p (i + 1) k ys x e at) none
  where
    go : (b : Bool) → (position_from p (i + 1) ys ≡ None → p x ≡ false)
        → cond b (Some i) (position_from p (i + 1) ys) ≡ None → p x ≡ false
    go true more e = absurd cc
    go false more e = more e

-- a table of a schema that has none of a name has another
other_name : (s : Schema) (n : TableName) (name : List ℕ) (t : Table) (at : ℕ)
    → table_named s (name_of n) ≡ None → IsAt s name t at → t.name ≢ name_of n
other_name s n name t at none place e =
    let no = unfound (λ (u : Table). same_name u.name (name_of n)) 0 at s.tables t none
    place.listed in
    let yes : same_name t.name (name_of n) ≡ true = rw e (self_named n) in
    false≢true (sym no ∙ yes)

unnamed : (s : Schema) (name : List ℕ) → is_taken s name ≡ false → table_named s name ≡ None
unnamed s name h = go (table_named s name) refl (or_parts (is_some (table_named s name)) _ h).0
  where
    go : (o : Option ℕ) → table_named s name ≡ o → is_some o ≡ false → table_named s name ≡ None
    go None is e = is
    go (Some k) is e = absurd cc

-- in a new database every table has a name that is none of the desk's
pub all_foreign : (s : Schema) → IsNew s → (name : List ℕ) (t : Table) (at : ℕ) → IsAt s name t at
    → IsForeign t.name
all_foreign s new name t at place = each
  where
    taken : TableName → Bool
    taken n = is_taken s (name_of n)

    free : (n : TableName) (i : ℕ) → i < length all_names → get_or all_names i Metas ≡ n
        → taken n ≡ false
    free n i low is = go (taken n) refl
      where
        go : (b : Bool) → taken n ≡ b → taken n ≡ false
        go true e =
            absurd (false≢true (sym new ∙ list_any_at taken all_names i Metas low (rw is e)))
        go false e = e

    at_name : (n : TableName) (i : ℕ) → i < length all_names → get_or all_names i Metas ≡ n
        → t.name ≢ name_of n
    at_name n i low is = other_name s n name t at (unnamed s (name_of n) (free n i low is)) place

    each : IsForeign t.name
    each Metas = at_name Metas 0 (omega arith) refl
    each Accounts = at_name Accounts 1 (omega arith) refl
    each ReportedQuarters = at_name ReportedQuarters 2 (omega arith) refl
    each CalendarYears = at_name CalendarYears 3 (omega arith) refl
    each Holidays = at_name Holidays 4 (omega arith) refl
    each Years = at_name Years 5 (omega arith) refl
    each Runs = at_name Runs 6 (omega arith) refl
    each Payments = at_name Payments 7 (omega arith) refl
    each Obligations = at_name Obligations 8 (omega arith) refl
    each Forms = at_name Forms 9 (omega arith) refl
    each ReportedYears = at_name ReportedYears 10 (omega arith) refl
    each AddedHolidays = at_name AddedHolidays 11 (omega arith) refl
    each CorrectedQuarters = at_name CorrectedQuarters 12 (omega arith) refl
    each CorrectedYears = at_name CorrectedYears 13 (omega arith) refl
    each ChangedHolidays = at_name ChangedHolidays 14 (omega arith) refl
    each CorrectedAccounts = at_name CorrectedAccounts 15 (omega arith) refl
