-- What a query that fails leaves.
use Rattle.std.proofs.Common.{◌⊎◌, inl, inr, List, ℕ, Option, None, Some}
use Rattle.sqlite.specs.Order.{Row}
use Rattle.sqlite.specs.declared.error.Error.{Error}
use Rattle.sqlite_resolve.specs.declared.compiled.Compiled.{Compiled}
use Rattle.sqlite_schema.specs.declared.command.Returning.{Returning}
use Rattle.sqlite.specs.State.{State, IsUnchanged, IsRolledBack, FailsToQuery, FailsToShow}
use Rattle.ftd_sql.proofs.Controls.{not_run_leaves, command_leaves}

show_leaves : (old new : State) (sql : List ℕ) (c : Compiled) (params : Row) (e : Error)
    (what : Option Returning) → FailsToShow old new sql c params e what → IsUnchanged old new
    ⊎ IsRolledBack old new
show_leaves old new sql c params e None h = inl h.3
show_leaves old new sql c params e (Some what) h = command_leaves old new sql c params e h

pub query_leaves : (sql : List ℕ) (params : Row) (old new : State) (e : Error)
    → FailsToQuery sql params old new e → IsUnchanged old new ⊎ IsRolledBack old new
unfolding FailsToQuery
query_leaves sql params old new e (inl h) = not_run_leaves sql params old new e h
query_leaves sql params old new e (inr h) = show_leaves old new sql h.0 _ e h.0.returning h.2
