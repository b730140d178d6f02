-- Whose name it is.
use Rattle.std.specs.Prelude.{ℕ, Bool, List, bytes_eq}
use Rattle.ftd_store.specs.declared.kept_cells.NamedAccount.{NamedAccount}
use Rattle.ftd_check.specs.Accounts.{name_read}

abbrev pub has_name : List ℕ → NamedAccount → Bool
has_name name a = bytes_eq (name_read a) name
