-- The shape of a STRICT table of texts and whole numbers.
use Rattle.std.specs.Prelude.{List, ℕ, [], ◌∷◌, Bool, true, false, None}
use Rattle.sqlite.specs.Collation.TheVariants.{Binary}
use Rattle.sqlite.specs.declared.types.Value.TheVariants.{Null}
use Rattle.sqlite.specs.Table.{Table}
use Rattle.sqlite.specs.Kind.{Kind}
use Rattle.sqlite.specs.Kind.TheVariants.{Integer, Text}
use Rattle.sqlite_schema.specs.declared.schema.Column.{Column}
use Rattle.sqlite_schema.specs.declared.schema.Reference.{Reference}
use Rattle.sqlite_schema.specs.declared.schema.Action.TheVariants.{NoAction}
use Rattle.sqlite_value.specs.Keys.{plain}

-- a column of a STRICT table, never NULL unless it may be
abbrev pub column : Bool → List ℕ → Kind → Column
column not_null name kind = record {
  name = name;
  kind = kind;
  is_strict = true;
  not_null = not_null;
  default = Null;
  collation = Binary;
}

abbrev pub a_text : List ℕ → Column
a_text name = column true name Text

abbrev pub a_number : List ℕ → Column
a_number name = column true name Integer

abbrev pub maybe_number : List ℕ → Column
maybe_number name = column false name Integer

-- the first column refers to a column of another table
abbrev pub refers : List ℕ → List ℕ → List ℕ → Reference
refers columns parent name =
    record {
      columns = columns;
      parent = parent;
      parent_columns = name
          ∷ [];
      on_delete = NoAction;
      on_update = NoAction;
      is_deferred = false;
    }

-- a table with its key, at this tree
abbrev pub a_table : List ℕ → List Column → List ℕ → List Reference → ℕ → Table
a_table name columns key references tree = record {
  name = name;
  tree = tree;
  columns = columns;
  key = None;
  primary = key;
  uniques = key ∷ [];
  orders = plain ∷ [];
  checks = [];
  references = references;
  computed = [];
  stamps = record { places = []; terms = []; formats = [] };
  is_counted = false;
}
