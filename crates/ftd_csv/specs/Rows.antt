-- What a reader of rows has left. Private contracts speak of it; the public ones say what the rows
-- are (Records).
use Rattle.std.specs.Prelude.{◌≡◌, ◌+◌, ℕ, false, List, [], length, Option, Some, None, IsSome}
use Rattle.std.specs.Borrow.{Bor}
use Rattle.csv.specs.Machine.{ends_at_end}
use Rattle.csv.specs.Reading.{Ready, default_config, reader_config, reader_state, reader_trim}
use Rattle.csv.specs.Reading.{records_from, source_of}
use Rattle.csv.specs.declared.parser.State.{State}
use Rattle.csv.specs.declared.reader.Reader.{Reader}
use Rattle.csv.specs.declared.reader.Trim.TheVariants as trim

-- the bytes that a reader over a slice has left
abbrev pub bytes_left : Reader (Bor (List ℕ)) → Option (List ℕ)
bytes_left reader = source_of (λ s. Some s.now) reader

-- the rows of known bytes
unfoldable pub rows_from : State → Option (List ℕ) → List (List (List ℕ))
rows_from state None = []
rows_from state (Some bytes) = records_from default_config (length bytes + 1) state bytes

-- the rows that it has left
abbrev pub rows_left : Reader (Bor (List ℕ)) → List (List (List ℕ))
rows_left reader = rows_from (reader_state reader) (bytes_left reader)

-- it stands between two rows, and reads on by the default reading
pub record IsReading (reader : Reader (Bor (List ℕ))) : Type 0 where
  pub as_it_stands : reader_trim reader ≡ trim.None
  pub by_default : reader_config reader ≡ default_config
  pub ready : Ready reader
  pub known : IsSome (bytes_left reader)
  pub between : ends_at_end (reader_state reader) ≡ false
