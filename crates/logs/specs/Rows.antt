-- The rows of a table that are records'.
use Rattle.std.specs.Prelude.{ℕ, ◌<◌, List, ◌≢◌, slice_index_or}
use Rattle.records.specs.Recs.{model_of}
use Rattle.records.specs.Rows.{row_means}
use Rattle.records.specs.declared.record.Record.{Record}
use Rattle.records.specs.declared.row.Row.{Row}

abbrev pub blank_row : Row
blank_row = record { transaction = 0; kind = 0; seats = 0 }

-- a row that is no record's
abbrev pub AlienRow : Row → Type 0
AlienRow w = (r : Record) → row_means w ≢ model_of r

-- none of the first `used` rows is such a one
abbrev pub RowsSound : ℕ → List Row → Type 0
RowsSound used rows = (i : ℕ) → i < used → AlienRow (slice_index_or rows i blank_row) → ⊥
