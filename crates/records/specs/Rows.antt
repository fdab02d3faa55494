-- What a row says, whether it is a record's or not.
use Rattle.records.specs.Recs.{Rec}
use Rattle.records.specs.declared.row.Row.{Row}

abbrev pub row_means : Row → Rec
row_means w = record { transaction = w.transaction; kind = w.kind; seats = w.seats }
