-- What the iterator over a log's records has left.
use Rattle.std.specs.Prelude.{List, ◌++◌, take, drop}
use Rattle.records.specs.Recs.{Rec}
use Rattle.logs.specs.declared.log.Log.{Ghosts as LogMeans}
use Rattle.logs.specs.declared.listing.Records.{Records}

abbrev pub records_left : {L : Type 0} → LogMeans L → Records L → List Rec
records_left m r = drop r.numbers.start (take r.numbers.end (m.safe r.log.now ++ m.loose r.log.now))
