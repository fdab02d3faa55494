-- What a gatherer means as a log, by what the log below means.
use Rattle.std.specs.Prelude.{List, ◌++◌}
use Rattle.records.specs.Recs.{Rec}
use Rattle.logs.specs.Gathering.{first_of}
use Rattle.logs.specs.declared.gatherer.Gatherer.{Gatherer}
use Rattle.logs.specs.declared.log.Log.{Ghosts as LogMeans}

-- what is loose below, and then what is held
abbrev pub loose_in : {L : Type 0} (m : LogMeans L) → Gatherer L m → List Rec
loose_in m g = m.loose g.below ++ first_of g.holding g.held
