-- What a log of either kind means: what the log that was chosen means.
use Rattle.std.specs.Prelude.{ℕ, ◌+◌, ◌≤◌, List, length}
use Rattle.choices.specs.declared.either.Either.{Either}
use Rattle.choices.specs.declared.either.Either.TheVariants.{First, Second}
use Rattle.logs.specs.declared.log.Log.{Ghosts as LogMeans}
use Rattle.records.specs.Recs.{Rec}

module _ {A B : Type 0} (ma : LogMeans A) (mb : LogMeans B) where
  abbrev pub safe_by : Either A B → List Rec
  safe_by (First a) = ma.safe a
  safe_by (Second b) = mb.safe b

  abbrev pub loose_by : Either A B → List Rec
  loose_by (First a) = ma.loose a
  loose_by (Second b) = mb.loose b

  abbrev pub capacity_by : Either A B → ℕ
  capacity_by (First a) = ma.capacity a
  capacity_by (Second b) = mb.capacity b

  abbrev pub survives_by : Either A B → ℕ → ℕ
  survives_by (First a) n = ma.survives a n
  survives_by (Second b) n = mb.survives b n

  -- the two facts of every log
  abbrev pub within_by : (s : Either A B) → length (safe_by s) + length (loose_by s) ≤ capacity_by s
  within_by (First a) = ma.within a
  within_by (Second b) = mb.within b

  abbrev pub atmost_by : (s : Either A B) (n : ℕ) → survives_by s n ≤ length (loose_by s)
  atmost_by (First a) n = ma.atmost a n
  atmost_by (Second b) n = mb.atmost b n
