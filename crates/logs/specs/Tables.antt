-- A table of records, of which the first `used` count, and the first `secured` of these are safe.
use Rattle.std.specs.Prelude.{ℕ, List, take, drop}
use Rattle.records.specs.Recs.{Rec}

unfoldable pub safe_of : ℕ → ℕ → List Rec → List Rec
safe_of secured used rs = take secured (take used rs)

unfoldable pub loose_of : ℕ → ℕ → List Rec → List Rec
loose_of secured used rs = drop secured (take used rs)
