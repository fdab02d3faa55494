-- What adding a record to a log does.
use Rattle.std.specs.Prelude.{ℕ, ◌+◌, Bool, cond, List, [], ◌∷◌, ◌++◌, length, Ok, Err, Result, nat_lt}
use Rattle.records.specs.Recs.{Rec}
use Rattle.logs.specs.declared.log.Full.{Full}

-- the two lists leave a place free
abbrev pub has_room : ℕ → List Rec → List Rec → Bool
has_room most safe loose = nat_lt (length safe + length loose) most

-- the loose list gains the record, unless the log is full
abbrev pub loose_after : ℕ → List Rec → List Rec → Rec → List Rec
loose_after most safe loose r = cond (has_room most safe loose) (loose ++ r ∷ []) loose

-- done, or full with the capacity
abbrev pub add_answer : ℕ → List Rec → List Rec → Result (Unit {0}) Full
add_answer most safe loose = cond (has_room most safe loose) (Ok tt) (Err (record { capacity = most }))
