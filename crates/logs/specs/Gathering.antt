-- Records that are held back over a log.
use Rattle.std.specs.Prelude.{ℕ, ◌+◌, cond, List, ◌++◌, map, take, nat_le, nat_lt}
use Rattle.records.specs.Recs.{Rec, model_of}
use Rattle.records.specs.declared.record.Record.{Record}
use Rattle.logs.specs.Sizes.{held_length}

-- what the first n records of a table mean
unfoldable pub first_of : ℕ → List Record → List Rec
first_of n rs = map model_of (take n rs)

-- how many are held after one more is given, over a log with so many places to spare: none more if it is full, and the ninth alone
abbrev pub holding_after : ℕ → ℕ → ℕ
holding_after spare n = cond (nat_le spare n) n (cond (nat_lt n held_length) (n + 1) 1)

-- the loose list below after one more is given, over a log with so many places to spare: what is held goes behind it when a ninth comes that still fits, and at no other time
abbrev pub below_after : ℕ → ℕ → List Rec → List Rec → List Rec
below_after spare n loose held = cond (nat_le spare n) loose (cond (nat_lt n held_length) loose (loose ++ held))
