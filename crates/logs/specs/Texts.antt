-- The texts of this crate.
use Rattle.std.specs.Prelude.{ℕ, List, ◌++◌, codes, decimal}
use Rattle.logs.specs.declared.log.Full.{Full}

abbrev pub full_text : Full → List ℕ
full_text full = codes "the log is full: its capacity is " ++ decimal full.capacity
