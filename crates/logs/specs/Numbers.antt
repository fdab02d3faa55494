-- The numbers of faults.
use Rattle.std.specs.Prelude.{ℕ}

-- a full log's
abbrev pub full_number : ℕ
full_number = 10
