-- A journal holds no more than its capacity.
use Rattle.std.specs.Prelude.{ℕ, ◌+◌, ◌*◌, ◌/◌, ◌≤◌, length, vec_items, vec_len, Vec}
use Rattle.std.proofs.Common.{arith}
use Rattle.std.specs.declared.alloc.Global.{Global}
use Rattle.records.specs.Sizes.{record_length}
use Rattle.logs.specs.Bounds.{table-within}
use Rattle.logs.specs.Tables.{safe_of, loose_of}
use Rattle.journals.specs.Slots.{recs_in}

pub journal-within : (secured used : ℕ) (bytes : Vec ℕ Global) → record_length * used ≤ vec_len bytes
    → length (safe_of secured used (recs_in (vec_items bytes))) + length (loose_of secured used (recs_in (vec_items bytes))) ≤ vec_len bytes / record_length
journal-within a b bytes h = table-within a b (vec_len bytes / record_length) (recs_in (vec_items bytes)) (omega arith)
