-- No log holds more than its capacity, and no restart keeps more than there was: what the logs of this crate owe.
use Rattle.std.specs.Prelude.{◌≡◌, ℕ, ◌+◌, ◌≤◌, min, List, ◌++◌, length, take, drop}
use lib.ListN.{length-map}
use Rattle.std.proofs.Common.{sym, ap, ◌∙◌, arith, length-append, length-take, take-append-drop}
use Rattle.records.specs.Recs.{Rec}
use Rattle.records.specs.declared.record.Record.{Record}
use Rattle.logs.specs.Gathering.{first_of}
use Rattle.logs.specs.Tables.{safe_of, loose_of}

pub smaller : (m n : ℕ) → min m n ≤ m
smaller m n = omega arith

pub table-within : (secured used most : ℕ) (rs : List Rec) → used ≤ most → length (safe_of secured used rs) + length (loose_of secured used rs) ≤ most
unfolding safe_of loose_of
table-within a b most rs h =
    let e : length (take a (take b rs)) + length (drop a (take b rs)) ≡ length (take b rs) =
    sym (length-append (take a (take b rs)) (drop a (take b rs))) ∙ ap length (take-append-drop a (take b rs)) in
    omega (arith, e, length-take b rs)

pub held-within : (most : ℕ) (s l : List Rec) (n : ℕ) (held : List Record) → length s + length l + n ≤ most → length s + length (l ++ first_of n held) ≤ most
unfolding first_of
held-within most s l n held w = simp (length-append, length-map, length-take) (omega arith)

pub held-atmost : (k : ℕ) (l rs : List Rec) → k ≤ length l → k ≤ length (l ++ rs)
held-atmost k l rs h = simp length-append (omega arith)
