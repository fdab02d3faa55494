-- A line that is printed by two writes.
use Rattle.std.proofs.Common.{◌≡◌, List, ◌++◌, ℕ, codes, decimal, ap, append_assoc}

pub line-joined : (n m : ℕ) (t u v : List ℕ) → n ≡ m → t ≡ u → (codes "fault " ++ (decimal n ++ (codes ", " ++ t))) ++ v ≡ codes "fault " ++ (decimal m ++ (codes ", " ++ (u ++ v)))
line-joined n m t u v d e = rw d (rw e (ap (λ r. codes "fault " ++ r) (append_assoc (decimal m) (codes ", " ++ u) v)))
