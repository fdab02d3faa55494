-- Rows laid to the front of an outbox, one by one.
use Rattle.std.proofs.Common.{◌≡◌, ◌<◌, List, [], ◌∷◌, ◌++◌, length, set, refl, ap, arith}
use Rattle.words.specs.Outboxes.{laid}
use Rattle.words.specs.declared.row.Row.{Row}

pub laid-push : (old xs : List Row) (v : Row) → length xs < length old → set (laid xs old) (length xs) v ≡ laid (xs ++ v ∷ []) old
laid-push [] xs v h = let no : ⊥ = omega arith in absurd no
laid-push (o ∷ old) [] v h = refl
laid-push (o ∷ old) (x ∷ xs) v h = ap (λ (r : List Row). x ∷ r) (laid-push old xs v (omega arith))
