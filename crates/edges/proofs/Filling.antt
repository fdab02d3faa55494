-- A tray is filled with one record, again and again.
use Rattle.std.proofs.Common.{◌≡◌, ℕ, ◌+◌, ◌<◌, Bool, true, cond, [], ◌∷◌, ◌++◌, length, replicate, ◌∙◌, ap, arith}
use Rattle.std.proofs.lemmas.Bool.{lt-ltb}
use Rattle.std.proofs.lemmas.List.{replicate-append-replicate, length-replicate}
use Rattle.logs.specs.Adding.{has_room, loose_after}
use Rattle.records.specs.Recs.{Rec}

pub once_more : (r : Rec) (n : ℕ) → n < 32 → loose_after 32 [] (replicate n r) r ≡ replicate (n + 1) r
once_more r n h =
    let long : length (replicate n r) ≡ n = length-replicate n r in
    let roomy : has_room 32 [] (replicate n r) ≡ true = lt-ltb _ _ (omega arith) in
    ap (λ (b : Bool). cond b (replicate n r ++ r ∷ []) (replicate n r)) roomy ∙ replicate-append-replicate n 1 r
