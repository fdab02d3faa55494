-- A text of bytes grows byte by byte.
use Rattle.std.proofs.Common.{◌≡◌, ℕ, ◌+◌, ◌<◌, List, [], ◌∷◌, ◌++◌, length, get_or, take, refl, ap, ◌∙◌}
use Rattle.std.proofs.lemmas.List.{take_more}
use Rattle.wording.specs.Texts.{byte_text, hex_text}

hex-push : (bs : List ℕ) (b : ℕ) → hex_text (bs ++ b ∷ []) ≡ hex_text bs ++ byte_text b
hex-push [] b = refl
hex-push (x ∷ bs) b = ap (λ (t : List ℕ). byte_text x ++ t) (hex-push bs b)

pub hex-more : (bs : List ℕ) (i : ℕ) → i < length bs → hex_text (take (i + 1) bs) ≡ hex_text (take i bs) ++ byte_text (get_or bs i 0)
hex-more bs i h = ap hex_text (take_more bs i 0 h) ∙ hex-push (take i bs) (get_or bs i 0)
