-- What is written of bytes.
use Rattle.std.specs.Prelude.{ℕ, ◌+◌, ◌/◌, ◌%◌, cond, List, [], ◌∷◌, ◌++◌, nat_lt}

-- the code of a hexadecimal digit: from '0' up, and from 'a' up
abbrev pub hex_digit : ℕ → ℕ
hex_digit n = cond (nat_lt n 10) (48 + n) (87 + n)

-- a space and two digits
abbrev pub byte_text : ℕ → List ℕ
byte_text b = 32 ∷ (hex_digit (b / 16) ∷ (hex_digit (b % 16) ∷ []))

-- that of each byte
abbrev pub hex_text : List ℕ → List ℕ
hex_text [] = []
hex_text (b ∷ bs) = byte_text b ++ hex_text bs
