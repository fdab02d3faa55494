-- What a ring in a buffer holds, and the two ends of a list.
use Rattle.std.specs.Prelude.{ℕ, cond, List, [], ◌∷◌, ◌++◌, length, take, drop, Some, None, Option, nat_lt}

module _ {A : Type 0} where
  -- the buffer from h on, and then what stands before h
  unfoldable pub turned : List A → ℕ → List A
  turned b h = drop h b ++ take h b

  -- the first n of it
  unfoldable pub ring : List A → ℕ → ℕ → List A
  ring b h n = take n (turned b h)

  -- the oldest, if there is one
  abbrev pub first : List A → Option A
  first [] = None
  first (x ∷ xs) = Some x

  -- all but the oldest
  abbrev pub rest : List A → List A
  rest [] = []
  rest (x ∷ xs) = xs

  -- one more at the end, if fewer than n are there
  abbrev pub pushed : ℕ → List A → A → List A
  pushed n xs x = cond (nat_lt (length xs) n) (xs ++ x ∷ []) xs
