-- Membership, steps in their order, and the notifications of a list of rows.
use Rattle.std.specs.Prelude.{◌≡◌, ℕ, zero, suc, ◌+◌, ◌%◌, ◌^◌, ◌⊎◌, List, [], ◌∷◌, Some, None, Option}
use Rattle.words.specs.Notes.{Note, note_in}
use Rattle.words.specs.declared.row.Row.{Row}

module _ {A : Type 0} where
  -- x is one of the list
  abbrev pub In : A → List A → Type 0
  In x [] = ⊥
  In x (y ∷ ys) = (x ≡ y) ⊎ In x ys

  -- each of xs is one of ys
  unfoldable pub Within : List A → List A → Type 0
  Within xs ys = (x : A) → In x xs → In x ys

  -- with the value in front, if it is there
  abbrev pub there : Option A → List A → List A
  there None xs = xs
  there (Some x) xs = x ∷ xs

-- from s to t by one step for each of the list, in its order
abbrev pub Chain : {S A : Type 0} → (S → A → S → Type 0) → S → List A → S → Type 0
Chain R s [] t = s ≡ t
Chain {S} R s (x ∷ xs) t = (m : S) × R s x m × Chain R m xs t

-- what the rows stand for, in order; those that are no notification's are passed over
abbrev pub notes_in : List Row → List Note
notes_in [] = []
notes_in (w ∷ ws) = there (note_in w) (notes_in ws)

-- a number of posts after n more, each wrapping at 2 ^ 64
abbrev pub wound : ℕ → ℕ → ℕ
wound zero p = p
wound (suc n) p = (wound n p + 1) % 2 ^ 64
