-- What a queue keeps of a post.
use Rattle.std.specs.Prelude.{◌≡◌, ℕ, true, false, List, [], ◌∷◌, ◌++◌, length, Some, None, Option, nat_le}
use Rattle.std.proofs.Common.{sym, ap, inl, inr, refl, subst, arith}
use Rattle.words.proofs.NoteFacts.{note-back}
use Rattle.words.specs.Notes.{note_of, note_in, row_of}
use Rattle.words.specs.declared.notification.Notification.{Notification}
use Rattle.words.specs.declared.row.Row.{Row}
use Rattle.lines.specs.Lines.{In, there, notes_in}
use Rattle.lines.specs.Ring.{pushed}

-- a full queue keeps what it held
pub full-drops : (k : ℕ) (xs ys : List Row) (w : Row) → nat_le k (length xs) ≡ true → ys ≡ pushed k xs w → notes_in ys ≡ notes_in xs
full-drops k xs ys w f e = ap notes_in (grind arith)

pub in-there : {A : Type 0} (y : A) (o : Option A) (xs : List A) → In y xs → In y (there o xs)
in-there y None xs h = h
in-there y (Some x) xs h = inr h

in-end : (n : Notification) (xs : List Row) → In (note_of n) (notes_in (xs ++ row_of (note_of n) ∷ []))
in-end n [] = subst (λ o. In (note_of n) (there o [])) (note-back n) (inl refl)
in-end n (x ∷ xs) = in-there (note_of n) (note_in x) (notes_in (xs ++ row_of (note_of n) ∷ [])) (in-end n xs)

-- any other holds what is posted
pub free-keeps : (k : ℕ) (xs ys : List Row) (n : Notification) → nat_le k (length xs) ≡ false → ys ≡ pushed k xs (row_of (note_of n)) → In (note_of n) (notes_in ys)
free-keeps k xs ys n f e =
    let p : ys ≡ xs ++ row_of (note_of n) ∷ [] = grind arith in
    subst (λ ws. In (note_of n) (notes_in ws)) (sym p) (in-end n xs)
