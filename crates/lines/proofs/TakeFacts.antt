-- What a push and a pop leave waiting.
use Rattle.std.proofs.Common.{◌≡◌, ℕ, Bool, true, false, cond, ltb, ◌⊎◌, List, [], ◌∷◌, ◌++◌, length, IfSome, Some, None, Option, sym, refl, ap, ◌∙◌, subst, inl, inr, arith}
use Rattle.std.specs.Option.{option_map}
use Rattle.words.specs.declared.row.Row.{Row}
use Rattle.words.specs.Notes.{Note}
use Rattle.words.specs.declared.notification.Notification.{Notification}
use Rattle.words.specs.Notes.{note_of, note_in, row_of}
use Rattle.lines.specs.Ring.{first, rest, pushed}
use Rattle.lines.specs.Kept.{in-there}
use Rattle.lines.specs.Lines.{In, Within, there, notes_in}
use Rattle.words.proofs.NoteFacts.{note-back}
use Rattle.lines.proofs.MemberFacts.{within-eq, within-left, notes_in-append}

module _ {A : Type 0} where
  pub in-there-here : (y : A) (o : Option A) (xs : List A) → Some y ≡ o → In y (there o xs)
  in-there-here y None xs e = let z : ◌≡◌ {A = ℕ} 0 1 = cc in absurd (omega arith)
  in-there-here y (Some x) xs e = inl (cc)

  pub there-cases : (y : A) (o : Option A) (xs : List A) → In y (there o xs) → (Some y ≡ o) ⊎ In y xs
  there-cases y None xs h = inr h
  there-cases y (Some x) xs (inl e) = inl (ap Some e)
  there-cases y (Some x) xs (inr h) = inr h

  pub in-first : (xs : List A) (x : A) → Some x ≡ first xs → In x xs
  in-first [] x e = let z : ◌≡◌ {A = ℕ} 0 1 = cc in absurd (omega arith)
  in-first (y ∷ ys) x e = inl (cc)

-- the queue
pub within-posted : (k : ℕ) (xs : List Row) (n : Note) → Some n ≡ note_in (row_of n) → Within (notes_in (pushed k xs (row_of n))) (notes_in xs ++ n ∷ [])
within-posted k xs n back = go (ltb (length xs) k)
  where
    go : (t : Bool) → Within (notes_in (cond t (xs ++ row_of n ∷ []) xs)) (notes_in xs ++ n ∷ [])
    go true = within-eq _ _ (notes_in-append xs (row_of n ∷ []) ∙ ap (λ o. notes_in xs ++ there o []) (sym back))
    go false = within-left (notes_in xs) (n ∷ [])

pub within-rest : (xs : List Row) → Within (notes_in (rest xs)) (notes_in xs)
unfolding Within
within-rest [] y h = h
within-rest (x ∷ xs) y h = in-there y (note_in x) (notes_in xs) h

-- an answer that is one of the list
pub waited-in : (o : Option Notification) (xs : List Note) → ((n : Note) → Some n ≡ option_map note_of o → In n xs) → IfSome o (λ n. In (note_of n) xs)
waited-in None xs h = tt
waited-in (Some n) xs h = h (note_of n) refl

-- the same of a queue after a post and a take
pub posted-within : (k : ℕ) (xs rs : List Row) (n : Notification) (w : Row) → rs ≡ pushed k xs w → w ≡ row_of (note_of n) → Within (notes_in rs) (notes_in xs ++ note_of n ∷ [])
posted-within k xs rs n w e f = subst (λ (ws : List Row). Within (notes_in ws) (notes_in xs ++ note_of n ∷ [])) (sym (e ∙ ap (pushed k xs) f)) (within-posted k xs (note_of n) (note-back n))

pub taken-within : (xs rs : List Row) → rs ≡ rest xs → Within (notes_in rs) (notes_in xs)
taken-within xs rs e = subst (λ (ws : List Row). Within (notes_in ws) (notes_in xs)) (sym e) (within-rest xs)
