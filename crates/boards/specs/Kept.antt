-- A board keeps whatever is posted.
use Rattle.std.specs.Prelude.{◌≡◌, ℕ, zero, suc, ◌+◌, ◌*◌, ◌<◌, Bool, true, false, cond, List, [], ◌∷◌, length, slice_set}
use Rattle.std.proofs.Common.{sym, inl, refl, subst, arith}
use Rattle.words.proofs.NoteFacts.{note-back}
use Rattle.words.specs.Kinds.{goes_up}
use Rattle.words.specs.Notes.{note_of, note_in, row_of, cell_of}
use Rattle.words.specs.declared.notification.Notification.{Notification}
use Rattle.words.specs.declared.row.Row.{Row}
use Rattle.lines.specs.Kept.{in-there}
use Rattle.lines.specs.Lines.{In, there, notes_in}
use Rattle.boards.specs.Sizes.{cell_count}

-- a board is never full
pub never : {A : Type 0} → false ≡ true → A
never e = let no : ⊥ = grind arith in absurd no

in-set : (n : Notification) (ws : List Row) (i : ℕ) → i < length ws → In (note_of n) (notes_in (slice_set ws i (row_of (note_of n))))
in-set n [] i h = let no : ⊥ = omega arith in absurd no
in-set n (w ∷ ws) zero h = subst (λ o. In (note_of n) (there o (notes_in ws))) (note-back n) (inl refl)
in-set n (w ∷ ws) (suc i) h = in-there (note_of n) (note_in w) (notes_in (slice_set ws i (row_of (note_of n)))) (in-set n ws i (omega arith))

in-cells : (n : Notification) (b : Bool) → 2 * n.seat.value + cond b 1 0 < 32
in-cells n true = let h = n.seat.small in omega arith
in-cells n false = let h = n.seat.small in omega arith

-- its cell is one of the board's
pub keeps-posted : (ws vs : List Row) (n : Notification) → length ws ≡ cell_count → vs ≡ slice_set ws (cell_of (note_of n)) (row_of (note_of n)) → In (note_of n) (notes_in vs)
keeps-posted ws vs n l e =
    let k = in-cells n (goes_up n.kind) in
    subst (λ us. In (note_of n) (notes_in us)) (sym e) (in-set n ws (cell_of (note_of n)) (omega (arith, k, l)))
