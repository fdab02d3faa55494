-- Notifications and their rows: a row tells its notification.
use Rattle.std.proofs.Common.{◌≡◌, ℕ, ◌≤◌, Bool, true, false, ltb, Some, None, Option, sym, refl, ap, ◌∙◌, ap₂, arith}
use Rattle.std.proofs.lemmas.Bool.{lt-ltb, le-ltb}
use Rattle.std.proofs.lemmas.Bool.Decides.{nat_tests}
use Rattle.std.specs.Option.{option_map}
use Rattle.seats.proofs.ExactFacts.{exactly-some, exactly-none}
use Rattle.seats.proofs.ValueFacts.{same-seat}
use Rattle.seats.specs.Exactly.{Exactly}
use Rattle.seats.specs.declared.seat.Seat.{Seat}
use Rattle.words.specs.Kinds.{kind_number, kind_at}
use Rattle.words.specs.Notes.{Note, note_of, row_of, note_by, note_in}
use Rattle.words.specs.Rows.{Reads}
use Rattle.words.specs.declared.kind.Kind.{Kind}
use Rattle.words.specs.declared.kind.Kind.TheVariants.{Prepare, Commit, Rollback, Prepared, ReadOnly, Aborted, Committed}
use Rattle.words.specs.declared.notification.Notification.{Notification}
use Rattle.words.specs.declared.row.Row.{Row}

kind-back : (k : Kind) → kind_at (kind_number k) ≡ Some k
kind-back Prepare = refl
kind-back Commit = refl
kind-back Rollback = refl
kind-back Prepared = refl
kind-back ReadOnly = refl
kind-back Aborted = refl
kind-back Committed = refl

-- the number of a kind that is read is the one that was read
pub kind-read : (n : ℕ) (k : Kind) → kind_at n ≡ Some k → kind_number k ≡ n
kind-read n k e = grind (arith, nat_tests)

same_kind : (j k : Kind) → kind_number j ≡ kind_number k → j ≡ k
same_kind j k e = let q : Some j ≡ Some k = sym (kind-back j) ∙ ap kind_at e ∙ kind-back k in cc

-- a notification's row stands for it
pub note-back : (n : Notification) → Some (note_of n) ≡ note_in (row_of (note_of n))
unfolding note_in
note-back n =
    sym (ap₂ (λ (b : Bool) (k : Option Kind). note_by n.transaction n.seat.value b k) (lt-ltb n.seat.value 16 n.seat.small) (kind-back n.kind))

same_row : (n x : Notification) → row_of (note_of n) ≡ row_of (note_of x) → n ≡ x
same_row n x e =
    let t : n.transaction ≡ x.transaction = ap (λ (w : Row). w.transaction) e in
    let s : n.seat ≡ x.seat = same-seat n.seat x.seat (ap (λ (w : Row). w.seat) e) in
    let k : n.kind ≡ x.kind = same_kind n.kind x.kind (ap (λ (w : Row). w.kind) e) in
    λ i. record { transaction = t i; seat = s i; kind = k i }

-- what is read of a row
pub read-both : (w : Row) (s : Seat) (k : Kind) → s.value ≡ w.seat → Some k ≡ kind_at w.kind → Some (note_of (record { transaction = w.transaction; seat = s; kind = k })) ≡ note_in w
unfolding note_in
read-both w s k e f =
    let l = s.small in
    ap (λ (v : ℕ). Some (record { transaction = w.transaction; seat = v; kind = k })) e
    ∙ sym (ap₂ (λ (b : Bool) (o : Option Kind). note_by w.transaction w.seat b o) (lt-ltb w.seat 16 (omega arith)) (sym f))

pub read-no-seat : (w : Row) → 16 ≤ w.seat → None ≡ note_in w
unfolding note_in
read-no-seat w h = sym (ap (λ (b : Bool). note_by w.transaction w.seat b (kind_at w.kind)) (le-ltb w.seat 16 h))

pub read-no-kind : (w : Row) → None ≡ kind_at w.kind → None ≡ note_in w
unfolding note_in
read-no-kind w e = go (ltb w.seat 16) ∙ ap (note_by w.transaction w.seat (ltb w.seat 16)) e
  where
    go : (b : Bool) → None ≡ note_by w.transaction w.seat b None
    go true = refl
    go false = refl

-- an answer that means what the row stands for is exact
pub exact_read : (w : Row) (o : Option Notification) → option_map note_of o ≡ note_in w → Exactly (λ (n : Notification). w ≡ row_of (note_of n)) o
unfolding note_in
exact_read w None e = exactly-none (λ (n : Notification). w ≡ row_of (note_of n)) (λ n q.
    let z : None ≡ Some (note_of n) = e ∙ ap note_in q ∙ sym (note-back n) in
    let y : ◌≡◌ {A = ℕ} 0 1 = cc in
    omega arith)
exact_read w (Some n) e = exactly-some (λ (x : Notification). w ≡ row_of (note_of x)) n is (λ x q. same_row n x (sym is ∙ q))
  where
    back : (b : Bool) (o : Option Kind) (m : Note) → kind_at w.kind ≡ o → Some m ≡ note_by w.transaction w.seat b o → w ≡ row_of m
    back false o m f q = let y : ◌≡◌ {A = ℕ} 0 1 = cc in let no : ⊥ = omega arith in absurd no
    back true None m f q = let y : ◌≡◌ {A = ℕ} 0 1 = cc in let no : ⊥ = omega arith in absurd no
    back true (Some k) m f q =
        let r : m ≡ record { transaction = w.transaction; seat = w.seat; kind = k } = cc in
        ap (λ (c : ℕ). record { transaction = w.transaction; seat = w.seat; kind = c }) (sym (kind-read w.kind k f)) ∙ ap row_of (sym r)

    is : w ≡ row_of (note_of n)
    is = back (ltb w.seat 16) (kind_at w.kind) (note_of n) refl e

pub reads : (w : Row) (o : Option Notification) → option_map note_of o ≡ note_in w → Reads w o
reads w o e = record { exact = exact_read w o e; note = e }
