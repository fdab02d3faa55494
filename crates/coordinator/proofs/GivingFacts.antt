-- Notifications given to a table's seats, one place after another.
use Rattle.std.proofs.Common.{◌≡◌, ℕ, zero, suc, ◌+◌, ◌<◌, ◌≤◌, Bool, true, false, cond, List, [], ◌∷◌, ◌++◌, length, map, take, set, get_or, None, sym, refl, ap, ap₂, ◌∙◌, add-one, add-zero, append-nil, length-append, arith}
use lib.ListN.{length-map}
use Rattle.std.proofs.lemmas.List.{map-append}
use Rattle.agreement.specs.CoordinatorRules.{to_each}
use Rattle.agreement.specs.Names.{Place}
use Rattle.agreement.specs.Turns.{note}
use Rattle.words.proofs.OutboxFacts.{laid-push}
use Rattle.words.specs.Notes.{Note, row_of}
use Rattle.words.specs.Outboxes.{laid}
use Rattle.words.specs.declared.kind.Kind.{Kind}
use Rattle.words.specs.declared.row.Row.{Row}

-- the notifications to the first i places are laid to the front of an outbox, and there are so many
pub record Laying (t : ℕ) (k : Kind) (q : Place → Bool) (ps : List Place) (old : List Row) (i sent : ℕ) (rows : List Row) : Type 0 where
  pub few : sent ≤ i
  pub count : sent ≡ length (to_each t k q 0 (take i ps))
  pub front : rows ≡ laid (map row_of (to_each t k q 0 (take i ps))) old

each-more : (t : ℕ) (k : Kind) (q : Place → Bool) (j : ℕ) (ps : List Place) (i : ℕ) → i < length ps
    → to_each t k q j (take (suc i) ps) ≡ to_each t k q j (take i ps) ++ cond (q (get_or ps i None)) (note t (j + i) k ∷ []) []
each-more t k q j [] i h = let no : ⊥ = omega arith in absurd no
each-more t k q j (p ∷ ps) zero h = rw add-zero refl
each-more t k q j (p ∷ ps) (suc i) h =
    let same : suc j + i ≡ j + suc i = omega arith in
    let more : to_each t k q (suc j) (take (suc i) ps) ≡ to_each t k q (suc j) (take i ps) ++ cond (q (get_or ps i None)) (note t (j + suc i) k ∷ []) [] =
    rw same at (each-more t k q (suc j) ps i (omega arith)) in
    ap (λ (ns : List Note). cond (q p) (note t j k ∷ ns) ns) more ∙ both (q p)
  where
    both : (b : Bool) → cond b (note t j k ∷ (to_each t k q (suc j) (take i ps) ++ cond (q (get_or ps i None)) (note t (j + suc i) k ∷ []) [])) (to_each t k q (suc j) (take i ps) ++ cond (q (get_or ps i None)) (note t (j + suc i) k ∷ []) [])
        ≡ cond b (note t j k ∷ to_each t k q (suc j) (take i ps)) (to_each t k q (suc j) (take i ps)) ++ cond (q (get_or ps i None)) (note t (j + suc i) k ∷ []) []
    both true = refl
    both false = refl

row-more : (old : List Row) (ns : List Note) (n : Note) (v : Row) → v ≡ row_of n → length ns < length old → set (laid (map row_of ns) old) (length ns) v ≡ laid (map row_of (ns ++ n ∷ [])) old
row-more old ns n v e h =
    let len : length (map row_of ns) ≡ length ns = length-map ns row_of in
    ap (λ (i : ℕ). set (laid (map row_of ns) old) i v) (sym len)
    ∙ laid-push old (map row_of ns) v (omega arith)
    ∙ ap (λ (xs : List Row). laid xs old) (ap (λ (w : Row). map row_of ns ++ w ∷ []) e ∙ sym (map-append row_of ns (n ∷ [])))

module _ (t : ℕ) (k : Kind) (q : Place → Bool) (ps : List Place) (old : List Row) (i sent : ℕ) (rows : List Row) (l : Laying t k q ps old i sent rows) (h : i < length ps) where
  -- place i is of another group
  pub laying_none : q (get_or ps i None) ≡ false → Laying t k q ps old (i + 1) sent rows
  laying_none e =
      let more : to_each t k q 0 (take (i + 1) ps) ≡ to_each t k q 0 (take i ps) =
      rw add-one (each-more t k q 0 ps i h) ∙ ap (λ (b : Bool). to_each t k q 0 (take i ps) ++ cond b (note t (0 + i) k ∷ []) []) e ∙ append-nil _ in
      record { few = omega (arith, l.few); count = l.count ∙ ap length (sym more); front = l.front ∙ ap (λ (ns : List Note). laid (map row_of ns) old) (sym more) }

  -- place i is of the group
  pub laying_one : q (get_or ps i None) ≡ true → length ps ≤ length old → (v : Row) → v ≡ row_of (note t i k) → Laying t k q ps old (i + 1) (sent + 1) (set rows sent v)
  laying_one e room v w =
      let here : 0 + i ≡ i = omega arith in
      let more : to_each t k q 0 (take (i + 1) ps) ≡ to_each t k q 0 (take i ps) ++ note t i k ∷ [] =
      rw add-one (each-more t k q 0 ps i h) ∙ ap (λ (b : Bool). to_each t k q 0 (take i ps) ++ cond b (note t (0 + i) k ∷ []) []) e
      ∙ ap (λ (s : ℕ). to_each t k q 0 (take i ps) ++ note t s k ∷ []) here in
      let count : sent ≡ length (to_each t k q 0 (take i ps)) = l.count in
      let fits : length (to_each t k q 0 (take i ps)) < length old = omega (arith, l.few) in
      record {
        few = omega (arith, l.few);
        count = ap (λ (n : ℕ). n + 1) count ∙ sym (length-append (to_each t k q 0 (take i ps)) (note t i k ∷ [])) ∙ ap length (sym more);
        front =
            ap₂ (λ (rs : List Row) (n : ℕ). set rs n v) l.front count
            ∙ row-more old (to_each t k q 0 (take i ps)) (note t i k) v w fits ∙ ap (λ (ns : List Note). laid (map row_of ns) old) (sym more);
      }
