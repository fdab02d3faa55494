use Rattle.std.proofs.Common.{◌≡◌, ℕ, ◌+◌, ◌*◌, ◌/◌, ◌<◌, ◌≤◌, true, ◌&&◌, ◌||◌, ltb, leb, List, [], ◌∷◌, ◌++◌, ◌-◌, length, get_or, sym, ap, ◌∙◌, ap₂, arith}
use Rattle.std.proofs.lemmas.Bool.Decides.{nat_tests}
use Rattle.std.specs.Simd.{first_chunks}
use Rattle.records.specs.Pairs.{pair, after, covers, pairs_in}
use Rattle.records.specs.Ranged.{held, Written}
use Rattle.records.specs.declared.ranges.Pair.{Pair}
use Rattle.records.proofs.PairFacts.{clash, covers-push}
use Rattle.seats.proofs.SetFacts.{or_swap, same_bits}
use Rattle.records.proofs.CellFacts.{padded-zero, length-pairs_in, padded-pairs_in, pairs_in-split, pairs_in-more, parted-mid, chunk-at}
use Rattle.records.proofs.ranges.Ranges.read_seats.Goals as goal

-- the places behind the pairs that are written are zero
zeros : (c : ℕ) (bs : List ℕ) → Written c bs → (k : ℕ) → 2 * c ≤ k → get_or bs k 0 ≡ 0
zeros c bs w k l = let n = length-pairs_in c bs in ap (λ (x : List ℕ). get_or x k 0) w.unused ∙ padded-zero 8 (pairs_in c bs) k (omega arith)

-- each pair that is written follows those before it
follows : (c i : ℕ) (bs : List ℕ) → Written c bs → i < c
    → (leb (after 0 (pairs_in i bs)) (get_or bs (2 * i) 0) && (leb 1 (get_or bs (2 * i + 1) 0) && leb (get_or bs (2 * i) 0 + get_or bs (2 * i + 1) 0) 16)) ≡ true
follows c i bs w l =
    let s = pairs_in-split i c bs l in
    let F = parted-mid 0 16 (pairs_in i bs) (pair (get_or bs (2 * i) 0) (get_or bs (2 * i + 1) 0)) s.0 (rw s.1 at w.apart) in
    let a = F.low in
    let b = F.some in
    let u = F.high in
    grind (arith, nat_tests)

-- chunk i of the first 2 * c bytes holds the two bytes of pair i
chunk : (c i : ℕ) (bs xs : List ℕ) (cs : List (List ℕ)) → cs ≡ first_chunks 2 (length xs / 2) xs → length xs ≡ 2 * c → ((k : ℕ) → (d : ℕ) → k < 2 * c → get_or xs k d ≡ get_or bs k d) → i < c
    → get_or cs i [] ≡ get_or bs (2 * i) 0 ∷ (get_or bs (2 * i + 1) 0 ∷ [])
chunk c i bs xs cs e n same l =
    let x = same (2 * i) 0 (omega arith) in
    let y = same (2 * i + 1) 0 (omega arith) in
    rw e (chunk-at (length xs / 2) i xs (omega arith) (omega arith)) ∙ ap₂ (λ (u v : ℕ). u ∷ (v ∷ [])) x y

pub returns-then-not-all_zero : goal.returns-then-not-all_zero
returns-then-not-all_zero c w =
    let u = c.from-used.ensures in
    clash c.all_zero.result
    (c.all_zero.ensures.1 (λ k l. c.split_at.ensures.by_index.2 k 0 ∙ zeros c.args.count c.args.cells.now w (2 * c.from-used.result + k) (omega arith)))
    c.if-not-all_zero.true

pub returns-then-not-fits : goal.returns-then-not-fits
returns-then-not-fits c w =
    let bs = c.args.cells.now in
    let i = c.loop-offset.offset-index in
    let u = c.from-used.ensures in
    let n = c.split_at.ensures.front_len in
    let g = c.as_chunks.ensures.front_len in
    let t = c.loop-offset-test.true in
    let e = chunk c.from-used.result i bs c.split_at.result.0.now c.as_chunks.result.0.now c.as_chunks.ensures.front n c.split_at.ensures.by_index.1 (omega arith) in
    let inv : held c.loop-offset.ranges ≡ pairs_in i bs = c.loop-offset.invariant.0 in
    let f = rw (inv, e) at c.fits.ensures in
    clash c.fits.result (f ∙ follows c.args.count i bs w (omega arith)) c.if-not-fits.true

pub loop-offset-preserved : goal.loop-offset-preserved
loop-offset-preserved c =
    let bs = c.args.cells.now in
    let i = c.loop-offset.offset-index in
    let n = c.split_at.ensures.front_len in
    let g = c.as_chunks.ensures.front_len in
    let t = c.loop-offset-test.true in
    let e = chunk c.from-used.result i bs c.split_at.result.0.now c.as_chunks.result.0.now c.as_chunks.ensures.front n c.split_at.ensures.by_index.1 (omega arith) in
    let inv : held c.loop-offset.ranges ≡ pairs_in i bs = c.loop-offset.invariant.0 in
    let was = held c.loop-offset.ranges in
    let x = get_or c.as_chunks.result.0.now i [] in
    let p : Pair = pair (get_or x 0 0) (get_or x 1 0) in (
      c.push.ensures
          ∙ ap₂ (λ (ps : List Pair) (x : List ℕ). ps ++ pair (get_or x 0 0) (get_or x 1 0) ∷ []) inv e
          ∙ sym (pairs_in-more i bs),
      λ k.
          c.union-seats.ensures k ∙ ap₂ ◌||◌ (c.loop-offset.invariant.1 k) (c.in-Some.ensures k) ∙ or_swap (covers was k) (leb p.offset k && ltb k (p.offset + p.length))
          ∙ sym (covers-push was p k) ∙ ap (λ (ps : List Pair). covers ps k) (sym c.push.ensures),
    )

pub returns : goal.returns
returns c =
    let bs = c.args.cells.now in
    let r = c.loop-offset.ranges in
    let i = c.loop-offset.offset-index in
    let u = c.from-used.ensures in
    let n = c.split_at.ensures.front_len in
    let g = c.as_chunks.ensures.front_len in
    let end = c.loop-offset.auto.offset-index-end in
    let t = c.loop-offset-test.false in
    let m : i ≡ c.args.count = omega arith in
    let inv : held r ≡ pairs_in i bs = c.loop-offset.invariant.0 in
    let f : held r ≡ pairs_in c.args.count bs = inv ∙ ap (λ (m : ℕ). pairs_in m bs) m in
    let zero = c.all_zero.ensures.0 c.if-not-all_zero.false in
    let back = c.split_at.ensures.back_len in
    let z : (k : ℕ) → 2 * c.args.count ≤ k → k < 16 → get_or bs k 0 ≡ 0 = λ k l h.
    let j : 2 * c.from-used.result + (k - 2 * c.from-used.result) ≡ k = omega arith in
    ap (λ (x : ℕ). get_or bs x 0) (sym j) ∙ sym (c.split_at.ensures.by_index.2 (k - 2 * c.from-used.result) 0)
    ∙ zero (k - 2 * c.from-used.result) (omega (arith, c.requires)) in (
      record { few = omega arith; apart = rw f at r.apart; unused = padded-pairs_in 8 c.args.count bs c.requires (omega arith) z },
      same_bits 16 c.loop-offset.seats.bits (covers (pairs_in c.args.count bs)) c.loop-offset.seats.small
          (λ k l. c.loop-offset.invariant.1 k ∙ ap (λ (ps : List Pair). covers ps k) f),
    )
