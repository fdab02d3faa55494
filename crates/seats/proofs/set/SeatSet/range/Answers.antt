use Rattle.std.proofs.Common.{◌≡◌, ℕ, ◌+◌, ◌-◌, ◌*◌, ◌%◌, ◌^◌, ◌<◌, ◌≤◌, ap, ◌∙◌, arith, pow_mono, rules}
use lib.Pow.{ones_lt}
use Rattle.std.proofs.lemmas.Nat.{one_shl, shl_whole, shl_below}
use Rattle.seats.specs.Sets.{member}
use Rattle.seats.proofs.SetFacts.{member-range}
use Rattle.seats.proofs.set.SeatSet.range.Goals as goal

-- the shifts lose nothing
range-is : (o l : ℕ) → o + l ≤ 16 → (((1 * 2 ^ l) % 2 ^ 32 - 1) * 2 ^ o) % 2 ^ 32 ≡ (2 ^ l - 1) * 2 ^ o
range-is o l h = rw (one_shl l 32 (omega arith)) (shl_whole (2 ^ l - 1) l o 32 (ones_lt l) (omega arith))

range-below : (o l : ℕ) → o + l ≤ 16 → (2 ^ l - 1) * 2 ^ o < 2 ^ 16
range-below o l h =
    let a = shl_below (2 ^ l - 1) l o (ones_lt l) in
    let u : l + o ≤ 16 = omega arith in
    let b : 2 ^ (l + o) ≤ 2 ^ 16 = pow_mono u in
    omega arith

pub overflow_cast-result : goal.overflow_cast-result
overflow_cast-result c =
    let h : c.args.first + c.args.count ≤ 16 = omega arith in
    let b = range-below c.args.first c.args.count h in
    rw (range-is c.args.first c.args.count h) (search rules)

pub invariant_of-result : goal.invariant_of-result
invariant_of-result c =
    let h : c.args.first + c.args.count ≤ 16 = omega arith in
    record { small = rw (range-is c.args.first c.args.count h) (range-below c.args.first c.args.count h) }

pub returns : goal.returns
returns c k =
    let h : c.args.first + c.args.count ≤ 16 = omega arith in
    ap (λ (n : ℕ). member n k) (range-is c.args.first c.args.count h) ∙ member-range c.args.first c.args.count k
