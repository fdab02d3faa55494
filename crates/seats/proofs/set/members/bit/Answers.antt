use Rattle.std.proofs.Common.{◌≡◌, ℕ, ◌*◌, ◌%◌, ◌^◌, ap, ◌∙◌}
use Rattle.std.proofs.lemmas.Nat.{one_shl}
use Rattle.seats.specs.Sets.{member}
use Rattle.seats.proofs.SetFacts.{member-one}
use Rattle.seats.proofs.set.members.bit.Goals as goal

pub returns-clause-members : goal.returns-clause-members
returns-clause-members c k =
    let v = c.args.seat.value in
    let e : (1 * 2 ^ c.number.result) % 65536 ≡ 2 ^ v = ap (λ (n : ℕ). (1 * 2 ^ n) % 65536) c.number.ensures ∙ one_shl v 16 c.args.seat.small in
    ap (λ (n : ℕ). member n k) e ∙ member-one v k
