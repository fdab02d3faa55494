use Rattle.std.proofs.Common.{◌≡◌, true, ◌&&◌, get_or, ltb, None, ap, ◌∙◌, arith}
use Rattle.std.proofs.lemmas.Bool.Decides.{nat_tests}
use Rattle.agreement.specs.CoordinatorRules.{voted_durable}
use Rattle.seats.proofs.SetFacts.{same_bits}
use Rattle.seats.specs.Sizes.{seat_count}
use Rattle.coordinator.proofs.Coordinator.voted_seats.Goals as goal

pub returns : goal.returns
returns c =
    same_bits seat_count c.loop-number.seats.bits (λ s. voted_durable (get_or c.args.self.now.table s None)) c.loop-number.seats.small
    (λ k h. let passed : ltb k c.loop-number.number ≡ true = grind (arith, nat_tests) in
    c.loop-number.invariant k ∙ ap (λ b. b && voted_durable (get_or c.args.self.now.table k None)) passed)
