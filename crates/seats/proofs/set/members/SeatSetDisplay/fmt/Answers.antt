use Rattle.std.proofs.Common.{◌≡◌, true, false, sym, ◌∙◌, rules}
use Rattle.std.proofs.Output.{has_written_append, has_written_of_eq}
use Rattle.seats.specs.Sets.{member}
use Rattle.seats.specs.Texts.{seats_below}
use Rattle.seats.proofs.TextFacts.{seats-more}
use Rattle.seats.proofs.set.members.SeatSetDisplay.fmt.Goals as goal
use Rattle.seats.proofs.set.members.SeatSetDisplay.fmt.Goals.{then-has_number+in_ok-write, else-has_number}

pub loop-number-init : goal.loop-number-init
unfolding seats_below
loop-number-init g c = search rules

pub loop-number-preserved : goal.loop-number-preserved
loop-number-preserved g c = λ plain.
    let bits = c.args.self.now.bits in
    let k = c.loop-number.number-counter in
    has_written_of_eq _ _ _ _ _ (sym (seats-more bits k))
    (has_written_append _ _ _ _ _ _ (c.loop-number.invariant plain) (
    elim c.if-has_number.branch [
      | then-has_number+in_ok-write w ↦ let e : member bits k ≡ true = sym c.has_number.ensures ∙ w.if-has_number.true in rw e (search rules)
      | else-has_number w ↦ let e : member bits k ≡ false = sym c.has_number.ensures ∙ w.if-has_number.false in rw e (search rules)
    ]
    ))
