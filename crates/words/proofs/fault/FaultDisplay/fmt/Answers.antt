use Rattle.std.proofs.Common.{refl, ap, ◌∙◌}
use Rattle.std.proofs.lemmas.Grind.{put_two}
use Rattle.words.proofs.FaultFacts.{line-joined}
use Rattle.words.specs.Faults.{fault_number, fault_text}
use Rattle.words.proofs.fault.FaultDisplay.fmt.Goals as goal

pub returns-in-LogFull-clause-writes : goal.returns-in-LogFull-clause-writes
returns-in-LogFull-clause-writes g c = rw c.in-LogFull.is (λ p ok.
    let first = c.in_ok-write.ensures.writes p refl in
    let second = c.write-in-LogFull.ensures.writes first.plain ok in
    put_two _ _ _ _ _ _ _ first second (line-joined _ _ _ _ _ (c.number-number.ensures ∙ ap fault_number c.in-LogFull.is) (c.text-text.ensures ∙ ap fault_text c.in-LogFull.is)))
