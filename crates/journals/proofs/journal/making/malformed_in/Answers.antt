use Rattle.std.proofs.Common.{ℕ, ◌*◌, ◌<◌, ◌≤◌, List, length, Some, None, Option, arith, rules}
use borrow.Author.Tests.{tests}
use Rattle.std.proofs.lemmas.Bool.Decides.{not_from_Decides}
use Rattle.std.proofs.lemmas.Iterator.{first_from_Range}
use Rattle.std.specs.Option.{MatchOption}
use Rattle.journals.specs.Slots.{MalformedAt, BytesSound}
use Rattle.journals.proofs.SlotFacts.{whole}
use Rattle.journals.proofs.journal.making.malformed_in.Goals as goal

-- what `find` says of the numbers below n
named : (bs : List ℕ) (n : ℕ) (o : Option ℕ)
    → MatchOption o ((k : ℕ) → 0 ≤ k → k < n → MalformedAt bs k → ⊥) (λ i. (0 ≤ i) × (i < n) × MalformedAt bs i × ((k : ℕ) → 0 ≤ k → k < i → MalformedAt bs k → ⊥))
    → MatchOption o ((22 * n ≤ length bs) × BytesSound bs n) (λ i. (i < n) × MalformedAt bs i × BytesSound bs i)
named bs n (Some i) h = (h.1, h.2, λ k l. h.3 k (omega arith) l)
named bs n None h = let s : BytesSound bs n = λ i l. h i (omega arith) l in (whole bs n s, s)

pub returns : goal.returns
returns c =
    let bs = c.args.bytes.now in
    named bs c.args.count c.find.result
    (first_from_Range _ _ _ _ (MalformedAt bs) (λ i. MalformedAt bs i → ⊥) c.find.ensures.ran
    (λ x q k. search (rules, tests)) (λ x q k. (search (rules, tests), search (rules, tests, not_from_Decides))))
