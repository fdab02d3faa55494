use Rattle.std.proofs.Common.{◌≡◌, ℕ, ◌/◌, List, vec_items, refl, ap, subst, arith}
use Rattle.std.proofs.lemmas.List.{take-take}
use Rattle.journals.specs.Slots.{recs_in, BytesSound}
use Rattle.logs.specs.Tables.{safe_of}
use Rattle.logs.proofs.TableFacts.{loose_of-none}
use Rattle.journals.proofs.journal.Journal.open.Goals as goal

-- what is sound in the slice that was lent is sound in the buffer
sound : (bs lent : List ℕ) (n : ℕ) → lent ≡ bs → BytesSound lent n → BytesSound bs n
sound bs lent n e h = subst (λ (x : List ℕ). BytesSound x n) e h

pub returns-in-None : goal.returns-in-None
unfolding safe_of
returns-in-None c =
    let n = c.args.count in
    let rs = recs_in (vec_items c.args.bytes) in
    record {
      sound = sound (vec_items c.args.bytes) c.deref.result.now n c.deref.ensures.value c.in-None.ensures.1;
      bytes = refl;
      capacity = ap (λ (x : ℕ). x / 22) c.args.bytes.ok.0;
      safe = take-take n n rs (omega arith);
      loose = loose_of-none n rs;
    }
