-- The bytes of the sample's two records, and what writing each behind the others makes of the buffer.
use Rattle.std.proofs.Common.{◌≡◌, ℕ, ◌+◌, ◌*◌, List, [], ◌∷◌, ◌++◌, length, replicate, cond, refl}
use borrow.Rule.Slice.PartMut.{put_mid}
use Rattle.records.specs.Bytes.{rec_bytes}
use Rattle.records.specs.Pairs.{runs}
use Rattle.records.specs.Recs.{Rec}
use Rattle.records.specs.Sizes.{record_length}
use Rattle.logs.specs.Adding.{has_room}
use Rattle.wording.specs.Demonstration.{decided_bytes, voted_bytes, sample_bytes}

pub decided : (r : Rec) → r ≡ record { transaction = 7; kind = 1; seats = 39 } → rec_bytes r ≡ decided_bytes
unfolding rec_bytes runs
decided r e = rw e refl

pub voted : (r : Rec) → r ≡ record { transaction = 7; kind = 2; seats = 32 } → rec_bytes r ≡ voted_bytes
unfolding rec_bytes runs
voted r e = rw e refl

-- the bytes of a journal of two lists of records, with room for n, after one more was added
abbrev pub added : ℕ → List Rec → List Rec → List ℕ → List ℕ → List ℕ
added n safe loose bs r = cond (has_room n safe loose) (put_mid (record_length * (length safe + length loose)) record_length bs r) bs

pub first : (n : ℕ) (safe loose : List Rec) (bs r : List ℕ) → n ≡ 2 → safe ≡ [] → loose ≡ [] → bs ≡ replicate 44 0 → r ≡ decided_bytes → added n safe loose bs r ≡ decided_bytes ++ replicate 22 0
first n safe loose bs r en es el eb er = rw (en, es, el, eb, er) refl

pub second : (n : ℕ) (safe loose : List Rec) (d : Rec) (bs r : List ℕ) → n ≡ 2 → safe ≡ [] → loose ≡ d ∷ [] → bs ≡ decided_bytes ++ replicate 22 0 → r ≡ voted_bytes → added n safe loose bs r ≡ sample_bytes
second n safe loose d bs r en es el eb er = rw (en, es, el, eb, er) refl
