use Rattle.std.proofs.Common.{rules, ◌≡◌, ◌∷◌, [], ◌++◌, ◌∙◌, replicate}
use Rattle.records.specs.Recs.{model_of}
use Rattle.journals.specs.Journals.{bytes_in, safe_in, loose_in, room_in}
use Rattle.wording.specs.Demonstration.{decided_bytes, sample_bytes}
use Rattle.wording.proofs.SampleFacts.{decided, voted, first, second}
use Rattle.wording.proofs.demonstration.sample.Goals as goal

pub returns : goal.returns
returns c =
    let made = c.create-journal.ensures in
    let one = c.add.ensures in
    let two = c.add-2.ensures in
    let d : model_of c.new-2.result ≡ record { transaction = 7; kind = 1; seats = 39 } = search rules in
    let v : model_of c.new-3.result ≡ record { transaction = 7; kind = 2; seats = 32 } = search rules in
    let empty : bytes_in c.create-journal.result ≡ replicate 44 0 = search rules in
    let n : room_in c.create-journal.result ≡ 2 = search rules in
    let n1 : room_in c.add.new.self ≡ 2 = search rules in
    let s1 : safe_in c.add.new.self ≡ [] = search rules in
    let l1 : loose_in c.add.new.self ≡ model_of c.new-2.result ∷ [] = search rules in
    let b1 : bytes_in c.add.new.self ≡ decided_bytes ++ replicate 22 0 =
    one.bytes ∙ first _ _ _ _ _ n made.safe made.loose empty (decided _ d) in
    let b2 : bytes_in c.add-2.new.self ≡ sample_bytes =
    two.bytes ∙ second _ _ _ _ _ _ n1 s1 l1 b1 (voted _ v) in
    (search rules, search rules, search rules, b2)
