use Rattle.std.proofs.Common.{rules, ◌∙◌, ◌∷◌, [], ◌++◌}
use Rattle.measured.specs.Coding.{part_told, parts_told}
use Rattle.measured.proofs.PartFacts.{cut, no-cut, before-more, before-done, told-more}
use Rattle.measured.proofs.SinkFacts.{tells-more, written-all, count-all}
use Rattle.measured.proofs.coding.measured_read.Goals as goal

pub loop-part-preserved : goal.loop-part-preserved
loop-part-preserved c =
    let here = cut c.loop-part.part-iterator c.next.new.self c.in-Some.part c.in-Some.ensures.steps c.loop-part.invariant.size in
    let so_far = c.loop-part.invariant.told in
    record {
      size = here.2;
      told = (
        so_far.0 ++ c.decode.result ∷ [],
        before-more _ _ _ _ _ _ here.0 here.1 c.decode.ensures so_far.1,
        rw (told-more so_far.0 c.decode.result) (tells-more c.new-sink.result c.loop-part.sink c.put_part.new.sink (parts_told so_far.0) (part_told c.decode.result) so_far.2 c.put_part.ensures),
      );
    }

pub returns : goal.returns
returns c =
    let told = c.loop-part.invariant.told in
    let short = no-cut c.loop-part.part-iterator c.next.new.self c.in-None.ensures.steps c.loop-part.invariant.size in
    let new = c.new-sink.ensures in
    let out = written-all c.new-sink.result c.loop-part.sink (parts_told told.0) c.args.out.now new.told new.left told.2 in
    let count = count-all c.new-sink.result c.loop-part.sink (parts_told told.0) c.args.out.now new.told new.left told.2 in
    let name = told.2.same_reference ∙ new.same_reference in
    (told.0, before-done _ _ _ short told.1, search (rules, out, name), c.filled.ensures ∙ count)
