use Rattle.std.proofs.Common.{◌≡◌, List, Option}
use Rattle.records.specs.Sizes.{record_length}
use Rattle.records.specs.declared.record.Record.{Record}
use Rattle.measured.specs.Coding.{Decodes, parts_sum}
use Rattle.measured.proofs.PartFacts.{SumLeft}
use Rattle.measured.proofs.coding.decode_all.Given as goal

abbrev pub invariant-loop-part : goal.invariant-loop-part
invariant-loop-part l = record {
  size : l.part-iterator.size ≡ record_length;
  left : (os : List (Option Record)) → Decodes l.bytes os → SumLeft l.part-iterator.rest.now l.sum (parts_sum l.before os);
}
