use Rattle.std.proofs.Common.{◌≡◌, List, Option}
use Rattle.records.specs.Sizes.{record_length}
use Rattle.records.specs.declared.record.Record.{Record}
use Rattle.measured.specs.Coding.{parts_told}
use Rattle.measured.specs.Sinks.{Tells}
use Rattle.measured.proofs.PartFacts.{Before}
use Rattle.measured.proofs.coding.measured_read.Given as goal

abbrev pub invariant-loop-part : goal.invariant-loop-part
invariant-loop-part l = record {
  size : l.part-iterator.size ≡ record_length;
  told : (os : List (Option Record)) × Before l.bytes l.part-iterator.rest.now os × Tells l.initial.sink (parts_told os) l.sink;
}
