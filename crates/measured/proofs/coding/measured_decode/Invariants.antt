use Rattle.std.proofs.Common.{◌≡◌, List, Option}
use Rattle.records.specs.declared.record.Record.{Record}
use Rattle.measured.specs.Coding.{Decodes, decode_sum}
use Rattle.measured.proofs.coding.measured_decode.Given as goal

abbrev pub invariant-loop : goal.invariant-loop
invariant-loop l = (os : List (Option Record)) → Decodes l.bytes os → l.sum ≡ decode_sum l.counter os
