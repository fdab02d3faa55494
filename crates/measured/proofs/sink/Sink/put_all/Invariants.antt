use Rattle.std.proofs.Common.{take}
use Rattle.measured.specs.Sinks.{Tells}
use Rattle.measured.proofs.sink.Sink.put_all.Given as goal

abbrev pub invariant-loop-byte : goal.invariant-loop-byte
invariant-loop-byte l = Tells l.initial.self (take l.byte-index l.bytes) l.self
