-- The number of a call's fault in a trace.
use Rattle.std.specs.Prelude.{ℕ, Some, None, Option}
use Rattle.words.specs.Faults.{fault_number}
use Rattle.words.specs.declared.fault.Fault.{Fault}

-- 0 for none
abbrev pub fault_code : {S : Type 0} → Option (Fault S) → ℕ
fault_code None = 0
fault_code (Some f) = fault_number f
