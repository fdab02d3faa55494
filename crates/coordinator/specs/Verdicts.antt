-- The verdicts of the code, as the rules name them.
use Rattle.agreement.specs.CoordinatorRules.{Verdict as RulesVerdict, ignored, stands, withdraws, breaks}
use Rattle.coordinator.specs.declared.receiving.Verdict.{Verdict}
use Rattle.coordinator.specs.declared.receiving.Verdict.TheVariants.{Ignored, Stands, Withdraws, Breaks}

abbrev pub verdict_of : Verdict → RulesVerdict
verdict_of Ignored = ignored
verdict_of (Stands x) = stands x
verdict_of Withdraws = withdraws
verdict_of Breaks = breaks
