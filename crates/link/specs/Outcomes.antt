-- What is told of a burst that is counted, case by case, in numbers and values.
use Rattle.std.specs.Prelude.{ℕ, Some, None, Ok, Err, Option, Result}
use Rattle.link.specs.declared.refusal.Refusal.{Refusal}
use Rattle.link.specs.declared.refusal.Refusal.TheVariants.{WrongParity}
use Rattle.link.specs.declared.report.Answer.{Answer}
use Rattle.link.specs.declared.report.Answer.TheVariants.{Waiting, Block}
use Rattle.link.specs.declared.report.Report.{Report}

pub data Outcome (C : Type 0) : Type 0 where
  -- while the first block's bursts are not all counted: the number of the burst
  tells_burst : (burst : ℕ) → Outcome C
  -- of the block that the burst ends: its number, its cost, and how many of the samples due to it were heard
  tells_block : (block : ℕ) (cost : C) (heard : ℕ) → Outcome C

module _ {C S P : Type 0} where
  abbrev pub of_report : Report C S P → Outcome C
  of_report report = tells_block report.block report.cost report.heard

  abbrev pub of_answer : Answer C S P → Outcome C
  of_answer (Waiting burst) = tells_burst burst
  of_answer (Block report) = of_report report

  -- a refusal counts no burst, but for that of parity, which tells of the block that it refuses
  abbrev pub of_refusal : Refusal (Report C S P) → Option (Outcome C)
  of_refusal (WrongParity report) = Some (of_report report)
  of_refusal _ = None

  -- what a reply to hear or miss tells of its burst, if it counts it
  abbrev pub outcome : Result (Answer C S P) (Refusal (Report C S P)) → Option (Outcome C)
  outcome (Ok answer) = Some (of_answer answer)
  outcome (Err x) = of_refusal x
