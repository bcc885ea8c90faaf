use Rattle.std.proofs.Common.{◌≡◌, drop}
use Rattle.link.specs.Rules.{all_bits}
use Rattle.link.proofs.sender.checks.check_bits.Given as goal

abbrev pub invariant-loop-place : goal.invariant-loop-place
invariant-loop-place l = all_bits l.place (drop l.place l.message) ≡ all_bits 0 l.message
