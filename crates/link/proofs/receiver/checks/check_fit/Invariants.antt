use Rattle.std.proofs.Common.{◌≡◌, drop}
use Rattle.link.specs.Rules.{all_fit}
use Rattle.link.proofs.receiver.checks.check_fit.Given as goal

abbrev pub invariant-loop-place : goal.invariant-loop-place
invariant-loop-place g l = all_fit g.C.Cost l.place (drop l.place l.samples) ≡ all_fit g.C.Cost 0 l.samples
