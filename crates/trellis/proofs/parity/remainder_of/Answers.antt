use Rattle.std.proofs.Common.{◌≡◌, ◌∙◌, fold, rules}
use Rattle.std.proofs.iter.runs.Made.{chains}
use Rattle.trellis.proofs.Parities.{next, run_remainder}
use Rattle.trellis.proofs.parity.remainder_of.Goals as goal

pub returns : goal.returns
returns c =
    let folded : c.fold.result ≡ fold next 0 c.args.run.now = search (rules, chains) in
    folded ∙ run_remainder c.args.run.now
