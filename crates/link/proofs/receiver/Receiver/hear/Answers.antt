use Rattle.std.proofs.Common.{Err, ap, ◌∙◌}
use Rattle.std.proofs.lemmas.Result.{err_from_is_err_and}
use Rattle.link.specs.Calls.{lent}
use Rattle.link.specs.Rules.{first, hear_rules}
use Rattle.link.proofs.Judging.{judges_refused, judges_taken}
use Rattle.link.proofs.receiver.Receiver.hear.Goals as goal

pub returns-in_err-check_hear-clause-called : goal.returns-in_err-check_hear-clause-called
returns-in_err-check_hear-clause-called g c =
    let r = c.args.self.now in
    let ss = c.args.samples.now in
    let p = err_from_is_err_and c.from_residual.result c.from_residual.ensures.1 in
    judges_refused g.C.Cost g.L.Line ss r (lent c.args.memory.now) c.from_residual.result _ _
    (c.in_err-check_hear.ensures ∙ ap (λ z. first (hear_rules g.C.Cost r.format z r.counted ss)) c.sizes.ensures)
    (p.1 ∙ ap Err p.2)

pub returns-clause-called : goal.returns-clause-called
returns-clause-called g c =
    let r = c.args.self.now in
    let ss = c.args.samples.now in
    judges_taken g.C.Cost g.L.Line ss r (lent c.args.memory.now) c.count.result _ _ c.count.new.self (lent c.count.new.memory)
    (c.in_ok-check_hear.ensures ∙ ap (λ z. first (hear_rules g.C.Cost r.format z r.counted ss)) c.sizes.ensures)
    c.store.ensures c.count.ensures.ring c.count.ensures.counted
