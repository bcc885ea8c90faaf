use Rattle.std.proofs.Common.{replicate, Err, ap, ◌∙◌}
use Rattle.std.proofs.lemmas.Result.{err_from_is_err_and}
use Rattle.link.specs.Calls.{lent, silence}
use Rattle.link.specs.Due.{stored}
use Rattle.link.specs.Rules.{first, miss_rules}
use Rattle.link.proofs.Judging.{judges_refused, judges_taken}
use Rattle.link.proofs.receiver.Receiver.miss.Goals as goal

pub returns-in_err-check_miss-clause-called : goal.returns-in_err-check_miss-clause-called
returns-in_err-check_miss-clause-called g c =
    let r = c.args.self.now in
    let p = err_from_is_err_and c.from_residual.result c.from_residual.ensures.1 in
    judges_refused g.C.Cost g.L.Line (silence g.C.Cost g.L.Line r.format) r (lent c.args.memory.now) c.from_residual.result _ _
    (c.in_err-check_miss.ensures ∙ ap (λ z. first (miss_rules r.format z r.counted)) c.sizes.ensures)
    (p.1 ∙ ap Err p.2)

pub returns-clause-called : goal.returns-clause-called
returns-clause-called g c =
    let r = c.args.self.now in
    judges_taken g.C.Cost g.L.Line (silence g.C.Cost g.L.Line r.format) r (lent c.args.memory.now) c.count.result _ _ c.count.new.self (lent c.count.new.memory)
    (c.in_ok-check_miss.ensures ∙ ap (λ z. first (miss_rules r.format z r.counted)) c.sizes.ensures)
    (c.store_same.ensures ∙ ap (λ s. stored r.format r.counted (replicate r.format.burst s) c.args.memory.now.ring.now) c.NOTHING.ensures) c.count.ensures.ring c.count.ensures.counted
