use Rattle.std.proofs.Common.{◌+◌, Ok, Err, sym, ap, subst, ◌∙◌}
use Rattle.std.proofs.lemmas.Result.{err_from_is_err_and}
use Rattle.link.specs.Rules.{first, send_rules}
use Rattle.link.specs.Sending.{SenderMemory, sender_sizes, SendsBy}
use Rattle.link.proofs.Judging.{sends_refused, sends_taken}
use Rattle.link.proofs.sender.Sender.send.Goals as goal

pub returns-in_err-check_send : goal.returns-in_err-check_send
returns-in_err-check_send g c =
    let s = c.args.self.now in
    let m : SenderMemory = record { ring = c.args.ring.now; burst = c.args.burst.now } in
    let p = err_from_is_err_and c.from_residual.result c.from_residual.ensures.1 in
    sends_refused g.L.Line c.args.message.now s m c.from_residual.result (first (send_rules s.format (sender_sizes m) s.counted c.args.message.now)) _
    c.in_err-check_send.ensures (p.1 ∙ ap Err p.2)

pub returns : goal.returns
returns g c =
    let s = c.args.self.now in
    let m : SenderMemory = record { ring = c.args.ring.now; burst = c.args.burst.now } in
    let rules = first (send_rules s.format (sender_sizes m) s.counted c.args.message.now) in
    subst (λ ring. SendsBy g.L.Line rules c.args.message.now s m (Ok s.counted) (record s { counted = s.counted + 1 }) (record { ring = ring; burst = c.put.new.burst })) (sym c.put.ensures.ring)
    (sends_taken g.L.Line c.args.message.now s m c.keep.new.ring c.put.new.burst rules c.in_ok-check_send.ensures c.keep.ensures c.put.ensures.put)
