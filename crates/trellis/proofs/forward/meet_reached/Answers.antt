use Rattle.std.proofs.Common.{◌≡◌, ◌+◌, ◌*◌, ◌/◌, ◌%◌, ◌<◌, length, get_or, set, Some, None, sym, ap, ◌∙◌, ap₂, arith}
use Rattle.std.proofs.lemmas.List.{get_or_read}
use Rattle.std.specs.Option.{is_some}
use Rattle.trellis.specs.Windows.{enters}
use Rattle.trellis.proofs.Meeting.{met_same, passes, stays, goes_on}
use Rattle.trellis.proofs.forward.meet_reached.Goals as goal
use Rattle.trellis.proofs.forward.meet_reached.Goals.{then-is_some+then-enters, else-is_some, else-is_some-via-then-is_some+else-enters, else-is_some-via-else-is_some}

pub loop-window-preserved : goal.loop-window-preserved
loop-window-preserved g c =
    let k = g.C.Cost in
    let lifts = g.met.C.Cost.laid in
    let old = c.args.old.now in
    let costs = c.args.costs.now in
    let cells = c.loop-window.new in
    let marks = c.loop-window.marks in
    let w = c.loop-window.window in
    let within : w < 2 * length old = omega arith in
    let cost : c.index-costs-window.result ≡ get_or costs w k.ZERO = get_or_read costs w c.index-costs-window.result (omega arith) c.index-costs-window.is k.ZERO in
    let before : c.index-old-register_before.result ≡ get_or old (w / 2) None
    = get_or_read old c.register_before.result c.index-old-register_before.result (omega arith) c.index-old-register_before.is None ∙ ap (λ n. get_or old n None) c.register_before.ensures in
    let reached = ap is_some (sym before) ∙ sym c.is_some.ensures in
    let register : c.masked-register.result ≡ w % length old = c.masked-register.ensures ∙ ap (λ n. w % n) (sym c.requires.wide.1) in
    elim c.if-is_some.branch [
      | then-is_some+then-enters v ↦
          let cell : v.index-new-register.result ≡ get_or cells (w % length old) None
          = get_or_read cells c.masked-register.result v.index-new-register.result (omega arith) v.index-new-register.is None ∙ ap (λ n. get_or cells n None) register in
          let goes = ap₂ (λ x y. enters k x y) (sym cell) (sym cost) ∙ sym v.enters.ensures ∙ v.if-enters.true in
          met_same k old costs (w + 1)
          (v.new-is ∙ ap₂ (λ r x. set cells r (Some x)) register (v.to_plain.ensures ∙ ap k.lay cost))
          (v.marks-is ∙ ap₂ (set marks) register (v.dropped.ensures ∙ ap (λ n. w / n) (sym c.requires.wide.1)))
          (goes_on k old costs w lifts (reached ∙ v.if-is_some.true) within cells marks (omega arith) (omega arith) goes c.loop-window.invariant)
      | else-is_some v ↦
          elim v.else-is_some.branch [
            | else-is_some-via-then-is_some+else-enters u ↦
                let cell : u.index-new-register.result ≡ get_or cells (w % length old) None
                = get_or_read cells c.masked-register.result u.index-new-register.result (omega arith) u.index-new-register.is None ∙ ap (λ n. get_or cells n None) register in
                let out = ap₂ (λ x y. enters k x y) (sym cell) (sym cost) ∙ sym u.enters.ensures ∙ u.if-enters.false in
                met_same k old costs (w + 1) v.new-is v.marks-is (stays k old costs w lifts (reached ∙ u.if-is_some.true) within cells marks out c.loop-window.invariant)
            | else-is_some-via-else-is_some u ↦
                met_same k old costs (w + 1) v.new-is v.marks-is (passes k old costs w cells marks (reached ∙ u.if-is_some.false) c.loop-window.invariant)
          ]
    ]
