use Rattle.std.proofs.Common.{◌≡◌, ◌*◌, ◌^◌, ◌≤◌, true, length, sym, ap, ◌∙◌, subst, ap₂, arith, rules}
use Rattle.std.proofs.lemmas.List.{length-take}
use Rattle.std.proofs.lemmas.Bool.{and_parts, both_ways, le-leb, leb-true}
use Rattle.std.specs.Cmp.Derive.{both_true}
use Rattle.trellis.specs.Codes.{rows_of}
use Rattle.trellis.specs.Decoding.{Answered, has_room, ready}
use Rattle.trellis.specs.Met.{read}
use Rattle.trellis.proofs.Answering.{answered_longer, steps_within}
use Rattle.trellis.proofs.decide.decide.Goals as goal

pub returns : goal.returns
returns g c =
    let k = g.C.Cost in
    let met = read k (g.H.Received.met c.args.heard.now) in
    let trellis = c.in_ok-trellis.trellis in
    let code = trellis.code in
    let steps = trellis.steps in
    let m = code.memory in
    let cells = length c.args.cells.now in
    let paths = c.args.paths.now in
    let (own, run) = c.in_ok-trellis.ensures in
    let room : has_room code steps cells (length paths) ≡ true = sym c.if-not-has_room.ensures in
    let can : ready code steps cells (length paths) ≡ true =
    both_true trellis.checked (both_true (both_true (le-leb m steps trellis.closed) (le-leb steps 2048 trellis.few)) room) in
    let given : ready c.args.code.now c.args.steps cells (length paths) ≡ true = ap₂ (λ a n. ready a n cells (length paths)) (sym own) (sym run) ∙ can in
    let part : steps * c.registers-registers.result ≡ steps * 2 ^ m = ap (λ n. steps * n) c.registers-registers.ensures in
    let long : c.args.steps ≤ length c.answer.new.paths =
    omega (arith, run, c.answer.auto.paths, length-take (steps * c.registers-registers.result) paths, part, leb-true (steps * 2 ^ m) (length paths) (and_parts _ _ room).1, steps_within m steps) in
    let ran = subst (λ n. Answered k (rows_of code) met m n c.answer.result c.answer.new.paths) run c.answer.ensures in
    let answered = subst (λ a. Answered k (rows_of a) met a.memory c.args.steps c.answer.result c.answer.new.paths) own ran in
    record {
      decided = λ _. record {
        answered = answered_longer k (rows_of c.args.code.now) met c.args.code.now.memory c.args.steps c.answer.result c.answer.new.paths _ long answered;
        freed = (search rules, search rules);
      };
      refused = λ e. absurd (both_ways _ e given);
    }
