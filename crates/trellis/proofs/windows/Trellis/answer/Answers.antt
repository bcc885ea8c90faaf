use Rattle.cost.proofs.Lawful.{laws_of}
use Rattle.trellis.specs.Met.{read}
use Rattle.trellis.proofs.Answering.{answers}
use Rattle.trellis.proofs.Reading.{read_fit}
use Rattle.trellis.proofs.windows.Trellis.answer.Goals as goal

pub returns : goal.returns
returns g c =
    let laws = laws_of g.met.C.Cost in
    let met = g.H.Received.met c.args.heard.now in
    let trellis = c.args.self.now in
    answers laws trellis.code (read g.C.Cost met) (read_fit laws met) trellis.checked trellis.steps trellis.closed
    c.forward-cost.result c.forward-cost.new.paths c.traceback.new.paths c.forward-cost.ensures.value c.forward-cost.ensures.marks c.traceback.ensures
