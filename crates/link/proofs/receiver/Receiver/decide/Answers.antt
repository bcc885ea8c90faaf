use Rattle.std.proofs.Common.{◌≡◌, ℕ, List, length, Ok, sym, ◌∙◌, subst, arith}
use Rattle.cost.specs.declared.kind.Cost as cost
use Rattle.line.specs.declared.laying.Line as line
use Rattle.link.specs.declared.format.Format.{Format}
use Rattle.link.specs.declared.report.Answer.TheVariants.{Block}
use Rattle.link.specs.declared.report.Report.{Report}
use Rattle.link.specs.Calls.{Decides, Finds}
use Rattle.link.specs.Due.{in_ring}
use Rattle.link.proofs.Deciding.{steps_within, found_long, reports, refuses}
use Rattle.link.proofs.receiver.Receiver.decide.Goals as goal

pub parity_holds-requires : goal.parity_holds-requires
parity_holds-requires g c =
    omega (arith, steps_within c.args.self.now.format (length c.args.paths.now) c.requires.memory.paths)

pub write_message-requires-clause-paths : goal.write_message-requires-clause-paths
write_message-requires-clause-paths g c =
    omega (arith, steps_within c.args.self.now.format (length c.args.paths.now) c.requires.memory.paths)

-- what was found in the ring that was made of the cells was found in the cells
found : {C S P L : Type 0} (k : cost.Ghosts C S P) (l : line.Ghosts L) (f g : Format L) (cells cells' : List S) (b : ℕ) (report : Report C S P) (paths : List ℕ) →
    g ≡ f → cells' ≡ cells → Finds k l g (in_ring k g cells' b) b report paths → Finds k l f (in_ring k f cells b) b report paths
found k l f g cells cells' b report paths format same finds =
    subst (λ h. Finds k l h (in_ring k h cells b) b report paths) format (subst (λ xs. Finds k l g (in_ring k g xs b) b report paths) same finds)

pub returns-then-not-parity_holds-clause-decided : goal.returns-then-not-parity_holds-clause-decided
returns-then-not-parity_holds-clause-decided g c =
    let f = c.args.self.now.format in
    let due = in_ring g.C.Cost f c.args.ring.now c.args.number in
    let finds = found g.C.Cost g.L.Line f c.new-ring.result.format.now c.args.ring.now c.new-ring.result.cells.now c.args.number
    c.best-report.result c.best-report.new.paths c.new-ring.ensures.format c.new-ring.ensures.cells c.best-report.ensures in
    let long = found_long g.C.Cost g.L.Line f due c.args.number c.best-report.result c.best-report.new.paths finds in
    refuses g.C.Cost g.L.Line f due c.args.number c.best-report.result c.best-report.new.paths finds c.args.block.now
    (sym (c.parity_holds.ensures finds.path long finds.traced) ∙ c.if-not-parity_holds.true)

pub returns-clause-decided : goal.returns-clause-decided
returns-clause-decided g c =
    let f = c.args.self.now.format in
    let due = in_ring g.C.Cost f c.args.ring.now c.args.number in
    let finds = found g.C.Cost g.L.Line f c.new-ring.result.format.now c.args.ring.now c.new-ring.result.cells.now c.args.number
    c.best-report.result c.best-report.new.paths c.new-ring.ensures.format c.new-ring.ensures.cells c.best-report.ensures in
    let long = found_long g.C.Cost g.L.Line f due c.args.number c.best-report.result c.best-report.new.paths finds in
    subst (λ after. Decides g.C.Cost g.L.Line f due c.args.number c.args.block.now (Ok (Block c.best-report.result)) after) (sym c.write_message.ensures)
    (reports g.C.Cost g.L.Line f due c.args.number c.best-report.result c.best-report.new.paths finds c.args.block.now
    (sym (c.parity_holds.ensures finds.path long finds.traced) ∙ c.if-not-parity_holds.false))
