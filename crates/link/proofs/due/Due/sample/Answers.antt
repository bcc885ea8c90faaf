use Rattle.std.proofs.Common.{◌≡◌, ℕ, ◌<◌, ltb, List, get_or, sym, ap, ◌∙◌}
use Rattle.std.proofs.lemmas.Bool.{cond-true, lt-ltb}
use Rattle.cost.specs.declared.kind.Cost.{Ghosts}
use Rattle.trellis.specs.Met.{weighed}
use Rattle.link.specs.declared.format.Format.{Format}
use Rattle.link.specs.Due.{burst_of, cell, in_ring}
use Rattle.link.proofs.due.Due.sample.Goals as goal

-- a sample due is what lies in its cell, weighed
in_cell : {C S P L : Type 0} (k : Ghosts C S P) (f : Format L) (ring : List S) (b p : ℕ) → p < f.burst →
    weighed k (get_or ring (cell f (burst_of f b p) p) k.NOTHING) ≡ in_ring k f ring b p
in_cell k f ring b p h = sym (cond-true (ltb p f.burst) _ _ (lt-ltb p f.burst h))

pub returns-in-Some : goal.returns-in-Some
returns-in-Some g c =
    let k = g.C.Cost in
    let ring = c.args.self.now.ring.now in
    c.weighed.ensures ∙ ap (weighed k) (c.in-Some.ensures k.NOTHING)
    ∙ in_cell k ring.format.now ring.cells.now c.args.self.now.block c.args.place c.if-place-format.false

pub returns-in-None : goal.returns-in-None
returns-in-None g c =
    let k = g.C.Cost in
    let ring = c.args.self.now.ring.now in
    c.NOTHING-in-None.ensures
    ∙ sym (cond-true _ _ _ g.met.C.Cost.nothing_fit)
    ∙ ap (weighed k) (c.in-None.ensures k.NOTHING)
    ∙ in_cell k ring.format.now ring.cells.now c.args.self.now.block c.args.place c.if-place-format.false
