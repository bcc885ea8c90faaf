-- The laws of a line as one record, for lemmas that hold of every line.
use Rattle.std.specs.Prelude.{◌≡◌, ℕ, ◌<◌, ◌≤◌, Bool, Some, None}
use Rattle.std.specs.Borrow.{RattleType}
use Rattle.std.specs.declared.clone.Clone as clone
use mir.Syntax.{Dict}
use Rattle.line.specs.declared.laying.Line.{Ghosts}
use Rattle.line.specs.contracts.laying.Line.TheBound.{All}

pub record Laws {L : Type 0} (l : Ghosts L) : Type 0 where
  pub within : (a : L) (j k : ℕ) (t : Bool) → l.place a j ≡ Some (k, t) → k < l.sent a
  pub apart : (a : L) (i j k : ℕ) (t u : Bool) → l.place a i ≡ Some (k, t) → l.place a j ≡ Some (k, u) → i ≡ j
  pub filled : (a : L) (k : ℕ) → k < l.sent a → (j : ℕ) × (t : Bool) × (l.place a j ≡ Some (k, t))
  pub ended : (a : L) (j : ℕ) → l.coded a ≤ j → l.place a j ≡ None

-- the laws that come with a bound, from what an implementation has of it, where an answer has it in another form
pub laws_of : {L : RattleType} {l : Ghosts L.Denot} {d e : Dict} {c : clone.Ghosts L.Denot} → All L l d c e → Laws l
laws_of m = record { within = m.within; apart = m.apart; filled = m.filled; ended = m.ended }
