-- When the decoder can run, and what it then leaves.
use Rattle.std.specs.Prelude.{◌≡◌, ℕ, ◌+◌, ◌*◌, ◌^◌, Bool, true, false, ◌&&◌, List, ◌++◌, map, reverse, length, take, replicate, Some, Option, nat_le}
use Rattle.cost.specs.declared.kind.Cost.{Ghosts}
use Rattle.trellis.specs.Bits.{bit_of}
use Rattle.trellis.specs.Codes.{sound}
use Rattle.trellis.specs.Paths.{cost_of}
use Rattle.trellis.specs.Rule.{answer}
use Rattle.trellis.specs.declared.code.Code.{Code}

-- at least as many steps as closing zeros, and not too many
abbrev pub in_range : Code → ℕ → Bool
in_range code steps = nat_le code.memory steps && nat_le steps 2048

-- memory enough
abbrev pub has_room : Code → ℕ → ℕ → ℕ → Bool
has_room code steps cells paths = nat_le (2 * 2 ^ code.memory) cells && nat_le (steps * 2 ^ code.memory) paths

-- a sound code that has room to run
abbrev pub ready : Code → ℕ → ℕ → ℕ → Bool
ready code steps cells paths = sound code && (in_range code steps && has_room code steps cells paths)

-- the rule's answer, than which no run of its length costs less, its own cost, and its bits, the first first, at the front of the path record
pub record Answered {C S P : Type 0} (k : Ghosts C S P) (rows : List ℕ) (met : ℕ → List (S × Bool)) (memory steps : ℕ) (cost : Option C) (paths : List ℕ) : Type 0 where
  pub path : List Bool
  pub answered : answer k rows met memory steps ≡ Some path
  pub least : (run : List Bool) → length run + memory ≡ steps →
      k.le (cost_of k rows met path) (cost_of k rows met (replicate memory false ++ reverse run)) ≡ true
  pub own : cost ≡ Some (cost_of k rows met path)
  pub traced : take steps paths ≡ map bit_of (reverse path)

-- memory that is free: it may hold anything, and is as long as before
abbrev pub Freed : {X : Type 0} → List X → List X → Type 0
Freed before after = length after ≡ length before

-- the decoder has run
pub record Decodes {C S P : Type 0} (k : Ghosts C S P) (rows : List ℕ) (met : ℕ → List (S × Bool)) (memory steps : ℕ) (cost : Option C)
    (cells cells' : List (Option P)) (paths paths' : List ℕ) : Type 0 where
  pub answered : Answered k rows met memory steps cost paths'
  -- what the cells hold, and what the path record holds past the answer
  pub freed : Freed cells cells' × Freed paths paths'
