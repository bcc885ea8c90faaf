-- What the trellis keeps in memory, by the survivors that it stands for. A register is a number whose lowest bit is the newest.
use Rattle.std.specs.Prelude.{◌≡◌, ℕ, suc, ◌+◌, ◌-◌, ◌*◌, ◌/◌, ◌^◌, ◌<◌, ◌≤◌, Bool, List, Some, None, Option, slice_index, slice_index_or}
use Rattle.cost.specs.declared.kind.Cost.{Ghosts}
use Rattle.trellis.specs.Bits.{odd, bits}
use Rattle.trellis.specs.Paths.{cost_of}
use Rattle.trellis.specs.Rule.{extended, survivor}

-- the mark of register s in row t tells which oldest bit the path that s kept has dropped,
-- where `kept t s` is the path that register s keeps after t steps
pub record Marked (memory : ℕ) (kept : ℕ → ℕ → Option (List Bool)) (mark t s : ℕ) : Type 0 where
  pub bit : mark ≤ 1
  pub from : kept (suc t) s ≡ extended (odd s) (kept t (s / 2 + mark * 2 ^ (memory - 1)))

-- every mark is right in the first so many rows of a path record, a row being 2 ^ memory wide
abbrev pub MarkedBelow : ℕ → (ℕ → ℕ → Option (List Bool)) → List ℕ → ℕ → Type 0
MarkedBelow memory kept paths rows =
    (t s : ℕ) → t < rows → s < 2 ^ memory → Marked memory kept (slice_index paths (t * 2 ^ memory + s)) t s

module _ {C S P : Type 0} (k : Ghosts C S P) (rows : List ℕ) (met : ℕ → List (S × Bool)) where
  -- the path that a register keeps, the register being a number
  abbrev pub kept_at : ℕ → ℕ → ℕ → Option (List Bool)
  kept_at memory t s = survivor k rows met t (bits memory s)

  -- a path's cost; a register that no path has reached has none
  abbrev pub cost_kept : Option (List Bool) → Option C
  cost_kept None = None
  cost_kept (Some p) = Some (cost_of k rows met p)

  -- a path's cost laid down; a register that no path has reached has none
  abbrev pub laid_cost : Option (List Bool) → Option P
  laid_cost None = None
  laid_cost (Some p) = Some (k.lay (cost_of k rows met p))

  -- the row of cells after t steps
  abbrev pub Cells : ℕ → ℕ → List (Option P) → Type 0
  Cells memory t cells = (s : ℕ) → s < 2 ^ memory → slice_index_or cells s None ≡ laid_cost (kept_at memory t s)
