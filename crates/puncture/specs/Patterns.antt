-- Patterns: which coded bits of a block are kept, in coded order.
use Rattle.std.specs.List.{count_by}
use Rattle.std.specs.Prelude.{ℕ, zero, suc, ◌+◌, Bool, true, false, cond, List, [], ◌++◌, take, replicate, Some, None, Option, slice_index_or}

-- how many bits a pattern keeps
abbrev pub kept : List Bool → ℕ
kept p = count_by (λ on. on) p

-- the kept bits of a pattern numbered in coded order, none turned over
abbrev pub numbered : List Bool → ℕ → Option (ℕ × Bool)
numbered p j = cond (slice_index_or p j false) (Some (kept (take j p), false)) None

-- the number of an answer where n kept bits stand before
abbrev pub raised : ℕ → Option (ℕ × Bool) → Option (ℕ × Bool)
raised n None = None
raised n (Some (k, t)) = Some (n + k, t)

-- a pattern, a number of times over
abbrev pub times_over : ℕ → List Bool → List Bool
times_over zero p = []
times_over (suc n) p = p ++ times_over n p

-- a prefix, the middles, that many bits left over and kept whole, and a suffix
abbrev pub laid_out : List Bool → ℕ → List Bool → ℕ → List Bool → List Bool
laid_out before times middle left after = before ++ (times_over times middle ++ (replicate left true ++ after))
