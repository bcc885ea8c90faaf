-- Which samples are due to a block, what its coded bits meet there, and how many of them were heard.
use Rattle.std.specs.Prelude.{ℕ, ◌+◌, ◌*◌, ◌%◌, Bool, cond, not, List, [], ◌∷◌, ◌++◌, length, take, drop, Some, None, Option, nat_lt, slice_index_or, count_by}
use Rattle.std.specs.List.{range_with_len}
use Rattle.cost.specs.declared.kind.Cost as cost
use Rattle.line.specs.declared.laying.Line as line
use Rattle.trellis.specs.Met.{weighed}
use Rattle.link.specs.declared.format.Format.{Format}

-- a list with another laid over it from a place on
abbrev pub laid_at : {S : Type 0} → ℕ → List S → List S → List S
laid_at at samples ring = take at ring ++ (samples ++ drop (at + length samples) ring)

module _ {L : Type 0} where
  -- the burst that carries place k of block b
  abbrev pub burst_of : Format L → ℕ → ℕ → ℕ
  burst_of f b k = b + k % f.depth

  -- the ring cell of sample k of burst n
  abbrev pub cell : Format L → ℕ → ℕ → ℕ
  cell f n k = n % f.depth * f.burst + k

  -- a ring in which burst n has been stored
  abbrev pub stored : {S : Type 0} → Format L → ℕ → List S → List S → List S
  stored f n samples ring = laid_at (cell f n 0) samples ring

-- what a coded bit meets where it lies, `due k` being the sample due at burst place k
abbrev pub placed : {S : Type 0} → (ℕ → S) → Option (ℕ × Bool) → List (S × Bool)
placed due None = []
placed due (Some (k, turned)) = (due k, turned) ∷ []

-- what coded place j meets where a line lays the block
abbrev pub met_on : {S L : Type 0} → line.Ghosts L → L → (ℕ → S) → ℕ → List (S × Bool)
met_on l x due j = placed due (l.place x j)

module _ {C S P L : Type 0} (k : cost.Ghosts C S P) where
  -- the sample due to block b at burst place p, in the ring; past the burst there is none
  abbrev pub in_ring : Format L → List S → ℕ → ℕ → S
  in_ring f ring b p = cond (nat_lt p f.burst) (weighed k (slice_index_or ring (cell f (burst_of f b p) p) k.NOTHING)) k.NOTHING

  -- the same in the list of bursts counted
  abbrev pub in_bursts : Format L → List (List S) → ℕ → ℕ → S
  in_bursts f bursts b p = slice_index_or (slice_index_or bursts (burst_of f b p) []) p k.NOTHING

-- how many samples at the first n places do not mean nothing
abbrev pub heard_of : {C S P : Type 0} → cost.Ghosts C S P → (ℕ → S) → ℕ → ℕ
heard_of k due n = count_by (λ p. not (k.silent (due p))) (range_with_len 0 n)
