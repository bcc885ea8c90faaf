-- The interleaver moves the places of a burst among themselves, each to a place of its own.
use Rattle.std.specs.Prelude.{◌≡◌, ℕ, ◌+◌, ◌*◌, ◌/◌, ◌%◌, ◌<◌, ◌≤◌, cond}
use Rattle.std.proofs.Common.{sym, ap, ◌∙◌, mul_comm, mul-le-mul_left, mod-eq_of_lt, arith}
use Rattle.std.proofs.Math.Nat.{mul-add-mod_self_left, div-add-mod}
use Rattle.std.proofs.lemmas.Nat.{div-mul-add, mod-mul-add, div_below, mod_below}
use Rattle.std.proofs.lemmas.Bool.{eqb-true}
use Rattle.line.specs.Interleaver.{whole_rows, spread, moved}

-- taking five times the place twice comes back to the place, modulo eight
five_twice : (k : ℕ) → (5 * ((5 * k) % 8)) % 8 ≡ k % 8
five_twice k =
    sym (mul-add-mod_self_left 8 (5 * ((5 * k) / 8)) (5 * ((5 * k) % 8)))
    ∙ ap (λ n. n % 8) (omega arith)
    ∙ mul-add-mod_self_left 8 (3 * k) k

module _ (N : ℕ) where
  -- the place whose bit goes to place p
  abbrev source : ℕ → ℕ
  source p = 8 * (p % N) + (5 * (p / N)) % 8

  -- the places of N rows go to places of N rows
  spread_within : (k : ℕ) → k < 8 * N → spread N k < 8 * N
  spread_within k h = let m : N * ((5 * k) % 8) ≤ N * 7 = mul-le-mul_left N (omega arith) in omega arith

  -- the sources of places of N rows are places of N rows
  source_within : (p : ℕ) → p < 8 * N → source p < 8 * N
  source_within p h = grind (arith, mod_below p N)

  -- the place that place k goes to has k as its source
  source_of_spread : (k : ℕ) → k < 8 * N → source (spread N k) ≡ k
  source_of_spread k h =
      let c = (5 * k) % 8 in
      let e : spread N k ≡ c * N + k / 8 = omega (arith, mul_comm N c) in
      let r : spread N k % N ≡ k / 8 = ap (λ p. p % N) e ∙ mod-mul-add c N (k / 8) (omega arith) in
      let q : spread N k / N ≡ c = ap (λ p. p / N) e ∙ div-mul-add c N (k / 8) (omega arith) in
      omega (arith, ap (λ n. (5 * n) % 8) q, five_twice k)

  -- the source of p goes to the column of p
  source_column : (p : ℕ) → p < 8 * N → (5 * source p) % 8 ≡ p / N
  source_column p h =
      ap (λ n. n % 8) (omega arith)
      ∙ mul-add-mod_self_left 8 (5 * (p % N)) (5 * ((5 * (p / N)) % 8))
      ∙ five_twice (p / N)
      ∙ mod-eq_of_lt (div_below p N 8 (omega arith) h)

  -- the source of p goes to p
  spread_of_source : (p : ℕ) → p < 8 * N → spread N (source p) ≡ p
  spread_of_source p h = grind (arith, source_column p, div-add-mod p N)

-- every place of a burst moves to one of its places
pub moved_within : (bits k : ℕ) → k < bits → moved bits k < bits
moved_within bits k h = grind (arith, spread_within (bits / 8) k, eqb-true (bits % 8) 0)

-- no two places of a burst move to one place
pub moved_apart : (bits k m : ℕ) → k < bits → m < bits → moved bits k ≡ moved bits m → k ≡ m
moved_apart bits k m h o s = grind (arith, source_of_spread (bits / 8) k, source_of_spread (bits / 8) m, eqb-true (bits % 8) 0)

-- the place whose bit goes to place p
abbrev from : ℕ → ℕ → ℕ
from bits p = cond (whole_rows bits) (source (bits / 8) p) p

-- to every place of a burst one of its places moves
pub moved_onto : (bits p : ℕ) → p < bits → (k : ℕ) × (k < bits) × (moved bits k ≡ p)
moved_onto bits p h = (
  from bits p,
  grind (arith, source_within (bits / 8) p, eqb-true (bits % 8) 0),
  grind (arith, spread_of_source (bits / 8) p, eqb-true (bits % 8) 0),
)
