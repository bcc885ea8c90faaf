-- Places in a path record: row t begins at t * 2 ^ memory.
use Rattle.std.proofs.Common.{◌≡◌, ℕ, suc, ◌+◌, ◌-◌, ◌*◌, ◌/◌, ◌%◌, ◌^◌, ◌<◌, ◌≤◌, ap, ◌∙◌, subst, add_comm, arith, pow_pos}
use lib.Bits.{bit_or, or_shifted_r}
use Rattle.std.proofs.lemmas.Nat.{shl_whole, mul-add-lt, mul-le, pow-add}
use Rattle.trellis.proofs.Bitwise.{half_below}

-- the beginning of a row fits
pub row_exact : (t memory : ℕ) → t ≤ 2048 → memory ≤ 4 → (t * 2 ^ memory) % 2 ^ 64 ≡ t * 2 ^ memory
row_exact t memory h k = shl_whole t 12 memory 64 (omega arith) (omega arith)

-- a row lies in the record
pub row_within : (memory steps t s : ℕ) → t < steps → s < 2 ^ memory → t * 2 ^ memory + s < steps * 2 ^ memory
row_within memory steps t s h k = omega (arith, mul-add-lt t (2 ^ memory) s steps h k)

-- so does the whole of it
pub row_fits : (memory steps t : ℕ) → t < steps → t * 2 ^ memory + 2 ^ memory ≤ steps * 2 ^ memory
row_fits memory steps t h =
    let some = pow_pos memory in
    let last = row_within memory steps t (2 ^ memory - 1) h (omega arith) in
    omega arith

-- a row begins no earlier than at its own number
pub row_after : (t memory : ℕ) → t ≤ t * 2 ^ memory
row_after t memory = omega (arith, mul-le t 1 t (2 ^ memory) (omega arith) (pow_pos memory))

-- half of a register is a bit shorter
half_register : (memory register : ℕ) → 1 ≤ memory → register < 2 ^ memory → register / 2 < 2 ^ (memory - 1)
half_register memory register h k = let on : memory ≡ suc (memory - 1) = omega arith in half_below (memory - 1) register (subst (λ n. register < 2 ^ n) on k)

-- the register a step back: the newest bit leaves, and the bit that was dropped comes back as the oldest
pub register_back : (memory register mark : ℕ) → 1 ≤ memory → memory ≤ 4 → register < 2 ^ memory → mark ≤ 1 →
    bit_or (register / 2) ((mark * 2 ^ (memory - 1)) % 2 ^ 64) ≡ register / 2 + mark * 2 ^ (memory - 1)
register_back memory register mark h k r b =
    let shifted : (mark * 2 ^ (memory - 1)) % 2 ^ 64 ≡ mark * 2 ^ (memory - 1) = shl_whole mark 1 (memory - 1) 64 (omega arith) (omega arith) in
    ap (bit_or (register / 2)) shifted ∙ or_shifted_r mark (memory - 1) (register / 2) (half_register memory register h r) ∙ add_comm (mark * 2 ^ (memory - 1)) (register / 2)

-- and it is a register still
pub register_back_below : (memory register mark : ℕ) → 1 ≤ memory → register < 2 ^ memory → mark ≤ 1 → register / 2 + mark * 2 ^ (memory - 1) < 2 ^ memory
register_back_below memory register mark h r b =
    let on : memory - 1 + 1 ≡ memory = omega arith in
    let below = mul-add-lt mark (2 ^ (memory - 1)) (register / 2) 2 (omega arith) (half_register memory register h r) in
    subst (λ n. register / 2 + mark * 2 ^ (memory - 1) < 2 ^ n) on (omega (arith, pow-add 2 (memory - 1) 1))
