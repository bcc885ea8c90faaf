-- Tables read column by column.
use Rattle.std.proofs.Common.{◌≡◌, ℕ, zero, suc, ◌+◌, ◌-◌, ◌*◌, ◌<◌, ◌++◌, nat_eq, slice_index, length, sym, ap, ◌∙◌, add-one, arith}
use Rattle.std.proofs.lemmas.List.{length-append, length-map}
use Rattle.puncture.specs.Masks.{Table, column, columns}

-- so many columns have so many entries of each row
pub length_columns : (t : Table) (c n : ℕ) → length (columns t c n) ≡ n * length t
length_columns t c zero = omega arith
length_columns t c (suc n) = omega (arith, length-append (column t c) (columns t (suc c) n), length-map t (λ row. nat_eq (slice_index row c) 1), length_columns t (suc c) n)

-- the columns up to column w begin with column c
pub columns_from : (t : Table) (c w : ℕ) → c < w → columns t c (w - c) ≡ column t c ++ columns t (c + 1) (w - (c + 1))
columns_from t c w h =
    let on : w - c ≡ suc (w - (c + 1)) = omega arith in
    ap (columns t c) on ∙ ap (λ d. column t c ++ columns t d (w - (c + 1))) (sym (add-one c))
