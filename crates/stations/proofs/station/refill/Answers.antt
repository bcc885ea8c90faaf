use Rattle.std.proofs.Common.{◌≡◌, ◌≤◌, ◌-◌, ℕ, ◌++◌, replicate, take, length, arith, ap, ◌∙◌, rules}
use Rattle.std.proofs.lemmas.List.{take_all, length-replicate, replicate-append-replicate, length-take}
use Rattle.stations.proofs.station.refill.Goals as goal

-- copies that are no more than asked for, with those that are missing, are as many as asked for
filled_up : {A : Type 0} (n m : ℕ) (v : A) → m ≤ n → take n (replicate m v) ++ replicate (n - m) v ≡ replicate n v
filled_up n m v h =
    ap (λ xs. xs ++ replicate (n - m) v) (take_all n (replicate m v) (omega (arith, length-replicate m v)))
    ∙ replicate-append-replicate m (n - m) v
    ∙ ap (λ k. replicate k v) (omega arith)

pub returns : goal.returns
returns g c =
    let n = c.args.count in
    let m = length c.truncate.new.self.items in
    let v = c.args.value in
    let fits : m ≤ n = omega (arith, ap length c.truncate.ensures.items, length-take n c.args.items.now.items) in
    let whole = filled_up n m v fits in
    let long = length-replicate m v in
    search (rules, whole, long)
