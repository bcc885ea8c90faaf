use Rattle.std.proofs.Common.{◌≡◌, ℕ, ◌+◌, ◌*◌, ◌/◌, true, false, get_or, set, Some, None, sym, ap, ◌∙◌, inl, inr, arith}
use Rattle.std.proofs.lemmas.List.{get_or_read}
use Rattle.std.proofs.lemmas.Bool.{cases_eq}
use Rattle.trellis.proofs.Numbers.{window_written, window_other}
use Rattle.trellis.proofs.forward.spread.Goals as goal
use Rattle.trellis.proofs.forward.spread.Goals.{in-Some, in-None}

pub loop-p-preserved : goal.loop-p-preserved
loop-p-preserved g c =
    let k = g.C.Cost in
    let p = c.loop-p.p in
    let old = c.args.old.now in
    let costs = c.loop-p.costs in
    let cell : c.index-old-p.result ≡ get_or old p None = get_or_read old p c.index-old-p.result c.loop-p-test.true c.index-old-p.is None in
    elim c.match-cell.branch [
      | in-Some w ↦ let cost = w.of_plain-cost.result in
          let here : get_or old p None ≡ Some w.in-Some.plain = sym cell ∙ w.in-Some.is in
          let first : w.window.result ≡ 2 * p = omega (arith, w.window.ensures) in
          let second : w.window-in-Some.result ≡ 2 * p + 1 = omega (arith, w.window-in-Some.ensures) in
          let is = w.costs-is ∙ (λ i. set (set costs (first i) cost) (second i) cost) in (
            λ v x h e. elim (cases_eq (v / 2) p) [
              | inl f ↦ let same : x ≡ w.in-Some.plain = let d : Some x ≡ Some w.in-Some.plain = sym e ∙ ap (λ q. get_or old q None) f ∙ here in cc in
                  ap (λ cs. get_or cs v k.ZERO) is ∙ window_written costs p v cost k.ZERO (omega arith) f
                  ∙ w.of_plain-cost.ensures ∙ ap k.lift (sym same)
              | inr f ↦ ap (λ cs. get_or cs v k.ZERO) is ∙ window_other costs p v cost k.ZERO f ∙ c.loop-p.invariant.0 v x (omega arith) e
            ],
            λ t q h e. elim (cases_eq q p) [
              | inl f ↦ let d : None ≡ Some w.in-Some.plain = sym e ∙ ap (λ r. get_or old r None) f ∙ here in let z : ◌≡◌ {A = ℕ} 0 1 = cc in absurd (omega arith)
              | inr f ↦ c.loop-p.invariant.1 (sym w.whole-is ∙ t) q (omega arith) e
            ],
          )
      | in-None w ↦ let here : get_or old p None ≡ None = sym cell ∙ w.in-None.is in (
        λ v x h e. elim (cases_eq (v / 2) p) [
          | inl f ↦ let d : None ≡ Some x = sym here ∙ ap (λ r. get_or old r None) (sym f) ∙ e in let z : ◌≡◌ {A = ℕ} 0 1 = cc in absurd (omega arith)
          | inr f ↦ ap (λ cs. get_or cs v k.ZERO) w.costs-is ∙ c.loop-p.invariant.0 v x (omega arith) e
        ],
        λ t q h e. let d : false ≡ true = sym w.whole-is ∙ t in let z : ◌≡◌ {A = ℕ} 0 1 = cc in absurd (omega arith),
      )
    ]
