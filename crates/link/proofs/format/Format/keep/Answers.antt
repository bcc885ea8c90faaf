use Rattle.std.proofs.Common.{◌≡◌, ℕ, ◌+◌, ◌*◌, ◌<◌, ◌≤◌, false, length, map, get_or, replicate, sym, ap, ◌∙◌, arith, rules}
use Rattle.std.proofs.lemmas.List.{take-replicate, length-map}
use Rattle.trellis.specs.Bits.{bit_of, odd}
use Rattle.trellis.specs.Coding.{coded_bit}
use Rattle.trellis.proofs.Encoding.{encoded_whole}
use Rattle.trellis.proofs.Parities.{with_parity_length}
use Rattle.trellis.proofs.Soundness.{sound_parts}
use Rattle.link.specs.Sending.{run_of}
use Rattle.link.proofs.format.Format.keep.Goals as goal

pub write_run-requires-clause-zeros : goal.write_run-requires-clause-zeros
write_run-requires-clause-zeros g c =
    let f = c.args.self.now in
    let m = f.most_message in
    let p = f.most_parity in
    take-replicate (f.message + f.parity) 528 0 (omega arith) ∙ ap (λ n. replicate (n + f.parity) 0) (sym c.requires.message)

pub returns : goal.returns
returns g c =
    let f = c.args.self.now in
    let message = map odd c.args.message.now in
    let run = run_of f message in
    let coded = c.encode.new.coded in
    let long : length run ≡ f.message + f.parity = omega (arith, with_parity_length f.parity message, length-map c.args.message.now odd, c.requires.message) in
    let cut : length coded ≡ f.code.rows * (f.message + f.parity + f.code.memory) = search (rules, ap (λ n. f.code.rows * n) c.steps.ensures) in
    let reaches : f.code.rows * (length run + f.code.memory) ≤ length coded = omega (arith, ap (λ n. f.code.rows * (n + f.code.memory)) long) in
    let put : (j : ℕ) → j < length coded → get_or coded j false ≡ coded_bit f.code run j
    = λ j h. c.encode.ensures.coded f.codes j (omega (arith, c.encode.auto.coded)) ∙ ap (λ r. coded_bit f.code r j) c.write_run.ensures in
    let all = encoded_whole f.code run (sound_parts f.code f.codes) coded reaches put in (
      c.fill.new.row,
      record {
        whole = c.fill.ensures.whole;
        bits = λ j k turned e h. c.fill.ensures.bits j k turned e h ∙ ap bit_of (all j);
      },
      c.store.ensures,
    )
