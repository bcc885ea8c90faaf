use Rattle.std.proofs.Common.{◌≡◌, ◌<◌, ◌≤◌, false, map, reverse, length, take, sym, ◌∙◌, arith, length-take-le, get_or-take, ext_get_or}
use lib.ListN.{length-reverse, get_or-map}
use Rattle.std.proofs.lemmas.List.{length-map}
use Rattle.trellis.specs.Bits.{bit_of}
use Rattle.trellis.proofs.Records.{row_after}
use Rattle.trellis.proofs.windows.Trellis.traceback.Goals as goal

pub returns : goal.returns
returns c kept path recorded =
    let steps = c.args.self.now.steps in
    let m = c.args.self.now.code.memory in
    let traced = c.trace.ensures kept path recorded in
    let xs = c.gather.new.paths in
    let room : steps ≤ length xs = omega (arith, row_after steps m) in
    let short : length (take steps xs) ≡ steps = length-take-le steps xs room in
    let long : length (map bit_of (reverse path)) ≡ steps = length-map (reverse path) bit_of ∙ length-reverse path ∙ traced.0 in
    ext_get_or 0 (take steps xs) (map bit_of (reverse path)) (short ∙ sym long)
    (λ i h.
    let below : i < steps = omega arith in
    get_or-take steps xs i 0 below ∙ c.gather.ensures i below ∙ traced.1 i below ∙ sym (get_or-map bit_of (reverse path) i false))
