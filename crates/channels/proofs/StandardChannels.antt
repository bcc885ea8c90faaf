-- What the channels set is what the standard describes.
use Rattle.std.proofs.Common.{◌≡◌, ℕ, ◌+◌, ◌*◌, ◌<◌, Bool, false, cond, List, length, get_or, Some, None, Option, sym, refl, ap, subst, ◌∙◌}
use Rattle.line.specs.Interleaver.{interleaved}
use Rattle.line.specs.Scrambler.{scrambled}
use Rattle.line.specs.Unpunctured.{in_order}
use Rattle.puncture.specs.Masks.{Masks, coded_of, pattern}
use Rattle.puncture.specs.Patterns.{kept, numbered}
use Rattle.puncture.proofs.Making.{length_pattern}
use Rattle.trellis.specs.Codes.{rows_of}
use Rattle.channels.specs.Channels.{Terms, terms}
use Rattle.channels.specs.Standard.{Description, entries, punctured, standard}
use Rattle.channels.specs.Tables.{data24_masks, data96_masks}
use Rattle.channels.specs.declared.channel.Channel.{Channel}
use Rattle.channels.specs.declared.channel.Channel.TheVariants.{Bench, Bcch, Data24, Data96}
use Rattle.channels.proofs.StandardCoder.{Tells, bench_tells, half_tells, fifth_tells}
use Rattle.channels.proofs.StandardMasks.{Stands, length_walk, walk_stands, whole_stands}

-- the bits that masks leave of so many coded ones fill so many places, and stand where `line` lays them
pub record Laid (masks : Option Masks) (coded places : ℕ) (line : ℕ → Option (ℕ × Bool)) : Type 0 where
  pub fills : (bits : List Bool) → length bits ≡ coded → length (punctured masks bits) ≡ places
  pub stands : (bits : List Bool) (j : ℕ) (bit : Bool) → length bits ≡ coded → (j < length bits → get_or bits j false ≡ bit) →
      Stands (punctured masks bits) bit (line j)

-- without masks all are laid in order
whole_laid : (n : ℕ) → Laid None n n (in_order n)
whole_laid n = record { fills = λ bits e. e; stands = λ bits j bit e same. whole_stands bits n j bit e same }

-- by masks, as their pattern numbers them, which has the entries one after another
masks_laid : (m : Masks) (n : ℕ) → pattern m ≡ entries m → kept (pattern m) ≡ n → Laid (Some m) (coded_of m) n (numbered (pattern m))
masks_laid m n read many = record {
  fills = λ bits e. length_walk (entries m) bits (e ∙ sym long) ∙ ap kept (sym read) ∙ many;
  stands = λ bits j bit e same.
      subst (λ p. Stands (punctured (Some m) bits) bit (numbered p j)) (sym read) (walk_stands (entries m) bits j bit (e ∙ sym long) same);
}
  where
    long : length (entries m) ≡ coded_of m
    long = ap length (sym read) ∙ length_pattern m

-- what a channel sets is as a description has it
pub record Described (d : Description) (t : Terms) : Type 0 where
  pub message : d.message ≡ t.message
  pub parity : cond d.parity 16 0 ≡ t.parity
  pub told : Tells t.code d.equations
  pub rows : length (rows_of t.code) ≡ t.code.rows
  pub coded : (t.message + t.parity + d.tail) * t.code.rows ≡ t.coded
  -- where the line below the interleaver lays each coded bit
  pub below : ℕ → Option (ℕ × Bool)
  pub laid : Laid d.masks t.coded (8 * d.rows) below
  pub places : (j : ℕ) →
      t.place j ≡ cond d.scrambled (scrambled (interleaved (8 * d.rows) (below j))) (interleaved (8 * d.rows) (below j))
  pub burst : t.burst ≡ 8 * d.rows
  pub depth : t.depth ≡ d.depth

-- of each channel
pub described : (channel : Channel) → Described (standard channel) (terms channel)
described Bench = record {
  message = refl;
  parity = refl;
  told = bench_tells;
  rows = refl;
  coded = refl;
  below = _;
  laid = whole_laid 16;
  places = λ j. refl;
  burst = refl;
  depth = refl;
}
described Bcch = record {
  message = refl;
  parity = refl;
  told = half_tells;
  rows = refl;
  coded = refl;
  below = _;
  laid = whole_laid 424;
  places = λ j. refl;
  burst = refl;
  depth = refl;
}
described Data24 = record {
  message = refl;
  parity = refl;
  told = fifth_tells;
  rows = refl;
  coded = refl;
  below = _;
  laid = masks_laid data24_masks 648 refl refl;
  places = λ j. refl;
  burst = refl;
  depth = refl;
}
described Data96 = record {
  message = refl;
  parity = refl;
  told = half_tells;
  rows = refl;
  coded = refl;
  below = _;
  laid = masks_laid data96_masks 648 refl refl;
  places = λ j. refl;
  burst = refl;
  depth = refl;
}
