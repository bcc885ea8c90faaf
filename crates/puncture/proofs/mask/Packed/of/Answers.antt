use Rattle.std.proofs.Common.{◌≡◌, ℕ, ◌-◌, ◌*◌, length, sym, ap₂}
use Rattle.std.proofs.lemmas.List.{length-map}
use Rattle.puncture.proofs.Making.{fits, strips_small}
use Rattle.puncture.proofs.mask.Packed.of.Goals as goal
use Rattle.puncture.specs.Masks.{covered, lent, lent_masks}
use Rattle.puncture.specs.declared.mask.tables.Tables.{Tables}

pub packed_end-requires : goal.packed_end-requires
packed_end-requires c = (fits (lent_masks c.args.tables.now) c.requires).front_short

pub packed-requires : goal.packed-requires
packed-requires c = (fits (lent_masks c.args.tables.now) c.requires).short

pub packed_end-requires-2 : goal.packed_end-requires-2
packed_end-requires-2 c = (fits (lent_masks c.args.tables.now) c.requires).back_short

-- the rows of the middle are those of the table that is lent
left_over : (t : Tables) (n : ℕ) → n ≡ covered (lent_masks t) → length t.middle.now * (t.steps - n) ≡ length (lent t.middle) * (t.steps - covered (lent_masks t))
left_over t n e = ap₂ (λ (k r : ℕ). r * (t.steps - k)) e (sym (length-map t.middle.now (λ x. x.now)))

pub invariant_of-result : goal.invariant_of-result
invariant_of-result c =
    let t = c.args.tables.now in
    record {
      small = strips_small (lent_masks t) c.requires c.packed_end.result c.packed.result c.packed_end-2.result _ c.packed_end.ensures c.packed.ensures c.packed_end-2.ensures (left_over t _ c.covered.ensures);
    }
