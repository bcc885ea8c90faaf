use Rattle.std.proofs.Common.{sym, ◌∙◌}
use Rattle.puncture.proofs.Making.{lays}
use Rattle.puncture.proofs.mask.Mask.new.Goals as goal
use Rattle.puncture.specs.Masks.{lent_masks}

pub returns-then-are_sound : goal.returns-then-are_sound
returns-then-are_sound c = lays (lent_masks c.args.tables.now) _ (sym c.if-are_sound.true ∙ c.are_sound.ensures) c.of.ensures
