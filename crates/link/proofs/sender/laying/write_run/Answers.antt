use Rattle.link.proofs.Writing.{run_written}
use Rattle.link.proofs.sender.laying.write_run.Goals as goal

pub returns : goal.returns
returns c =
    run_written c.args.message.now c.args.width c.args.run.now c.copy_from_slice.new.self c.write_bits.new.row c.remainder_of-remainder.result
    c.requires.zeros c.copy_from_slice.ensures.after c.remainder_of-remainder.ensures c.write_bits.ensures
