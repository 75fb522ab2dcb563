use Rattle.ts_check.proofs.valid.first_fault.Goals as goal

pub first_of_pieces-requires : goal.first_of_pieces-requires
first_of_pieces-requires g c = c.new.ensures.intervals.rules
