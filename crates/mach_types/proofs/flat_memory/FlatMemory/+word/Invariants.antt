use Rattle.mach_types.proofs.flat_memory.FlatMemory.+word.Given as goal

abbrev pub decreases-word : goal.decreases-word
decreases-word l = l.count
