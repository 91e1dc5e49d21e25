use Rattle.instruction_tests.proofs.stores.Ramp.+word.Given as goal

abbrev pub decreases-word : goal.decreases-word
decreases-word l = l.size
