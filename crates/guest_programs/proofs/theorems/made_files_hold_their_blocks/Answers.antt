use Rattle.guest_programs.proofs.LibraryBlocks.{block_of_kind, made_blocks, ring_of_kind}
use Rattle.guest_programs.proofs.theorems.made_files_hold_their_blocks.Goals as goal

pub returns-clause-block : goal.returns-clause-block
returns-clause-block c = block_of_kind

pub returns-clause-ring : goal.returns-clause-ring
returns-clause-ring c = ring_of_kind

pub returns-clause-file : goal.returns-clause-file
returns-clause-file c = made_blocks
