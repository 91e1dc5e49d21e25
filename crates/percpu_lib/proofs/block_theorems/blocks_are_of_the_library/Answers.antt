use Rattle.alone_laws.specs.Spans.{code_of}
use Rattle.percpu_lib.proofs.OfLibrary.{of_library}
use Rattle.percpu_lib.proofs.block_theorems.blocks_are_of_the_library.Goals as goal

pub returns : goal.returns
returns c k pages p at area held low low_table = of_library k (code_of pages) p at area held low low_table
