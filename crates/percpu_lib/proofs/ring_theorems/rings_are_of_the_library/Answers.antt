use Rattle.alone_laws.specs.Spans.{code_of}
use Rattle.percpu_lib.proofs.OfLibrary.{ring_of_library}
use Rattle.percpu_lib.proofs.ring_theorems.rings_are_of_the_library.Goals as goal

pub returns : goal.returns
returns c k count pages p at area some few held low low_table =
    ring_of_library k count (code_of pages) p at area some few held low low_table
