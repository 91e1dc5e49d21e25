-- What is known of an event before it: whether it interrupts a thread (rseq(2)), and what the kernel writes to memory by it.
use Rattle.std.specs.Prelude.{Bool, List, [], is_some}
use Rattle.mach_types.specs.Events.{is_interrupting, kind_of, maker_of, nature_of}
use Rattle.mach_types.specs.declared.events.Choice.{Choice}
use Rattle.mach_types.specs.declared.events.Maker.{Maker}
use Rattle.mach_types.specs.declared.events.Maker.TheVariants.{Thread, Buffer, Kernel}
use Rattle.mach_types.specs.declared.user_memory.Write.{Write}
use Rattle.block_model.specs.Events.{done_of}
use Rattle.block_model.specs.Here.{Here, runs}

-- whether the event of a choice that is allowed at a place interrupts the thread that its entry names: that begins to run, that a
-- signal is delivered to, or that runs where requests are taken of which one asks for a restart
abbrev pub interrupts : Choice → Here → Bool
interrupts c here = is_interrupting (nature_of (kind_of c)).interruption here.restart (is_some (runs here))

-- the writes to memory by the event of a choice that is allowed at a place, in order, which are the kernel's: all that its event makes.
-- Of an `exec` and a `drain` none is foreseen: what enters memory by an instruction or a store is the thread's own, and what a call
-- writes is known once it was made
abbrev pub foreseen_by : Maker → Choice → Here → List Write
foreseen_by Thread c here = []
foreseen_by Buffer c here = []
foreseen_by Kernel c here = (done_of c here).entered

abbrev pub foreseen_writes : Choice → Here → List Write
foreseen_writes c here = foreseen_by (maker_of c) c here
