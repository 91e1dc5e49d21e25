use Rattle.mach_types.proofs.FlatBytes.{stored-next}
use Rattle.mach_types.specs.Flat.{flat_byte}
use Rattle.mach_types.proofs.flat_memory.FlatMemory.+write.Goals as goal

pub returns-then-count-gt0-clause-bytes : goal.returns-then-count-gt0-clause-bytes
returns-then-count-gt0-clause-bytes t c =
    stored-next
    (flat_byte c.args.self.now)
    (flat_byte c.put.new.self)
    (flat_byte c.write.new.self)
    c.args.at
    c.args.count
    c.args.value
    c.if-count-gt0.true
    c.put.ensures.bytes
    c.write.ensures.bytes
