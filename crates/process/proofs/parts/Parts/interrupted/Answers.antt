use Rattle.process.proofs.Common.{writes_of}
use Rattle.process.proofs.Interruptions.{clearing, written_by}
use Rattle.process.proofs.parts.Parts.interrupted.Goals as goal

pub lose_pointer-requires : goal.lose_pointer-requires
lose_pointer-requires c = (clearing c.args.self.now.pages c.args.area c.args.pc c.interrupt-outcome.result c.interrupt-outcome.ensures.outcome).fits

pub returns-clause-pages : goal.returns-clause-pages
returns-clause-pages c =
    let o = c.interrupt-outcome.result in
    let is = clearing c.args.self.now.pages c.args.area c.args.pc o c.interrupt-outcome.ensures.outcome in
    rw c.lose_pointer.ensures.pages (written_by c.args.self.now.pages c.interrupt-outcome.new.mem (writes_of c.args.area o) c.interrupt-outcome.ensures.alike is.visible c.interrupt-outcome.ensures.bytes)
