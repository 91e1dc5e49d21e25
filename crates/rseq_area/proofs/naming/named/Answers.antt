use Rattle.std.proofs.Common.{◌∙◌}
use Rattle.rseq_area.proofs.Descriptors.{named-descriptor}
use Rattle.rseq_area.proofs.naming.named.Goals as goal

pub returns-in-Some-read_descriptor : goal.returns-in-Some-read_descriptor
returns-in-Some-read_descriptor g c =
    c.named_by.ensures
    ∙ named-descriptor (g.M.UserMem.byte c.args.mem.now) c.args.area.now c.args.pc c.in-Some.request c.in-Some-read_descriptor.descriptor c.in-Some.ensures
    c.if-request-eq0.false c.if-request-ge-USER_END.false c.in-Some-read_descriptor.ensures
