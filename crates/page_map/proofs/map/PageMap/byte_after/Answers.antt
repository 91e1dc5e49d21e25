use Rattle.std.proofs.Common.{sym, arith, ◌+◌}
use Rattle.page_map.specs.MapLaws.{byte_if-past}
use Rattle.page_map.proofs.map.PageMap.byte_after.Goals as goal

pub returns-in-None : goal.returns-in-None
returns-in-None c =
    let past = c.in-None.ensures in
    sym (byte_if-past c.args.bit c.args.self.now (c.args.at + c.args.k) (omega (arith, past)))
