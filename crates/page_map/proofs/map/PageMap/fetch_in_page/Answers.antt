use Rattle.std.proofs.Common.{Some, sym, ap, ◌∙◌}
use Rattle.page_map.proofs.Readings.{fetch_in_page}
use Rattle.page_map.proofs.map.PageMap.fetch_in_page.Goals as goal

pub returns : goal.returns
returns c =
    let found = c.in_ok-bytes.ensures in
    ap Some c.instruction.ensures.number
    ∙ sym (fetch_in_page c.args.self.now c.args.at c.in_ok-bytes.bytes.now (sym found.bytes) c.instruction.ensures.small found.size c.requires)
