use Rattle.std.proofs.Common.{sym}
use Rattle.page_map.proofs.Readings.{read_in_page}
use Rattle.page_map.proofs.map.PageMap.word_in_page.Goals as goal

pub returns-clause-word : goal.returns-clause-word
returns-clause-word c =
    let found = c.in_ok-bytes.ensures in
    read_in_page c.args.bit c.args.self.now c.args.at c.args.size c.in_ok-bytes.bytes.now c.number_in.result (sym found.bytes) c.number_in.ensures.bytes_are_small found.size c.requires.page c.number_in.ensures.number
