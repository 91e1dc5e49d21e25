use Rattle.std.proofs.Common.{◌/◌}
use Rattle.page_map.specs.Map.{page_in}
use Rattle.page_map.proofs.WordWrites.{mapped-writable, words-bytes, words-code, words-held, words-permissions}
use Rattle.page_map.proofs.map.PageMap.write_words.Goals as goal

pub write_words_in_page-requires-clause-mapped : goal.write_words_in_page-requires-clause-mapped
write_words_in_page-requires-clause-mapped c = mapped-writable (page_in c.args.self.now (c.args.at / 4096)) c.requires.writable

pub returns-clause-bytes : goal.returns-clause-bytes
returns-clause-bytes c =
    let done = c.write_words_in_page.ensures in
    words-bytes c.args.self.now c.write_words_in_page.new.self c.args.at c.args.words.now done.pages c.requires.page 4 done.size

pub returns-clause-held : goal.returns-clause-held
returns-clause-held c =
    let done = c.write_words_in_page.ensures in
    words-held c.args.self.now c.write_words_in_page.new.self c.args.at c.args.words.now done.pages c.requires.page done.size

pub returns-clause-permissions : goal.returns-clause-permissions
returns-clause-permissions c =
    words-permissions c.args.self.now c.write_words_in_page.new.self c.args.at c.args.words.now c.write_words_in_page.ensures.pages c.requires.page

pub returns-clause-code : goal.returns-clause-code
returns-clause-code c =
    let done = c.write_words_in_page.ensures in
    words-code c.args.self.now c.write_words_in_page.new.self c.args.at c.args.words.now done.pages c.requires.page c.requires.writable done.permission
