-- Behind its two words, each twice, the return page has zeros.
use Rattle.process.proofs.Fetches.{return_past}
use Rattle.process.proofs.code_pages.return_word.Goals as goal

pub returns-then-offset-ge16 : goal.returns-then-offset-ge16
returns-then-offset-ge16 c = return_past c.args.offset c.if-offset-ge16.true
