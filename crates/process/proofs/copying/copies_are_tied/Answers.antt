use Rattle.process.proofs.Copied.{copy-tied}
use Rattle.process.proofs.copying.copies_are_tied.Goals as goal

pub returns : goal.returns
returns c = copy-tied
