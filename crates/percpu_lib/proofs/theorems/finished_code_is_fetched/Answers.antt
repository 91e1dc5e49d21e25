use Rattle.percpu_lib.proofs.FileCode.{word_fetched}
use Rattle.percpu_lib.proofs.theorems.finished_code_is_fetched.Goals as goal

pub returns : goal.returns
returns c labels items bytes file image at k w its holds code is =
    word_fetched file image its at bytes holds labels items code k w is
