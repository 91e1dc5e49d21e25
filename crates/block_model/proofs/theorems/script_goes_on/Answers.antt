use Rattle.block_model.proofs.theorems.script_goes_on.Goals as goal
use Rattle.block_model.proofs.Replay.{played-nil, played-append, played-refused}

pub returns : goal.returns
returns c = record {
  start = λ s. played-nil s;
  more = λ s lines line. played-append s lines line;
  refused = λ s n lines more is. played-refused s n lines more is;
}
