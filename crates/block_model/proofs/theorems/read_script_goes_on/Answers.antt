use Rattle.block_model.proofs.theorems.read_script_goes_on.Goals as goal
use Rattle.block_model.proofs.Replay.{played_read-nil, played_read-append, played_read-refused, played_read-all}

pub returns : goal.returns
returns c = record {
  start = λ s. played_read-nil s;
  more = λ s lines line. played_read-append s lines line;
  refused = λ s n lines more is. played_read-refused s n lines more is;
  all = λ s lines. played_read-all s lines;
}
