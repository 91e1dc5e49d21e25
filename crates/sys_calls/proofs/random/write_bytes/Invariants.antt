-- So many bytes entered memory, and no permission changed.
use Rattle.sys_calls.proofs.Common.{◌≡◌, ◌++◌, ℕ, IsEntered, can_write_in}
use Rattle.block_model.specs.Calls.Random.{bytes_drawn}
use Rattle.sys_calls.proofs.RandomWrites.{rest_of}
use Rattle.sys_calls.proofs.random.write_bytes.Given as goal

abbrev pub invariant-loop-k : goal.invariant-loop-k
invariant-loop-k l = record {
  rest : l.rest ≡ rest_of l.k l.word;
  entered : IsEntered l.fn.pages l.pages (bytes_drawn l.k l.at l.word);
  same : (a : ℕ) → can_write_in l.pages a ≡ can_write_in l.fn.pages a;
  told : l.written.items ≡ l.fn.written.items ++ bytes_drawn l.k l.at l.word;
}
