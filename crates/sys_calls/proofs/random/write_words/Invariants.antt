-- So many words entered memory, and no permission changed.
use Rattle.sys_calls.proofs.Common.{◌≡◌, ℕ, IsEntered, can_write_in}
use Rattle.block_model.specs.Calls.Random.{state_after, words_drawn}
use Rattle.sys_calls.proofs.random.write_words.Given as goal

abbrev pub invariant-loop-k : goal.invariant-loop-k
invariant-loop-k l = record {
  state : l.current ≡ state_after l.k l.state;
  entered : IsEntered l.fn.pages l.pages (words_drawn l.k l.at l.state);
  same : (a : ℕ) → can_write_in l.pages a ≡ can_write_in l.fn.pages a;
  told : l.written.items ≡ words_drawn l.k l.at l.state;
}
