-- What is wrong with all words is what is wrong with those that are left.
use Rattle.std.proofs.Common.{◌≡◌, ◌+◌, drop}
use Rattle.command_words.specs.Kept.{so_far, takes_kept}
use Rattle.command_words.specs.WordFaults.{command_read, fault_among}
use Rattle.command_words.specs.Words.{texts}
use Rattle.command_words.proofs.faults.read_behind.Given as goal

abbrev pub invariant-loop-word : goal.invariant-loop-word
invariant-loop-word l = record {
  left :
      fault_among (command_read (takes_kept l.fn.takes)) (texts l.fn.words)
      ≡ fault_among (so_far l.reader) (texts (drop l.word-index l.words));
  next : l.reader.next ≡ l.word-index + 2;
}
