use Rattle.std.proofs.Common.{◌≡◌, ◌≤◌, ℕ, cond, drop}
use Rattle.block_model.specs.Footprints.{bytes_of_all, have_byte}
use Rattle.event_facts.specs.Tied.{line_in}
use Rattle.event_facts.proofs.lines.Lines.note_kernel.Given as goal

-- what comes of the writes that are left is what comes of all
abbrev pub invariant-loop-write : goal.invariant-loop-write
invariant-loop-write l = record {
  waiting : l.self.waiting ≡ l.initial.self.waiting;
  latest : (a : ℕ) → line_in l.self a ≤ l.line;
  lines : (a : ℕ) → cond (have_byte (bytes_of_all (drop l.write-index l.writes)) a) l.line (line_in l.self a)
      ≡ cond (have_byte (bytes_of_all l.writes) a) l.line (line_in l.initial.self a);
}
