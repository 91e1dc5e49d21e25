use Rattle.std.proofs.Common.{◌≡◌, ℕ, ltb, leb, ◌&&◌, ◌||◌}
use Rattle.log_gather.specs.ByteSets.{has_each}
use Rattle.log_gather.proofs.byte_sets.ByteSet.add_each.Given as goal

abbrev pub invariant-loop-byte : goal.invariant-loop-byte
invariant-loop-byte l = record {
  members : (a : ℕ) → has_each l.self a ≡ (has_each l.initial.self a || (leb l.at a && ltb a l.byte));
  extents : l.self.extents ≡ l.initial.self.extents;
  lowest : l.self.lowest ≡ l.initial.self.lowest;
  end : l.self.end ≡ l.initial.self.end;
}
