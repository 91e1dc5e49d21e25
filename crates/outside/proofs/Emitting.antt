-- What holds while `emit` goes on.
use Rattle.std.proofs.Common.{ℕ, ◌≤◌, ◌+◌, ◌-◌, List, Option, length, take, drop, arith}
use Rattle.std.proofs.lemmas.List.{take_rest, length-drop}
use Rattle.std.proofs.Math.Seq.{take-add}
use Rattle.outside.specs.Counts.{NeverFalls}
use Rattle.outside.specs.Told.{Gained}
use Rattle.outside.proofs.Gains.{gained-then}
use Rattle.outside.proofs.Rises.{falls-then}

-- the sink gained the first `done` bytes, and its count didn't fall
pub record IsEmitting (held held' : Option (List ℕ)) (faults faults' : ℕ) (bytes : List ℕ) (done : ℕ) : Type 0 where
  pub within : done ≤ length bytes
  pub gained : Gained held held' (take done bytes)
  pub counts : NeverFalls faults faults'

-- one put more, of the first n bytes of what wasn't put yet
pub emitting-more : (held held' held'' : Option (List ℕ)) (faults faults' faults'' : ℕ) (bytes : List ℕ) (done n : ℕ) → IsEmitting held held' faults faults' bytes done → n ≤ length (take (length bytes - done) (drop done bytes)) → Gained held' held'' (take n (take (length bytes - done) (drop done bytes))) → NeverFalls faults' faults'' → IsEmitting held held'' faults faults'' bytes (done + n)
emitting-more held held' held'' faults faults' faults'' bytes done n before some gained counts =
    let rest = take_rest bytes done in
    let within : n ≤ length (drop done bytes) = rw rest at some in
    let more : Gained held' held'' (take n (drop done bytes)) = rw rest at gained in
    record {
      within = omega (arith, length-drop done bytes, before.within);
      gained = rw take-add (gained-then held held' held'' (take done bytes) (take n (drop done bytes)) before.gained more);
      counts = falls-then faults faults' faults'' before.counts counts;
    }
