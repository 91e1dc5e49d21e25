-- So far the harts before this one hold nothing.
use Rattle.shared_procs.proofs.Common.{◌≡◌, ℕ, Bool, length, AreEmptied, MayEmpty, PairSetting, Plain}
use Rattle.shared_procs.proofs.ending.empty_all.Given as goal

abbrev pub invariant-loop-hart : goal.invariant-loop-hart
invariant-loop-hart l = record {
  emptied : (s : PairSetting) (p : Bool) (x y : Plain) (shared : ℕ → ℕ)
      → AreEmptied s p 0 x y shared l.fn.mine l.fn.other l.fn.segment
      → AreEmptied s p l.hart x y shared l.mine l.other l.segment;
  may : MayEmpty l.mine;
  harts : length l.mine.harts.items ≡ length l.fn.mine.harts.items;
}
