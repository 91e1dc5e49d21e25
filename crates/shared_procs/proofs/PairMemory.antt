-- Memory as the instructions of a process of a pair reach it, where the process is kept as at a place; and the pages of the segment.
use Rattle.process.specs.ExecGates.{AreOfSegment}
use Rattle.process.proofs.Laws.{bytes_held}
use Rattle.shared_procs.proofs.Common.{◌≡◌, ℕ, ◌||◌, Bool, true, false, cond, List, Option, Some, arith, refl, sym, ap, subst, AllByRecursion, AreStorable, byte_in, each_byte, fun_ext, Half, half, here_two, is_in_segment, is_storable, IsActing, memory, nat_tests, Neighbour, Pair, PairSetting, reached, reached_in, setting, shared_in, storable_in, Store, writable_held}

module _ (s : PairSetting) (m : Pair) (p : Bool) (h : ℕ) (mine : Half) (segment : List ℕ) (acting : IsActing s m p h mine segment) where
  pub reached_is : reached_in segment mine.parts.pages ≡ reached (here_two s m p h)
  reached_is = fun_ext (λ a. by a (is_in_segment a) refl)
    where
      by : (a : ℕ) (inside : Bool) → is_in_segment a ≡ inside
          → cond inside (Some (shared_in segment a)) (byte_in mine.parts.pages a) ≡ cond inside (Some (m.shared a)) (memory (here_two s m p h) a)
      by a true is = ap Some (acting.holds a is)
      by a false is =
          ap (λ (byte : ℕ → Option ℕ). byte a)
          (bytes_held (half p m).kernel (setting s p).program.break_at (half p m).byte mine.parts.pages acting.place.tied.pages)

  pub storable_is : storable_in mine.parts.pages ≡ is_storable (here_two s m p h)
  storable_is =
      let storable_by : (ℕ → Bool) → ℕ → Bool = λ writable a. is_in_segment a || writable a in
      ap storable_by
      (writable_held (half p m).kernel (setting s p).program.break_at (half p m).byte mine.parts.pages acting.place.tied.pages acting.place.tied.readable)

-- the segment lies on 16 pages
pub segment_pages : (o : Neighbour) → AreOfSegment (Some o) (record { first = 0x3FFFF80; count = 16 })
segment_pages o a = grind (arith, nat_tests)

-- what waits on a hart may enter memory
pub waiting_may : (s : PairSetting) (m : Pair) (p : Bool) (h : ℕ) (mine : Half) (segment : List ℕ) → IsActing s m p h mine segment → (k : ℕ)
    → AreStorable mine.parts.pages ((half p m).waiting k)
waiting_may s m p h mine segment acting k =
    subst (λ (test : ℕ → Bool). AllByRecursion (λ (w : Store). each_byte test w.at w.size ≡ true) ((half p m).waiting k))
    (sym (storable_is s m p h mine segment acting)) ((acting.place.stands.good h acting.place.lt).within k)
