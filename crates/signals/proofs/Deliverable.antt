-- The signal that comes next is the lowest one that can be delivered.
use Rattle.std.proofs.Common.{◌≡◌, ℕ, ◌+◌, ◌<◌, ◌≤◌, ◌⊎◌, inl, inr, Bool, true, false, cond, find, Some, None, zero, suc, refl, sym, ap, ◌∙◌, arith}
use Rattle.std.specs.List.{range_with_len}
use Rattle.std.proofs.Math.Nat.{eq-or-lt_of_le}
use Rattle.mach_types.specs.Kernel.Signals.{Signalling, all_signals, is_deliverable, next_for}

module _ (test : ℕ → Bool) where
  -- what is found passes
  passes : (n a s : ℕ) → find test (range_with_len a n) ≡ Some s → test s ≡ true
  passes zero a s e = cc
  passes (suc n) a s e = go (test a) refl e (passes n (a + 1) s)
    where
      go : (b : Bool) → test a ≡ b → cond b (Some a) (find test (range_with_len (a + 1) n)) ≡ Some s
          → (find test (range_with_len (a + 1) n) ≡ Some s → test s ≡ true) → test s ≡ true
      go true here found rest =
          let same : a ≡ s = cc in
          ap test (sym same) ∙ here
      go false here found rest = rest found

  -- and is one of them
  inside : (n a s : ℕ) → find test (range_with_len a n) ≡ Some s → (a ≤ s) × (s < a + n)
  inside zero a s e = cc
  inside (suc n) a s e = go (test a) e (inside n (a + 1) s)
    where
      go : (b : Bool) → cond b (Some a) (find test (range_with_len (a + 1) n)) ≡ Some s
          → (find test (range_with_len (a + 1) n) ≡ Some s → (a + 1 ≤ s) × (s < a + 1 + n)) → (a ≤ s) × (s < a + suc n)
      go true found rest =
          let same : a ≡ s = cc in
          (omega arith, omega arith)
      go false found rest =
          let both = rest found in
          (omega arith, omega arith)

  -- those before it fail, and all fail where none is found
  before_fails : (n a s u : ℕ) → find test (range_with_len a n) ≡ Some s → a ≤ u → u < s → test u ≡ false
  before_fails zero a s u e from below = cc
  before_fails (suc n) a s u e from below = go (test a) refl e (eq-or-lt_of_le from) (before_fails n (a + 1) s u)
    where
      go : (b : Bool) → test a ≡ b → cond b (Some a) (find test (range_with_len (a + 1) n)) ≡ Some s → (a ≡ u) ⊎ (a < u)
          → (find test (range_with_len (a + 1) n) ≡ Some s → a + 1 ≤ u → u < s → test u ≡ false) → test u ≡ false
      go true here found order rest =
          let same : a ≡ s = cc in
          absurd (omega arith)
      go false here found (inl same) rest = ap test (sym same) ∙ here
      go false here found (inr later) rest = rest found (omega arith) below

  all_fail : (n a u : ℕ) → find test (range_with_len a n) ≡ None → a ≤ u → u < a + n → test u ≡ false
  all_fail zero a u e from below = absurd (omega arith)
  all_fail (suc n) a u e from below = go (test a) refl e (eq-or-lt_of_le from) (all_fail n (a + 1) u)
    where
      go : (b : Bool) → test a ≡ b → cond b (Some a) (find test (range_with_len (a + 1) n)) ≡ None → (a ≡ u) ⊎ (a < u)
          → (find test (range_with_len (a + 1) n) ≡ None → a + 1 ≤ u → u < a + 1 + n → test u ≡ false) → test u ≡ false
      go true here found order rest = cc
      go false here found (inl same) rest = ap test (sym same) ∙ here
      go false here found (inr later) rest = rest found (omega arith) (omega arith)

pub next_for-comes : (t s : ℕ) (g : Signalling) → next_for t g ≡ Some s → is_deliverable t g s ≡ true
unfolding all_signals
next_for-comes t s g e = passes (is_deliverable t g) 31 1 s e

pub next_for-is_signal : (t s : ℕ) (g : Signalling) → next_for t g ≡ Some s → (1 ≤ s) × (s ≤ 31)
unfolding all_signals
next_for-is_signal t s g e =
    let both = inside (is_deliverable t g) 31 1 s e in
    (both.0, omega arith)

pub next_for-lowest : (t s u : ℕ) (g : Signalling) → next_for t g ≡ Some s → 1 ≤ u → u < s → is_deliverable t g u ≡ false
unfolding all_signals
next_for-lowest t s u g e from below = before_fails (is_deliverable t g) 31 1 s u e from below

pub next_for-none : (t u : ℕ) (g : Signalling) → next_for t g ≡ None → 1 ≤ u → u ≤ 31 → is_deliverable t g u ≡ false
unfolding all_signals
next_for-none t u g e from below = all_fail (is_deliverable t g) 31 1 u e from (omega arith)
