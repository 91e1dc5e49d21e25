-- The least id that isn't held is the first one of the ids that isn't.
use Rattle.std.proofs.Common.{◌≡◌, ℕ, zero, suc, ◌+◌, ◌<◌, ◌≤◌, Bool, true, false, not, cond, eqb, List, [], ◌∷◌, find, Some, sym, ap, ◌∙◌, unwrap_or, inl, inr, w8, subst, ◌≢◌, arith}
use Rattle.std.specs.Int.{trailing_ones}
use Rattle.std.proofs.lemmas.Bool.Decides.{eqb_tells}
use Rattle.std.proofs.lemmas.Nat.Bits.{bit_at-trailing_ones}
use Rattle.mach_types.specs.Kernel.Areas.{is_held, lowest_cid}

-- so many numbers, from one on
abbrev numbers_from : ℕ → ℕ → List ℕ
numbers_from k zero = []
numbers_from k (suc m) = k ∷ numbers_from (k + 1) m

find-numbers : (test : ℕ → Bool) (m k n : ℕ) → k ≤ n → n < k + m → test n ≡ true → ((c : ℕ) → k ≤ c → c < n → test c ≡ false)
    → find test (numbers_from k m) ≡ Some n
find-numbers test zero k n low high passes fails = absurd (omega arith)
find-numbers test (suc m) k n low high passes fails =
    elim (eqb_tells k n) [
      | inl same ↦
          let here : test k ≡ true = ap test same.1 ∙ passes in
          ap (λ b. cond b (Some k) (find test (numbers_from (k + 1) m))) here ∙ ap (λ i. Some i) same.1
      | inr other ↦
          let below : k < n = omega arith in
          let not_here = fails k (omega arith) below in
          ap (λ b. cond b (Some k) (find test (numbers_from (k + 1) m))) not_here
          ∙ find-numbers test m (k + 1) n (omega arith) (omega arith) passes (λ c from to. fails c (omega arith) to)
    ]

pub lowest_cid-is : (held n : ℕ) → n < 8 → is_held held n ≡ false → ((c : ℕ) → c < n → is_held held c ≡ true) → n ≡ lowest_cid held
lowest_cid-is held n within free taken =
    sym (ap (λ o. unwrap_or o 0) (find-numbers (λ c. not (is_held held c)) 8 0 n (omega arith) (omega arith) (ap not free) (λ c from to. ap not (taken c to))))

-- how many ids are held from the first one on
pub held_from_the_first : (held n : ℕ) → n ≡ trailing_ones w8 held → held < 256 → held ≢ 255
    → (n < 8) × (is_held held n ≡ false) × ((cid : ℕ) → cid < n → is_held held cid ≡ true)
held_from_the_first held n is small some =
    let bits = bit_at-trailing_ones w8 held (omega arith) in
    let P : ℕ → Type 0 = λ m. (m < 8) × (is_held held m ≡ false) × ((cid : ℕ) → cid < m → is_held held cid ≡ true) in
    subst P (sym is) (bits.0, ap (λ b. eqb b 1) bits.1, λ cid below. ap (λ b. eqb b 1) (bits.2 cid below))
