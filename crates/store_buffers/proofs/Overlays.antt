-- A word of memory after stores.
use Rattle.std.proofs.Common.{◌≡◌, ℕ, ◌+◌, ◌-◌, ◌/◌, ◌^◌, ◌<◌, ◌≤◌, List, [], ◌∷◌, ◌++◌, refl, sym, ap, ◌∙◌, arith, min, ⊎_elim}
use Rattle.std.proofs.lemmas.Bool.Decides.{nat_tests}
use Rattle.std.proofs.lemmas.Bool.{cases_lt}
use Rattle.mach_types.specs.Bytes.{byte_of, byte_over, overlay}
use Rattle.mach_types.specs.declared.user_memory.Store.{Store}
use Rattle.store_buffers.proofs.Replaced.{with_bytes-below, with_bytes-in, with_bytes-above, with_bytes-lt, byte_of-div}
use Rattle.store_buffers.specs.Words.{with_bytes}

byte_over-covered : (s : Store) (a below : ℕ) → s.at ≤ a → a < s.at + s.size → byte_over s a below ≡ byte_of s.value (a - s.at)
byte_over-covered s a below from to = grind (arith, nat_tests)

byte_over-before : (s : Store) (a below : ℕ) → a < s.at → byte_over s a below ≡ below
byte_over-before s a below before = grind (arith, nat_tests)

byte_over-behind : (s : Store) (a below : ℕ) → s.at + s.size ≤ a → byte_over s a below ≡ below
byte_over-behind s a below behind = grind (arith, nat_tests)

-- the bytes of the word below, among and above those that were put
module _ (w at : ℕ) (s : Store) (d c b k : ℕ) where
  put_below : k < d → at + k < s.at → byte_of (with_bytes w d c b) k ≡ byte_over s (at + k) (byte_of w k)
  put_below low before = with_bytes-below w d c b k low ∙ sym (byte_over-before s (at + k) (byte_of w k) before)

  put_among : d ≤ k → k < d + c → s.at ≤ at + k → at + k < s.at + s.size → byte_of b (k - d) ≡ byte_of s.value (at + k - s.at)
      → byte_of (with_bytes w d c b) k ≡ byte_over s (at + k) (byte_of w k)
  put_among low high from to same =
      let place : k ≡ d + (k - d) = omega arith in
      ap (λ n. byte_of (with_bytes w d c b) n) place
      ∙ with_bytes-in w d c b (k - d) (omega arith)
      ∙ same
      ∙ sym (byte_over-covered s (at + k) (byte_of w k) from to)

  put_above : d + c ≤ k → s.at + s.size ≤ at + k → byte_of (with_bytes w d c b) k ≡ byte_over s (at + k) (byte_of w k)
  put_above high behind =
      let place : k ≡ d + (c + (k - d - c)) = omega arith in
      ap (λ n. byte_of (with_bytes w d c b) n) place
      ∙ with_bytes-above w d c b (k - d - c)
      ∙ ap (λ n. byte_of w n) (sym place)
      ∙ sym (byte_over-behind s (at + k) (byte_of w k) behind)

-- a store that begins at or before the word: some of its bytes are skipped
pub over_from : (w at size : ℕ) (s : Store) (count bits : ℕ) → s.at ≤ at → at - s.at < s.size
    → count ≡ min size (s.size - (at - s.at)) → bits ≡ s.value / 256 ^ (at - s.at)
    → (k : ℕ) → k < size → byte_of (with_bytes w 0 count bits) k ≡ byte_over s (at + k) (byte_of w k)
over_from w at size s count bits from room counted cut k within =
    ⊎_elim
    (λ (inside : k < count).
    let place : at - s.at + (k - 0) ≡ at + k - s.at = omega arith in
    put_among w at s 0 count bits k (omega arith) (omega arith) (omega arith) (omega arith)
    (ap (λ n. byte_of n (k - 0)) cut ∙ byte_of-div (at - s.at) s.value (k - 0) ∙ ap (λ n. byte_of s.value n) place))
    (λ (past : count ≤ k). put_above w at s 0 count bits k (omega arith) (omega arith))
    (cases_lt k count)

-- a store that begins within the word
pub over_within : (w at size : ℕ) (s : Store) (count : ℕ) → at < s.at → s.at - at < size → count ≡ min s.size (size - (s.at - at))
    → (k : ℕ) → k < size → byte_of (with_bytes w (s.at - at) count s.value) k ≡ byte_over s (at + k) (byte_of w k)
over_within w at size s count from room counted k within =
    ⊎_elim
    (λ (low : k < s.at - at). put_below w at s (s.at - at) count s.value k low (omega arith))
    (λ (high : s.at - at ≤ k).
    ⊎_elim
    (λ (inside : k < s.at - at + count).
    let place : k - (s.at - at) ≡ at + k - s.at = omega arith in
    put_among w at s (s.at - at) count s.value k high inside (omega arith) (omega arith) (ap (λ n. byte_of s.value n) place))
    (λ (past : s.at - at + count ≤ k). put_above w at s (s.at - at) count s.value k past (omega arith))
    (cases_lt k (s.at - at + count)))
    (cases_lt k (s.at - at))

-- the word keeps its size
pub put_fits : (w d c b size : ℕ) → d + c ≤ size → w < 256 ^ size → with_bytes w d c b < 256 ^ size
put_fits w d c b size room small =
    let split : d + (c + (size - d - c)) ≡ size = omega arith in
    let power = ap (λ n. 256 ^ n) split in
    let fits = with_bytes-lt w d c b (size - d - c) (omega arith) in
    omega arith

pub overlay-push : (ss : List Store) (s : Store) (a below : ℕ) → overlay (ss ++ s ∷ []) a below ≡ byte_over s a (overlay ss a below)
overlay-push [] s a below = refl
overlay-push (t ∷ ss) s a below = overlay-push ss s a (byte_over t a below)
