-- The words of memory, page by page.
use Rattle.std.proofs.Common.{◌≡◌, ℕ, ◌+◌, ◌*◌, ◌/◌, ◌%◌, ◌<◌, ◌≤◌, List, drop, replicate, take, Option, Some, None, unwrap_or, IfSome, slice_index, refl, sym, ap, ◌∙◌, zero, suc, arith}
use Rattle.std.specs.Option.{option_map}
use Rattle.std.proofs.lemmas.List.{get_or-drop, get_or-replicate, get_or-take}
use Rattle.byte_views.specs.Words.{word_at as number_at}
use Rattle.mach_types.specs.Bytes.{joined, word_at}
use Rattle.frame_pool.specs.Pool.{fresh}
use Rattle.page_map.specs.Map.{Map, Page, byte_at, held_in, page_in}
use Rattle.page_map.proofs.Laws.{word_missing, word_of_bytes}
use Rattle.place_keys.specs.PageWords.{memory_word, page_word, start_word}

-- numbers of the same bytes
word_by : (f g : ℕ → Option ℕ) (n a b : ℕ) → ((i : ℕ) → i < n → f (a + i) ≡ g (b + i)) → word_at f a n ≡ word_at g b n
word_by f g zero a b same = refl
word_by f g (suc n) a b same =
    let here : a ≡ a + 0 = omega arith in
    let there : b + 0 ≡ b = omega arith in
    let first : f a ≡ g b = ap f here ∙ same 0 (omega arith) ∙ ap g there in
    let rest : word_at f (a + 1) n ≡ word_at g (b + 1) n = word_by f g n (a + 1) (b + 1) (λ i lt.
    let next : a + 1 + i ≡ a + suc i = omega arith in
    let other : b + suc i ≡ b + 1 + i = omega arith in
    ap f next ∙ same (suc i) (omega arith) ∙ ap g other) in
    rw (first, rest) refl

-- a number of which no byte is missing
abbrev given : (ℕ → ℕ) → ℕ → Option ℕ
given f i = Some (f i)

filled : (f : ℕ → ℕ) (n a : ℕ) → word_at (given f) a n ≡ Some (unwrap_or (word_at (given f) a n) 0)
filled f zero a = refl
filled f (suc n) a = rw (filled f n (a + 1)) refl

-- a number tells its bytes
pub word_tells : (f g : ℕ → ℕ) (n a : ℕ) → ((i : ℕ) → f i < 256) → ((i : ℕ) → g i < 256) → unwrap_or (word_at (given f) a n) 0 ≡ unwrap_or (word_at (given g) a n) 0
    → (i : ℕ) → i < n → f (a + i) ≡ g (a + i)
word_tells f g zero a small less e i lt = absurd (omega arith)
word_tells f g (suc n) a small less e i lt =
    go i (unwrap_or (word_at (given f) (a + 1) n) 0) (unwrap_or (word_at (given g) (a + 1) n) 0)
    (ap (λ o. unwrap_or (joined (Some (f a)) o) 0) (sym (filled f n (a + 1))) ∙ e ∙ ap (λ o. unwrap_or (joined (Some (g a)) o) 0) (filled g n (a + 1))) (word_tells f g n (a + 1) small less) lt
  where
    go : (j u v : ℕ) → f a + 256 * u ≡ g a + 256 * v → (u ≡ v → (k : ℕ) → k < n → f (a + 1 + k) ≡ g (a + 1 + k)) → j < suc n → f (a + j) ≡ g (a + j)
    go zero u v h rest under =
        let here : a + zero ≡ a = omega arith in
        let one = small a in
        let two = less a in
        let same : f a ≡ g a = omega arith in
        ap f here ∙ same ∙ ap g (sym here)
    go (suc k) u v h rest under =
        let one = small a in
        let two = less a in
        let next : a + suc k ≡ a + 1 + k = omega arith in
        ap f next ∙ rest (omega arith) k (omega arith) ∙ ap g (sym next)

-- what is read of a page
pub read_small : (bytes : List ℕ) (k w : ℕ) → ((i : ℕ) → slice_index bytes i < 256) → w ≡ number_at bytes (8 * k) 8 → w ≡ page_word bytes k
read_small bytes k w small is =
    is ∙ sym (ap (λ o. unwrap_or o 0) (word_of_bytes (λ i. Some (byte_at i bytes)) bytes (8 * k) (8 * k) 8 (λ i lt. ap Some (little (slice_index bytes (8 * k + i)) (small (8 * k + i))))))
  where
    little : (x : ℕ) → x < 256 → x % 256 ≡ x
    little x lt = omega arith

-- a word of a part of the bytes
pub part_word : (bytes : List ℕ) (place from many k : ℕ) → from ≡ 8 * place → 8 * k + 8 ≤ many → page_word (take many (drop from bytes)) k ≡ page_word bytes (place + k)
part_word bytes place from many k at fits =
    ap (λ o. unwrap_or o 0) (word_by (λ i. Some (byte_at i (take many (drop from bytes)))) (λ i. Some (byte_at i bytes)) 8 (8 * k) (8 * (place + k)) (λ i lt.
    let there : from + (8 * k + i) ≡ 8 * (place + k) + i = omega arith in
    ap (λ x. Some (x % 256)) (get_or-take many (drop from bytes) (8 * k + i) 0 (omega arith) ∙ get_or-drop from bytes (8 * k + i) 0) ∙ ap (λ j. Some (byte_at j bytes)) there))

module _ (m : Map) (n k : ℕ) (lt : k < 512) where
  word_there : (p : Page) → page_in m n ≡ Some p → word_at (held_in m) (8 * (512 * n + k)) 8 ≡ word_at (λ i. Some (byte_at i p.bytes)) (8 * k) 8
  word_there p at = word_by (held_in m) (λ i. Some (byte_at i p.bytes)) 8 (8 * (512 * n + k)) (8 * k) (λ i low.
      let number : (8 * (512 * n + k) + i) / 4096 ≡ n = omega arith in
      let offset : (8 * (512 * n + k) + i) % 4096 ≡ 8 * k + i = omega arith in
      ap (λ q. option_map (λ (z : Page). byte_at ((8 * (512 * n + k) + i) % 4096) z.bytes) (page_in m q)) number
      ∙ ap (option_map (λ (z : Page). byte_at ((8 * (512 * n + k) + i) % 4096) z.bytes)) at
      ∙ ap (λ j. Some (byte_at j p.bytes)) offset)

  word_nowhere : page_in m n ≡ None → word_at (held_in m) (8 * (512 * n + k)) 8 ≡ None
  word_nowhere none =
      let number : (8 * (512 * n + k) + 0) / 4096 ≡ n = omega arith in
      word_missing (held_in m) (8 * (512 * n + k)) 8 0 (omega arith)
      (ap (λ q. option_map (λ (z : Page). byte_at ((8 * (512 * n + k) + 0) % 4096) z.bytes) (page_in m q)) number
      ∙ ap (option_map (λ (z : Page). byte_at ((8 * (512 * n + k) + 0) % 4096) z.bytes)) none)

  pub start_there : (p : Page) → page_in m n ≡ Some p → start_word m (512 * n + k) ≡ page_word p.bytes k
  start_there p at = ap (λ o. unwrap_or o 0) (word_there p at)

  pub start_nowhere : page_in m n ≡ None → start_word m (512 * n + k) ≡ page_word (replicate 4096 0) k
  start_nowhere none =
      ap (λ o. unwrap_or o 0) (word_nowhere none) ∙ sym (ap (λ o. unwrap_or o 0) (zeros 8 (8 * k) (λ i low.
      ap (λ b. Some (b % 256)) (get_or-replicate 4096 (8 * k + i) 0 0 (omega arith)))))
    where
      zeros : (c a : ℕ) → ((i : ℕ) → i < c → Some (byte_at (a + i) (replicate 4096 0)) ≡ Some 0) → word_at (λ i. Some (byte_at i (replicate 4096 0))) a c ≡ Some 0
      zeros zero a all = refl
      zeros (suc c) a all =
          let here : a ≡ a + 0 = omega arith in
          let first : Some (byte_at a (replicate 4096 0)) ≡ Some 0 = ap (λ j. Some (byte_at j (replicate 4096 0))) here ∙ all 0 (omega arith) in
          let rest : word_at (λ i. Some (byte_at i (replicate 4096 0))) (a + 1) c ≡ Some 0 = zeros c (a + 1) (λ i low.
          let next : a + 1 + i ≡ a + suc i = omega arith in
          ap (λ j. Some (byte_at j (replicate 4096 0))) next ∙ all (suc i) (omega arith)) in
          ap (λ o. joined (Some (byte_at a (replicate 4096 0))) o) rest ∙ ap (λ o. joined o (Some 0)) first

  pub memory_there : (start : Map) (p : Page) → page_in m n ≡ Some p → memory_word start m (512 * n + k) ≡ page_word p.bytes k
  memory_there start p at =
      ap (λ o. unwrap_or o (start_word start (512 * n + k))) (word_there p at ∙ filled (λ i. byte_at i p.bytes) 8 (8 * k))

  pub memory_nowhere : (start : Map) → page_in m n ≡ None → memory_word start m (512 * n + k) ≡ start_word start (512 * n + k)
  memory_nowhere start none = ap (λ o. unwrap_or o (start_word start (512 * n + k))) (word_nowhere none)

-- the same by the number of the word
pub unmapped_word : (start m : Map) (j : ℕ) → page_in m (j / 512) ≡ None → memory_word start m j ≡ start_word start j
unmapped_word start m j none =
    let whole : j ≡ 512 * (j / 512) + j % 512 = omega arith in
    ap (memory_word start m) whole ∙ memory_nowhere m (j / 512) (j % 512) (omega arith) start none ∙ ap (start_word start) (sym whole)

-- the words of pages that have zero bytes, now and at the start
zero-there : (m : Map) (n k : ℕ) → k < 512 → (o : Option Page) → page_in m n ≡ o → IfSome o (λ p. p.bytes ≡ fresh) → start_word m (512 * n + k) ≡ page_word (replicate 4096 0) k
unfolding fresh
zero-there m n k lt None at zero_bytes = start_nowhere m n k lt at
zero-there m n k lt (Some p) at zero_bytes = start_there m n k lt p at ∙ ap (λ (bytes : List ℕ). page_word bytes k) zero_bytes

zero-memory : (m start : Map) (n k : ℕ) → k < 512 → (o : Option Page) → page_in m n ≡ o → IfSome o (λ p. p.bytes ≡ fresh) → IfSome (page_in start n) (λ p. p.bytes ≡ fresh)
    → memory_word start m (512 * n + k) ≡ start_word start (512 * n + k)
unfolding fresh
zero-memory m start n k lt None at zero_bytes start_zero = memory_nowhere m n k lt start at
zero-memory m start n k lt (Some p) at zero_bytes start_zero =
    memory_there m n k lt start p at ∙ ap (λ (bytes : List ℕ). page_word bytes k) zero_bytes ∙ sym (zero-there start n k lt (page_in start n) refl start_zero)

pub untouched : (m start : Map) (from to : ℕ) → ((n : ℕ) → from ≤ n → n < to → IfSome (page_in m n) (λ p. p.bytes ≡ fresh))
    → ((n : ℕ) → from ≤ n → n < to → IfSome (page_in start n) (λ p. p.bytes ≡ fresh)) → (k : ℕ) → 512 * from ≤ k → k < 512 * to → memory_word start m k ≡ start_word start k
untouched m start from to now before k low high =
    let whole : k ≡ 512 * (k / 512) + k % 512 = omega arith in
    let above : from ≤ k / 512 = omega arith in
    let below : k / 512 < to = omega arith in
    ap (memory_word start m) whole
    ∙ zero-memory m start (k / 512) (k % 512) (omega arith) (page_in m (k / 512)) refl (now (k / 512) above below) (before (k / 512) above below)
    ∙ ap (start_word start) (sym whole)
