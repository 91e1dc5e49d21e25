-- The bytes of a word of which some were replaced.
use Rattle.std.proofs.Common.{◌≡◌, ℕ, ◌+◌, ◌-◌, ◌*◌, ◌/◌, ◌%◌, ◌^◌, ◌<◌, ◌≤◌, refl, sym, ap, ◌∙◌, arith}
use Rattle.std.proofs.lemmas.Nat.{mod_below, mul-le}
use Rattle.mach_types.specs.Bytes.{byte_of}
use Rattle.store_buffers.proofs.Powers.{pow_256-positive, join_lt, parts, high_lt, byte_of-low, byte_of-high}
use Rattle.store_buffers.specs.Words.{with_bytes}

byte_of-mod : (d w k : ℕ) → k < d → byte_of (w % 256 ^ d) k ≡ byte_of w k
byte_of-mod d w k below = sym (ap (λ n. byte_of n k) (parts d w) ∙ byte_of-low d (w % 256 ^ d) (w / 256 ^ d) k below)

pub byte_of-div : (d w k : ℕ) → byte_of (w / 256 ^ d) k ≡ byte_of w (d + k)
byte_of-div d w k = sym (ap (λ n. byte_of n (d + k)) (parts d w) ∙ byte_of-high d (w % 256 ^ d) (w / 256 ^ d) k (mod_below w (256 ^ d) (pow_256-positive d)))

pub with_bytes-below : (w d c b k : ℕ) → k < d → byte_of (with_bytes w d c b) k ≡ byte_of w k
unfolding with_bytes
with_bytes-below w d c b k below =
    byte_of-low d (w % 256 ^ d) (b % 256 ^ c + 256 ^ c * (w / 256 ^ d / 256 ^ c)) k below ∙ byte_of-mod d w k below

pub with_bytes-in : (w d c b k : ℕ) → k < c → byte_of (with_bytes w d c b) (d + k) ≡ byte_of b k
unfolding with_bytes
with_bytes-in w d c b k within =
    byte_of-high d (w % 256 ^ d) (b % 256 ^ c + 256 ^ c * (w / 256 ^ d / 256 ^ c)) k (mod_below w (256 ^ d) (pow_256-positive d))
    ∙ byte_of-low c (b % 256 ^ c) (w / 256 ^ d / 256 ^ c) k within
    ∙ byte_of-mod c b k within

pub with_bytes-above : (w d c b k : ℕ) → byte_of (with_bytes w d c b) (d + (c + k)) ≡ byte_of w (d + (c + k))
unfolding with_bytes
with_bytes-above w d c b k =
    byte_of-high d (w % 256 ^ d) (b % 256 ^ c + 256 ^ c * (w / 256 ^ d / 256 ^ c)) (c + k) (mod_below w (256 ^ d) (pow_256-positive d))
    ∙ byte_of-high c (b % 256 ^ c) (w / 256 ^ d / 256 ^ c) k (mod_below b (256 ^ c) (pow_256-positive c))
    ∙ byte_of-div c (w / 256 ^ d) k
    ∙ byte_of-div d w (c + k)

pub with_bytes-lt : (w d c b n : ℕ) → w < 256 ^ (d + (c + n)) → with_bytes w d c b < 256 ^ (d + (c + n))
unfolding with_bytes
with_bytes-lt w d c b n small =
    join_lt d (c + n) (w % 256 ^ d) (b % 256 ^ c + 256 ^ c * (w / 256 ^ d / 256 ^ c)) (mod_below w (256 ^ d) (pow_256-positive d))
    (join_lt c n (b % 256 ^ c) (w / 256 ^ d / 256 ^ c) (mod_below b (256 ^ c) (pow_256-positive c))
    (high_lt c n (w / 256 ^ d) (high_lt d (c + n) w small)))

-- the same as it is put together
pub put_whole : (w d c b low rest high middle inner : ℕ) → low ≡ w % 256 ^ d → rest ≡ w / 256 ^ d → high ≡ rest / 256 ^ c → middle ≡ b % 256 ^ c
    → inner ≡ middle + 256 ^ c * high → low + 256 ^ d * inner ≡ with_bytes w d c b
unfolding with_bytes
put_whole w d c b low rest high middle inner elow erest ehigh emiddle einner =
    let above = ehigh ∙ ap (λ n. n / 256 ^ c) erest in
    let inside = einner ∙ ap (λ n. n + 256 ^ c * high) emiddle ∙ ap (λ n. b % 256 ^ c + 256 ^ c * n) above in
    ap (λ n. n + 256 ^ d * inner) elow ∙ ap (λ n. w % 256 ^ d + 256 ^ d * n) inside

pub whole_lt : (w d c b : ℕ) → d + c ≤ 8 → w < 2 ^ 64 → with_bytes w d c b < 2 ^ 64
whole_lt w d c b room small =
    let split : d + (c + (8 - d - c)) ≡ 8 = omega arith in
    let power = ap (λ n. 256 ^ n) split in
    let fits = with_bytes-lt w d c b (8 - d - c) (omega arith) in
    omega arith

pub put_inner : (w d c b rest high middle : ℕ) → rest ≡ w / 256 ^ d → high ≡ rest / 256 ^ c → middle ≡ b % 256 ^ c → d + c ≤ 8 → w < 2 ^ 64
    → middle + 256 ^ c * high < 2 ^ 64
put_inner w d c b rest high middle erest ehigh emiddle room small =
    let inner = middle + 256 ^ c * high in
    let whole = put_whole w d c b (w % 256 ^ d) rest high middle inner refl erest ehigh emiddle refl in
    let fits = whole_lt w d c b room small in
    let wide = mul-le 1 inner (256 ^ d) inner (pow_256-positive d) (omega arith) in
    omega arith
