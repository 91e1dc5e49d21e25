-- Powers of 256, and the bytes of a number in two parts.
use Rattle.std.proofs.Common.{◌≡◌, ℕ, zero, suc, ◌+◌, ◌-◌, ◌*◌, ◌/◌, ◌%◌, ◌^◌, ◌<◌, refl, sym, ap, ◌∙◌, arith}
use Rattle.std.proofs.lemmas.Nat.{pow-add, div-mul-add, div-add-mod', mul-add-lt, div_below, one_shl}
use Rattle.std.proofs.Math.Nat.{div-div-eq-div-mul, mul-add-div, mul-add-mod_self_left, pow-suc}
use Rattle.mach_types.specs.Bytes.{byte_of}

pub pow_256-positive : (c : ℕ) → 0 < 256 ^ c
pow_256-positive zero = omega arith
pow_256-positive (suc c) =
    let step = pow-suc 256 c in
    let before = pow_256-positive c in
    omega arith

-- 8 bits are a byte
pub pow_256 : (c : ℕ) → 256 ^ c ≡ 2 ^ (8 * c)
pow_256 zero = refl
pow_256 (suc c) =
    let step = pow-suc 256 c in
    let before = pow_256 c in
    let exponent : 8 * suc c ≡ 8 * c + 8 = omega arith in
    let bits = ap (λ n. 2 ^ n) exponent ∙ pow-add 2 (8 * c) 8 in
    omega arith

pub weight_is : (c : ℕ) → c < 8 → (1 * 2 ^ (8 * c)) % 2 ^ 64 ≡ 256 ^ c
weight_is c small = one_shl (8 * c) 64 (omega arith) ∙ sym (pow_256 c)

-- a number in two parts
pub join_lt : (d n x y : ℕ) → x < 256 ^ d → y < 256 ^ n → x + 256 ^ d * y < 256 ^ (d + n)
join_lt d n x y low high =
    let power = pow-add 256 d n in
    let place = mul-add-lt y (256 ^ d) x (256 ^ n) high low in
    omega arith

pub parts : (d w : ℕ) → w ≡ w % 256 ^ d + 256 ^ d * (w / 256 ^ d)
parts d w = let whole = div-add-mod' w (256 ^ d) in omega arith

pub high_lt : (d n w : ℕ) → w < 256 ^ (d + n) → w / 256 ^ d < 256 ^ n
high_lt d n w small =
    let power = pow-add 256 d n in
    div_below w (256 ^ d) (256 ^ n) (pow_256-positive d) (omega arith)

-- the bytes of the lower part
pub byte_of-low : (d x y k : ℕ) → k < d → byte_of (x + 256 ^ d * y) k ≡ byte_of x k
byte_of-low d x y k below =
    let e = d - k - 1 in
    let split : d ≡ k + suc e = omega arith in
    let power = ap (λ n. 256 ^ n) split ∙ pow-add 256 k (suc e) ∙ ap (λ n. 256 ^ k * n) (pow-suc 256 e) in
    let regrouped : x + 256 ^ k * (256 ^ e * 256) * y ≡ 256 ^ k * (256 * (256 ^ e * y)) + x = omega arith in
    let divided = mul-add-div (pow_256-positive k) (256 * (256 ^ e * y)) x in
    ap (λ n. ((x + n * y) / 256 ^ k) % 256) power
    ∙ ap (λ n. (n / 256 ^ k) % 256) regrouped
    ∙ ap (λ n. n % 256) divided
    ∙ mul-add-mod_self_left 256 (256 ^ e * y) (x / 256 ^ k)

-- and of the higher one
pub byte_of-high : (d x y k : ℕ) → x < 256 ^ d → byte_of (x + 256 ^ d * y) (d + k) ≡ byte_of y k
byte_of-high d x y k low =
    let turned : x + 256 ^ d * y ≡ y * 256 ^ d + x = omega arith in
    let first = ap (λ n. n / 256 ^ d) turned ∙ div-mul-add y (256 ^ d) x low in
    ap (λ n. ((x + 256 ^ d * y) / n) % 256) (pow-add 256 d k)
    ∙ ap (λ n. n % 256) (sym (div-div-eq-div-mul (x + 256 ^ d * y) (256 ^ d) (256 ^ k)))
    ∙ ap (λ n. (n / 256 ^ k) % 256) first
