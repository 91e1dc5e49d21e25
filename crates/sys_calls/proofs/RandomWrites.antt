-- Words of the generator of random bytes, and bytes of a word, that are written one behind the other.
use Rattle.sys_calls.proofs.Common.{◌≡◌, ℕ, zero, suc, ◌+◌, ◌*◌, ◌/◌, ◌%◌, List, [], ◌∷◌, ◌++◌, length, refl, ap, ◌∙◌, arith, Write, double_written}
use Rattle.block_model.specs.Calls.Answers.{byte_written}
use Rattle.block_model.specs.Calls.Random.{bytes_drawn, next_state, next_word, state_after, words_drawn}

-- one word more
pub words_more : (n at s : ℕ) → words_drawn (suc n) at s ≡ words_drawn n at s ++ double_written (at + 8 * n) (next_word (state_after n s)) ∷ []
words_more zero at s = ap (λ (a : ℕ). double_written a (next_word s) ∷ []) (let same : at ≡ at + 8 * 0 = omega arith in same)
words_more (suc n) at s =
    let place : at + 8 + 8 * n ≡ at + 8 * suc n = omega arith in
    ap (λ (ws : List Write). double_written at (next_word s) ∷ ws)
    (words_more n (at + 8) (next_state s)
    ∙ ap (λ (a : ℕ). words_drawn n (at + 8) (next_state s) ++ double_written a (next_word (state_after n (next_state s))) ∷ []) place)

pub state_more : (n s : ℕ) → state_after (suc n) s ≡ next_state (state_after n s)
state_more zero s = refl
state_more (suc n) s = state_more n (next_state s)

pub words_count : (n at s : ℕ) → length (words_drawn n at s) ≡ n
words_count zero at s = refl
words_count (suc n) at s = ap suc (words_count n (at + 8) (next_state s))

-- what is left of a word behind so many bytes
abbrev pub rest_of : ℕ → ℕ → ℕ
rest_of zero w = w
rest_of (suc n) w = rest_of n (w / 256)

-- one byte more
pub bytes_more : (n at w : ℕ) → bytes_drawn (suc n) at w ≡ bytes_drawn n at w ++ byte_written (at + n) (rest_of n w % 256) ∷ []
bytes_more zero at w = ap (λ (a : ℕ). byte_written a (w % 256) ∷ []) (let same : at ≡ at + 0 = omega arith in same)
bytes_more (suc n) at w =
    let place : at + 1 + n ≡ at + suc n = omega arith in
    ap (λ (ws : List Write). byte_written at (w % 256) ∷ ws)
    (bytes_more n (at + 1) (w / 256) ∙ ap (λ (a : ℕ). bytes_drawn n (at + 1) (w / 256) ++ byte_written a (rest_of n (w / 256) % 256) ∷ []) place)

pub rest_more : (n w : ℕ) → rest_of (suc n) w ≡ rest_of n w / 256
rest_more zero w = refl
rest_more (suc n) w = rest_more n (w / 256)

pub bytes_count : (n at w : ℕ) → length (bytes_drawn n at w) ≡ n
bytes_count zero at w = refl
bytes_count (suc n) at w = ap suc (bytes_count n (at + 1) (w / 256))
