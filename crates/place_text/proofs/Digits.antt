-- The hexadecimal digits of a number, one after the other.
use Rattle.std.proofs.Common.{◌≡◌, ℕ, zero, suc, ◌-◌, ◌/◌, ◌%◌, List, ◌∷◌, [], ◌++◌, refl, sym, ap, ◌∙◌, append-nil, append_assoc, arith}
use Rattle.step_log.specs.Text.{hex_digit, hex_text}

-- no digit is nothing
pub no_digits : (start : List ℕ) (places n : ℕ) → places ≡ 0 → start ≡ start ++ hex_text places n
unfolding hex_text
no_digits start places n none = sym (ap (λ k. start ++ hex_text k n) none ∙ append-nil start)

-- the last of some digits is the lowest, behind those of the number without it
last_digit : (places n : ℕ) → (places ≡ 0 → ⊥) → hex_text places n ≡ hex_text (places - 1) (n / 16) ++ hex_digit (n % 16) ∷ []
unfolding hex_text
last_digit zero n some = absurd (some refl)
last_digit (suc places) n some = let same : suc places - 1 ≡ places = omega arith in rw same refl

-- a text that has the other digits, with the last one
pub digit_step : (start line new : List ℕ) (places n d : ℕ) → (places ≡ 0 → ⊥) → line ≡ start ++ hex_text (places - 1) (n / 16)
    → d ≡ hex_digit (n % 16) → new ≡ line ++ d ∷ [] → new ≡ start ++ hex_text places n
digit_step start line new places n d some before digit after =
    let regroup = append_assoc start (hex_text (places - 1) (n / 16)) (d ∷ []) in
    let last = last_digit places n some in
    cc
