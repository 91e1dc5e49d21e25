-- What a rule reads of the page map and of the caller's registers, and the choice that a test makes.
use Rattle.sys_calls.proofs.Common.{cond-false, cond-true, not_from_false, not_from_true, ◌≡◌, ℕ, ◌+◌, ◌%◌, ◌^◌, Bool, true, false, not, cond, Option, is_some, unwrap_or, ap, ◌∙◌, Here, IsRead, Map, Saved, byte_in, can_write_in, each_byte, register, word_at, argument, are_readable, are_writable, int_argument, number_at}

pub readable_is : (h : Here) (m : Map) (t : ℕ) (saved : Saved) → IsRead h m t saved → (at len : ℕ) → each_byte (λ a. is_some (byte_in m a)) at len ≡ are_readable h at len
readable_is h m t saved read at len = ap (λ (byte : ℕ → Option ℕ). each_byte (λ a. is_some (byte a)) at len) read.bytes

pub writable_is : (h : Here) (m : Map) (t : ℕ) (saved : Saved) → IsRead h m t saved → (at len : ℕ) → each_byte (can_write_in m) at len ≡ are_writable h at len
writable_is h m t saved read at len = ap (λ (test : ℕ → Bool). each_byte test at len) read.writable

pub number_is : (h : Here) (m : Map) (t : ℕ) (saved : Saved) → IsRead h m t saved → (at size : ℕ) → unwrap_or (word_at (byte_in m) at size) 0 ≡ number_at h at size
number_is h m t saved read at size = ap (λ (byte : ℕ → Option ℕ). unwrap_or (word_at byte at size) 0) read.bytes

pub argument_is : (h : Here) (t : ℕ) (saved : Saved) → saved ≡ h.file t → (k : ℕ) → register saved.file (10 + k) ≡ argument h t k
argument_is h t saved file k = ap (λ (f : Saved). register f.file (10 + k)) file

pub int_argument_is : (h : Here) (t : ℕ) (saved : Saved) → saved ≡ h.file t → (k : ℕ) → register saved.file (10 + k) % 2 ^ 32 ≡ int_argument h t k
int_argument_is h t saved file k = ap (λ (n : ℕ). n % 2 ^ 32) (argument_is h t saved file k)

pub readable_at : (h : Here) (m : Map) (t : ℕ) (saved : Saved) → IsRead h m t saved → (at at' len len' : ℕ) → at ≡ at' → len ≡ len'
    → each_byte (λ a. is_some (byte_in m a)) at len ≡ are_readable h at' len'
readable_at h m t saved read at at' len len' p q =
    readable_is h m t saved read at len ∙ ap (λ (a : ℕ). are_readable h a len) p ∙ ap (are_readable h at') q

pub writable_at : (h : Here) (m : Map) (t : ℕ) (saved : Saved) → IsRead h m t saved → (at at' len : ℕ) → at ≡ at' → each_byte (can_write_in m) at len ≡ are_writable h at' len
writable_at h m t saved read at at' len p = writable_is h m t saved read at len ∙ ap (λ (a : ℕ). are_writable h a len) p

pub number_there : (h : Here) (m : Map) (t : ℕ) (saved : Saved) → IsRead h m t saved → (at at' size : ℕ) → at ≡ at' → unwrap_or (word_at (byte_in m) at size) 0 ≡ number_at h at' size
number_there h m t saved read at at' size p = number_is h m t saved read at size ∙ ap (λ (a : ℕ). number_at h a size) p

-- a test that something holds refuses where it doesn't, and lets pass where it does
pub unmet : {A : Type 0} {b : Bool} (x y : A) → b ≡ false → cond (not b) x y ≡ x
unmet {b = b} x y e = cond-true (not b) x y (not_from_false b e)

pub met : {A : Type 0} {b : Bool} (x y : A) → b ≡ true → cond (not b) x y ≡ y
met {b = b} x y e = cond-false (not b) x y (not_from_true b e)
