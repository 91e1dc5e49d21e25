-- Words that were written are read back.
use Rattle.std.proofs.Common.{◌≡◌, ℕ, ◌+◌, ◌-◌, ◌*◌, ◌/◌, ◌%◌, ◌^◌, ◌<◌, ◌≤◌, true, false, cond, List, [], ◌∷◌, length, Option, Some, None, option_map, zero, suc, refl, sym, ap, ◌∙◌, arith}
use Rattle.std.specs.List.{AllByRecursion}
use Rattle.std.specs.Option.{IsSome}
use Rattle.std.proofs.Math.Nat.{pow-succ', div-div-eq-div-mul}
use Rattle.std.proofs.lemmas.Bool.Decides.{nat_tests}
use Rattle.mach_types.specs.Bytes.{byte_of, byte_over, covers, joined, word_at, written}
use Rattle.mach_types.specs.Kernel.SignalFrames.{word_before, words_at, words_stored}
use Rattle.mach_types.specs.declared.user_memory.Store.{Store}
use Rattle.signals.specs.Frames.{IsWord}

-- the bytes of a number are its word
spelled : (byte : ℕ → Option ℕ) (n v at : ℕ) → v < 256 ^ n → ((k : ℕ) → k < n → byte (at + k) ≡ Some (byte_of v k)) → word_at byte at n ≡ Some v
spelled byte zero v at small bytes =
    let none : 0 ≡ v = omega arith in
    ap (λ n. Some n) none
spelled byte (suc n) v at small bytes =
    let power : 256 ^ suc n ≡ 256 * 256 ^ n = pow-succ' 256 n in
    let fewer : v / 256 < 256 ^ n = omega arith in
    let here : at + 0 ≡ at = omega arith in
    let first : byte at ≡ Some (v % 256) = ap byte (sym here) ∙ bytes 0 (omega arith) ∙ ap (λ m. Some (m % 256)) (lowest v) in
    let rest = spelled byte n (v / 256) (at + 1) fewer
    (λ k below. ap byte (further at k) ∙ bytes (k + 1) (omega arith) ∙ ap (λ m. Some (m % 256)) (above v k)) in
    let all : v % 256 + 256 * (v / 256) ≡ v = omega arith in
    ap (λ o. joined o (word_at byte (at + 1) n)) first ∙ ap (joined (Some (v % 256))) rest ∙ ap (λ m. Some m) all
  where
    lowest : (w : ℕ) → w / 256 ^ 0 ≡ w
    lowest w = omega arith

    further : (a k : ℕ) → a + 1 + k ≡ a + (k + 1)
    further a k = omega arith

    above : (w k : ℕ) → w / 256 ^ (k + 1) ≡ w / 256 / 256 ^ k
    above w k =
        let next : k + 1 ≡ suc k = omega arith in
        ap (λ m. w / m) (ap (λ m. 256 ^ m) next ∙ pow-succ' 256 k) ∙ sym (div-div-eq-div-mul w 256 (256 ^ k))

-- what is written further up leaves a byte as it is
written_above : (at : ℕ) (ws : List ℕ) (a below : ℕ) → a < at → written (words_stored at ws) a below ≡ below
written_above at [] a below under = refl
written_above at (w ∷ ws) a below under =
    let store : Store = record { at = at; size = 8; value = w } in
    let apart : covers store a ≡ false = grind (arith, nat_tests) in
    ap (written (words_stored (at + 8) ws) a) (ap (λ b. cond b (byte_of w (a - at)) below) apart) ∙ written_above (at + 8) ws a below (omega arith)

-- a byte of a word that is written
byte_there : (at w k below : ℕ) → k < 8 → byte_over (record { at = at; size = 8; value = w }) (at + k) below ≡ byte_of w k
byte_there at w k below inside =
    let store : Store = record { at = at; size = 8; value = w } in
    let here : covers store (at + k) ≡ true = grind (arith, nat_tests) in
    let place : at + k - at ≡ k = omega arith in
    ap (λ b. cond b (byte_of w (at + k - at)) below) here ∙ ap (byte_of w) place

-- a byte where it can be read
its_byte : (o : Option ℕ) → IsSome o → (b : ℕ) × (o ≡ Some b)
its_byte (Some b) there = (b, refl)
its_byte None there = cc

mapped : (f : ℕ → ℕ) (o : Option ℕ) → IsSome o → IsSome (option_map f o)
mapped f (Some b) there = there
mapped f None there = there

mapped_twice : (f g : ℕ → ℕ) (o : Option ℕ) → option_map (λ n. f (g n)) o ≡ option_map f (option_map g o)
mapped_twice f g (Some n) = refl
mapped_twice f g None = refl

pub read_back : (byte : ℕ → Option ℕ) (at : ℕ) (ws : List ℕ) → AllByRecursion IsWord ws → ((b : ℕ) → at ≤ b → b < at + 8 * length ws → IsSome (byte b))
    → words_at (λ b. option_map (written (words_stored at ws) b) (byte b)) at (length ws) ≡ Some ws
read_back byte at [] fit there = refl
read_back byte at (w ∷ ws) fit there =
    let store : Store = record { at = at; size = 8; value = w } in
    let after : ℕ → Option ℕ = λ b. option_map (written (words_stored at (w ∷ ws)) b) (byte b) in
    let middle : ℕ → Option ℕ = λ b. option_map (byte_over store b) (byte b) in
    let later : ℕ → Option ℕ = λ b. option_map (written (words_stored (at + 8) ws) b) (middle b) in
    let same : after ≡ later = λ i b. mapped_twice (written (words_stored (at + 8) ws) b) (byte_over store b) (byte b) i in
    let first = spelled after 8 w at (omega (arith, fit.0)) (λ k inside. byte_read at w ws byte k inside (there (at + k) (omega arith) (omega arith))) in
    let rest = read_back middle (at + 8) ws fit.1 (λ b from below. mapped (byte_over store b) (byte b) (there b (omega arith) (omega arith))) in
    ap (λ o. word_before o (words_at after (at + 8) (length ws))) first
    ∙ ap (word_before (Some w)) (ap (λ (f : ℕ → Option ℕ). words_at f (at + 8) (length ws)) same ∙ rest)
  where
    byte_read : (a v : ℕ) (vs : List ℕ) (bytes : ℕ → Option ℕ) (k : ℕ) → k < 8 → IsSome (bytes (a + k))
        → option_map (written (words_stored a (v ∷ vs)) (a + k)) (bytes (a + k)) ≡ Some (byte_of v k)
    byte_read a v vs bytes k inside is_there =
        let found = its_byte (bytes (a + k)) is_there in
        ap (option_map (written (words_stored a (v ∷ vs)) (a + k))) found.1
        ∙ ap (λ m. Some m) (written_above (a + 8) vs (a + k) (byte_over (record { at = a; size = 8; value = v }) (a + k) found.0) (omega arith) ∙ byte_there a v k found.0 inside)
