-- The word of the bytes that a hart sees.
use Rattle.std.proofs.Common.{◌≡◌, ℕ, zero, suc, ◌+◌, ◌*◌, ◌/◌, ◌^◌, ◌<◌, ◌≤◌, List, [], ◌∷◌, ◌++◌, Option, Some, None, length, get_or, take, refl, sym, ap, ◌∙◌, arith}
use Rattle.std.specs.List.{AllByRecursion}
use Rattle.std.specs.Option.{option_map}
use Rattle.std.proofs.lemmas.List.{take_more}
use Rattle.std.proofs.Math.Nat.{pow-suc}
use Rattle.mach_types.specs.Bytes.{IsAccessSize, byte_of, byte_over, joined, overlay, word_at}
use Rattle.mach_types.specs.declared.user_memory.Store.{Store}
use Rattle.store_buffers.proofs.Overlays.{overlay-push}
use Rattle.store_buffers.proofs.Powers.{byte_of-high}
use Rattle.store_buffers.proofs.Replaced.{byte_of-div}
use Rattle.store_buffers.specs.View.{seen}

joined_some : (o p : Option ℕ) (w : ℕ) → joined o p ≡ Some w → (b : ℕ) × (h : ℕ) × (o ≡ Some b) × (p ≡ Some h) × (b + 256 * h ≡ w)
joined_some (Some b) (Some h) w e = (b, h, refl, refl, cc)
joined_some (Some b) None w e = cc
joined_some None p w e = cc

joined-both : (o p : Option ℕ) (b h : ℕ) → o ≡ Some b → p ≡ Some h → joined o p ≡ Some (b + 256 * h)
joined-both o p b h eo ep = ap (λ x. joined x p) eo ∙ ap (λ x. joined (Some b) x) ep

first_byte : (w b h : ℕ) → b < 256 → b + 256 * h ≡ w → byte_of w 0 ≡ b
first_byte w b h small e = omega arith

later_byte : (w b h k : ℕ) → b < 256 → b + 256 * h ≡ w → byte_of w (suc k) ≡ byte_of h k
later_byte w b h k small e =
    let place : suc k ≡ 1 + k = omega arith in
    ap (λ n. byte_of n (suc k)) (sym e) ∙ ap (λ n. byte_of (b + 256 * h) n) place ∙ byte_of-high 1 b h k (omega arith)

-- what the bytes are of which a word is made
pub word_at-bytes : (byte : ℕ → Option ℕ) → ((a b : ℕ) → byte a ≡ Some b → b < 256) → (at n w : ℕ) → word_at byte at n ≡ Some w
    → (w < 256 ^ n) × ((k : ℕ) → k < n → byte (at + k) ≡ Some (byte_of w k))
word_at-bytes byte small at zero w e =
    let none : 0 ≡ w = cc in
    (omega arith, λ k within. absurd (omega arith))
word_at-bytes byte small at (suc n) w e =
    let found = joined_some (byte at) (word_at byte (at + 1) n) w e in
    let low = small at found.0 found.2 in
    let rest = word_at-bytes byte small (at + 1) n found.1 found.3 in
    let power = pow-suc 256 n in
    (omega arith, each found.0 found.1 low found.2 rest.1 found.4)
  where
    each : (b h : ℕ) → b < 256 → byte at ≡ Some b → ((k : ℕ) → k < n → byte (at + 1 + k) ≡ Some (byte_of h k)) → b + 256 * h ≡ w
        → (k : ℕ) → k < suc n → byte (at + k) ≡ Some (byte_of w k)
    each b h low first rest e zero within =
        let place : at + 0 ≡ at = omega arith in
        ap byte place ∙ first ∙ ap (λ n. Some n) (sym (first_byte w b h low e))
    each b h low first rest e (suc k) within =
        let place : at + suc k ≡ at + 1 + k = omega arith in
        ap byte place ∙ rest k (omega arith) ∙ ap (λ n. Some n) (sym (later_byte w b h k low e))

-- and the other way
pub word_at-from : (byte : ℕ → Option ℕ) (at n w : ℕ) → w < 256 ^ n → ((k : ℕ) → k < n → byte (at + k) ≡ Some (byte_of w k)) → word_at byte at n ≡ Some w
word_at-from byte at zero w fits bytes =
    let none : 0 ≡ w = omega arith in
    ap (λ n. Some n) none
word_at-from byte at (suc n) w fits bytes =
    let power = pow-suc 256 n in
    let place : at ≡ at + 0 = omega arith in
    let first = ap byte place ∙ bytes 0 (omega arith) in
    let rest = word_at-from byte (at + 1) n (w / 256) (omega arith) (λ k within.
    let next : at + 1 + k ≡ at + suc k = omega arith in
    let one : 1 + k ≡ suc k = omega arith in
    ap byte next ∙ bytes (suc k) (omega arith) ∙ ap (λ m. Some (byte_of w m)) (sym one) ∙ ap (λ m. Some m) (sym (byte_of-div 1 w k))) in
    let whole : byte_of w 0 + 256 * (w / 256) ≡ w = omega arith in
    joined-both (byte at) (word_at byte (at + 1) n) (byte_of w 0) (w / 256) first rest ∙ ap (λ m. Some m) whole

-- the word behind waiting stores
pub word_at-seen : (byte : ℕ → Option ℕ) → ((a b : ℕ) → byte a ≡ Some b → b < 256) → (ss : List Store) (at n w w' : ℕ) → word_at byte at n ≡ Some w
    → w' < 256 ^ n → ((k : ℕ) → k < n → byte_of w' k ≡ overlay ss (at + k) (byte_of w k)) → word_at (seen ss byte) at n ≡ Some w'
word_at-seen byte small ss at n w w' read fits bytes =
    let below = word_at-bytes byte small at n w read in
    word_at-from (seen ss byte) at n w' fits (λ k within.
    ap (option_map (overlay ss (at + k))) (below.1 k within) ∙ ap (λ m. Some m) (sym (bytes k within)))

-- a waiting store has at most 8 bytes
pub size_le_8 : (n : ℕ) → IsAccessSize n → n ≤ 8
size_le_8 n size = grind arith

pub sized : (ss : List Store) (i : ℕ) (d : Store) → AllByRecursion (λ s. IsAccessSize s.size) ss → i < length ss → IsAccessSize ((get_or ss i d).size)
sized [] i d each within = absurd (omega arith)
sized (s ∷ ss) zero d each within = each.0
sized (s ∷ ss) (suc i) d each within = sized ss i d each.1 (omega arith)

pub sized_front : (xs ys : List Store) → AllByRecursion (λ s. IsAccessSize s.size) (xs ++ ys) → AllByRecursion (λ s. IsAccessSize s.size) xs
sized_front [] ys each = tt
sized_front (x ∷ xs) ys each = (each.0, sized_front xs ys each.1)

pub sized_back : (xs ys : List Store) → AllByRecursion (λ s. IsAccessSize s.size) (xs ++ ys) → AllByRecursion (λ s. IsAccessSize s.size) ys
sized_back [] ys each = each
sized_back (x ∷ xs) ys each = sized_back xs ys each.1

pub overlay-append : (xs ys : List Store) (a below : ℕ) → overlay (xs ++ ys) a below ≡ overlay ys a (overlay xs a below)
overlay-append [] ys a below = refl
overlay-append (x ∷ xs) ys a below = overlay-append xs ys a (byte_over x a below)

-- one more store over a word
pub one_more : (ss : List Store) (i a byte below word : ℕ) (d : Store) → i < length ss → byte ≡ byte_over (get_or ss i d) a word
    → word ≡ overlay (take i ss) a below → byte ≡ overlay (take (i + 1) ss) a below
one_more ss i a byte below word d within after before =
    after ∙ ap (byte_over (get_or ss i d) a) before ∙ sym (overlay-push (take i ss) (get_or ss i d) a below)
    ∙ ap (λ xs. overlay xs a below) (sym (take_more ss i d within))

-- what a look through two parts of the waiting stores gives
pub looked : (byte : ℕ → Option ℕ) → ((a b : ℕ) → byte a ≡ Some b → b < 256) → (ss xs ys : List Store) (at n w v u : ℕ) → xs ++ ys ≡ ss
    → word_at byte at n ≡ Some w → u < 256 ^ n → ((k : ℕ) → k < n → byte_of v k ≡ overlay xs (at + k) (byte_of w k))
    → ((k : ℕ) → k < n → byte_of u k ≡ overlay ys (at + k) (byte_of v k)) → Some u ≡ word_at (seen ss byte) at n
looked byte small ss xs ys at n w v u parts read fits front back =
    sym (word_at-seen byte small ss at n w u read fits (λ k within.
    back k within ∙ ap (overlay ys (at + k)) (front k within) ∙ sym (overlay-append xs ys (at + k) (byte_of w k))
    ∙ ap (λ zs. overlay zs (at + k) (byte_of w k)) parts))
