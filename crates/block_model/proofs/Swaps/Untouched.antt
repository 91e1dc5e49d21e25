-- What isn't touched stays as it is: bytes, words, faults and reservations.
use Rattle.block_model.proofs.Common.{◌≡◌, ℕ, ◌+◌, ◌≤◌, ◌<◌, List, [], ◌∷◌, refl, sym, ap, ◌∙◌, arith, Bool, true, false, cond, ◌&&◌, leb, ltb, Option, Some, None, zero, suc, is_some, inl, inr, ◌⊎◌, Effect, Kernel, Neighbour, Stored, Write, Zeroed, and_from, and_parts, byte_after, bytes, bytes_of_all, can_read, cases_lt, false≢true, fault_in, has_byte, have_byte, is_in_segment, le-leb, lost_after, lt-ltb, ltb-true, memory_in, option_and_then, option_or, or_parts, or_right, permission_at, with_segment, word_at, written}
use Rattle.mach_types.specs.Bytes.{joined}
use Rattle.rv_inst.specs.Class.{asks}
use Rattle.rv_inst.specs.Execution.{access_fault, has_reserved}
use Rattle.rv_inst.specs.declared.class.Access.{Access}
use Rattle.block_model.specs.History.{lost_to}
use Rattle.block_model.specs.Footprints.{bytes_of}

-- a byte that a write doesn't have stays as it is
untouched_one : (w : Write) (a b : ℕ) → has_byte (bytes_of w) a ≡ false → byte_after w a b ≡ b
untouched_one (Stored w) a b out = rw out refl
untouched_one (Zeroed at n) a b out = rw out refl

pub untouched : (ws : List Write) (a b : ℕ) → have_byte (bytes_of_all ws) a ≡ false → written ws a b ≡ b
untouched [] a b out = refl
untouched (w ∷ ws) a b out =
    let p = or_parts (has_byte (bytes_of w) a) (have_byte (bytes_of_all ws) a) out in
    ap (written ws a) (untouched_one w a b p.0) ∙ untouched ws a b p.1

-- a word is the same where its bytes are
pub word_same : (f g : ℕ → Option ℕ) (at n : ℕ) → ((a : ℕ) → at ≤ a → a < at + n → f a ≡ g a) → word_at f at n ≡ word_at g at n
word_same f g at zero same = refl
word_same f g at (suc n) same =
    let first = same at (omega arith) (omega arith) in
    let rest = word_same f g (at + 1) n (λ a from to. same a (omega arith) (omega arith)) in
    ap (λ x. joined x (word_at f (at + 1) n)) first ∙ ap (joined (g at)) rest

-- whether bytes of memory can be read doesn't hang on what they are
joined_some : (x y : Option ℕ) → is_some (joined x y) ≡ (is_some x && is_some y)
joined_some (Some low) (Some high) = refl
joined_some (Some low) None = refl
joined_some None high = refl

readable_by : (c : Bool) (x y : ℕ) → is_some (cond c (Some x) None) ≡ is_some (cond c (Some y) None)
readable_by true x y = refl
readable_by false x y = refl

readable_same : (f g : ℕ → Option ℕ) → ((a : ℕ) → is_some (f a) ≡ is_some (g a)) → (at n : ℕ) → is_some (word_at f at n) ≡ is_some (word_at g at n)
readable_same f g same at zero = refl
readable_same f g same at (suc n) =
    let p = joined_some (f at) (word_at f (at + 1) n) in
    let q = joined_some (g at) (word_at g (at + 1) n) in
    p ∙ ap (λ b. b && is_some (word_at f (at + 1) n)) (same at)
    ∙ ap (λ b. is_some (g at) && b) (readable_same f g same (at + 1) n) ∙ sym q

access_same : (f g : ℕ → Option ℕ) → ((a : ℕ) → is_some (f a) ≡ is_some (g a)) → (w : ℕ → Bool) (x : Option Access)
    → option_and_then (access_fault f w) x ≡ option_and_then (access_fault g w) x
access_same f g same w None = refl
access_same f g same w (Some x) = rw (readable_same f g same x.at x.size) refl

pub fault_same : (f g : ℕ → Option ℕ) → ((a : ℕ) → is_some (f a) ≡ is_some (g a)) → (w : ℕ → Bool) (e : Effect) → fault_in f w e ≡ fault_in g w e
fault_same f g same w e = ap (option_or (asks e).fault) (access_same f g same w (asks e).access)

-- so it is with the bytes that an instruction reaches, on pages or in a segment
either_some : (b : Bool) (z x y : Option ℕ) → is_some x ≡ is_some y → is_some (cond b z x) ≡ is_some (cond b z y)
either_some true z x y same = refl
either_some false z x y same = same

pub reached_some : (o : Option Neighbour) (k : Kernel) (f g : ℕ → ℕ) (a : ℕ) → is_some (with_segment o (memory_in k f) a) ≡ is_some (with_segment o (memory_in k g) a)
reached_some None k f g a = readable_by (can_read (permission_at k.pages a)) (f a) (g a)
reached_some (Some other) k f g a =
    either_some (is_in_segment a) (Some (other.shared a)) (memory_in k f a) (memory_in k g a) (readable_by (can_read (permission_at k.pages a)) (f a) (g a))

-- and with a byte of memory that is the same
pub reached_same : (o : Option Neighbour) (f g : ℕ → Option ℕ) (a : ℕ) → f a ≡ g a → with_segment o f a ≡ with_segment o g a
reached_same None f g a same = same
reached_same (Some other) f g a same = ap (cond (is_in_segment a) (Some (other.shared a))) same

-- reservations
pub lost_none : (ws : List Write) → lost_after ws None ≡ None
lost_none [] = refl
lost_none (Stored w ∷ ws) = lost_none ws
lost_none (Zeroed at n ∷ ws) = lost_none ws

-- 8 bytes of which none is written stay reserved
kept_by : (r at n : ℕ) → ((a : ℕ) → has_byte (bytes at n) a ≡ true → has_byte (bytes r 8) a ≡ false) → has_reserved r at n ≡ false
kept_by r at n apart = go (has_reserved r at n) refl
  where
    go : (b : Bool) → has_reserved r at n ≡ b → has_reserved r at n ≡ false
    go false is = is
    go true is =
        let p = and_parts (ltb 0 n) (ltb r (at + n) && ltb at (r + 8)) is in
        let q = and_parts (ltb r (at + n)) (ltb at (r + 8)) p.1 in
        let some = ltb-true 0 n p.0 in
        let left = ltb-true r (at + n) q.0 in
        let right = ltb-true at (r + 8) q.1 in
        absurd (common left right some (cases_lt at r))
      where
        both : (a : ℕ) → at ≤ a → a < at + n → r ≤ a → a < r + 8 → ⊥
        both a from to over under =
            false≢true (sym (apart a (and_from (leb at a) (ltb a (at + n)) (le-leb at a from) (lt-ltb a (at + n) to)))
            ∙ and_from (leb r a) (ltb a (r + 8)) (le-leb r a over) (lt-ltb a (r + 8) under))

        common : r < at + n → at < r + 8 → 0 < n → (at < r) ⊎ (r ≤ at) → ⊥
        common left right some (inl below) = both r (omega arith) left (omega arith) (omega arith)
        common left right some (inr above) = both at (omega arith) (omega arith) above right

pub lost_apart : (ws : List Write) (r : ℕ) → ((a : ℕ) → have_byte (bytes_of_all ws) a ≡ true → has_byte (bytes r 8) a ≡ false) → lost_after ws (Some r) ≡ Some r
lost_apart [] r apart = refl
lost_apart (w ∷ ws) r apart =
    ap (lost_after ws) (one w (λ a is. apart a (rw is refl))) ∙ lost_apart ws r (λ a is. apart a (or_right (has_byte (bytes_of w) a) (have_byte (bytes_of_all ws) a) is))
  where
    one : (w : Write) → ((a : ℕ) → has_byte (bytes_of w) a ≡ true → has_byte (bytes r 8) a ≡ false) → lost_to w (Some r) ≡ Some r
    one (Stored w) apart = rw (kept_by r w.at w.size apart) refl
    one (Zeroed at n) apart = rw (kept_by r at n apart) refl

-- one that is lost or not
abbrev IsLostOrKept : List Write → ℕ → Option ℕ → Type 0
IsLostOrKept ws r was = (lost_after ws was ≡ None) ⊎ (lost_after ws was ≡ Some r)

by_either : (ws : List Write) (r : ℕ) (b : Bool) → IsLostOrKept ws r (Some r) → IsLostOrKept ws r (cond b None (Some r))
by_either ws r true rest = inl (lost_none ws)
by_either ws r false rest = rest

pub lost_or_kept : (ws : List Write) (r : ℕ) → (lost_after ws (Some r) ≡ None) ⊎ (lost_after ws (Some r) ≡ Some r)
lost_or_kept [] r = inr refl
lost_or_kept (Stored w ∷ ws) r = by_either ws r (has_reserved r w.at w.size) (lost_or_kept ws r)
lost_or_kept (Zeroed at n ∷ ws) r = by_either ws r (has_reserved r at n) (lost_or_kept ws r)

-- so it doesn't matter in which order others write
pub lost_swaps : (xs ys : List Write) (r : Option ℕ) → lost_after ys (lost_after xs r) ≡ lost_after xs (lost_after ys r)
lost_swaps xs ys None = rw (lost_none xs, lost_none ys, lost_none xs) refl
lost_swaps xs ys (Some r) = go (lost_or_kept xs r) (lost_or_kept ys r)
  where
    go : (lost_after xs (Some r) ≡ None) ⊎ (lost_after xs (Some r) ≡ Some r) → (lost_after ys (Some r) ≡ None) ⊎ (lost_after ys (Some r) ≡ Some r)
        → lost_after ys (lost_after xs (Some r)) ≡ lost_after xs (lost_after ys (Some r))
    go (inl p) (inl q) = ap (lost_after ys) p ∙ lost_none ys ∙ sym (ap (lost_after xs) q ∙ lost_none xs)
    go (inl p) (inr q) = ap (lost_after ys) p ∙ lost_none ys ∙ sym (ap (lost_after xs) q ∙ p)
    go (inr p) (inl q) = ap (lost_after ys) p ∙ q ∙ sym (ap (lost_after xs) q ∙ lost_none xs)
    go (inr p) (inr q) = ap (lost_after ys) p ∙ q ∙ sym (ap (lost_after xs) q ∙ p)
