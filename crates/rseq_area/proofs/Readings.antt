-- What it tells of an area or of a descriptor that one of its fields was read, or couldn't be.
use Rattle.std.proofs.Common.{◌≡◌, ℕ, ◌+◌, Bool, true, false, ◌&&◌, cond, Option, Some, None, is_some, refl, sym, ap, ◌∙◌, arith}
use Rattle.mach_types.specs.Bytes.{word_at}
use Rattle.mach_types.specs.Kernel.Areas.{are_readable, can_read_descriptor, descriptor_at, number_at}
use Rattle.mach_types.specs.declared.sequences.Descriptor.{Descriptor}
use Rattle.mach_types.proofs.Laws.{are_readable-split, is_some-word_at, word_at-read}

-- tests of which one fails, or none
pub first_fails : (a b : Bool) → a ≡ false → a && b ≡ false
first_fails a b e = ap (λ x. x && b) e

pub rest_fails : (a b : Bool) → b ≡ false → a && b ≡ false
rest_fails true b e = e
rest_fails false b e = refl

pub both_hold : (a b : Bool) → a ≡ true → b ≡ true → a && b ≡ true
both_hold a b p q = ap (λ x. x && b) p ∙ q

-- a word that couldn't be read, and one that was
pub unreadable : (byte : ℕ → Option ℕ) (at n : ℕ) → None ≡ word_at byte at n → are_readable byte at n ≡ false
unreadable byte at n none = sym (ap (λ o. is_some o) none ∙ is_some-word_at byte at n)

pub readable : (byte : ℕ → Option ℕ) (at n w : ℕ) → Some w ≡ word_at byte at n → are_readable byte at n ≡ true
readable byte at n w some = sym (ap (λ o. is_some o) some ∙ is_some-word_at byte at n)

number : (b : Bool) (m w : ℕ) → Some w ≡ cond b (Some m) None → w ≡ m
number true m w some = cc
number false m w some = cc

pub number_at-read : (byte : ℕ → Option ℕ) (at n w : ℕ) → Some w ≡ word_at byte at n → w ≡ number_at byte at n
number_at-read byte at n w some = number (are_readable byte at n) (number_at byte at n) w (some ∙ word_at-read byte at n)

-- a value that is there, or isn't
pub none_there : {A : Type 0} (b : Bool) (x : A) → b ≡ false → None ≡ cond b (Some x) None
none_there true x e = cc
none_there false x e = refl

pub some_there : {A : Type 0} (b : Bool) (x y : A) → b ≡ true → x ≡ y → Some x ≡ cond b (Some y) None
some_there true x y e same = ap (λ z. Some z) same
some_there false x y e same = cc

-- a descriptor can be read where each of its fields can be
pub can_read_descriptor-fields : (byte : ℕ → Option ℕ) (at : ℕ) → can_read_descriptor byte at ≡
    are_readable byte at 4 && (are_readable byte (at + 4) 4 && (are_readable byte (at + 8) 8 && (are_readable byte (at + 16) 8 && are_readable byte (at + 24) 8)))
can_read_descriptor-fields byte at =
    let second : at + 4 + 4 ≡ at + 8 = omega arith in
    let third : at + 8 + 8 ≡ at + 16 = omega arith in
    let fourth : at + 16 + 8 ≡ at + 24 = omega arith in
    let r = are_readable byte in
    are_readable-split byte at 4 28
    ∙ ap (λ b. r at 4 && b) (are_readable-split byte (at + 4) 4 24 ∙ ap (λ a. r (at + 4) 4 && r a 24) second)
    ∙ ap (λ b. r at 4 && (r (at + 4) 4 && b)) (are_readable-split byte (at + 8) 8 16 ∙ ap (λ a. r (at + 8) 8 && r a 16) third)
    ∙ ap (λ b. r at 4 && (r (at + 4) 4 && (r (at + 8) 8 && b))) (are_readable-split byte (at + 16) 8 8 ∙ ap (λ a. r (at + 16) 8 && r a 8) fourth)

-- what it says where each field was read
pub descriptor_read : (byte : ℕ → Option ℕ) (at v f s p a : ℕ) → Some v ≡ word_at byte at 4 → Some f ≡ word_at byte (at + 4) 4 → Some s ≡ word_at byte (at + 8) 8
    → Some p ≡ word_at byte (at + 16) 8 → Some a ≡ word_at byte (at + 24) 8
    → Some (record { version = v; flags = f; start_ip = s; post_commit_offset = p; abort_ip = a }) ≡ cond (can_read_descriptor byte at) (Some (descriptor_at byte at)) None
descriptor_read byte at v f s p a ve fe se pe ae =
    let made : ℕ → ℕ → ℕ → ℕ → ℕ → Descriptor = λ v f s p a. record { version = v; flags = f; start_ip = s; post_commit_offset = p; abort_ip = a } in
    let n = number_at byte in
    let all = can_read_descriptor-fields byte at
    ∙ both_hold _ _ (readable byte at 4 v ve) (both_hold _ _ (readable byte (at + 4) 4 f fe) (both_hold _ _ (readable byte (at + 8) 8 s se)
    (both_hold _ _ (readable byte (at + 16) 8 p pe) (readable byte (at + 24) 8 a ae)))) in
    some_there _ (made v f s p a) (descriptor_at byte at) all
    (ap (λ (x : ℕ). made x f s p a) (number_at-read byte at 4 v ve)
    ∙ ap (λ (x : ℕ). made (n at 4) x s p a) (number_at-read byte (at + 4) 4 f fe)
    ∙ ap (λ (x : ℕ). made (n at 4) (n (at + 4) 4) x p a) (number_at-read byte (at + 8) 8 s se)
    ∙ ap (λ (x : ℕ). made (n at 4) (n (at + 4) 4) (n (at + 8) 8) x a) (number_at-read byte (at + 16) 8 p pe)
    ∙ ap (made (n at 4) (n (at + 4) 4) (n (at + 8) 8) (n (at + 16) 8)) (number_at-read byte (at + 24) 8 a ae))

-- and it can't where one of them can't
module _ (byte : ℕ → Option ℕ) (at : ℕ) where
  abbrev from_abort : Bool
  from_abort = are_readable byte (at + 24) 8

  abbrev from_length : Bool
  from_length = are_readable byte (at + 16) 8 && from_abort

  abbrev from_start : Bool
  from_start = are_readable byte (at + 8) 8 && from_length

  abbrev from_flags : Bool
  from_flags = are_readable byte (at + 4) 4 && from_start

  lacks_rest : from_flags ≡ false → can_read_descriptor byte at ≡ false
  lacks_rest none = can_read_descriptor-fields byte at ∙ rest_fails (are_readable byte at 4) from_flags none

  lacks_range : from_start ≡ false → can_read_descriptor byte at ≡ false
  lacks_range none = lacks_rest (rest_fails (are_readable byte (at + 4) 4) from_start none)

  lacks_end : from_length ≡ false → can_read_descriptor byte at ≡ false
  lacks_end none = lacks_range (rest_fails (are_readable byte (at + 8) 8) from_length none)

  pub lacks_version : None ≡ word_at byte at 4 → can_read_descriptor byte at ≡ false
  lacks_version none =
      can_read_descriptor-fields byte at ∙ first_fails (are_readable byte at 4) from_flags (unreadable byte at 4 none)

  pub lacks_flags : None ≡ word_at byte (at + 4) 4 → can_read_descriptor byte at ≡ false
  lacks_flags none = lacks_rest (first_fails (are_readable byte (at + 4) 4) from_start (unreadable byte (at + 4) 4 none))

  pub lacks_start : None ≡ word_at byte (at + 8) 8 → can_read_descriptor byte at ≡ false
  lacks_start none = lacks_range (first_fails (are_readable byte (at + 8) 8) from_length (unreadable byte (at + 8) 8 none))

  pub lacks_length : None ≡ word_at byte (at + 16) 8 → can_read_descriptor byte at ≡ false
  lacks_length none = lacks_end (first_fails (are_readable byte (at + 16) 8) from_abort (unreadable byte (at + 16) 8 none))

  pub lacks_abort : None ≡ word_at byte (at + 24) 8 → can_read_descriptor byte at ≡ false
  lacks_abort none = lacks_end (rest_fails (are_readable byte (at + 16) 8) from_abort (unreadable byte (at + 24) 8 none))
