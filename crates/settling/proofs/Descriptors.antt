-- What an area looks at is what was read of it.
use Rattle.std.proofs.Common.{◌≡◌, ℕ, ◌+◌, ◌&&◌, ◌||◌, inl, inr, Bool, true, false, not, eqb, eqb-true, Option, is_some, unwrap_or, refl, sym, ap, ◌∙◌, subst, arith}
use Rattle.mach_types.specs.Bytes.{word_at}
unfoldable use Rattle.mach_types.specs.Kernel.Areas.{are_readable, number_at}
use Rattle.mach_types.specs.Kernel.Areas.{can_read_descriptor, descriptor_at, is_inside, pointer_of, sequence_of}
use Rattle.mach_types.specs.declared.sequences.Area.{Area}
use Rattle.mach_types.proofs.Laws.{are_readable-split, is_some-word_at}
use Rattle.local_steps.specs.Resting.{IsPast, Looked, looked}
use Rattle.settling.specs.Glances.{glance_at, glance_in, has_descriptor, is_past, looked_of, pointer_in, descriptor_of}

regroup : (a b c d e : Bool) → a && (b && (c && (d && e))) ≡ a && b && c && d && e
regroup true true true d e = refl
regroup true true false d e = refl
regroup true false c d e = refl
regroup false b c d e = refl

module _ (byte : ℕ → Option ℕ) (at : ℕ) where
  abbrev r : ℕ → ℕ → Bool
  r = are_readable byte

  readable_is : can_read_descriptor byte at ≡ has_descriptor (glance_at byte at)
  readable_is =
      let none : at + 0 ≡ at = omega arith in
      let second : at + 4 + 4 ≡ at + 8 = omega arith in
      let third : at + 8 + 8 ≡ at + 16 = omega arith in
      let fourth : at + 16 + 8 ≡ at + 24 = omega arith in
      let words = λ (k n : ℕ). is_some-word_at byte (at + k) n in
      are_readable-split byte at 4 28
      ∙ ap (λ b. r at 4 && b) (are_readable-split byte (at + 4) 4 24 ∙ ap (λ a. r (at + 4) 4 && r a 24) second)
      ∙ ap (λ b. r at 4 && (r (at + 4) 4 && b)) (are_readable-split byte (at + 8) 8 16 ∙ ap (λ a. r (at + 8) 8 && r a 16) third)
      ∙ ap (λ b. r at 4 && (r (at + 4) 4 && (r (at + 8) 8 && b))) (are_readable-split byte (at + 16) 8 8 ∙ ap (λ a. r (at + 16) 8 && r a 8) fourth)
      ∙ ap (λ a. r a 4 && (r (at + 4) 4 && (r (at + 8) 8 && (r (at + 16) 8 && r (at + 24) 8)))) (sym none)
      ∙ (λ i. sym (words 0 4) i && (sym (words 4 4) i && (sym (words 8 8) i && (sym (words 16 8) i && sym (words 24 8) i))))
      ∙ regroup (is_some (word_at byte (at + 0) 4)) (is_some (word_at byte (at + 4) 4)) (is_some (word_at byte (at + 8) 8)) (is_some (word_at byte (at + 16) 8)) (is_some (word_at byte (at + 24) 8))

descriptor_is : (byte : ℕ → Option ℕ) (at : ℕ) → descriptor_at byte at ≡ descriptor_of (glance_at byte at)
unfolding number_at
descriptor_is byte at = let none : at ≡ at + 0 = omega arith in λ i. record {
  version = unwrap_or (word_at byte (none i) 4) 0;
  flags = unwrap_or (word_at byte (at + 4) 4) 0;
  start_ip = unwrap_or (word_at byte (at + 8) 8) 0;
  post_commit_offset = unwrap_or (word_at byte (at + 16) 8) 0;
  abort_ip = unwrap_or (word_at byte (at + 24) 8) 0;
}

pub pointer_is : (byte : ℕ → Option ℕ) (area : Area) → pointer_of byte area ≡ pointer_in byte area
unfolding number_at
pointer_is byte area = refl

pub looked_is : (byte : ℕ → Option ℕ) (area : Area) → looked byte area ≡ looked_of (glance_in byte area)
looked_is byte area =
    let at = pointer_in byte area in
    (λ i. let p = pointer_is byte area i in record { pointer = p; is_readable = can_read_descriptor byte p; descriptor = descriptor_at byte p })
    ∙ (λ i. record { pointer = at; is_readable = readable_is byte at i; descriptor = descriptor_is byte at i })

-- a pc that is past what was read is past what is looked at

not_true : (b : Bool) → not b ≡ true → b ≡ false
not_true true is = cc
not_true false is = refl

past_by : (l : Looked) (pc : ℕ) (null unread out : Bool) → eqb l.pointer 0 ≡ null → not l.is_readable ≡ unread → not (is_inside (sequence_of l.descriptor) pc) ≡ out
    → null || unread || out ≡ true → IsPast l pc
past_by l pc true unread out p q r is = inl (eqb-true l.pointer 0 p)
past_by l pc false true out p q r is = inr (inl (not_true l.is_readable q))
past_by l pc false false true p q r is = inr (inr (not_true (is_inside (sequence_of l.descriptor) pc) r))
past_by l pc false false false p q r is = cc

pub past_is : (byte : ℕ → Option ℕ) (area : Area) (pc : ℕ) → is_past (glance_in byte area) pc ≡ true → IsPast (looked byte area) pc
past_is byte area pc past =
    subst (λ (l : Looked). IsPast l pc) (sym (looked_is byte area))
    (past_by (looked_of (glance_in byte area)) pc (eqb (pointer_in byte area) 0) _ _ refl refl refl past)
