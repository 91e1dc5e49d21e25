-- What an area names stays the same where the bytes do at which its check looks, and so does at which bytes it looks.
use Rattle.std.proofs.Common.{◌≡◌, ℕ, zero, suc, ◌+◌, ◌-◌, ◌≤◌, ◌<◌, List, [], ◌∷◌, refl, ap, ◌∙◌, arith, Bool, true, false, not, cond, ◌&&◌, ◌||◌, eqb, leb, Option, is_some, unwrap_or, sym, subst, Some, None}
use Rattle.std.proofs.lemmas.Bool.{le-leb, lt-ltb}
use Rattle.mach_types.specs.Bytes.{each_byte}
use Rattle.mach_types.specs.Kernel.Areas.{are_readable, can_read_area, can_read_descriptor, descriptor_at, flags_of, has_flags, is_inside, is_out_of_range, is_signed, named, named_by, number_at, pointer_of, sequence_of}
use Rattle.mach_types.specs.declared.address_space.TheConstants.{USER_END}
use Rattle.mach_types.specs.declared.sequences.Area.{Area}
use Rattle.mach_types.specs.declared.sequences.Descriptor.{Descriptor}
use Rattle.mach_types.specs.declared.sequences.Named.{Named}
use Rattle.mach_types.specs.declared.sequences.Seq.{Seq}
use Rattle.mach_types.specs.declared.sequences.TheConstants.{DESCRIPTOR_SIZE, FLAGS, RSEQ_CS}
use Rattle.rv_inst.specs.Accesses.{Bytes, bytes}
use Rattle.block_model.specs.Footprints.{has_byte, have_byte}
use Rattle.rseq_area.specs.Lookups.{fields_of, signature_of}
use Rattle.log_gather.specs.Lookups.{bytes_if, bytes_looked_at, looked_over}
use Rattle.block_model.proofs.Swaps.Untouched.{word_same}
use Rattle.log_gather.proofs.NamedLookups.{named_signature, named_tail}

-- THE BYTES, LINE BY LINE

-- the descriptor, where the two fields can be read, the pointer isn't 0 and it is in range; and where each byte of the descriptor can
-- be read, at what is looked further
abbrev looked_tail : Bool → Bool → Bool → Bool → Bytes → List Bytes → List Bytes
looked_tail area_read none past descriptor_read at rest =
    cond (not area_read) [] (cond none [] (cond past [] (at ∷ cond (not descriptor_read) [] rest)))

-- the word before the abort handler, where nothing is wrong with the version, the range and the abort handler
abbrev looked_signature : Bool → Bool → Bool → Bool → Bytes → List Bytes
looked_signature version out inside low at = cond (not version) [] (cond out [] (cond inside [] (cond low (at ∷ []) [])))

abbrev looked_by : Descriptor → List Bytes
looked_by d =
    let q = sequence_of d in
    looked_signature (eqb d.version 0) (is_out_of_range q) (is_inside q q.abort) (leb 4 q.abort) (bytes (q.abort - 4) 4)

signature_is : (v o i low : Bool) (at : ℕ) → bytes_if (cond (not v) None (cond o None (cond i None (cond low (Some at) None)))) 4 ≡ looked_signature v o i low (bytes at 4)
signature_is false o i low at = refl
signature_is true true i low at = refl
signature_is true false true low at = refl
signature_is true false false true at = refl
signature_is true false false false at = refl

tail_is : (area : Area) (a n p d : Bool) (at : ℕ) (signature : Option ℕ)
    → bytes_looked_at (cond (not a) (fields_of area) (cond n (fields_of area) (cond p (fields_of area) (record { area = area.at; descriptor = Some at; signature = cond d signature None }))))
    ≡ bytes (area.at + RSEQ_CS) 8 ∷ bytes (area.at + FLAGS) 4 ∷ looked_tail a n p d (bytes at DESCRIPTOR_SIZE) (bytes_if signature 4)
tail_is area false n p d at signature = refl
tail_is area true true p d at signature = refl
tail_is area true false true d at signature = refl
tail_is area true false false true at signature = refl
tail_is area true false false false at signature = refl

looked_lines : (byte : ℕ → Option ℕ) (area : Area) → looked_over byte area
    ≡ bytes (area.at + RSEQ_CS) 8 ∷ bytes (area.at + FLAGS) 4
    ∷ looked_tail (can_read_area byte area) (eqb (pointer_of byte area) 0) (leb USER_END (pointer_of byte area)) (can_read_descriptor byte (pointer_of byte area))
    (bytes (pointer_of byte area) DESCRIPTOR_SIZE) (looked_by (descriptor_at byte (pointer_of byte area)))
looked_lines byte area =
    let pointer = pointer_of byte area in
    let q = sequence_of (descriptor_at byte pointer) in
    tail_is area (can_read_area byte area) (eqb pointer 0) (leb USER_END pointer) (can_read_descriptor byte pointer) pointer (signature_of (descriptor_at byte pointer))
    ∙ ap (λ s. bytes (area.at + RSEQ_CS) 8 ∷ bytes (area.at + FLAGS) 4 ∷ looked_tail (can_read_area byte area) (eqb pointer 0) (leb USER_END pointer) (can_read_descriptor byte pointer) (bytes pointer DESCRIPTOR_SIZE) s)
    (signature_is (eqb (descriptor_at byte pointer).version 0) (is_out_of_range q) (is_inside q q.abort) (leb 4 q.abort) (q.abort - 4))

-- a test holds of each byte of a list, and of bytes
abbrev HoldsOn : (ℕ → Type 0) → List Bytes → Type 0
HoldsOn S xs = (a : ℕ) → have_byte xs a ≡ true → S a

on_first : (S : ℕ → Type 0) (x : Bytes) (xs : List Bytes) → HoldsOn S (x ∷ xs) → HoldsOn S (x ∷ [])
on_first S x xs all a is = all a (wide (has_byte x a) (have_byte xs a) is)
  where
    wide : (b c : Bool) → (b || false) ≡ true → (b || c) ≡ true
    wide true c is = refl
    wide false c is = absurd cc

on_rest : (S : ℕ → Type 0) (x : Bytes) (xs : List Bytes) → HoldsOn S (x ∷ xs) → HoldsOn S xs
on_rest S x xs all a is = all a (wide (has_byte x a) (have_byte xs a) is)
  where
    wide : (b c : Bool) → c ≡ true → (b || c) ≡ true
    wide true c is = refl
    wide false c is = is

-- the lines of a check are the same
tail_same : (S : ℕ → Type 0) (a n p d d' : Bool) (at : Bytes) (x x' : Named) (y y' : List Bytes) → HoldsOn S (looked_tail a n p d at y)
    → (HoldsOn S (at ∷ []) → d' ≡ d) → (HoldsOn S (at ∷ []) → HoldsOn S y → (x' ≡ x) × (y' ≡ y))
    → (named_tail a n p d' x' ≡ named_tail a n p d x) × (looked_tail a n p d' at y' ≡ looked_tail a n p d at y)
tail_same S false n p d d' at x x' y y' on read then = (refl, refl)
tail_same S true true p d d' at x x' y y' on read then = (refl, refl)
tail_same S true false true d d' at x x' y y' on read then = (refl, refl)
tail_same S true false false false d' at x x' y y' on read then = rw (read (on_first S at [] on)) (refl, refl)
tail_same S true false false true d' at x x' y y' on read then =
    let own = on_first S at y on in
    let both = then own (on_rest S at y on) in
    rw (read own, both.0, both.1) (refl, refl)

signature_same : (S : ℕ → Type 0) (v o i low s s' e e' f : Bool) (at : Bytes) (q : Seq) → HoldsOn S (looked_signature v o i low at)
    → (HoldsOn S (at ∷ []) → (s' ≡ s) × (e' ≡ e)) → named_signature v o i ((low && s') && e') f q ≡ named_signature v o i ((low && s) && e) f q
signature_same S false o i low s s' e e' f at q on signed = refl
signature_same S true true i low s s' e e' f at q on signed = refl
signature_same S true false true low s s' e e' f at q on signed = refl
signature_same S true false false false s s' e e' f at q on signed = refl
signature_same S true false false true s s' e e' f at q on signed = let both = signed on in rw (both.0, both.1) refl

module _ (byte byte' : ℕ → Option ℕ) where
  abbrev Same : ℕ → Type 0
  Same a = byte' a ≡ byte a

  covered : (x : Bytes) (from n : ℕ) → x.at ≤ from → from + n ≤ x.at + x.count → HoldsOn Same (x ∷ []) → (a : ℕ) → from ≤ a → a < from + n → byte' a ≡ byte a
  covered x from n low high on a over under = on a (simp (le-leb x.at a (omega arith), lt-ltb a (x.at + x.count) (omega arith)))

  number_same : (x : Bytes) (from n : ℕ) → x.at ≤ from → from + n ≤ x.at + x.count → HoldsOn Same (x ∷ []) → number_at byte' from n ≡ number_at byte from n
  unfolding number_at
  number_same x from n low high on = ap (λ o. unwrap_or o 0) (word_same byte' byte from n (covered x from n low high on))

  each_same : (from n : ℕ) → ((a : ℕ) → from ≤ a → a < from + n → byte' a ≡ byte a) → each_byte (λ a. is_some (byte' a)) from n ≡ each_byte (λ a. is_some (byte a)) from n
  each_same from zero same = refl
  each_same from (suc n) same =
      ap (λ (o : Option ℕ). is_some o && each_byte (λ a. is_some (byte' a)) (from + 1) n) (same from (omega arith) (omega arith))
      ∙ ap (λ b. is_some (byte from) && b) (each_same (from + 1) n (λ a low high. same a (omega arith) (omega arith)))

  readable_same : (x : Bytes) → HoldsOn Same (x ∷ []) → are_readable byte' x.at x.count ≡ are_readable byte x.at x.count
  unfolding are_readable
  readable_same x on = each_same x.at x.count (covered x x.at x.count (omega arith) (omega arith) on)

  descriptor_same : (at : ℕ) → HoldsOn Same (bytes at DESCRIPTOR_SIZE ∷ []) → descriptor_at byte' at ≡ descriptor_at byte at
  descriptor_same at on =
      let x = bytes at DESCRIPTOR_SIZE in
      let version = number_same x at 4 (omega arith) (omega arith) on in
      let flags = number_same x (at + 4) 4 (omega arith) (omega arith) on in
      let start = number_same x (at + 8) 8 (omega arith) (omega arith) on in
      let offset = number_same x (at + 16) 8 (omega arith) (omega arith) on in
      let abort = number_same x (at + 24) 8 (omega arith) (omega arith) on in
      cc

  named_by_same : (area : Area) (pc : ℕ) (d : Descriptor) → flags_of byte' area ≡ flags_of byte area → HoldsOn Same (looked_by d) → named_by byte' area pc d ≡ named_by byte area pc d
  named_by_same area pc d flags on =
      let q = sequence_of d in
      let at = bytes (q.abort - 4) 4 in
      let flagged : has_flags byte' area d ≡ has_flags byte area d = ap (λ n. not (eqb n 0 && eqb d.flags 0)) flags in
      ap (λ b. named_signature (eqb d.version 0) (is_out_of_range q) (is_inside q q.abort) (is_signed byte' area q) (is_inside q pc && b) q) flagged
      ∙ signature_same Same (eqb d.version 0) (is_out_of_range q) (is_inside q q.abort) (leb 4 q.abort)
      (are_readable byte (q.abort - 4) 4) (are_readable byte' (q.abort - 4) 4)
      (eqb (number_at byte (q.abort - 4) 4) area.sig) (eqb (number_at byte' (q.abort - 4) 4) area.sig)
      (is_inside q pc && has_flags byte area d) at q on
      (λ own. (readable_same at own, ap (λ n. eqb n area.sig) (number_same at at.at 4 (omega arith) (omega arith) own)))

  pub record LooksAlike (area : Area) (pc : ℕ) : Type 0 where
    pub named_is : named byte' area pc ≡ named byte area pc
    pub looked_is : looked_over byte' area ≡ looked_over byte area

  pub looks_alike : (area : Area) (pc : ℕ) → HoldsOn Same (looked_over byte area) → LooksAlike area pc
  looks_alike area pc given =
      let one = bytes (area.at + RSEQ_CS) 8 in
      let two = bytes (area.at + FLAGS) 4 in
      let p = pointer_of byte area in
      let then = looked_tail (can_read_area byte area) (eqb p 0) (leb USER_END p) (can_read_descriptor byte p) (bytes p DESCRIPTOR_SIZE) (looked_by (descriptor_at byte p)) in
      let on : HoldsOn Same (one ∷ two ∷ then) = subst (HoldsOn Same) (looked_lines byte area) given in
      let on_one = on_first Same one (two ∷ then) on in
      let on_more = on_rest Same one (two ∷ then) on in
      let on_two = on_first Same two then on_more in
      let on_then = on_rest Same two then on_more in
      let pointer : pointer_of byte' area ≡ p = number_same one one.at 8 (omega arith) (omega arith) on_one in
      let flags : flags_of byte' area ≡ flags_of byte area = number_same two two.at 4 (omega arith) (omega arith) on_two in
      let read : can_read_area byte' area ≡ can_read_area byte area =
      ap (λ b. b && are_readable byte' two.at 4) (readable_same one on_one) ∙ ap (λ b. are_readable byte one.at 8 && b) (readable_same two on_two) in
      let rest = tail_same Same (can_read_area byte area) (eqb p 0) (leb USER_END p) (can_read_descriptor byte p) (can_read_descriptor byte' p) (bytes p DESCRIPTOR_SIZE)
      (named_by byte area pc (descriptor_at byte p)) (named_by byte' area pc (descriptor_at byte' p)) (looked_by (descriptor_at byte p)) (looked_by (descriptor_at byte' p))
      on_then (readable_same (bytes p DESCRIPTOR_SIZE))
      (λ own more.
      let d = descriptor_same p own in
      (ap (named_by byte' area pc) d ∙ named_by_same area pc (descriptor_at byte p) flags more, ap looked_by d)) in
      record {
        named_is = ap (λ n. named_tail (can_read_area byte' area) (eqb n 0) (leb USER_END n) (can_read_descriptor byte' n) (named_by byte' area pc (descriptor_at byte' n))) pointer
            ∙ ap (λ b. named_tail b (eqb p 0) (leb USER_END p) (can_read_descriptor byte' p) (named_by byte' area pc (descriptor_at byte' p))) read ∙ rest.0;
        looked_is = looked_lines byte' area ∙ ap (λ n. one ∷ two ∷ looked_tail (can_read_area byte' area) (eqb n 0) (leb USER_END n) (can_read_descriptor byte' n) (bytes n DESCRIPTOR_SIZE) (looked_by (descriptor_at byte' n))) pointer
            ∙ ap (λ b. one ∷ two ∷ looked_tail b (eqb p 0) (leb USER_END p) (can_read_descriptor byte' p) (bytes p DESCRIPTOR_SIZE) (looked_by (descriptor_at byte' p))) read
            ∙ ap (λ l. one ∷ two ∷ l) rest.1 ∙ sym (looked_lines byte area);
      }
