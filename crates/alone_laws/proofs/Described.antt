-- Where a block's descriptor stands and the area's pointer is its address, the area names the block's
-- sequence.
use Rattle.std.proofs.Common.{◌≡◌, ℕ, ◌+◌, refl, ap, ◌∙◌, Bool, true, false, not, ◌&&◌, cond, eqb, leb}
use Rattle.std.proofs.Common.{Option, Some}
use Rattle.std.proofs.Common.{◌⊎◌, inl, inr}
use Rattle.mach_types.specs.Bytes.{word_at}
use Rattle.mach_types.specs.Kernel.Areas.{can_read_descriptor, descriptor_at, has_flags, interruption}
use Rattle.mach_types.specs.Kernel.Areas.{is_clearable}
use Rattle.mach_types.specs.Kernel.Areas.{is_inside, is_out_of_range, is_signed, named, named_by, outcome_of}
use Rattle.mach_types.specs.Kernel.Areas.{pointer_of, sequence_of}
use Rattle.mach_types.specs.declared.address_space.TheConstants.{USER_END}
use Rattle.mach_types.specs.declared.sequences.BadWhy.TheVariants as bad
use Rattle.mach_types.specs.declared.sequences.Descriptor.{Descriptor}
use Rattle.mach_types.specs.declared.sequences.Named.{Named}
use Rattle.mach_types.specs.declared.sequences.Named.TheVariants as names
use Rattle.mach_types.specs.declared.sequences.Outcome.TheVariants as comes_to
use Rattle.mach_types.specs.declared.sequences.Seq.{Seq}
use Rattle.mach_types.specs.declared.sequences.TheConstants.{RSEQ_CS}
use Rattle.alone_laws.specs.Uses.{IsDescribed, IsWellPlaced, Placed}
use Rattle.alone_laws.proofs.Sequences.{number_is}

and_false : (a b : Bool) → b ≡ false → (a && b) ≡ false
and_false true b is = is
and_false false b is = refl

pass_first : (c : Bool) (x y : Named) → c ≡ false → cond c x y ≡ y
pass_first true x y is = absurd cc
pass_first false x y is = refl

pass_not : (c : Bool) (x y : Named) → c ≡ true → cond (not c) x y ≡ y
pass_not true x y is = refl
pass_not false x y is = absurd cc

module _ (byte : ℕ → Option ℕ) (b : Placed) (placed : IsWellPlaced b) (is : IsDescribed byte b)
    (points : word_at byte (b.area.at + RSEQ_CS) 8 ≡ Some b.table) where
  abbrev d : Descriptor
  d = descriptor_at byte b.table

  -- the tests behind those of the bytes, over the pointer; and behind that of the version, over the sequence
  abbrev by_pointer : ℕ → ℕ → Named
  by_pointer pc p =
      cond (eqb p 0) names.Nothing
      (cond (leb USER_END p) (names.Bad bad.Pointer)
      (cond (not (can_read_descriptor byte p)) (names.Bad bad.Descriptor)
      (named_by byte b.area pc (descriptor_at byte p))))

  abbrev by_sequence : ℕ → Seq → Named
  by_sequence pc q =
      cond (is_out_of_range q) (names.Bad bad.Range)
      (cond (is_inside q q.abort) (names.Bad bad.AbortInside)
      (cond (not (is_signed byte b.area q)) (names.Bad bad.Signature)
      (cond (is_inside q pc && has_flags byte b.area d) (names.Bad bad.SeqFlags) (names.Good q))))

  good_sequence : (pc : ℕ) → by_sequence pc b.range ≡ names.Good b.range
  good_sequence pc =
      let flags = and_false (is_inside b.range pc) (has_flags byte b.area d) is.no_flags in
      pass_first (is_out_of_range b.range) _ _ placed.low
      ∙ pass_first (is_inside b.range b.range.abort) _ _ placed.handler
      ∙ pass_not (is_signed byte b.area b.range) _ _ is.signed
      ∙ pass_first (is_inside b.range pc && has_flags byte b.area d) (names.Bad bad.SeqFlags)
      (names.Good b.range) flags

  described : (pc : ℕ) → named_by byte b.area pc d ≡ names.Good b.range
  described pc =
      ap (λ v. cond (not (eqb v 0)) (names.Bad bad.Version) (by_sequence pc (sequence_of d))) is.version
      ∙ ap (by_sequence pc) is.sequence ∙ good_sequence pc

  pub named_good : (pc : ℕ) → named byte b.area pc ≡ names.Good b.range
  named_good pc =
      let pointer : pointer_of byte b.area ≡ b.table = number_is byte (b.area.at + RSEQ_CS) 8 b.table points
      in
      ap (λ c. cond (not c) (names.Bad bad.AreaBytes) (by_pointer pc (pointer_of byte b.area))) is.area_read
      ∙ ap (by_pointer pc) pointer
      ∙ pass_first (eqb b.table 0) _ _ placed.some_table
      ∙ pass_first (leb USER_END b.table) _ _ placed.low_table
      ∙ pass_not (can_read_descriptor byte b.table) (names.Bad bad.Descriptor) (named_by byte b.area pc d)
      is.descriptor_read
      ∙ described pc

  -- so an interruption inside leads to the abort handler, or kills
  pub interrupted_inside : (can_write : ℕ → Bool) (pc : ℕ) → is_inside b.range pc ≡ true
      → (interruption byte can_write (Some b.area) pc ≡ comes_to.Aborted b.range.abort)
      ⊎ (interruption byte can_write (Some b.area) pc ≡ comes_to.Killed bad.AreaBytes)
  interrupted_inside can_write pc inside = by_clear (is_clearable can_write b.area) refl
    where
      named_it : interruption byte can_write (Some b.area) pc ≡ outcome_of can_write b.area pc
          (names.Good b.range)
      named_it = ap (outcome_of can_write b.area pc) (named_good pc)

      by_clear : (c : Bool) → is_clearable can_write b.area ≡ c
          → (interruption byte can_write (Some b.area) pc ≡ comes_to.Aborted b.range.abort)
          ⊎ (interruption byte can_write (Some b.area) pc ≡ comes_to.Killed bad.AreaBytes)
      by_clear true clears =
          inl (named_it
          ∙ ap (λ c. cond (not c) (comes_to.Killed bad.AreaBytes)
          (cond (is_inside b.range pc) (comes_to.Aborted b.range.abort) comes_to.Cleared)) clears
          ∙ ap (λ c. cond c (comes_to.Aborted b.range.abort) comes_to.Cleared) inside)
      by_clear false clears =
          inr (named_it
          ∙ ap (λ c. cond (not c) (comes_to.Killed bad.AreaBytes)
          (cond (is_inside b.range pc) (comes_to.Aborted b.range.abort) comes_to.Cleared)) clears)
