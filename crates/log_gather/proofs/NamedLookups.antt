-- What an area names says at which bytes its check looks.
use Rattle.std.proofs.Common.{◌≡◌, ℕ, ◌+◌, ◌-◌, ◌≤◌, Bool, true, false, not, cond, ◌&&◌, eqb, leb, Option, Some, None, SomeIff, unwrap_or, refl, sym, ap, ◌∙◌}
use Rattle.std.proofs.lemmas.Bool.{le-leb, leb-true}
use Rattle.std.specs.Option.{option_and_then, option_map, option_map_or}
use Rattle.mach_types.specs.Bytes.{word_at}
use Rattle.mach_types.specs.Kernel.Areas.{can_read_area, can_read_descriptor, descriptor_at, has_flags, is_inside, is_out_of_range, is_signed, named, named_by, number_at, pointer_of, sequence_of}
use Rattle.mach_types.specs.declared.address_space.TheConstants.{USER_END}
use Rattle.mach_types.specs.declared.sequences.Area.{Area}
use Rattle.mach_types.specs.declared.sequences.BadWhy.TheVariants as bad
use Rattle.mach_types.specs.declared.sequences.Descriptor.{Descriptor}
use Rattle.mach_types.specs.declared.sequences.Named.{Named}
use Rattle.mach_types.specs.declared.sequences.Named.TheVariants as names
use Rattle.mach_types.specs.declared.sequences.Seq.{Seq}
use Rattle.mach_types.specs.declared.sequences.TheConstants.{RSEQ_CS}
use Rattle.rseq_area.specs.Lookups.{fields_of, looked_at, signature_of}
use Rattle.rseq_area.specs.declared.lookups.Lookups.{Lookups}
use Rattle.process.specs.Sequences.{area_on, looked_at_on, named_on}
use Rattle.block_model.specs.Here.{Here, runs, view}
use Rattle.block_model.specs.Sequences.{area_here, named_here}

-- THE LINES OF A CHECK

-- what is named, by what is wrong with the area and its descriptor
abbrev pub named_tail : Bool → Bool → Bool → Bool → Named → Named
named_tail area_read none past descriptor_read then =
    cond (not area_read) (names.Bad bad.AreaBytes)
    (cond none names.Nothing
    (cond past (names.Bad bad.Pointer)
    (cond (not descriptor_read) (names.Bad bad.Descriptor) then)))

abbrev pub named_signature : Bool → Bool → Bool → Bool → Bool → Seq → Named
named_signature version out inside signed flagged q =
    cond (not version) (names.Bad bad.Version)
    (cond out (names.Bad bad.Range)
    (cond inside (names.Bad bad.AbortInside)
    (cond (not signed) (names.Bad bad.Signature)
    (cond flagged (names.Bad bad.SeqFlags) (names.Good q)))))

-- at which bytes is looked, by the same
abbrev looked_tail : Area → Bool → Bool → Bool → Bool → ℕ → Option ℕ → Lookups
looked_tail area area_read none past descriptor_read at signature =
    cond (not area_read) (fields_of area)
    (cond none (fields_of area)
    (cond past (fields_of area)
    (record { area = area.at; descriptor = Some at; signature = cond descriptor_read signature None })))

abbrev pub signature_before : ℕ → Option ℕ
signature_before abort = cond (leb 4 abort) (Some (abort - 4)) None

abbrev looked_signature : Bool → Bool → Bool → ℕ → Option ℕ
looked_signature version out inside abort = cond (not version) None (cond out None (cond inside None (signature_before abort)))

-- A SEQUENCE IS NAMED

good_signature : (v o i s f : Bool) (r q : Seq) → named_signature v o i s f r ≡ names.Good q → looked_signature v o i r.abort ≡ signature_before q.abort
good_signature false o i s f r q is = absurd cc
good_signature true true i s f r q is = absurd cc
good_signature true false true s f r q is = absurd cc
good_signature true false false false f r q is = absurd cc
good_signature true false false true true r q is = absurd cc
good_signature true false false true false r q is = cc

good_tail : (area : Area) (a n p d : Bool) (at : ℕ) (then : Named) (signature before : Option ℕ) (q : Seq) → named_tail a n p d then ≡ names.Good q
    → (then ≡ names.Good q → signature ≡ before)
    → looked_tail area a n p d at signature ≡ record { area = area.at; descriptor = Some at; signature = before }
good_tail area false n p d at then signature before q is same = absurd cc
good_tail area true true p d at then signature before q is same = absurd cc
good_tail area true false true d at then signature before q is same = absurd cc
good_tail area true false false false at then signature before q is same = absurd cc
good_tail area true false false true at then signature before q is same = ap (λ s. record { area = area.at; descriptor = Some at; signature = s }) (same is)

module _ (byte : ℕ → Option ℕ) (area : Area) (pc : ℕ) where
  abbrev pointer : ℕ
  pointer = pointer_of byte area

  abbrev descriptor : Descriptor
  descriptor = descriptor_at byte pointer

  abbrev sequence : Seq
  sequence = sequence_of descriptor

  pointer_read : (p : ℕ) → word_at byte (area.at + RSEQ_CS) 8 ≡ Some p → pointer ≡ p
  unfolding number_at
  pointer_read p read = ap (λ o. unwrap_or o 0) read

  -- the descriptor is at the pointer, and the signature before the abort handler
  pub looks_good : (p : ℕ) (q : Seq) → named byte area pc ≡ names.Good q → word_at byte (area.at + RSEQ_CS) 8 ≡ Some p
      → looked_at byte area ≡ record { area = area.at; descriptor = Some p; signature = signature_before q.abort }
  looks_good p q is read =
      good_tail area (can_read_area byte area) (eqb pointer 0) (leb USER_END pointer) (can_read_descriptor byte pointer) pointer
      (named_by byte area pc descriptor) (signature_of descriptor) (signature_before q.abort) q is
      (good_signature (eqb descriptor.version 0) (is_out_of_range sequence) (is_inside sequence sequence.abort) (is_signed byte area sequence)
      (is_inside sequence pc && has_flags byte area descriptor) sequence q)
      ∙ ap (λ at. record { area = area.at; descriptor = Some at; signature = signature_before q.abort }) (pointer_read p read)

-- THE THREAD ON A HART

module _ (here : Here) (area : Area) (on : area_on here ≡ Some area) where
  names_by : (o : Option ℕ) → option_and_then (area_here here) o ≡ Some area
      → (pc : ℕ) × (option_map_or (named_here here) o names.Nothing ≡ named (view here) area pc)
  names_by None is = absurd cc
  names_by (Some t) is = ((here.file t).pc, ap (λ x. option_map_or (λ a. named (view here) a (here.file t).pc) x names.Nothing) is)

  looks_by : (looks : Lookups) → looked_at (view here) area ≡ looks → Some looks ≡ looked_at_on here
  looks_by looks is = sym (ap (option_map (looked_at (view here))) on ∙ ap (λ x. Some x) is)

  -- where its area names a sequence, and the pointer was read
  pub looks_where_good : (p : ℕ) (q : Seq) → named_on here ≡ names.Good q → word_at (view here) (area.at + RSEQ_CS) 8 ≡ Some p
      → Some (record { area = area.at; descriptor = Some p; signature = signature_before q.abort }) ≡ looked_at_on here
  looks_where_good p q is read =
      let there = names_by (runs here) on in
      looks_by _ (looks_good (view here) area there.0 p q (sym there.1 ∙ is) read)

-- where the signature stands, if 4 bytes are before the abort handler
pub signature_read : (abort : ℕ) (o : Option ℕ) → SomeIff o (4 ≤ abort) (abort - 4) → o ≡ signature_before abort
signature_read abort (Some at) is = ap (λ x. Some x) is.1 ∙ sym (ap (λ b. cond b (Some (abort - 4)) None) (le-leb 4 abort is.0))
signature_read abort None is = go (leb 4 abort) refl
  where
    go : (b : Bool) → leb 4 abort ≡ b → None ≡ cond b (Some (abort - 4)) None
    go true enough = absurd (is (leb-true 4 abort enough))
    go false few = refl
