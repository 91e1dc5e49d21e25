-- What an area names where its descriptor was read.
use Rattle.std.proofs.Common.{◌≡◌, ◌≢◌, ℕ, ◌<◌, Bool, true, false, not, cond, eqb, leb, Option, Some, None, refl, sym, ap, ◌∙◌, arith}
use Rattle.std.proofs.lemmas.Bool.{ne_eqb}
use Rattle.std.proofs.lemmas.Bool.Decides.{nat_tests}
use Rattle.std.proofs.lemmas.Option.{cond_some}
use Rattle.mach_types.specs.Kernel.Areas.{can_read_area, can_read_descriptor, descriptor_at, flags_of, named, named_by, pointer_of}
use Rattle.mach_types.specs.declared.address_space.TheConstants.{USER_END}
use Rattle.mach_types.specs.declared.sequences.Area.{Area}
use Rattle.mach_types.specs.declared.sequences.BadWhy.TheVariants as bad
use Rattle.mach_types.specs.declared.sequences.Descriptor.{Descriptor}
use Rattle.mach_types.specs.declared.sequences.Named.{Named}
use Rattle.mach_types.specs.declared.sequences.Named.TheVariants as names
use Rattle.rseq_area.specs.declared.fields.Request.{Request}

otherwise : {A : Type 0} (b : Bool) (x y : A) → b ≡ false → cond b x y ≡ y
otherwise true x y e = cc
otherwise false x y e = refl

in_range : (at : ℕ) → at < USER_END → leb USER_END at ≡ false
in_range at h = grind (arith, nat_tests)

pub named-descriptor : (byte : ℕ → Option ℕ) (area : Area) (pc : ℕ) (request : Request) (d : Descriptor)
    → Some request ≡ cond (can_read_area byte area) (Some (record { pointer = pointer_of byte area; flags = flags_of byte area })) None
    → request.pointer ≢ 0 → request.pointer < USER_END
    → Some d ≡ cond (can_read_descriptor byte request.pointer) (Some (descriptor_at byte request.pointer)) None
    → named_by byte area pc d ≡ named byte area pc
named-descriptor byte area pc request d asked some low there =
    let area_read = cond_some (can_read_area byte area) _ request (sym asked) in
    let descriptor_read = cond_some (can_read_descriptor byte request.pointer) _ d (sym there) in
    let lines : Bool → ℕ → Named = λ readable at.
    cond (not readable) (names.Bad bad.AreaBytes) (cond (eqb at 0) names.Nothing (cond (leb USER_END at) (names.Bad bad.Pointer)
    (cond (not (can_read_descriptor byte at)) (names.Bad bad.Descriptor) (named_by byte area pc (descriptor_at byte at))))) in
    sym (ap (λ (readable : Bool). lines readable (pointer_of byte area)) area_read.0
    ∙ ap (λ (r : Request). lines true r.pointer) area_read.1
    ∙ otherwise (eqb request.pointer 0) _ _ (ne_eqb request.pointer 0 some)
    ∙ otherwise (leb USER_END request.pointer) _ _ (in_range request.pointer low)
    ∙ otherwise (not (can_read_descriptor byte request.pointer)) _ _ (ap not descriptor_read.0)
    ∙ ap (named_by byte area pc) descriptor_read.1)
