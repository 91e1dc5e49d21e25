use Rattle.std.proofs.Common.{arith, ◌<◌, ◌^◌, ℕ, List, refl, subst, ap, ◌∙◌, Err, All}
use Rattle.guest_programs.proofs.Files.{code_fits, data_fits, guest_file, never_bad, not_refused}
use Rattle.guest_programs.proofs.Finished.{guest_finishable, never_far, never_unbound}
use Rattle.rv_asm.specs.declared.fault.AsmFault.{AsmFault}
use Rattle.guest_programs.proofs.making.make.Goals as goal

pub returns-in-Ok-write_elf-clause-guest : goal.returns-in-Ok-write_elf-clause-guest
returns-in-Ok-write_elf-clause-guest c =
    let fits : c.args.n < 2 ^ 64 = omega arith in
    let bytes : All (λ (b : ℕ). b < 256) c.in-Ok-write_elf.file.items =
    let P : List ℕ → Type 0 = λ xs. All (λ (b : ℕ). b < 256) xs in
    subst P c.deref.ensures.value c.shows_bytes.ensures in
    guest_file c.args.name c.args.n c.in_ok-asm.asm _ _ c.in_ok-parts.parts _ c.in_ok-parts.ensures.segments refl refl refl refl
    refl c.in_ok-asm.ensures c.in-Ok.ensures.code c.in_ok-data.ensures refl c.in_ok-parts.ensures.entry
    c.in_ok-parts.ensures.flags fits c.in-Ok-write_elf.ensures.image
    c.in-Ok-write_elf.ensures.bytes c.in-Ok-write_elf.ensures.frames bytes

pub unreachable-requires : goal.unreachable-requires
unreachable-requires c =
    never_unbound _ _ c.in-Err-UnboundLabel.field-0-0 (c.finish.ensures.unbound c.in-Err-UnboundLabel.field-0-0)
    (c.in-Err-UnboundLabel.is ∙ ap (λ (fault : AsmFault). Err fault) c.in-Err-UnboundLabel.field-0-is)
    (guest_finishable c.args.name c.in_ok-asm.asm c.in_ok-asm.ensures)

pub unreachable-requires-in-Err-TooFar : goal.unreachable-requires-in-Err-TooFar
unreachable-requires-in-Err-TooFar c =
    never_far _ _ c.in-Err-TooFar.field-0-0 (c.finish.ensures.too_far c.in-Err-TooFar.field-0-0)
    (c.in-Err-TooFar.is ∙ ap (λ (fault : AsmFault). Err fault) c.in-Err-TooFar.field-0-is)
    (guest_finishable c.args.name c.in_ok-asm.asm c.in_ok-asm.ensures)

pub unreachable-requires-in-Err-BadParts : goal.unreachable-requires-in-Err-BadParts
unreachable-requires-in-Err-BadParts c =
    never_bad c.in-Err-BadParts.field-0 c.in-Err-BadParts.field-0-0 c.in_ok-parts.parts c.in-Err-BadParts.field-0-is
    (not_refused _ _ c.in_ok-parts.parts c.in_ok-parts.ensures.segments c.in_ok-parts.ensures.entry
    c.in_ok-parts.ensures.flags refl refl refl refl refl refl
    (code_fits c.args.name c.in_ok-asm.asm _ c.in_ok-asm.ensures c.in-Ok.ensures.code)
    (data_fits c.in_ok-asm.asm c.args.n _ c.in_ok-data.ensures))
    c.in-Err-BadParts.ensures.refused
