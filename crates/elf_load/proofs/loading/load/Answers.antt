use Rattle.std.proofs.Common.{◌≡◌, ◌∙◌, ◌⊎◌, inr, sym, ap, refl, subst, arith, ◌<◌, List, length, All, Some, None}
use Rattle.std.proofs.lemmas.List.{get_or_default}
use Rattle.elf_load.specs.declared.fault.ElfFault.{ElfFault}
use Rattle.elf_load.specs.declared.fault.ElfFault.TheVariants.{NoMemory}
use Rattle.elf_load.specs.declared.image.ImagePage.{ImagePage}
use Rattle.elf_load.specs.declared.program_headers.ProgramHeader.{ProgramHeader}
use Rattle.elf_load.specs.Fields.{program_headers}
use Rattle.elf_load.specs.Faults.{AreApart, first_of, first_fault, frame_rows}
use Rattle.elf_load.specs.Images.{end_of}
use Rattle.elf_load.proofs.NoFault.{HasTable, HasSegments, has_table, has_segments, length-headers, fault-of_file, fault-of_segments, fault-of_frames, passed_on}
use Rattle.elf_load.proofs.Loaded.{loaded_is_bootable, pages-below, some-page}
use Rattle.elf_load.proofs.loading.load.Goals as goal

pub read_program_headers-requires : goal.read_program_headers-requires
read_program_headers-requires c =
    let table = has_table _ c.in_ok-check_file_header.ensures.fault in
    record { header = HasTable.header table; table = HasTable.inside table }

pub returns-in_err-check_file_header-clause-fault : goal.returns-in_err-check_file_header-clause-fault
returns-in_err-check_file_header-clause-fault c =
    passed_on c.from_residual.result c.in_err-check_file_header.field-0.0 (λ (e : ElfFault). (e ≡ NoMemory) ⊎ (first_fault c.args.bytes.now c.args.limits.now.frames ≡ Some e)) c.from_residual.ensures.1
    (inr (fault-of_file _ _ _ c.in_err-check_file_header.ensures.fault))

pub returns-in_err-check_segments-clause-fault : goal.returns-in_err-check_segments-clause-fault
returns-in_err-check_segments-clause-fault c =
    passed_on c.from_residual-in_err-check_segments.result c.in_err-check_segments.field-0.0 (λ (e : ElfFault). (e ≡ NoMemory) ⊎ (first_fault c.args.bytes.now c.args.limits.now.frames ≡ Some e)) c.from_residual-in_err-check_segments.ensures.1
    (inr (fault-of_segments c.args.bytes.now c.args.limits.now.frames c.deref.result.now _ _ _ (c.deref.ensures.value ∙ c.in_ok-headers.ensures) refl c.xword-entry.ensures c.in_ok-check_file_header.ensures.fault c.in_err-check_segments.ensures))

pub check_frames-requires : goal.check_frames-requires
check_frames-requires c =
    let table = has_table c.args.bytes.now c.in_ok-check_file_header.ensures.fault in
    omega (arith, ap length (c.deref-2.ensures.value ∙ c.in_ok-headers.ensures), length-headers c.args.bytes.now, HasTable.few table)

pub returns-in_err-count-clause-fault : goal.returns-in_err-count-clause-fault
returns-in_err-count-clause-fault c =
    let table : c.deref.result.now ≡ program_headers c.args.bytes.now = c.deref.ensures.value ∙ c.in_ok-headers.ensures in
    let same : c.deref-2.result.now ≡ c.deref.result.now = c.deref-2.ensures.value ∙ sym c.deref.ensures.value in
    passed_on c.from_residual-in_err-count.result c.in_err-count.field-0.0 (λ (e : ElfFault). (e ≡ NoMemory) ⊎ (first_fault c.args.bytes.now c.args.limits.now.frames ≡ Some e)) c.from_residual-in_err-count.ensures.1
    (inr (fault-of_frames c.args.bytes.now c.args.limits.now.frames c.deref.result.now _ _ _ table refl c.xword-entry.ensures c.in_ok-check_file_header.ensures.fault c.in_ok-check_segments.ensures (ap (λ (hs : List ProgramHeader). first_of (frame_rows c.args.limits.now.frames hs)) (sym same) ∙ c.in_err-count.ensures.fault)))

pub build_pages-requires-clause-apart : goal.build_pages-requires-clause-apart
build_pages-requires-clause-apart c =
    let same : c.deref.result.now ≡ c.deref-3.result.now = c.deref.ensures.value ∙ sym c.deref-3.ensures.value in
    subst (λ (hs : List ProgramHeader). AreApart (length c.args.bytes.now) hs) same (HasSegments.apart (has_segments _ _ _ c.in_ok-check_segments.ensures))

pub end_of-break_at-requires-clause-some : goal.end_of-break_at-requires-clause-some
end_of-break_at-requires-clause-some c =
    let table : c.deref.result.now ≡ program_headers c.args.bytes.now = c.deref.ensures.value ∙ c.in_ok-headers.ensures in
    let segments : HasSegments (length c.args.bytes.now) c.xword-entry.result (program_headers c.args.bytes.now) = subst (λ (hs : List ProgramHeader). HasSegments (length c.args.bytes.now) c.xword-entry.result hs) table (has_segments _ _ _ c.in_ok-check_segments.ensures) in
    subst (λ (pages : List ImagePage). 0 < length pages) (sym c.deref-4.ensures.value) (some-page c.args.bytes.now _ _ c.in_ok-pages.ensures (HasSegments.code segments))

pub end_of-break_at-requires-clause-below : goal.end_of-break_at-requires-clause-below
end_of-break_at-requires-clause-below c =
    let table : c.deref.result.now ≡ program_headers c.args.bytes.now = c.deref.ensures.value ∙ c.in_ok-headers.ensures in
    let segments : HasSegments (length c.args.bytes.now) c.xword-entry.result (program_headers c.args.bytes.now) = subst (λ (hs : List ProgramHeader). HasSegments (length c.args.bytes.now) c.xword-entry.result hs) table (has_segments _ _ _ c.in_ok-check_segments.ensures) in
    subst (λ (pages : List ImagePage). All (λ page. page.number < 33554432) pages) (sym c.deref-4.ensures.value) (pages-below c.args.bytes.now _ _ (HasSegments.apart segments) c.in_ok-pages.ensures)

pub table_address-requires-clause-apart : goal.table_address-requires-clause-apart
table_address-requires-clause-apart c =
    let same : c.deref.result.now ≡ c.deref-5.result.now = c.deref.ensures.value ∙ sym c.deref-5.ensures.value in
    subst (λ (hs : List ProgramHeader). AreApart (length c.args.bytes.now) hs) same (HasSegments.apart (has_segments _ _ _ c.in_ok-check_segments.ensures))

pub returns-clause-no_fault : goal.returns-clause-no_fault
returns-clause-no_fault c =
    let table : c.deref.result.now ≡ program_headers c.args.bytes.now = c.deref.ensures.value ∙ c.in_ok-headers.ensures in
    let same : c.deref-2.result.now ≡ c.deref.result.now = c.deref-2.ensures.value ∙ sym c.deref.ensures.value in
    fault-of_frames c.args.bytes.now c.args.limits.now.frames c.deref.result.now _ _ None table refl c.xword-entry.ensures c.in_ok-check_file_header.ensures.fault c.in_ok-check_segments.ensures (ap (λ (hs : List ProgramHeader). first_of (frame_rows c.args.limits.now.frames hs)) (sym same) ∙ c.in_ok-count.ensures.fault)

pub returns-clause-loaded : goal.returns-clause-loaded
returns-clause-loaded c = record {
  file = c.args.bytes.now;
  are_bytes = λ k d lt. omega (arith, c.type_inv.bytes k, get_or_default c.args.bytes.now k d 0 lt);
  no_fault = returns-clause-no_fault c;
  is_image = record {
    pages = c.in_ok-pages.ensures;
    entry = c.xword-entry.ensures;
    table = c.table_address.ensures;
    table_length = c.half.ensures;
    break_at = c.end_of-break_at.ensures ∙ ap end_of c.deref-4.ensures.value;
  };
}

pub returns-clause-bootable : goal.returns-clause-bootable
returns-clause-bootable c = loaded_is_bootable _ _ (returns-clause-loaded c)
