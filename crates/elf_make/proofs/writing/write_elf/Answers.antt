use Rattle.std.proofs.Common.{◌≡◌, ◌∙◌, inr, ap, sym, subst, arith, List, map, length, All, ◌<◌, ◌^◌, None}
use Rattle.elf_make.specs.declared.parts.Part.{Part}
use Rattle.elf_make.specs.Parts.{segment_of}
use Rattle.elf_make.specs.Refusals.{refusal}
use Rattle.elf_make.proofs.Refused.{refused, taken, are_good, small}
use Rattle.elf_make.proofs.Accepting.{IsWritten, accepted, assembled, image_of, written_file}
use Rattle.elf_make.proofs.writing.write_elf.Goals as goal

pub returns-in-Some-clause-refused : goal.returns-in-Some-clause-refused
returns-in-Some-clause-refused c = inr (refused c.args.parts.now c.deref-2.result.now _ _ (c.deref-2.ensures.value ∙ c.in_ok-segments.ensures ∙ ap (map segment_of) c.deref.ensures.value) c.bad_index.ensures c.in-Some.is)

pub placed-requires-clause-small : goal.placed-requires-clause-small
placed-requires-clause-small c =
    let none : refusal c.args.parts.now ≡ None = taken c.args.parts.now c.deref-2.result.now _ (c.deref-2.ensures.value ∙ c.in_ok-segments.ensures ∙ ap (map segment_of) c.deref.ensures.value) c.bad_index.ensures c.in_default.is in
    subst (λ (ps : List Part). All (λ part. length part.bytes.items < 2 ^ 38) ps) (sym c.deref-3.ensures.value) (small c.args.parts.now (are_good c.args.parts.now none))

pub returns-clause-taken : goal.returns-clause-taken
returns-clause-taken c = taken c.args.parts.now c.deref-2.result.now _ (c.deref-2.ensures.value ∙ c.in_ok-segments.ensures ∙ ap (map segment_of) c.deref.ensures.value) c.bad_index.ensures c.in_default.is

pub returns-clause-bytes : goal.returns-clause-bytes
returns-clause-bytes c = assembled c.args.parts.now _ _ _ _ _ _ _ _ _ c.new-file.ensures.items c.in_ok-push_file_header.ensures (c.len.ensures ∙ c.args.parts.now.segments.ok.0) c.in_ok-push_table.ensures c.deref-4.ensures.value c.in_ok-headers.ensures.headers c.deref-3.ensures.value c.in_ok-push_contents.ensures c.deref-5.ensures.value

pub returns-clause-frames : goal.returns-clause-frames
returns-clause-frames c =
    let short : length c.push_contents.new.file.items < 2 ^ 63 = omega (arith, c.push_contents.new.file.ok, c.push_contents.new.file.small) in
    let file : IsWritten c.args.parts.now c.push_contents.new.file.items = written_file c.args.parts.now _ _ _ (returns-clause-taken c) (omega arith) (omega arith) c.in_ok-headers.ensures.headers c.deref-3.ensures.value c.in_ok-headers.ensures.flags (returns-clause-bytes c) short in
    λ frames. accepted c.args.parts.now _ frames (are_good c.args.parts.now (returns-clause-taken c)) file

pub returns-clause-image : goal.returns-clause-image
returns-clause-image c =
    let short : length c.push_contents.new.file.items < 2 ^ 63 = omega (arith, c.push_contents.new.file.ok, c.push_contents.new.file.small) in
    let file : IsWritten c.args.parts.now c.push_contents.new.file.items = written_file c.args.parts.now _ _ _ (returns-clause-taken c) (omega arith) (omega arith) c.in_ok-headers.ensures.headers c.deref-3.ensures.value c.in_ok-headers.ensures.flags (returns-clause-bytes c) short in
    λ image is. image_of c.args.parts.now _ image file is
