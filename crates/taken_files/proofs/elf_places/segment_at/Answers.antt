use Rattle.std.proofs.Common.{◌≡◌, ◌+◌, ◌*◌, ℕ, List, ap, ap₂, ◌∙◌, sym, Some}
use Rattle.std.specs.Option.{option_map}
use Rattle.byte_views.specs.Words.{word_at}
use Rattle.elf_load.specs.Fields.{e_phoff}
use Rattle.call_reasons.specs.declared.reasons.ElfPlace.TheVariants.{Segment}
use Rattle.call_reasons.specs.declared.reasons.Span.{Span}
use Rattle.outcomes.specs.ElfPlaces.{segment_of, span_of}
use Rattle.taken_files.proofs.ElfPlaces.{header_at}
use Rattle.taken_files.proofs.elf_places.segment_at.Goals as goal

-- a span whose beginning and size are read from two fields of the program header at a place
span_read : (file : List ℕ) (at place first many from size : ℕ) (span : Span) → place ≡ at
    → from ≡ word_at file (place + first) 8 → size ≡ word_at file (place + many) 8 → span ≡ span_of from size
    → span_of (word_at file (at + first) 8) (word_at file (at + many) 8) ≡ span
span_read file at place first many from size span same from_is size_is is =
    let start : word_at file (at + first) 8 ≡ from = ap (λ (p : ℕ). word_at file (p + first) 8) (sym same) ∙ sym from_is in
    let total : word_at file (at + many) 8 ≡ size = ap (λ (p : ℕ). word_at file (p + many) 8) (sym same) ∙ sym size_is in
    ap₂ span_of start total ∙ sym is

pub returns : goal.returns
returns c =
    let file = c.args.file.now in
    let at = e_phoff file + 56 * c.args.k in
    let place = c.xword.result + 56 * c.args.k in
    let same : place ≡ at = ap (λ (p : ℕ). p + 56 * c.args.k) c.xword.ensures in
    let memory = span_read file at place 16 40 c.xword-address.result c.xword-memory_size.result c.span_of-memory.result
    same c.xword-address.ensures c.xword-memory_size.ensures c.span_of-memory.ensures in
    let bytes = span_read file at place 8 32 c.xword-offset.result c.xword-file_size.result c.span_of-bytes.result same
    c.xword-offset.ensures c.xword-file_size.ensures c.span_of-bytes.ensures in
    ap (option_map segment_of) (header_at file c.args.k c.requires.index) ∙ ap Some (ap₂ Segment memory bytes)
