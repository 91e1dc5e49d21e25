use Rattle.std.proofs.Common.{ap, arith}
use Rattle.elf_load.specs.Numbers.{fault_number}
use Rattle.taken_files.proofs.ElfPlaces.{about_index, about_table, table_of}
use Rattle.taken_files.proofs.elf_places.place_of.Goals as goal

pub xword-requires : goal.xword-requires
xword-requires c =
    let table = table_of c.args.file.now c.args.limits.now.frames c.args.fault
    (omega (arith, ap fault_number c.in-Entry.is)) c.requires in
    omega (arith, table.header)

pub segment_at-requires-clause-index : goal.segment_at-requires-clause-index
segment_at-requires-clause-index c =
    about_index c.args.file.now c.args.limits.now.frames c.in-Segment.k c.args.fault c.in-Segment.is c.requires

pub segment_at-requires-clause-table : goal.segment_at-requires-clause-table
segment_at-requires-clause-table c =
    (about_table c.args.file.now c.args.limits.now.frames c.in-Segment.k c.args.fault c.in-Segment.is
    c.requires).table
