use Rattle.std.proofs.Common.{refl, take}
use Rattle.percpu_lib.specs.Adds.{cell_seen}
use Rattle.percpu_lib.specs.Uses.{cells_of}
use Rattle.percpu_lib.proofs.UseTests.{just_is}
use Rattle.guest_names.specs.declared.names.Name.TheVariants.{Counter}
use Rattle.guest_programs.proofs.GuestCode.{assembler_of, code_of_words, counter_code, counter_words}
use Rattle.guest_programs.proofs.CounterLog as example
use Rattle.guest_programs.proofs.theorems.counters_use_their_block.Goals as goal

pub returns : goal.returns
returns c =
    let its = example.adds_well in (
      assembler_of Counter counter_words,
      code_of_words counter_words,
      example.counting,
      take 66 example.log,
      example.slots,
      example.add.at,
      example.area,
      0,
      its.sequence,
      counter_code.emitted,
      counter_code.assembled,
      refl,
      its.used.run,
      its.used.holds,
      its.used.begins,
      its.used.shares,
      its.used.is,
      its.used.inside,
      its.used.commits,
      just_is (cell_seen example.counting 0 (cells_of example.counting example.slots its.sequence.thread its.sequence.begun)
          its.sequence.reached) 1 its.passes,
    )
