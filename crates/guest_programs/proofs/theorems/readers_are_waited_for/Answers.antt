use Rattle.std.proofs.Common.{refl}
use Rattle.guest_names.specs.declared.names.Name.TheVariants.{Urcu}
use Rattle.guest_programs.proofs.GuestCode.{assembler_of, code_of_words, urcu_code, urcu_words}
use Rattle.guest_programs.proofs.UrcuLog as example
use Rattle.guest_programs.proofs.theorems.readers_are_waited_for.Goals as goal

pub returns : goal.returns
returns c = (
  assembler_of Urcu urcu_words,
  code_of_words urcu_words,
  example.exchanging,
  example.first,
  example.second,
  example.third,
  example.lock_entry,
  example.call_entry,
  example.last_entry,
  example.urcu,
  0x1019C,
  1,
  example.waits,
  urcu_code.emitted,
  urcu_code.assembled,
  refl,
  example.is_run,
  example.its.holds,
  refl,
  example.its.locks,
  record { exec = record { executes = refl; pc = refl }; of = refl },
  record { exec = record { executes = refl; pc = refl }; of = refl },
)
