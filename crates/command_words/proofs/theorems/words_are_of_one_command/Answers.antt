use Rattle.command_words.proofs.Lines.{command_read, command_written, no_command, one_command}
use Rattle.command_words.proofs.theorems.words_are_of_one_command.Goals as goal

pub returns : goal.returns
returns c = record { of = command_written; read = command_read; one = one_command; none = no_command }
