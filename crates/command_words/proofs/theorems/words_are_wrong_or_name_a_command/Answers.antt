use Rattle.command_words.proofs.FaultLaw.{fault_or_command, wrong_is_none}
use Rattle.command_words.proofs.theorems.words_are_wrong_or_name_a_command.Goals as goal

pub returns : goal.returns
returns c = record { right = fault_or_command; wrong = wrong_is_none }
