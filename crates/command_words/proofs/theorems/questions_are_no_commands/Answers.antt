use Rattle.command_words.proofs.QuestionLaw.{no_command_asks}
use Rattle.command_words.proofs.theorems.questions_are_no_commands.Goals as goal

pub returns : goal.returns
returns c = no_command_asks
