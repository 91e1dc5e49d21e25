use Rattle.command_words.specs.Words.{command_of}
use Rattle.output_laws.proofs.PlainOutputs.{plain_output_of}
use Rattle.output_laws.proofs.theorems.plain_machine_prints.Goals as goal

pub returns : goal.returns
returns c = λ files words written. plain_output_of files (command_of words) written
