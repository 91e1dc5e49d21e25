-- A word for help is among all words where it is among those that are left.
use Rattle.std.proofs.Common.{◌≡◌, drop}
use Rattle.command_words.specs.Questions.{has_help}
use Rattle.command_words.specs.Words.{texts}
use Rattle.command_words.proofs.questions.has_help.Given as goal

abbrev pub invariant-loop-word : goal.invariant-loop-word
invariant-loop-word l = has_help (texts l.fn.words) ≡ has_help (texts (drop l.word-index l.words))
