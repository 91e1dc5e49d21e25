use Rattle.command_words.proofs.ShownRows.{shown_of_words}
use Rattle.command_words.proofs.theorems.words_ask_for_what_can_be_shown.Goals as goal

pub returns : goal.returns
returns c = shown_of_words
