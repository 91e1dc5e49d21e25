-- Why words give no command.
use Rattle.std.specs.Prelude.{ℕ, ◌≡◌, IsSome, List, Some, None}
use Rattle.command_words.specs.declared.read.WordsError.{WordsError}
use Rattle.command_words.specs.declared.read.WordsError.TheVariants.{Wrong, NoMemory}
use Rattle.command_words.specs.WordFaults.{words_fault}
use Rattle.command_words.specs.Words.{command_of}

-- they name none, and this is what is wrong with them; or want of memory, where they name one
abbrev pub IsErrorOf : List (List ℕ) → WordsError → Type 0
IsErrorOf words (Wrong fault) = (command_of words ≡ None) × (words_fault words ≡ Some fault)
IsErrorOf words NoMemory = IsSome (command_of words)
