-- Words that ask for help or for the version (GNU Coding Standards, "Standards for Command Line Interfaces": --help and --version print on
-- standard output and end well; the short words and `help` are own). The grammar has none of these lines.
use Rattle.std.specs.Prelude.{ℕ, Bool, ◌&&◌, ◌||◌, false, List, [], ◌∷◌, Option, Some, None, if◌then◌else◌, codes}
use Rattle.std.specs.Option.{is_some}
use Rattle.std.specs.Str.{bytes_eq}
use Rattle.command_words.specs.declared.questions.Question.{Question}
use Rattle.command_words.specs.declared.questions.Question.TheVariants.{AllCommands, OneCommand, Version}
use Rattle.command_words.specs.Table.{command_kind}

abbrev pub asks_help : List ℕ → Bool
asks_help word = bytes_eq word (codes "--help") || bytes_eq word (codes "-h")

abbrev pub asks_version : List ℕ → Bool
asks_version word = bytes_eq word (codes "--version") || bytes_eq word (codes "-V")

-- a word that asks for help is among these, and no `--` before it, behind which all words are names
abbrev pub has_help : List (List ℕ) → Bool
has_help [] = false
has_help (word ∷ rest) = if bytes_eq word (codes "--") then false else asks_help word || has_help rest

-- what words ask: what all commands are, or which version this is, by the first word; or what the command of the first word is, by
-- one of the others
abbrev pub question_behind : List ℕ → List (List ℕ) → Option Question
question_behind word rest =
    if asks_help word || bytes_eq word (codes "help") then Some AllCommands
    else if asks_version word then Some Version
    else if is_some (command_kind word) && has_help rest then Some OneCommand
    else None

abbrev pub question_among : List (List ℕ) → Option Question
question_among [] = None
question_among (word ∷ rest) = question_behind word rest

unfoldable pub question_of : List (List ℕ) → Option Question
question_of words = question_among words
