-- What words ask for, as a function: the words are read one after another.
use Rattle.std.specs.Prelude.{ℕ, ◌+◌, ◌==◌, Bool, List, [], ◌∷◌, ◌++◌, map, drop, Option, Some, None}
use Rattle.std.specs.Prelude.{option_map, if◌then◌else◌, nat_lt, length, codes, string_bytes}
use Rattle.std.specs.List.{before_first, position}
use Rattle.std.specs.Option.{option_to_list}
use Rattle.std.specs.Str.{bytes_eq}
use Rattle.std.specs.declared.alloc.Global.{Global}
use Rattle.std.specs.declared.string.String.{String}
use Rattle.step_log.specs.Script.{◌>>=◌}
use Rattle.command_words.specs.Commands.{Command}
use Rattle.command_words.specs.Grammar.{Arguments, Item, Name, Given}
use Rattle.command_words.specs.Grammar.{arguments_in, begins_with_dash, asked_by, is_option, names_in}
use Rattle.command_words.specs.Options.{OptionName, option_named}

-- the texts of words
abbrev pub texts : List (String Global) → List (List ℕ)
texts words = map (λ (word : String Global). string_bytes word) words

-- how the next word is read: as a name or as an option, as the value of this option, or as a name behind `--`
pub data Reading : Type 0 where
  Options : Reading
  Value : (option : OptionName) → Reading
  Names : Reading

-- `=`, which parts an option from its value in one word
abbrev pub is_equals : ℕ → Bool
is_equals byte = byte == 61

-- what stands behind the first `=` of a word, if it has one
abbrev pub behind_equals : List ℕ → Option (List ℕ)
behind_equals word = option_map (λ place. drop (place + 1) word) (position is_equals word)

-- an option with its value is an item; an option alone has its value in the next word
abbrev pub option_read : Option OptionName → Option (List ℕ) → Option (Option Item × Reading)
option_read None value = None
option_read (Some option) None = Some (None, Value option)
option_read (Some option) (Some text) = Some (Some (Given option text), Options)

-- the item that a word ends, if it ends one, and how the next word is read: the first `--` ends the options,
-- and a value that is a word of its own doesn't begin with `-`
abbrev pub word_read : Reading → List ℕ → Option (Option Item × Reading)
word_read Options word =
    if bytes_eq word (codes "--") then Some (None, Names)
    else if is_option word then option_read (option_named (before_first is_equals word)) (behind_equals word)
    else Some (Some (Name word), Options)
word_read (Value option) word =
    if begins_with_dash word then None else Some (Some (Given option word), Options)
word_read Names word = Some (Some (Name word), Names)

-- where no words follow, no option may want its value
abbrev pub no_items : Reading → Option (List Item)
no_items Options = Some []
no_items (Value option) = None
no_items Names = Some []

-- the items of words
abbrev pub items : Reading → List (List ℕ) → Option (List Item)
items reading [] = no_items reading
items reading (word ∷ rest) = do
  read ← word_read reading word
  more ← items read.1 rest
  Some (option_to_list read.0 ++ more)

-- the arguments that items make, where they have so few names that some command may have them
abbrev pub few_arguments : List Item → Option Arguments
few_arguments found = if nat_lt 3 (length (names_in found)) then None else arguments_in found

-- what the words behind a command give it
unfoldable pub arguments_of : List (List ℕ) → Option Arguments
arguments_of words = do
  found ← items Options words
  few_arguments found

-- the first word is the command's, and those behind it are its arguments
abbrev pub command_among : List (List ℕ) → Option Command
command_among [] = None
command_among (word ∷ rest) = do
  given ← arguments_of rest
  asked_by word given

-- what the words ask for: the one command whose line they are, and none where they are the line of no command
unfoldable pub command_of : List (List ℕ) → Option Command
command_of words = command_among words
