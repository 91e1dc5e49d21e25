-- The arguments of a command, one item after another.
use Rattle.std.specs.Prelude.{ℕ, List, [], ◌∷◌, ◌++◌, length, Option, Some, None, if◌then◌else◌, nat_lt}
use Rattle.std.specs.Option.{is_some}
use Rattle.command_words.specs.Options.{OptionName, same_option}
use Rattle.command_words.specs.Grammar.{Arguments, Item, Name, Given}

-- nothing is given
abbrev pub no_arguments : Arguments
no_arguments = record { names = []; values = λ option. None }

-- a name more, none where there are three
abbrev pub with_name : Arguments → List ℕ → Option Arguments
with_name given text =
    if nat_lt (length given.names) 3 then Some (record given { names = given.names ++ text ∷ [] }) else None

-- an option with this value
abbrev pub with_option : OptionName → List ℕ → Arguments → Arguments
with_option option text given =
    record given { values = λ other. if same_option option other then Some text else given.values other }

-- a value more, none where the option has one
abbrev pub with_value : Arguments → OptionName → List ℕ → Option Arguments
with_value given option text =
    if is_some (given.values option) then None else Some (with_option option text given)

-- what a word ended more
abbrev pub with_item : Arguments → Option Item → Option Arguments
with_item given None = Some given
with_item given (Some (Name text)) = with_name given text
with_item given (Some (Given option text)) = with_value given option text
