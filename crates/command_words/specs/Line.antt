-- What stands behind a command's word, as `clap` is told of it (own): the options, which take a value each, and
-- three names.
use Rattle.std.specs.Prelude.{ℕ, ◌≡◌, List, [], ◌∷◌, Option, Some, None, codes, fold, true}
use Rattle.std.specs.Option.{option_to_list}
use Rattle.clap.specs.Words.{App, Row, Rule, first_of, new_app, new_rule, with_rule}
use Rattle.command_words.specs.Grammar.{Arguments, asked_by}
use Rattle.command_words.specs.Options.{OptionName, all_options, long_name}
use Rattle.command_words.specs.Words.{arguments_of}
use Rattle.step_log.specs.Script.{◌>>=◌}

-- an option that takes the value of its long name
abbrev pub option_rule : List ℕ → Rule
option_rule name = record (new_rule name) { long = Some name }

-- a command that is told no name of its own among the words, and has no help
abbrev pub bare : App
bare = record (new_app (codes "rseq_run")) {
  top = record (new_app (codes "rseq_run")).top { no_binary_name = true; disable_help_flag = true };
}

-- a command with an option more
abbrev pub with_option : App → OptionName → App
with_option app option = with_rule app (option_rule (long_name option))

-- the command with its options, and with its names too
abbrev pub with_options : App
with_options = fold with_option bare all_options

abbrev pub line : App
line =
    with_rule (with_rule (with_rule with_options (new_rule (codes "first"))) (new_rule (codes "second"))) (new_rule (codes "third"))

-- the names that were found: none without those before it
abbrev pub names_behind : Option (List ℕ) → Option (List ℕ) → List (List ℕ)
names_behind None third = []
names_behind (Some second) third = second ∷ option_to_list third

abbrev pub names_found : Option (List ℕ) → Option (List ℕ) → Option (List ℕ) → List (List ℕ)
names_found None second third = []
names_found (Some first) second third = first ∷ names_behind second third

-- the arguments that `clap` found
abbrev pub arguments_found : List Row → Arguments
arguments_found rows = record {
  names = names_found (first_of (codes "first") rows) (first_of (codes "second") rows) (first_of (codes "third") rows);
  values = λ option. first_of (long_name option) rows;
}

-- these arguments ask each command for what those of the words ask it for
abbrev pub AsksAlike : Option Arguments → List (List ℕ) → Type 0
AsksAlike given words = (word : List ℕ) → (given >>= asked_by word) ≡ (arguments_of words >>= asked_by word)
