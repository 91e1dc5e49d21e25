-- `clap` reads the words behind a command as the grammar does, but for a value that is `-`.
use Rattle.std.proofs.Common.{◌≡◌, ◌∙◌, Bool, cond, true, false, List, [], ◌∷◌, Option, Some, None, refl}
use Rattle.std.proofs.Common.{ap, arith}
use Rattle.std.specs.Prelude.{◌||◌, fold, not}
use Rattle.std.specs.Option.{is_some}
use Rattle.clap.specs.Kinds.{Kinds, or_else}
use Rattle.clap.specs.Walk.{Row, Rule, Text, has_row, settled, walk, with_default}
use Rattle.clap.specs.Walk.{finished, nothing_held, rows_after}
use Rattle.clap.specs.Simple.{App, entered, matches_of, names_of}
use Rattle.clap.specs.Takes.{is_given}
use Rattle.clap.specs.Faults.{built_fault, check_fault, defaults_fault, entered_fault, fault_of, settle_fault, walk_fault}
use Rattle.command_words.specs.Line.{line}
use Rattle.command_words.specs.Options.{OptionName, long_name}
use Rattle.command_words.proofs.Parts.{no_arguments}
use Rattle.command_words.specs.Words.{Options}
use Rattle.command_words.proofs.ClapRows.{Holds}
use Rattle.command_words.proofs.ClapWords.{HasNoDefaults, line_built, no_defaults, none_required, rules, shape}
use Rattle.command_words.proofs.ClapTurns.{AreLetters, Ends, end_of, fails, held, value_of}
use Rattle.command_words.proofs.ClapTurns.{walk_at}
use Rattle.command_words.proofs.ClapWalk.{loose}
use Rattle.command_words.proofs.ClapGoes.{goes_on}
use Rattle.clap.specs.Walk.{idle, Walk}

abbrev pub start : Walk
start = walk_at (held [] None) idle 1 false

no_row : (o : OptionName) → Holds (long_name o) [] (value_of o no_arguments)
no_row o = refl

-- the walk over a whole line
pub whole : (words : List Text) → AreLetters words → Ends start words (loose words no_arguments Options)
whole words letters =
    goes_on words letters no_arguments Options [] None (omega arith)
    (refl, record { options = no_row; first = refl; second = refl; third = refl; few = omega arith })

or_nil : (k : Kinds) → or_else k [] ≡ k
or_nil [] = refl
or_nil (x ∷ xs) = refl

pub or_true : (b : Bool) → (b || true) ≡ true
or_true true = refl
or_true false = refl

kept : (b : Bool) (rows : List Row) → cond b rows rows ≡ rows
kept true rows = refl
kept false rows = refl

unchanged : (rows : List Row) (a : Rule) → a.defaults ≡ [] → with_default rows a ≡ rows
unchanged rows a none = rw none (kept (has_row a.id rows) rows)

all_unchanged : (rows : List Row) (rs : List Rule) → HasNoDefaults rs → fold with_default rows rs ≡ rows
all_unchanged rows [] none = refl
all_unchanged rows (a ∷ rest) none = ap (λ (now : List Row). fold with_default now rest)
    (unchanged rows a none.0) ∙ all_unchanged rows rest none.1

no_default_fault : (rows : List Row) (rs : List Rule) → HasNoDefaults rs → defaults_fault rows rs ≡ []
unfolding defaults_fault
no_default_fault rows [] none = refl
no_default_fault rows (a ∷ rest) none =
    rw (none.0, or_true (has_row a.id rows), kept (has_row a.id rows) rows) (no_default_fault rows rest none.1)

-- the line, as it is read
abbrev told : App
told = record { top = shape; subs = [] }

not_entered : (stop : Option (Text × List Text)) → entered_fault told stop ≡ []
not_entered None = refl
not_entered (Some p) = refl

none_entered : (stop : Option (Text × List Text)) → is_some (entered told stop) ≡ false
none_entered None = refl
none_entered (Some p) = refl

none_missing : (rows : List Row) → check_fault shape rows false ≡ []
none_missing rows = rw (none_required (λ (rule : Rule). not (is_given rule.id rows))) refl

pub fault_is : (words : List Text) → fault_of line words ≡ fails start words
fault_is words =
    let stop = (walk rules [] nothing_held words).stopped in
    let end = end_of start words in
    ap (λ (a : App). built_fault a nothing_held words) line_built
    ∙ rw (
      not_entered stop,
      none_entered stop,
      no_default_fault (settled rules end).rows rules no_defaults,
      none_missing (finished rules end),
    )
    (ap (or_else (walk_fault shape [] start words)) (or_nil (settle_fault rules false end)))

pub matches_are : (words : List Text) → matches_of line words ≡ (settled rules (end_of start words)).rows
matches_are words =
    ap (λ (a : App). rows_after a.top.rules (names_of a) words) line_built
    ∙ all_unchanged (settled rules (end_of start words)).rows rules no_defaults
