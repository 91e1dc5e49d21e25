-- A summary and a trace are shown of a run by a script alone: so say the rows of the commands.
use Rattle.std.proofs.Common.{ℕ, Bool, cond, true, false, List, [], ◌∷◌, Option, Some, None}
use Rattle.std.specs.Prelude.{IfSome, codes}
use Rattle.std.specs.Option.{option_map}
use Rattle.std.specs.Str.{bytes_eq}
use Rattle.step_log.specs.Script.{◌>>=◌}
use Rattle.command_words.specs.declared.commands.Settings.{Settings}
use Rattle.command_words.specs.declared.table.CommandKind.{CommandKind}
use Rattle.command_words.specs.declared.table.CommandKind.TheVariants as kind
use Rattle.command_words.specs.declared.table.ShownKind.{ShownKind}
use Rattle.command_words.specs.declared.table.ShownKind.TheVariants as kinds
use Rattle.command_words.specs.declared.table.SourceKind.{SourceKind}
use Rattle.command_words.specs.declared.table.SourceKind.TheVariants.{ByRule, ByScript, ByWorkers, ByDraws}
use Rattle.command_words.specs.Commands.{HasItsShown}
use Rattle.command_words.specs.Grammar.{Arguments, all_suit, asked_by, asked_for, command_for, files_for, guest_for, pair_for, program_for}
use Rattle.command_words.specs.Grammar.{settings_of}
use Rattle.command_words.specs.Options.{After, Memory}
use Rattle.command_words.specs.Table.{command_kind}
use Rattle.command_words.specs.Takes.{takes_kind}
use Rattle.command_words.specs.Words.{arguments_of, command_of}

-- it is by a script that the log comes about
abbrev IsScriptKind : SourceKind → Type 0
IsScriptKind ByRule = ⊥
IsScriptKind ByScript = Unit {0}
IsScriptKind ByWorkers = ⊥
IsScriptKind ByDraws = ⊥

-- what a row shows of a run that comes about so
abbrev IsRowOf : SourceKind → ShownKind → Type 0
IsRowOf source kinds.Output = Unit {0}
IsRowOf source kinds.Summary = IsScriptKind source
IsRowOf source kinds.Place = Unit {0}
IsRowOf source kinds.Acts = Unit {0}
IsRowOf source kinds.Gathered = Unit {0}
IsRowOf source kinds.Trace = IsScriptKind source

abbrev IsRow : CommandKind → Type 0
IsRow (kind.Runs source shown) = IsRowOf source shown
IsRow kind.Makes = Unit {0}
IsRow kind.Tries = Unit {0}
IsRow kind.Explores = Unit {0}
IsRow kind.Searches = Unit {0}
IsRow kind.Pairs = Unit {0}

-- of two, either way
of_either : {A : Type 0} (P : A → Type 0) (b : Bool) (first second : Option A)
    → IfSome first P → IfSome second P → IfSome (cond b first second) P
of_either P true first second one two = one
of_either P false first second one two = two

-- of what comes of another
of_bound : {A B : Type 0} (P : A → Type 0) (Q : B → Type 0) (o : Option A) (f : A → Option B)
    → IfSome o P → ((a : A) → P a → IfSome (f a) Q) → IfSome (o >>= f) Q
of_bound P Q None f is all = tt
of_bound P Q (Some a) f is all = all a is

of_mapped : {A B : Type 0} (Q : B → Type 0) (o : Option A) (f : A → B) → ((a : A) → Q (f a)) → IfSome (option_map f o) Q
of_mapped Q None f all = tt
of_mapped Q (Some a) f all = all a

any : {A : Type 0} (o : Option A) → IfSome o (λ a. Unit {0})
any None = tt
any (Some a) = tt

-- each row shows so
each_row : (word : List ℕ) → IfSome (command_kind word) IsRow
each_row word =
    of_either IsRow (bytes_eq word (codes "solo")) _ _ tt
    (of_either IsRow (bytes_eq word (codes "play")) _ _ tt
    (of_either IsRow (bytes_eq word (codes "blocks")) _ _ tt
    (of_either IsRow (bytes_eq word (codes "inspect")) _ _ tt
    (of_either IsRow (bytes_eq word (codes "trace")) _ _ tt
    (of_either IsRow (bytes_eq word (codes "acts")) _ _ tt
    (of_either IsRow (bytes_eq word (codes "gather")) _ _ tt
    (of_either IsRow (bytes_eq word (codes "run")) _ _ tt
    (of_either IsRow (bytes_eq word (codes "draw")) _ _ tt
    (of_either IsRow (bytes_eq word (codes "explore")) _ _ tt
    (of_either IsRow (bytes_eq word (codes "outcomes")) _ _ tt
    (of_either IsRow (bytes_eq word (codes "make")) _ _ tt
    (of_either IsRow (bytes_eq word (codes "trial")) _ _ tt
    (of_either IsRow (bytes_eq word (codes "pair")) _ _ tt tt)))))))))))))

-- of two names the second is a script's
of_script : (shown : ShownKind) (settings : Settings) (after memory : Option (List ℕ)) (names : List (List ℕ))
    → IfSome (command_for (kind.Runs ByScript shown) settings after memory names) HasItsShown
of_script shown settings after memory [] = tt
of_script shown settings after memory (program ∷ []) = tt
of_script kinds.Output settings after memory (program ∷ script ∷ []) = tt
of_script kinds.Summary settings after memory (program ∷ script ∷ []) = tt
of_script kinds.Place settings after memory (program ∷ script ∷ []) = tt
of_script kinds.Acts settings after memory (program ∷ script ∷ []) = tt
of_script kinds.Gathered settings after memory (program ∷ script ∷ []) = tt
of_script kinds.Trace settings after memory (program ∷ script ∷ []) = tt
of_script shown settings after memory (program ∷ script ∷ third ∷ more) = tt

of_run : (source : SourceKind) (shown : ShownKind) (settings : Settings) (after memory : Option (List ℕ))
    (names : List (List ℕ))
    → IsRowOf source shown → IfSome (command_for (kind.Runs source shown) settings after memory names) HasItsShown
of_run source kinds.Output settings after memory names row =
    of_mapped HasItsShown (files_for source names settings after) _ (λ files. tt)
of_run source kinds.Place settings after memory names row =
    of_mapped HasItsShown (files_for source names settings after) _ (λ files. tt)
of_run source kinds.Acts settings after memory names row =
    of_mapped HasItsShown (files_for source names settings after) _ (λ files. tt)
of_run source kinds.Gathered settings after memory names row =
    of_mapped HasItsShown (files_for source names settings after) _ (λ files. tt)
of_run ByRule kinds.Summary settings after memory names row = absurd row
of_run ByScript kinds.Summary settings after memory names row = of_script kinds.Summary settings after memory names
of_run ByWorkers kinds.Summary settings after memory names row = absurd row
of_run ByDraws kinds.Summary settings after memory names row = absurd row
of_run ByRule kinds.Trace settings after memory names row = absurd row
of_run ByScript kinds.Trace settings after memory names row = of_script kinds.Trace settings after memory names
of_run ByWorkers kinds.Trace settings after memory names row = absurd row
of_run ByDraws kinds.Trace settings after memory names row = absurd row

of_kind : (k : CommandKind) (settings : Settings) (after memory : Option (List ℕ)) (names : List (List ℕ))
    → IsRow k → IfSome (command_for k settings after memory names) HasItsShown
of_kind (kind.Runs source shown) settings after memory names row = of_run source shown settings after memory names row
of_kind kind.Makes settings after memory names row = of_mapped HasItsShown (guest_for names) _ (λ guest. tt)
of_kind kind.Tries settings after memory names row = of_mapped HasItsShown (guest_for names) _ (λ guest. tt)
of_kind kind.Explores settings after memory names row = of_mapped HasItsShown (program_for names) _ (λ program. tt)
of_kind kind.Searches settings after memory names row = of_mapped HasItsShown (program_for names) _ (λ program. tt)
of_kind kind.Pairs settings after memory names row = of_mapped HasItsShown (pair_for settings.limits names) _ (λ pair. tt)

by_word : (word : List ℕ) (given : Arguments) → IfSome (asked_by word given) HasItsShown
by_word word given =
    of_bound IsRow HasItsShown (command_kind word) (λ k. asked_for k given) (each_row word)
    (λ k row. of_either HasItsShown (all_suit (takes_kind k) given.values) _ None
    (of_kind k (settings_of given.values) (given.values After) (given.values Memory) given.names row) tt)

-- so do the words
pub shown_of_words : (words : List (List ℕ)) → IfSome (command_of words) HasItsShown
unfolding command_of
shown_of_words [] = tt
shown_of_words (word ∷ rest) =
    of_bound (λ given. Unit {0}) HasItsShown (arguments_of rest) (λ given. asked_by word given) (any (arguments_of rest))
    (λ given is. by_word word given)
