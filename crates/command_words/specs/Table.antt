-- The commands (own): of each its word, and whether it makes or tries a guest, explores runs, searches for all outcomes or runs two programs together, or how the
-- log of its run comes about and what is shown of it.
use Rattle.std.specs.Prelude.{ℕ, List, Option, Some, None, if◌then◌else◌, codes}
use Rattle.std.specs.Str.{bytes_eq}
use Rattle.command_words.specs.declared.table.CommandKind.{CommandKind}
use Rattle.command_words.specs.declared.table.CommandKind.TheVariants.{Runs, Makes, Tries, Explores, Searches, Pairs}
use Rattle.command_words.specs.declared.table.ShownKind.{ShownKind}
use Rattle.command_words.specs.declared.table.ShownKind.TheVariants as shows
use Rattle.command_words.specs.declared.table.SourceKind.{SourceKind}
use Rattle.command_words.specs.declared.table.SourceKind.TheVariants.{ByRule, ByScript, ByWorkers, ByDraws}

-- the row of a run: how the log comes about, and what is shown
abbrev pub row : SourceKind → ShownKind → Option CommandKind
row source shown = Some (Runs source shown)

-- what the command of a word is, if a command has the word
abbrev pub command_kind : List ℕ → Option CommandKind
command_kind word =
    if bytes_eq word (codes "solo") then row ByRule shows.Output
    else if bytes_eq word (codes "play") then row ByScript shows.Output
    else if bytes_eq word (codes "blocks") then row ByScript shows.Summary
    else if bytes_eq word (codes "inspect") then row ByScript shows.Place
    else if bytes_eq word (codes "trace") then row ByScript shows.Trace
    else if bytes_eq word (codes "acts") then row ByScript shows.Acts
    else if bytes_eq word (codes "gather") then row ByScript shows.Gathered
    else if bytes_eq word (codes "run") then row ByWorkers shows.Output
    else if bytes_eq word (codes "draw") then row ByDraws shows.Output
    else if bytes_eq word (codes "explore") then Some Explores
    else if bytes_eq word (codes "outcomes") then Some Searches
    else if bytes_eq word (codes "make") then Some Makes
    else if bytes_eq word (codes "trial") then Some Tries
    else if bytes_eq word (codes "pair") then Some Pairs
    else None
