-- Of which runs a search speaks, and the word that says so (own).
use Rattle.std.specs.Prelude.{ℕ, List, Option, Some, None, if◌then◌else◌, codes}
use Rattle.std.specs.Str.{bytes_eq}
use Rattle.search_reductions.specs.declared.signals.Signals.{Signals}
use Rattle.search_reductions.specs.declared.signals.Signals.TheVariants.{Any, Prompt}

-- what a word says
abbrev pub signals_of_word : List ℕ → Option Signals
signals_of_word word =
    if bytes_eq word (codes "prompt") then Some Prompt else if bytes_eq word (codes "any") then Some Any else None
