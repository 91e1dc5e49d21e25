-- The reductions of a search for all outcomes (own), and the one that a word names.
use Rattle.std.specs.Prelude.{ℕ, true, false, List, Option, Some, None, if◌then◌else◌, codes}
use Rattle.std.specs.Str.{bytes_eq}
use Rattle.search_reductions.specs.declared.reductions.Reductions.{Reductions}

abbrev pub all_reductions : Reductions
all_reductions = record { local_steps = true }

-- all but the one that a word names, if it names one
abbrev pub reductions_without : List ℕ → Option Reductions
reductions_without word =
    if bytes_eq word (codes "local-steps") then Some (record all_reductions { local_steps = false }) else None
