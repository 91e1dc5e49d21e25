-- By what the outcomes of many runs are told apart (own), as a word says it.
use Rattle.std.specs.Prelude.{ℕ, List, Option, Some, None, if◌then◌else◌, codes}
use Rattle.std.specs.Str.{bytes_eq}
use Rattle.draw_policies.specs.declared.outcome_keys.OutcomeKey.{OutcomeKey}
use Rattle.draw_policies.specs.declared.outcome_keys.OutcomeKey.TheVariants.{ByText, ByEnd}

abbrev pub key_of_word : List ℕ → Option OutcomeKey
key_of_word word =
    if bytes_eq word (codes "text") then Some ByText else if bytes_eq word (codes "end") then Some ByEnd else None
