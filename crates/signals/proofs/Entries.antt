-- Entries of threads, and a list of them that is changed in turn.
use Rattle.std.proofs.Common.{◌≡◌, ℕ, ◌+◌, ◌<◌, List, ◌++◌, None, length, get_or, set, take, drop, map, ap, ◌∙◌}
use Rattle.std.proofs.lemmas.List.{get_or_default}
use Rattle.std.proofs.lemmas.List.Edits.{map_over_more}
use Rattle.mach_types.specs.declared.signal_words.ThreadSignals.{ThreadSignals}

-- nobody's entry
abbrev pub no_entry : ThreadSignals
no_entry = record { tid = 0; mask = 0; pending = 0; fault = None }

-- where the entries before one are changed, and it is too, one more is
pub one_more : (change : ThreadSignals → ThreadSignals) (before now : List ThreadSignals) (i : ℕ) (entry : ThreadSignals)
    → i < length before → i < length now → now ≡ map change (take i before) ++ drop i before
    → entry ≡ change (get_or now i no_entry) → set now i entry ≡ map change (take (i + 1) before) ++ drop (i + 1) before
one_more change before now i entry within here begun is =
    let old = get_or now i no_entry in
    ap (set now i) is ∙ map_over_more change before now i old within begun (get_or_default now i no_entry old here)
