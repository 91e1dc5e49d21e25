-- Which thread begins to run on an idle hart (own): one of those that may, each as likely as the next, but not the one that ran there
-- last if there are others.
use Rattle.std.specs.Prelude.{ℕ, ◌+◌, ◌-◌, ◌==◌, List, length, Option, Some, None, if◌then◌else◌, nat_lt, slice_get}
use Rattle.std.specs.List.{position}
use Rattle.std.specs.Option.{option_and_then, option_map}
use Rattle.mach_types.specs.declared.events.Tid.{Tid}
use Rattle.draw_policies.specs.Words.{thread_place}

-- the thread with a number
abbrev pub thread : ℕ → Tid
thread t = record { 0 = t }

-- where a thread stands among these
abbrev pub place_of : List ℕ → Tid → Option ℕ
place_of threads t = position (λ u. u == t.0) threads

-- where among these threads the one stands that is left out, if one is: the last that ran there, if there are others
abbrev pub left_out : List ℕ → Option Tid → Option ℕ
left_out threads last =
    if nat_lt 1 (length threads) then option_and_then (place_of threads) last else None

-- how many there are without it
abbrev pub others : List ℕ → Option ℕ → ℕ
others threads None = length threads
others threads (Some place) = length threads - 1

-- the place of the k-th of them
abbrev pub place_of_other : Option ℕ → ℕ → ℕ
place_of_other None k = k
place_of_other (Some place) k = if nat_lt k place then k else k + 1

-- the one that a word lets run
abbrev pub thread_to_run : List ℕ → Option Tid → ℕ → Option Tid
thread_to_run threads last w =
    let out = left_out threads last in
    option_map thread (slice_get threads (place_of_other out (thread_place w (others threads out))))
