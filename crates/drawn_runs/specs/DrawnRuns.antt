-- Drawn runs (own): logs each of whose entries is the one that a policy draws at its place, from the seed and the log so far.
use Rattle.std.specs.Prelude.{ℕ, ◌≡◌, ◌+◌, Bool, false, List, [], ◌∷◌, length, Option, Some, None, if◌then◌else◌, nat_lt}
use Rattle.std.specs.Option.{option_map}
use Rattle.mach_types.specs.Kernel.Scheduling.{Scheduling}
use Rattle.mach_types.specs.Kernel.Threads.{Threads, is_ready}
use Rattle.mach_types.specs.declared.events.Entry.{Entry}
use Rattle.drawings.specs.Drawings.{Drawn, draw, kept_after}
use Rattle.drawings.specs.Scenes.{Scene, passing}
use Rattle.drawings.specs.Starts.{start}
use Rattle.drawings.specs.declared.drawing.Drawing.{Drawing}
use Rattle.drawn_runs.specs.declared.manner.Manner.{Manner}
use Rattle.block_model.specs.Choosing.{has_ended}
use Rattle.block_model.specs.Deciding.{entry_in, history}
use Rattle.block_model.specs.Here.{Here, runs}
use Rattle.block_model.specs.History.{History, here_in_history, kernel, ran}
use Rattle.block_model.specs.Record.{Kernel}
use Rattle.block_model.specs.Sequences.{is_inside_here}
use Rattle.block_model.specs.Setting.{Setting}
use Rattle.block_model.specs.Sights.{sight_in}
use Rattle.prompt_runs.specs.Owed.{traps}

-- whether the thread on the hart is inside a good sequence
abbrev pub is_inside_on : Here → Option ℕ → Bool
is_inside_on here None = false
is_inside_on here (Some t) = is_inside_here here t

-- the numbers of the ready threads, rising
abbrev pub ready_numbers : Threads → List ℕ
ready_numbers ts = passing (λ t. is_ready t ts) (ts.given + 1)

-- the ready threads and the affinities. A word names each of so many threads as likely as the next, so their order means nothing, and
-- it is that of their numbers
abbrev pub by_number : Kernel → Scheduling
by_number k = record k.scheduling { order = ready_numbers k.threads }

-- what a policy sees at a place. No rule of drawn runs reads a credit of `run`, so there it is 0
abbrev pub scene_at : Setting → History → Scene
scene_at s before = record {
  harts = s.limits.harts;
  sight = λ h. sight_in (here_in_history s before h) (ran h before) 0;
  is_inside = λ h. is_inside_on (here_in_history s before h) (runs (here_in_history s before h));
  traps = λ h. traps (here_in_history s before h);
  scheduling = by_number (kernel s before);
}

-- what is kept at a place: the start behind the script's entries, and then what each draw leaves
abbrev pub first_drawing : Setting → Manner → Drawing
first_drawing s m = start m.policy s.limits.harts m.seed m.calm

abbrev pub drawing_at : Setting → Manner → History → Drawing
drawing_at s m [] = first_drawing s m
drawing_at s m (e ∷ before) =
    if nat_lt (length before) m.scripted then first_drawing s m
    else kept_after (draw (scene_at s before) (drawing_at s m before)) (drawing_at s m before)

-- the event that is drawn at a place, if one is: none where the run has ended
unfoldable pub drawn_at : Setting → Manner → History → Option Drawn
drawn_at s m before = if has_ended s before then None else draw (scene_at s before) (drawing_at s m before)

-- its entry
abbrev pub entry_of : Setting → History → Drawn → Entry
entry_of s before x = entry_in x.choice (here_in_history s before x.hart)

unfoldable pub drawn_entry : Setting → Manner → History → Option Entry
drawn_entry s m before = option_map (entry_of s before) (drawn_at s m before)

-- every entry but the script's is the one that is drawn at its place
abbrev pub IsDrawnHistory : Setting → Manner → History → Type 0
IsDrawnHistory s m [] = Unit {0}
IsDrawnHistory s m (e ∷ before) =
    IsDrawnHistory s m before × (nat_lt (length before) m.scripted ≡ false → drawn_entry s m before ≡ Some e.entry)

abbrev pub IsDrawn : Setting → Manner → List Entry → Type 0
IsDrawn s m log = IsDrawnHistory s m (history s log)
