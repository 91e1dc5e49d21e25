-- Preemptions inside restartable sequences (own): how often a thread left its hart while it was inside a good sequence, as its hart sees
-- memory.
use Rattle.std.specs.Prelude.{ℕ, ◌+◌, ◌&&◌, Bool, [], ◌∷◌, if◌then◌else◌}
use Rattle.mach_types.specs.Events.{is_preempt}
use Rattle.mach_types.specs.declared.events.Kind.{Kind}
use Rattle.block_model.specs.Deciding.{history}
use Rattle.block_model.specs.History.{History}
use Rattle.block_model.specs.Setting.{Seen, Setting}
use Rattle.drawn_runs.specs.DrawnRuns.{scene_at}

-- whether it leaves inside a sequence by an event of hart h at this place
abbrev pub leaves_inside : Setting → History → ℕ → Kind → Bool
leaves_inside s before h k = is_preempt k && (scene_at s before).is_inside h

-- how many entries of a history are such
abbrev pub left_inside : Setting → History → ℕ
left_inside s [] = 0
left_inside s (e ∷ before) =
    left_inside s before + (if leaves_inside s before e.entry.hart.0 e.entry.kind then 1 else 0)

-- of the log of a machine
abbrev pub left_inside_in : Seen → ℕ
left_inside_in m = left_inside m.setting (history m.setting m.log)
