-- What a policy sees of a machine (own): what it sees at the place that the machine's log has come to.
use Rattle.std.specs.Prelude.{ℕ, ◌≡◌, length, nat_lt}
use Rattle.std.specs.List.{list_any}
use Rattle.mach_types.specs.Kernel.Scheduling.{affinity_of}
use Rattle.block_model.specs.Deciding.{history}
use Rattle.block_model.specs.History.{kernel}
use Rattle.block_model.specs.Setting.{Seen}
use Rattle.drawings.specs.Scenes.{Scene, may_begin, startable}
use Rattle.drawn_runs.specs.DrawnRuns.{scene_at}

abbrev pub scene_of : Seen → Scene
scene_of m = scene_at m.setting (history m.setting m.log)

-- a ready thread may begin to run on a hart exactly where one of the ready list may, however many harts are open: the tables of a block
-- run agree
abbrev pub AreListed : Seen → Type 0
AreListed m =
    let listed = (kernel m.setting (history m.setting m.log)).scheduling in
    (opened h : ℕ) → nat_lt 0 (length (startable opened h (scene_of m).scheduling))
    ≡ list_any (λ t. may_begin opened h (affinity_of t listed)) listed.order
