-- The text of a place (own): what is seen of each hart and of each live thread at the end of a history, and what each hart may do there.
-- It isn't the whole state: the console and the registers of threads that run on no hart, for example, aren't shown, and memory is shown
-- only where it is asked for (specs/Memory.antt).
use Rattle.std.specs.Prelude.{ℕ, List, ◌++◌, length, codes}
use Rattle.std.specs.List.{flat_map, range_with_len}
use Rattle.mach_types.specs.declared.events.Choice.{Choice}
use Rattle.block_model.specs.Deciding.{end_of}
use Rattle.block_model.specs.History.{History, file, here_in_history, kernel}
use Rattle.block_model.specs.Setting.{Setting}
use Rattle.place_text.specs.Choices.{choices_text, run_choices}
use Rattle.place_text.specs.Ends.{end_line, number_line}
use Rattle.place_text.specs.Harts.{hart_text}
use Rattle.place_text.specs.Threads.{threads_text}

-- the harts of a machine, by number
abbrev pub all_harts : Setting → List ℕ
all_harts s = range_with_len 0 s.limits.harts

-- the lines of each hart, in order
unfoldable pub harts_text : Setting → History → List ℕ
harts_text s before = flat_map (λ h. hart_text (here_in_history s before h)) (all_harts s)

-- the lines of the choices of each hart, in order, with these to run a thread
unfoldable pub choices_of_harts : Setting → History → List Choice → List ℕ
choices_of_harts s before runs = flat_map (choices_text s before runs) (all_harts s)

-- how many entries there are, and how the run ends that stops here; the harts; the live threads; and the choices
unfoldable pub place_text : Setting → History → List ℕ
place_text s before =
    number_line (codes "place") (length before)
    ++ end_line (end_of s before)
    ++ harts_text s before
    ++ threads_text (kernel s before) (λ t. file s t before)
    ++ choices_of_harts s before (run_choices (kernel s before).threads.live)
