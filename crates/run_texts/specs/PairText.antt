-- The output text of two processes (own).
use Rattle.std.specs.Prelude.{ℕ, true, false, List, ◌++◌, codes}
use Rattle.mach_types.specs.declared.events.Entry.{Entry}
use Rattle.place_text.specs.Ends.{number_line}
use Rattle.shared_procs.specs.PairRuns.{PairSeen, console_of, pair_end, pair_seen, proc_state}
use Rattle.shared_procs.specs.declared.outcomes.PairEnd.{PairEnd}
use Rattle.shared_procs.specs.declared.outcomes.PairEnd.TheVariants.{Done, Stuck, Limit, Unended}
use Rattle.shared_procs.specs.declared.outcomes.ProcState.{ProcState}
use Rattle.shared_procs.specs.declared.outcomes.ProcState.TheVariants.{Live, Exit, Killed}
use Rattle.run_texts.specs.Text.{console_text, entries_text}

-- how a process stands, behind what names it
abbrev pub state_line : List ℕ → ProcState → List ℕ
state_line process Live = process ++ codes " live\n"
state_line process (Exit status) = process ++ number_line (codes " exit") status
state_line process (Killed signal) = process ++ number_line (codes " killed") signal

-- how the pair ends
abbrev pub pair_end_line : PairEnd → List ℕ
pair_end_line Done = codes "end done\n"
pair_end_line Stuck = codes "end stuck\n"
pair_end_line Limit = codes "end limit\n"
pair_end_line Unended = codes "end open\n"

-- how both stand, and how the pair ends
abbrev pub pair_tail : ProcState → ProcState → PairEnd → List ℕ
pair_tail first second end =
    state_line (codes "process 1") first ++ state_line (codes "process 2") second ++ pair_end_line end

-- the output text: the console of each process, the log, and how it ends
unfoldable pub pair_text : List ℕ → List ℕ → List Entry → List ℕ → List ℕ
pair_text first second log tail = console_text first ++ console_text second ++ entries_text log ++ tail

-- of a log from a setting, with what it comes to
abbrev pub pair_output : PairSeen → List ℕ
pair_output v =
    let m = pair_seen v in
    pair_text (console_of m false) (console_of m true) v.log
    (pair_tail (proc_state m false) (proc_state m true) (pair_end v.setting m))
