-- The text of an exploration (own). Characters are ASCII codes, and numbers are decimal.
use Rattle.std.specs.Prelude.{ℕ, ◌+◌, ◌==◌, List, [], ◌∷◌, ◌++◌, Option, Some, None, length, map, codes, nat_lt, if◌then◌else◌}
use Rattle.std.specs.Fmt.{decimal}
use Rattle.std.specs.List.{flat_map}
use Rattle.draw_policies.specs.Policies.{word_of}
use Rattle.drawn_machine.specs.declared.store_pcs.StorePcs.{StorePcs}
use Rattle.drawn_machine.specs.declared.store_waits.TheConstants.{LONG_WAIT}
use Rattle.place_text.specs.Ends.{console_text, end_line, number_line}
use Rattle.place_text.specs.Fields.{line}
use Rattle.draw_policies.specs.declared.outcome_keys.OutcomeKey.{OutcomeKey}
use Rattle.draw_policies.specs.declared.outcome_keys.OutcomeKey.TheVariants.{ByText, ByEnd}
use Rattle.explored_runs.specs.declared.explored.Found.{Found}
use Rattle.explored_runs.specs.declared.explored.Others.{Others}
use Rattle.explored_runs.specs.Accounts.{Account}
use Rattle.explored_runs.specs.Deciles.{deciles}

-- `runs N seed S policy NAME steps M`: how many runs came to an outcome, and of the first of them its seed, its policy and how many
-- entries its log has
abbrev pub found_line : Found → List ℕ
found_line f = line (codes "runs")
    (decimal f.runs ∷ codes "seed" ∷ decimal f.seed ∷ codes "policy" ∷ word_of f.policy
    ∷ codes "steps" ∷ decimal f.steps ∷ [])

-- the console, where outcomes are told apart by it
abbrev pub console_part : OutcomeKey → List ℕ → List ℕ
console_part ByText console = console_text console
console_part ByEnd console = []

-- an outcome
abbrev pub found_text : OutcomeKey → Found → List ℕ
found_text apart f = found_line f ++ console_part apart f.console ++ end_line f.end

-- `others N seed S`: how many runs came to none of the outcomes that are told apart, and the seed of the first of them
abbrev pub others_text : Option Others → List ℕ
others_text None = []
others_text (Some others) = line (codes "others") (decimal others.runs ∷ codes "seed" ∷ decimal others.seed ∷ [])

-- of each number of harts, from h on, on which threads of some run ran: the number, and how many runs
abbrev pub harts_fields : ℕ → List ℕ → List (List ℕ)
harts_fields h [] = []
harts_fields h (runs ∷ more) =
    if runs == 0 then harts_fields (h + 1) more else decimal h ∷ decimal runs ∷ harts_fields (h + 1) more

-- `preemptions N inside M`: how often a thread left its hart, and how often inside a restartable sequence
abbrev pub preemptions_line : ℕ → ℕ → List ℕ
preemptions_line preemptions inside =
    line (codes "preemptions") (decimal preemptions ∷ codes "inside" ∷ decimal inside ∷ [])

-- how many instructions a store waited for; from LONG_WAIT on it isn't told how many more
abbrev pub wait_field : ℕ → List ℕ
wait_field wait = if nat_lt wait LONG_WAIT then decimal wait else decimal wait ++ codes "+"

-- `waited` and eleven numbers: the deciles of that, from the least on, over the stores that entered memory; the
-- word alone where none did
abbrev pub waited_line : List ℕ → List ℕ
waited_line counts = line (codes "waited") (map wait_field (deciles counts))

-- `overtaken N of M`: of how many plain stores that were executed, told apart by their pcs, how many a load overtook
abbrev pub overtaken_line : StorePcs → List ℕ
overtaken_line stores =
    line (codes "overtaken") (decimal (length stores.overtaken) ∷ codes "of" ∷ decimal (length stores.executed) ∷ [])

-- the whole text
unfoldable pub explored_text : OutcomeKey → Account → List ℕ
explored_text apart a =
    number_line (codes "outcomes") (length a.found) ++ flat_map (found_text apart) a.found ++ others_text a.others
    ++ number_line (codes "runs") a.runs ++ line (codes "harts") (harts_fields 0 a.tried.harts)
    ++ number_line (codes "switches") a.tried.switches ++ preemptions_line a.tried.preemptions a.tried.inside
    ++ waited_line a.tried.waits ++ overtaken_line a.tried.stores
