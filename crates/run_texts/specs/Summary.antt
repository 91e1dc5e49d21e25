-- The texts of a run's acts (own). Numbers are decimal.
use Rattle.std.specs.Prelude.{ℕ, ◌++◌, ◌∷◌, List, [], zero, suc, codes, count_by}
use Rattle.std.specs.Fmt.{decimal}
use Rattle.std.specs.Option.{option_map, option_to_list}
use Rattle.mach_types.specs.Events.{is_return}
use Rattle.mach_types.specs.declared.events.Entry.{Entry}
use Rattle.mach_types.specs.declared.limits.End.{End}
use Rattle.block_model.specs.declared.acts.SeqEnd.TheVariants as ends
use Rattle.block_view.specs.Counting.{counts_of}
use Rattle.block_view.specs.Forms.{cut_at, form_word}
use Rattle.block_view.specs.declared.forms.Act.{Act}
use Rattle.block_view.specs.declared.forms.Form.{Form}
use Rattle.block_view.specs.declared.forms.Form.TheVariants.{Step, Kernel, Sequence}
use Rattle.block_view.specs.declared.tally.Counts.{Counts}
use Rattle.place_text.specs.Ends.{end_line, number_line}
use Rattle.place_text.specs.Fields.{behind, line, value_text}
use Rattle.step_log.specs.Text.{newline, space}

-- the fields of a count: the word of a form, and how many acts have it
abbrev pub count_fields : Form → ℕ → List (List ℕ)
count_fields form count = form_word form ∷ decimal count ∷ []

-- how many sequences of a hart ended in each way; of those that were cut, wherever their threads go on
unfoldable pub ends_text : Counts → List ℕ
ends_text counts =
    behind (count_fields (Sequence ends.Left) counts.left) ++ behind (count_fields (Sequence (ends.Cut 0)) counts.cut)
    ++ behind (count_fields (Sequence ends.Dropped) counts.dropped)
    ++ behind (count_fields (Sequence ends.Dead) counts.dead)
    ++ behind (count_fields (Sequence ends.Unended) counts.unended)

-- `hart H step N left N cut N dropped N dead N open N kernel N`: how many of a hart's acts have each form
abbrev pub counts_line : ℕ → Counts → List ℕ
counts_line hart counts =
    (codes "hart" ++ space ∷ decimal hart) ++ behind (count_fields Step counts.step) ++ ends_text counts
    ++ behind (count_fields Kernel counts.kernel) ++ newline ∷ []

-- the lines of the first harts, so many, in order
abbrev pub hart_lines : List Act → ℕ → List ℕ
hart_lines acts zero = []
hart_lines acts (suc h) = hart_lines acts h ++ counts_line h (counts_of acts h)

-- how many barriers returned in a log
abbrev pub barriers_in : List Entry → ℕ
barriers_in log = count_by (λ (e : Entry). is_return e.kind) log

abbrev pub barriers_line : List Entry → List ℕ
barriers_line log = number_line (codes "barriers") (barriers_in log)

-- the fields of a form: its word; behind `cut` where the thread goes on
abbrev pub form_fields : Form → List (List ℕ)
form_fields form = form_word form ∷ option_to_list (option_map value_text (cut_at form))

-- `HART FIRST LAST TID FORM`: an act's hart, its first and its last entry, its thread and its form
abbrev pub act_line : Act → List ℕ
act_line act =
    line (decimal act.hart.0) (decimal act.first ∷ decimal act.last ∷ decimal act.tid.0 ∷ form_fields act.form)

-- the summary of a run on so many harts: of its acts, its log and its end
unfoldable pub summary_text : ℕ → List Act → List Entry → End → List ℕ
summary_text harts acts log end = hart_lines acts harts ++ barriers_line log ++ end_line end
