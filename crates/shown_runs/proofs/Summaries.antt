-- The acts of a run: none of its entries is refused. And the lines of their counts, hart by hart.
use Rattle.std.proofs.Common.{◌≡◌, ◌∙◌, ◌++◌, ◌+◌, ℕ, List, add-one, append_assoc, ap, subst, sym}
use Rattle.mach_types.specs.declared.events.Entry.{Entry}
use Rattle.block_model.specs.Replay.{IsFirstRefused, script_of}
use Rattle.block_model.specs.Run.{IsBlockRun}
use Rattle.block_model.specs.Setting.{Seen, Setting}
use Rattle.block_model.proofs.Laws.{is_refused, replays}
use Rattle.block_view.specs.Counting.{counts_of}
use Rattle.block_view.specs.Viewing.{IsViewCause}
use Rattle.block_view.specs.declared.forms.Act.{Act}
use Rattle.block_view.specs.declared.tally.Counts.{Counts}
use Rattle.block_view.specs.declared.viewing.ViewFault.{ViewFault}
use Rattle.block_view.specs.declared.viewing.ViewFault.TheVariants.{NotARun}
use Rattle.run_texts.specs.Summary.{counts_line, hart_lines}

-- no entry of a run is the first that is refused
pub none_refused : (s : Setting) (log : List Entry) (n : ℕ) → IsBlockRun s log
    → ¬ (IsFirstRefused s (script_of log) n)
none_refused s log n run first = absurd (cc (sym (replays s log run) ∙ is_refused s (script_of log) n first))

-- so where a machine made a run, no view of its log is refused
pub view_made : (s : Setting) (m : Seen) (log : List Entry) (n : ℕ) (fault : ViewFault) → m.setting ≡ s → log ≡ m.log
    → IsBlockRun m.setting m.log → fault ≡ NotARun n → ¬ (IsViewCause s log fault)
view_made s m log n fault setting same run is cause =
    let whole = subst (λ (es : List Entry). IsBlockRun m.setting es) (sym same) run in
    none_refused s log n (subst (λ (t : Setting). IsBlockRun t log) setting whole)
    (subst (λ (f : ViewFault). IsViewCause s log f) is cause)

-- one hart's line more
pub one_line_more : (start text longer : List ℕ) (acts : List Act) (h : ℕ) (counts : Counts) → text ≡ start ++ hart_lines acts h
    → longer ≡ text ++ counts_line h counts → counts ≡ counts_of acts h → longer ≡ start ++ hart_lines acts (h + 1)
one_line_more start text longer acts h counts was is own =
    is
    ∙ (λ i. was i ++ counts_line h (own i))
    ∙ append_assoc start (hart_lines acts h) (counts_line h (counts_of acts h))
    ∙ ap (λ n. start ++ hart_lines acts n) (sym (add-one h))
