-- What holds while the lines of a log are written.
use Rattle.std.proofs.Common.{◌≡◌, ℕ, ◌≤◌, ◌+◌, ◌-◌, List, ◌++◌, Option, length, take, drop, ap, sym, ◌∙◌, arith}
use Rattle.std.specs.Result.{OnErr}
use Rattle.std.specs.Prelude.{Result, Ok, Err}
use Rattle.outside.specs.Counts.{NeverFalls}
use Rattle.outside.specs.Told.{Gained, GainedPrefix}
use Rattle.outside.proofs.Gains.{gained-then, prefix-then, prefix-longer}
use Rattle.outside.proofs.Rises.{falls-then}
use Rattle.mach_types.specs.declared.events.Entry.{Entry}
use Rattle.step_log.specs.Grammar.{log_text}
use Rattle.step_log.specs.Text.{entry_text}
use Rattle.std.proofs.lemmas.List.{take-append-drop, take_all}
use Rattle.std.proofs.lemmas.Grind.{flat_map-append}
use Rattle.std.proofs.Math.Seq.{take-add}

-- the sink gained the first lines, and its count didn't fall
pub record IsWriting (held held' : Option (List ℕ)) (faults faults' : ℕ) (log : List Entry) (done : ℕ) : Type 0 where
  pub within : done ≤ length log
  pub gained : Gained held held' (log_text (take done log))
  pub counts : NeverFalls faults faults'

log_text-append : (first more : List Entry) → log_text (first ++ more) ≡ log_text first ++ log_text more
log_text-append first more = flat_map-append entry_text first more

-- the lines up to a later place
longer : (log : List Entry) (done end : ℕ) (piece : List ℕ) → done ≤ end → piece ≡ log_text (take (end - done) (drop done log))
    → log_text (take end log) ≡ log_text (take done log) ++ piece
longer log done end piece order is =
    let more : end ≡ done + (end - done) = omega arith in
    ap (λ n. log_text (take n log)) more ∙ ap log_text (take-add done (end - done) log)
    ∙ log_text-append (take done log) (take (end - done) (drop done log)) ∙ ap (λ (bs : List ℕ). log_text (take done log) ++ bs) (sym is)

-- a piece more
pub writing_more : (held held' held'' : Option (List ℕ)) (faults faults' faults'' : ℕ) (log : List Entry) (done end : ℕ) (piece : List ℕ)
    → IsWriting held held' faults faults' log done → done ≤ end → end ≤ length log → piece ≡ log_text (take (end - done) (drop done log))
    → Gained held' held'' piece → NeverFalls faults' faults'' → IsWriting held held'' faults faults'' log end
writing_more held held' held'' faults faults' faults'' log done end piece before order within is gained counts =
    record {
      within = within;
      gained = rw (longer log done end piece order is) (gained-then held held' held'' (log_text (take done log)) piece before.gained gained);
      counts = falls-then faults faults' faults'' before.counts counts;
    }

-- a piece of which a prefix was written
pub writing_cut : (held held' held'' : Option (List ℕ)) (faults faults' : ℕ) (log : List Entry) (done end : ℕ) (piece : List ℕ)
    → IsWriting held held' faults faults' log done → done ≤ end → end ≤ length log → piece ≡ log_text (take (end - done) (drop done log))
    → GainedPrefix held' held'' piece → GainedPrefix held held'' (log_text log)
writing_cut held held' held'' faults faults' log done end piece before order within is gained =
    let parts : log_text log ≡ (log_text (take done log) ++ piece) ++ log_text (drop end log) =
    ap log_text (sym (take-append-drop end log)) ∙ log_text-append (take end log) (drop end log)
    ∙ ap (λ (bs : List ℕ). bs ++ log_text (drop end log)) (longer log done end piece order is) in
    rw parts (prefix-longer held held'' (log_text (take done log) ++ piece) (log_text (drop end log))
    (prefix-then held held' held'' (log_text (take done log)) piece before.gained gained))

-- all lines
pub writing_all : (held held' : Option (List ℕ)) (faults faults' : ℕ) (log : List Entry) (done : ℕ) → IsWriting held held' faults faults' log done
    → length log ≤ done → Gained held held' (log_text log)
writing_all held held' faults faults' log done written past =
    let whole = take_all done log past in
    rw whole at written.gained

-- a fact of a failed result that follows from another
pub on_err : {A E P Q : Type 0} (r : Result A E) → (P → Q) → OnErr r P → OnErr r Q
on_err (Ok x) from known = tt
on_err (Err e) from known = from known
