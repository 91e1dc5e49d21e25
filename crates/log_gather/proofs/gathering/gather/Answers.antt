use Rattle.std.proofs.Common.{◌≡◌, ◌++◌, ◌∙◌, List, drop, length, map, take, ap, arith, subst, sym}
use Rattle.std.proofs.Math.Seq.{take-append_seam}
use Rattle.block_model.specs.Setting.{setting_of}
use Rattle.log_gather.specs.declared.marks.Mark.{Mark}
use Rattle.log_gather.specs.Marks.{entry_marked, steps_of}
use Rattle.log_gather.specs.Steps.{located_of}
use Rattle.log_gather.specs.Turns.{after_turns, inside_in}
use Rattle.log_gather.proofs.GatheredEntries.{entries_marked, is_gathered}
use Rattle.log_gather.proofs.gathering.gather.Goals as goal

pub returns-clause-entries : goal.returns-clause-entries
returns-clause-entries c =
    let s = setting_of c.args.image.now c.args.limits.now in
    let x = c.in_ok-passage.passage in
    let ms = c.gather_all.new.marks in
    let d = c.gather_all.new.details in
    let made : map located_of (steps_of d ms) ≡ after_turns (inside_in x.inside_at_end) (steps_of x.details x.marks.items) =
    subst (λ (xs : List Mark). map located_of (steps_of d ms) ≡ after_turns (inside_in x.inside_at_end) (steps_of x.details xs)) c.deref_mut.ensures.value c.in_ok-gather_all.ensures in
    let kept = c.gather_all.auto.marks in
    let lent = c.deref_mut.ensures.len in
    let long : length ms ≡ x.marks.len = omega arith in
    let front : take x.marks.len (ms ++ drop (length ms) x.marks.items) ≡ ms =
    ap (λ n. take n (ms ++ drop (length ms) x.marks.items)) (sym long) ∙ take-append_seam ms (drop (length ms) x.marks.items) in
    is_gathered s c.args.log.now x (steps_of d ms) c.in_ok-entries_of.field-0.items c.in_ok-passage.ensures.passage made
    (c.in_ok-entries_of.ensures ∙ ap (map entry_marked) (c.deref.ensures.value ∙ front) ∙ entries_marked d ms)
