use Rattle.std.proofs.Common.{◌≤◌, ◌+◌, ◌∙◌, List, ap, cond, drop, subst, sym, arith}
use Rattle.std.proofs.lemmas.List.{drop_all, drop_more}
use Rattle.mach_types.specs.declared.user_memory.Write.{Write}
use Rattle.block_model.specs.Footprints.{bytes_of_all, have_byte}
use Rattle.event_facts.specs.Tied.{line_in}
use Rattle.event_facts.proofs.LinesOfBytes.{by_each, not_later}
use Rattle.event_facts.proofs.lines.Lines.note_kernel.Goals as goal

pub loop-write-preserved : goal.loop-write-preserved
loop-write-preserved c =
    let ws = c.args.writes.now in
    let i = c.loop-write.write-index in
    let x = c.loop-write.self in
    let line = c.args.line in
    record {
      waiting = c.in_ok-note_write.ensures.waiting ∙ c.loop-write.invariant.waiting;
      latest = λ a. subst (λ n. n ≤ line) (sym (c.in_ok-note_write.ensures.lines a)) (not_later _ line (line_in x a) (c.loop-write.invariant.latest a));
      lines = λ a.
          ap (cond (have_byte (bytes_of_all (drop (i + 1) ws)) a) line) (c.in_ok-note_write.ensures.lines a)
          ∙ by_each _ (have_byte (bytes_of_all (drop (i + 1) ws)) a) line (line_in x a)
          ∙ sym (ap (λ (xs : List Write). cond (have_byte (bytes_of_all xs) a) line (line_in x a)) (drop_more ws i _ c.loop-write-test.true))
          ∙ c.loop-write.invariant.lines a;
    }

pub returns-clause-lines : goal.returns-clause-lines
returns-clause-lines c = λ a.
    let ws = c.args.writes.now in
    sym (ap (λ (xs : List Write). cond (have_byte (bytes_of_all xs) a) c.args.line (line_in c.loop-write.self a))
    (drop_all c.loop-write.write-index ws (omega arith)))
    ∙ c.loop-write.invariant.lines a
