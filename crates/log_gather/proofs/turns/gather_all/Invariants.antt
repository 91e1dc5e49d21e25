use Rattle.std.proofs.Common.{◌≡◌, ◌≤◌, length, take, true}
use Rattle.std.specs.List.{list_all}
use Rattle.log_gather.specs.Marks.{are_known, steps_of}
use Rattle.log_gather.specs.Steps.{names_awaited}
use Rattle.log_gather.specs.Turns.{after_turns, awaits_rightly, inside_in, is_of_eight, none_await}
use Rattle.log_gather.proofs.turns.gather_all.Given as goal

abbrev pub invariant-loop-next : goal.invariant-loop-next
invariant-loop-next l = record {
  long : length l.marks ≡ length l.initial.marks;
  within : l.from ≤ length l.marks;
  past : none_await (take l.from (steps_of l.details l.marks)) ≡ true;
  eight : list_all is_of_eight (steps_of l.details l.marks) ≡ true;
  right : list_all awaits_rightly (steps_of l.details l.marks) ≡ true;
  known : are_known l.details l.marks ≡ true;
  stays : after_turns (inside_in l.inside_at_end) (steps_of l.details l.marks) ≡ after_turns (inside_in l.inside_at_end) (steps_of l.initial.details l.initial.marks);
}

abbrev pub decreases-loop-next : goal.decreases-loop-next
decreases-loop-next l = length (names_awaited (λ k. 0) (steps_of l.details l.marks))
