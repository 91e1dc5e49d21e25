use Rattle.std.proofs.Common.{◌≡◌, ◌≤◌, take, drop, length}
use Rattle.log_gather.specs.Marks.{other_marks, own_marks}
use Rattle.log_gather.proofs.moving.take_own.Given as goal

-- the marks so far are taken out, or at the front
abbrev pub invariant-loop-i : goal.invariant-loop-i
invariant-loop-i l = record {
  long : length l.span ≡ length l.initial.span;
  low : l.others ≤ l.i;
  many : l.others ≡ length (other_marks l.hart.0 (take l.i l.initial.span));
  own : l.own.items ≡ own_marks l.hart.0 (take l.i l.initial.span);
  front : take l.others l.span ≡ other_marks l.hart.0 (take l.i l.initial.span);
  rest : drop l.i l.span ≡ drop l.i l.initial.span;
}
