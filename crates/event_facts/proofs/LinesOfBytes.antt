-- In which line a byte was written last, after one write more in a line that isn't before any.
use Rattle.std.proofs.Common.{◌≡◌, ℕ, ◌≤◌, List, [], ◌∷◌, ◌++◌, refl, arith, Bool, true, false, ◌||◌, cond, max}
use Rattle.rv_inst.specs.Accesses.{bytes}
use Rattle.block_model.specs.Footprints.{has_byte}
use Rattle.block_model.specs.History.{History}
use Rattle.block_model.specs.Setting.{Setting}
use Rattle.event_facts.specs.Lines.{next_line}
use Rattle.event_facts.specs.Tied.{AreLinesOf, line_in}
use Rattle.event_facts.specs.Written.{last_line}
use Rattle.event_facts.specs.declared.lines.Lines.{Lines}
use Rattle.event_facts.specs.declared.long_writes.LongWrite.{LongWrite}
use Rattle.event_facts.proofs.ToldLines.{as_written}

-- by one of 1 to 8 bytes, which has it or not
pub by_short : (has : Bool) (line word long : ℕ) → max word long ≤ line → max (cond has line word) long ≡ cond has line (max word long)
by_short true line word long le = omega (arith, le)
by_short false line word long le = refl

-- by one of more
pub by_long : (has : Bool) (line word long : ℕ) → max word long ≤ line → max word (cond has line long) ≡ cond has line (max word long)
by_long true line word long le = omega (arith, le)
by_long false line word long le = refl

-- which is then the last of those that are kept
pub last_pushed : (ws : List LongWrite) (x : LongWrite) (a n : ℕ) → last_line (ws ++ x ∷ []) a n ≡ cond (has_byte (bytes x.at x.length) a) x.line (last_line ws a n)
last_pushed [] x a n = refl
last_pushed (w ∷ ws) x a n = last_pushed ws x a (cond (has_byte (bytes w.at w.length) a) w.line n)

-- by one, and by those behind it
pub by_each : (first rest : Bool) (line n : ℕ) → cond rest line (cond first line n) ≡ cond (first || rest) line n
by_each true true line n = refl
by_each true false line n = refl
by_each false true line n = refl
by_each false false line n = refl

-- it is none behind that line
pub not_later : (has : Bool) (line n : ℕ) → n ≤ line → cond has line n ≤ line
not_later true line n le = omega arith
not_later false line n le = le

-- the next line is behind each that has written anything
pub is_latest : (s : Setting) (harts : ℕ) (before : History) (x : Lines) (line : ℕ) → AreLinesOf harts before x → line ≡ next_line before → (a : ℕ) → line_in x a ≤ line
is_latest s harts before x line tied is a =
    let kept = tied.written a in
    let early = (as_written s before a).line in
    omega (arith, kept, early, is)
