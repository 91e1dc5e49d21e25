-- What a pass knows, its view, and what the calls make of it.
use Rattle.std.specs.Prelude.{◌≡◌, ℕ, ◌+◌, ◌-◌, List, [], ◌++◌, length, Some, None}
use Rattle.mach_types.specs.declared.events.Entry.{Entry}
use Rattle.machine_lock.specs.declared.history.Origin.{Origin}
use Rattle.machine_lock.specs.declared.history.View.{View}
use Rattle.machine_lock.specs.declared.history.Stage.{Stage}
use Rattle.machine_lock.specs.declared.history.Stage.TheVariants.{Away, Waiting, Served}
use Rattle.machine_lock.specs.Numbers.{merge, numbers_below}

-- how many tickets a pass has at this stage
abbrev pub tickets : Stage → ℕ
tickets Away = 0
tickets (Waiting t) = 1
tickets (Served t) = 1

-- the pass has this ticket
abbrev pub Has : ℕ → Stage → Type 0
Has t Away = ⊥
Has t (Waiting u) = u ≡ t
Has t (Served u) = u ≡ t

module _ {M : Type 0} where
  abbrev pub parts_of : View M → ℕ
  parts_of v = v.parts

  abbrev pub tickets_of : View M → ℕ
  tickets_of v = tickets v.stage

  -- the first pass: it has all the parts, and has seen the log of the machine that was put in
  abbrev pub opening_view : (M → List Entry) → Origin M → View M
  opening_view log k = record { origin = Some k; seen = log k.start.value; other = log k.start.value; mine = []; parts = k.seats; stage = Away }

  -- what is left of a pass that was joined into another: no part, no number, and no turnstile
  abbrev pub spent_view : View M
  spent_view = record { origin = None; seen = []; other = []; mine = []; parts = 0; stage = Away }

  -- the pass drew this ticket
  abbrev pub drawn : View M → ℕ → View M
  drawn v t = record { origin = v.origin; seen = v.seen; other = v.other; mine = v.mine; parts = v.parts; stage = Waiting t }

  -- the pass has seen this log, and is at this stage
  abbrev pub staged : View M → List Entry → Stage → View M
  staged v seen stage = record { origin = v.origin; seen = seen; other = seen; mine = v.mine; parts = v.parts; stage = stage }

  -- the pass gave the turn back with this log: the entries after what it had seen are its own
  abbrev pub gave : View M → List Entry → View M
  gave v seen = record { origin = v.origin; seen = seen; other = seen; mine = v.mine ++ numbers_below (length v.seen) (length seen); parts = v.parts; stage = Away }

  -- so many parts were cut off: what the pass keeps
  abbrev pub left_of : ℕ → View M → View M
  left_of n v = record { origin = v.origin; seen = v.seen; other = v.other; mine = v.mine; parts = v.parts - n; stage = v.stage }

  -- so many parts were cut off: what the new pass gets
  abbrev pub right_of : ℕ → View M → View M
  right_of n v = record { origin = v.origin; seen = v.seen; other = v.other; mine = []; parts = n; stage = Away }

  -- two passes are joined: the logs that they have seen stand side by side until the next look
  abbrev pub both_of : View M → View M → View M
  both_of v w = record { origin = v.origin; seen = v.seen; other = w.seen; mine = merge v.mine w.mine; parts = v.parts + w.parts; stage = v.stage }
