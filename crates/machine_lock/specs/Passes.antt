-- What callers see of a turnstile and of its passes.
use Rattle.std.specs.Prelude.{◌≡◌, ℕ, ◌≤◌, Bool, true, false, List, [], ◌∷◌, length, Option, Some, None}
use Rattle.std.specs.Option.{option_map}
use Rattle.atomic_table.specs.declared.shared.Seat.{Seat}
use Rattle.atomic_table.specs.Seated.{TableId}
use Rattle.mach_types.specs.declared.events.Entry.{Entry}
use Rattle.machine_lock.specs.declared.history.Origin.{Origin}
use Rattle.machine_lock.specs.declared.history.View.{View}
use Rattle.machine_lock.specs.declared.history.Stage.{Stage}
use Rattle.machine_lock.specs.declared.history.Stage.TheVariants.{Away, Waiting, Served}
use Rattle.machine_lock.specs.Numbers.{Owns}

-- a turnstile: its name, which no other has, and what it was made of
pub record TurnstileView (M : Type 0) : Type 0 where
  pub name : TableId
  pub origin : Origin M

-- a pass: whose it is, the log as it last saw it, the numbers of its own entries, its parts, and whether its
-- turn is out
pub record PassView (M : Type 0) : Type 0 where
  pub turnstile : Option (TurnstileView M)
  pub seen : List Entry
  pub mine : List ℕ
  pub parts : ℕ
  pub out : Bool

-- the turn of a pass at this stage is out
abbrev pub is_out : Stage → Bool
is_out Away = false
is_out (Waiting t) = false
is_out (Served t) = true

-- what a pass holds at this stage: nothing, or the empty slot
abbrev pub Holds : {M : Type 0} → Stage → List (ℕ × Option M) → Type 0
Holds Away slots = slots ≡ []
Holds (Waiting t) slots = ⊥
Holds (Served t) slots = slots ≡ (0, None) ∷ []

module _ {M : Type 0} where
  -- the pass has a part, and its numbers rise and are those of entries that it has seen
  pub record IsSound (p : PassView M) : Type 0 where
    pub part : 1 ≤ p.parts
    pub owns : Owns p.mine (length p.seen)

  -- the pass as its callers see it
  abbrev pub pass_view : Seat (Option M) (View M) → PassView M
  pass_view s = record {
    turnstile = option_map (λ k. record { name = s.table_id; origin = k }) s.me.0.origin;
    seen = s.me.0.seen;
    mine = s.me.0.mine;
    parts = s.me.0.parts;
    out = is_out s.me.0.stage;
  }

  -- what is true of each pass between two calls
  pub record IsWhole (s : Seat (Option M) (View M)) : Type 0 where
    pub origin : Origin M
    pub live : s.me.0.origin ≡ Some origin
    pub looked : s.me.0.other ≡ s.me.0.seen
    pub holds : Holds s.me.0.stage s.me.1
    pub sound : IsSound (pass_view s)
