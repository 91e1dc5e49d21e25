-- What callers see of a turnstile.
use Rattle.std.specs.Prelude.{◌≡◌, ℕ, Some}
use Rattle.machine_lock.specs.declared.history.Origin.{Origin}
use Rattle.machine_lock.specs.declared.lock.Turnstile.{Turnstile}
use Rattle.machine_lock.specs.Passes.{TurnstileView, PassView}

module _ {M : Type 0} where
  -- what the turnstile was made of
  abbrev pub origin_of : Turnstile M → Origin M
  origin_of t = t.table.shared.key

  -- the machine that was put in
  abbrev pub start_of : Turnstile M → M
  start_of t = (origin_of t).start.value

  -- how many parts all passes have together
  abbrev pub seats_of : Turnstile M → ℕ
  seats_of t = (origin_of t).seats

  -- the turnstile as its passes know it
  abbrev pub turnstile_of : Turnstile M → TurnstileView M
  turnstile_of t = record { name = t.table.shared.table_id; origin = origin_of t }

  -- the pass is of this turnstile
  abbrev pub IsOf : Turnstile M → PassView M → Type 0
  IsOf t p = p.turnstile ≡ Some (turnstile_of t)
