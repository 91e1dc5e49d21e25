-- What each atomic step of the turnstile tells the pass that makes it. `m` is what the pass knows and holds
-- before the step, `m'` after it, and `r` the number that the step found.
use Rattle.std.specs.Prelude.{◌≡◌, ◌≢◌, ◌⊎◌, ℕ, ◌%◌, List, ◌∷◌, length, Option, Some}
use Rattle.atomic_table.specs.Table.{Me, Step, rest}
use Rattle.mach_types.specs.declared.events.Entry.{Entry}
use Rattle.mach_types.specs.declared.events.Hart.{Hart}
use Rattle.machine_lock.specs.declared.history.Origin.{Origin}
use Rattle.machine_lock.specs.declared.history.View.{View}
use Rattle.machine_lock.specs.declared.history.Stage.TheVariants.{Away, Waiting, Served}
use Rattle.machine_lock.specs.Numbers.{Owns}
use Rattle.machine_lock.specs.Rule.{tickets_of_word, Runs}
use Rattle.machine_lock.specs.Views.{staged, drawn, gave}

module _ {M Setting : Type 0} (setting : M → Setting) (log : M → List Entry) (next : Setting → List Entry → Hart → Option Entry) where
  abbrev Mine : Type 0
  Mine = Me (Option M) (View M)

  -- the machine comes to a pass that had seen this
  pub record Got (k : Origin M) (seen : List Entry) (machine : M) : Type 0 where
    pub same : setting machine ≡ setting k.start.value
    pub later : Runs setting log next k seen (log machine)
    pub legal : Runs setting log next k (log k.start.value) (log machine)

  -- the longer of two logs, which follows both
  pub record Longer (k : Origin M) (seen other longer : List Entry) : Type 0 where
    pub one : (longer ≡ seen) ⊎ (longer ≡ other)
    pub first : Runs setting log next k seen longer
    pub second : Runs setting log next k other longer

  -- 1 is added to word 0: the pass draws a ticket
  abbrev pub Draws : Step (Option M) → Mine → ℕ → Mine → Type 0
  Draws step m r m' = (t : ℕ) × (r ≡ t % tickets_of_word) × (m' ≡ (drawn m.0 t, m.1))

  -- word 1 is read: a pass that finds its ticket there is served, and takes the machine out of the slot
  abbrev pub Looks : Step (Option M) → Mine → ℕ → Mine → Type 0
  Looks step m r m' = (k : Origin M) (t : ℕ) → m.0.origin ≡ Some k → m.0.stage ≡ Waiting t
      → (r ≡ t % tickets_of_word → (x : M) × (m' ≡ (staged m.0 (log x) (Served t), (0, Some x) ∷ m.1)) × Got k m.0.seen x)
      × (r ≢ t % tickets_of_word → m' ≡ m)

  -- 1 is added to word 1: the machine goes home, and the next ticket is served
  abbrev pub Gives : Step (Option M) → Mine → ℕ → Mine → Type 0
  Gives step m r m' = (x : M) → m.1 ≡ (0, Some x) ∷ rest m.1 → m' ≡ (gave m.0 (log x), rest m.1)

  -- word 0 is read after two passes were joined: the pass learns which of them had seen more
  abbrev pub Learns : Step (Option M) → Mine → ℕ → Mine → Type 0
  Learns step m r m' = (k : Origin M) → m.0.origin ≡ Some k → (l : List Entry) × (m' ≡ (staged m.0 l Away, m.1)) × Longer k m.0.seen m.0.other l × Owns m.0.mine (length l)
