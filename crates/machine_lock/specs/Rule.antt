-- The rule of the turnstile, which holds between any two atomic steps. It is a ticket lock: word 0 is the next
-- ticket, word 1 the ticket that is served, and the one slot holds the machine while no turn is out.
-- Here tickets are counted without wrapping; the words have them modulo 2^64.
use Rattle.std.specs.Prelude.{◌≡◌, ◌⊎◌, ℕ, ◌+◌, ◌%◌, ◌<◌, ◌≤◌, List, [], ◌∷◌, length, Option, Some}
use mathlib.Core.Option as opt
use lib.ListN.{get_elem?}
use Rattle.atomic_table.specs.Table.{State}
use Rattle.mach_types.specs.declared.events.Entry.{Entry}
use Rattle.mach_types.specs.declared.events.Hart.{Hart}
use Rattle.machine_lock.specs.declared.history.Origin.{Origin}
use Rattle.machine_lock.specs.declared.history.View.{View}
use Rattle.machine_lock.specs.declared.history.Stage.TheVariants.{Served}
use Rattle.machine_lock.specs.Logs.{Follows}
use Rattle.machine_lock.specs.Numbers.{In, RisesFrom}
use Rattle.machine_lock.specs.Views.{tickets, Has, parts_of, tickets_of}

-- how many tickets a word can tell apart
abbrev pub tickets_of_word : ℕ
tickets_of_word = 18446744073709551616

-- the numbers of all elements, added up
abbrev pub total : {A : Type 0} → (A → ℕ) → List A → ℕ
total f [] = 0
total f (x ∷ xs) = f x + total f xs

module _ {M : Type 0} where
  -- the machine is out with the pass that is served
  pub record Out (now : ℕ) (homes : List (opt.Option (Option M))) (views : List (View M)) : Type 0 where
    pub away : homes ≡ opt.none ∷ []
    pub who : ℕ
    pub view : View M
    pub there : get_elem? views who ≡ opt.some view
    pub served : view.stage ≡ Served now

  module _ {Setting : Type 0} (setting : M → Setting) (log : M → List Entry) (next : Setting → List Entry → Hart → Option Entry) where
    -- what follows by the meaning, under the setting of the machine that was put in
    abbrev pub Runs : Origin M → List Entry → List Entry → Type 0
    Runs k = Follows (next (setting k.start.value))

    -- what is known of a pass that isn't spent, where the history is `all`
    pub record Fits (k : Origin M) (all : List Entry) (v : View M) : Type 0 where
      pub origin : v.origin ≡ Some k
      pub begins : Runs k (log k.start.value) v.seen
      pub other_begins : Runs k (log k.start.value) v.other
      pub seen : Runs k v.seen all
      pub other : Runs k v.other all
      -- who has the turn has seen all
      pub whole : (t : ℕ) → v.stage ≡ Served t → v.seen ≡ all
      pub mine : (z : ℕ) → In z v.mine → (z < length v.seen) ⊎ (z < length v.other)

    -- what is known of all passes, where `now` is served, `given` is the next ticket, and there are `n` parts
    pub record Roster (k : Origin M) (now given : ℕ) (all : List Entry) (n : ℕ) (views : List (View M)) : Type 0 where
      -- the tickets that are held are as many as were drawn and not yet served
      pub count : now + total tickets_of views ≡ given
      pub parts : total parts_of views ≡ n
      pub share : (j : ℕ) (v : View M) → get_elem? views j ≡ opt.some v → tickets v.stage ≤ v.parts
      pub bounds : (j : ℕ) (v : View M) (t : ℕ) → get_elem? views j ≡ opt.some v → Has t v.stage → (now ≤ t) × (t < given)
      pub served : (j : ℕ) (v : View M) (t : ℕ) → get_elem? views j ≡ opt.some v → v.stage ≡ Served t → t ≡ now
      -- no ticket is held twice
      pub apart : (i j : ℕ) (v w : View M) (t : ℕ) → get_elem? views i ≡ opt.some v → get_elem? views j ≡ opt.some w → Has t v.stage → Has t w.stage → i ≡ j
      pub rises : (j : ℕ) (v : View M) → get_elem? views j ≡ opt.some v → RisesFrom 0 v.mine
      pub past : (j : ℕ) (v : View M) (z : ℕ) → get_elem? views j ≡ opt.some v → In z v.mine → z < length all
      -- no entry is the own one of two passes
      pub owners : (i j : ℕ) (v w : View M) (z : ℕ) → get_elem? views i ≡ opt.some v → get_elem? views j ≡ opt.some w → In z v.mine → In z w.mine → i ≡ j
      pub each : (j : ℕ) (v : View M) (a : Origin M) → get_elem? views j ≡ opt.some v → v.origin ≡ Some a → Fits k all v

    -- the machine is at home with the whole history as its log, and nobody is served
    pub record Home (k : Origin M) (all : List Entry) (homes : List (opt.Option (Option M))) (views : List (View M)) : Type 0 where
      pub machine : M
      pub home : homes ≡ opt.some (Some machine) ∷ []
      pub same : setting machine ≡ setting k.start.value
      pub whole : log machine ≡ all
      pub nobody : (j : ℕ) (v : View M) (t : ℕ) → get_elem? views j ≡ opt.some v → v.stage ≡ Served t → ⊥

    -- the rule
    pub record Kept (k : Origin M) (s : State (Option M) (View M)) : Type 0 where
      pub now : ℕ
      pub given : ℕ
      -- the one history, which each pass has seen a beginning of
      pub all : List Entry
      pub words : s.words ≡ given % tickets_of_word ∷ now % tickets_of_word ∷ []
      pub small : k.seats < 256
      pub roster : Roster k now given all k.seats s.views
      pub slot : Home k all s.homes s.views ⊎ Out now s.homes s.views
