-- A place is all that is known of a process between two events. Two places are the same where whatever a rule
-- of an event may read is equal. Some things no rule reads, so they may differ: how many events were made, by
-- all harts and by each one; how many instructions a hart executed since its thread began to run; bytes of
-- pages that aren't mapped; and registers of threads that aren't live (own).
use Rattle.std.specs.Prelude.{ℕ, ◌≡◌, ◌<◌, ◌≤◌, ◌/◌, Bool, true, false, not, Option, None}
use Rattle.std.specs.Option.{option_map, option_map_or}
use Rattle.mach_types.specs.declared.address_space.TheConstants.{PAGE_SIZE}
use Rattle.mach_types.specs.declared.events.Choice.{Choice}
use Rattle.mach_types.specs.Kernel.Pages.{permission_of}
use Rattle.mach_types.specs.Kernel.Threads.{Threads, is_running_state, state_of}
use Rattle.hart_state.specs.declared.hart.HartState.{HartState}
use Rattle.block_model.specs.Events.{done_of, refusal_of}
use Rattle.block_model.specs.Plain.{Plain, apply, here_in_plain, plain_over}
use Rattle.block_model.specs.Record.{Kernel}
use Rattle.block_model.specs.Setting.{Setting, with_steps}
use Rattle.block_model.specs.Standing.{IsStanding}
use Rattle.block_model.specs.Stands.{Stand}
use Rattle.process.specs.Harts.{hart_in}
use Rattle.process.specs.Refinement.{answer_to}

-- a process that is alone on its machine
abbrev pub alone : Setting → Plain → Stand
alone s p = record { setting = s; plain = p; beside = None }

-- all that is kept of hart h but its counts and its credit: its thread with that thread's registers, pc and
-- concurrency id, its waiting stores, its reservation, its requests, and what its thread's barrier waits for
abbrev pub hart_seen : Setting → Plain → ℕ → HartState
hart_seen s p h = hart_in (here_in_plain s p h) 0 0 0

-- whether a thread is live and doesn't run: its registers are then kept apart from the harts
abbrev pub rests : ℕ → Threads → Bool
rests t ts = option_map_or (λ st. not (is_running_state st)) (state_of t ts) false

-- the byte at an address, where its page is mapped
abbrev pub mapped_byte : Plain → ℕ → Option ℕ
mapped_byte p a = option_map (λ _. p.byte a) (permission_of p.kernel.pages.runs (a / PAGE_SIZE))

-- the same pages are mapped, with the same permissions and bytes; as many frames are free; and the break is
-- the same
pub record HasSamePages (p q : Plain) : Type 0 where
  pub permissions : (n : ℕ) → permission_of q.kernel.pages.runs n ≡ permission_of p.kernel.pages.runs n
  pub bytes : (a : ℕ) → mapped_byte q a ≡ mapped_byte p a
  pub free : q.kernel.pages.free ≡ p.kernel.pages.free
  pub break_at : q.kernel.pages.break_at ≡ p.kernel.pages.break_at

-- the kernel's tables are the same: threads, signals, ready list and affinities, areas, registrations, the
-- bytes on the console, and the state of the generator of random bytes
pub record HasSameTables (k j : Kernel) : Type 0 where
  pub threads : j.threads ≡ k.threads
  pub signals : j.signals ≡ k.signals
  pub scheduling : j.scheduling ≡ k.scheduling
  pub areas : j.areas ≡ k.areas
  pub barriers : j.barriers ≡ k.barriers
  pub console : j.console ≡ k.console
  pub random : j.random ≡ k.random

-- q is the same place as p: each hart, each thread that rests, the pages and the tables are the same, and the
-- run has ended in the same way, or in neither
pub record IsSamePlace (s : Setting) (p q : Plain) : Type 0 where
  pub harts : (h : ℕ) → h < s.limits.harts → hart_seen s q h ≡ hart_seen s p h
  pub files : (t : ℕ) → rests t p.kernel.threads ≡ true → q.file t ≡ p.file t
  pub pages : HasSamePages p q
  pub tables : HasSameTables p.kernel q.kernel
  pub over : plain_over q ≡ plain_over p

-- a place whose harts have no counts
abbrev pub rested : Plain → Plain
rested p = record p { events = λ h. 0; ran = λ h. 0 }

-- the place after the event of a choice
abbrev pub plain_after_choice : Setting → Plain → ℕ → Choice → Plain
plain_after_choice s p h c = apply h (done_of c (here_in_plain s p h)) p

-- a choice of hart h is carried from p to each place that is the same, under each step limit that a machine
-- may have: it is answered alike, and where it is allowed, its event leads both to the same place
pub record IsCarried (s : Setting) (p : Plain) (h : ℕ) (c : Choice) : Type 0 where
  pub answer : (n : ℕ) (q : Plain) → IsStanding (alone (with_steps n s) q) → q.made < n → n ≤ 1000000
      → IsSamePlace s p q → answer_to (alone (with_steps n s) q) h c ≡ answer_to (alone s p) h c
  pub after : (n : ℕ) (q : Plain) → IsStanding (alone (with_steps n s) q) → q.made < n → n ≤ 1000000
      → IsSamePlace s p q → refusal_of c (here_in_plain s p h) ≡ None
      → IsSamePlace s (plain_after_choice s p h c) (plain_after_choice (with_steps n s) q h c)
