-- Steps of the kernel's record that calls are made of: what each keeps.
use Rattle.block_model.proofs.Common.{◌≡◌, ◌≢◌, ℕ, ◌+◌, ◌≤◌, ◌<◌, ◌^◌, List, refl, ◌∙◌, arith, Some, length, length-append, sym, ap, subst, CONSOLE_ROOM, IsHeld, IsSound, IsTables, KeepsRows, Kernel, Scheduling, Setting, Signalling, Thread, Threads, gone, left, printed, requeued, restricted, rows_changed, running_on, running_on-with_rows, signalled, waited, waits, woken}
use Rattle.block_model.proofs.AllowedHarts.{kept_allowed, restricted_allowed, ended_allowed}
use Rattle.block_model.proofs.KernelTables.{tables_rows, tables_left, left_others}
use Rattle.block_model.proofs.KernelCalls.{tables_allowed, tables_requeued, requeued_same, tables_woken, woken_same, tables_waited, waited_others, tables_ended, ended_others}
use Rattle.block_model.proofs.SignalTables.{KeepsThreads}
use Rattle.block_model.proofs.ThreadRecords.{held_beside, held_rows, held_gone, held_left, held_requeued, held_signalled, held_waited, held_woken}

-- each hart runs the thread that it ran, the pages stay, no number is given, and the record stays sound
pub record IsKept (s : Setting) (before after : Kernel) : Type 0 where
  pub running : (k : ℕ) → running_on k after.threads ≡ running_on k before.threads
  pub pages : after.pages ≡ before.pages
  pub given : after.threads.given ≡ before.threads.given
  pub sound : IsSound s after
  pub held : IsHeld s.limits.harts before → IsHeld s.limits.harts after

-- the same, but for the hart h
pub record IsMoved (s : Setting) (h : ℕ) (before after : Kernel) : Type 0 where
  pub others : (k : ℕ) → k ≢ h → running_on k after.threads ≡ running_on k before.threads
  pub pages : after.pages ≡ before.pages
  pub given : after.threads.given ≡ before.threads.given
  pub sound : IsSound s after
  pub held : IsHeld s.limits.harts before → IsHeld s.limits.harts after

-- the record is sound still where its tables agree, and the affinities and the console stay
sound_still : (s : Setting) (before after : Kernel) → IsSound s before → IsTables s.limits.harts after.threads after.scheduling
    → after.scheduling.affinities ≡ before.scheduling.affinities → after.console ≡ before.console → IsSound s after
sound_still s before after sound tables same console = record {
  tables = tables;
  allowed = kept_allowed s.limits.harts before.threads after.threads before.scheduling after.scheduling sound.tables tables same sound.allowed;
  console = subst (λ (bytes : List ℕ). length bytes ≤ CONSOLE_ROOM) (sym console) sound.console;
}

-- neither the threads nor the scheduling change
pub kept_tables : (s : Setting) (before after : Kernel) → IsSound s before → after.threads ≡ before.threads → after.scheduling ≡ before.scheduling
    → after.console ≡ before.console → after.pages ≡ before.pages → (IsHeld s.limits.harts before → IsHeld s.limits.harts after) → IsKept s before after
kept_tables s before after sound threads scheduling console pages held = record {
  running = λ h. ap (running_on h) threads;
  pages = pages;
  given = ap (λ (ts : Threads). ts.given) threads;
  sound = sound_still s before after sound (rw (threads, scheduling) sound.tables) (ap (λ (sc : Scheduling). sc.affinities) scheduling) console;
  held = held;
}

pub kept_still : (s : Setting) (k : Kernel) → IsSound s k → IsKept s k k
kept_still s k sound = record { running = λ h. refl; pages = refl; given = refl; sound = sound; held = λ is. is }

pub kept_twice : (s : Setting) (a b c : Kernel) → IsKept s a b → IsKept s b c → IsKept s a c
kept_twice s a b c p q = record {
  running = λ h. q.running h ∙ p.running h;
  pages = q.pages ∙ p.pages;
  given = q.given ∙ p.given;
  sound = q.sound;
  held = λ is. q.held (p.held is);
}

pub moved_after : (s : Setting) (h : ℕ) (a b c : Kernel) → IsKept s a b → IsMoved s h b c → IsMoved s h a c
moved_after s h a b c p q = record {
  others = λ k ne. q.others k ne ∙ p.running k;
  pages = q.pages ∙ p.pages;
  given = q.given ∙ p.given;
  sound = q.sound;
  held = λ is. q.held (p.held is);
}

pub kept_moved : (s : Setting) (h : ℕ) (a b : Kernel) → IsKept s a b → IsMoved s h a b
kept_moved s h a b p =
    record { others = λ k ne. p.running k; pages = p.pages; given = p.given; sound = p.sound; held = p.held }

-- bytes that the console has room for
pub kept_printed : (s : Setting) (bytes : List ℕ) (k : Kernel) → IsSound s k
    → length k.console + length bytes ≤ CONSOLE_ROOM → IsKept s k (printed bytes k)
kept_printed s bytes k sound room = record {
  running = λ h. refl;
  pages = refl;
  given = refl;
  sound = record {
    tables = sound.tables;
    allowed = sound.allowed;
    console = omega (arith, length-append k.console bytes);
  };
  held = held_beside s.limits.harts k _ refl refl refl refl;
}

pub kept_rows : (s : Setting) (f : Thread → Thread) → KeepsRows f → (k : Kernel) → IsSound s k → IsKept s k (rows_changed f k)
kept_rows s f keeps k sound = record {
  running = λ h. running_on-with_rows f keeps h k.threads;
  pages = refl;
  given = refl;
  sound = sound_still s k (rows_changed f k) sound (tables_rows s.limits.harts f keeps k.threads k.scheduling sound.tables) refl refl;
  held = held_rows s.limits.harts f keeps k;
}

pub kept_woken : (s : Setting) (t : ℕ) (k : Kernel) → IsSound s k → waits k.threads t → IsKept s k (woken t k)
kept_woken s t k sound waiting = record {
  running = woken_same s.limits.harts t k.threads k.scheduling sound.tables waiting;
  pages = refl;
  given = refl;
  sound = sound_still s k (woken t k) sound (tables_woken s.limits.harts t k.threads k.scheduling sound.tables waiting) refl refl;
  held = held_woken s.limits.harts t k waiting;
}

-- a thread that waits does so at another address
pub kept_requeued : (s : Setting) (t at : ℕ) (k : Kernel) → IsSound s k → waits k.threads t → IsKept s k (requeued t at k)
kept_requeued s t at k sound waiting = record {
  running = requeued_same s.limits.harts t at k.threads k.scheduling sound.tables waiting;
  pages = refl;
  given = refl;
  sound = sound_still s k (requeued t at k) sound (tables_requeued s.limits.harts t at k.threads k.scheduling sound.tables waiting) refl refl;
  held = held_requeued s.limits.harts t at k waiting;
}

pub kept_restricted : (s : Setting) (t set : ℕ) (k : Kernel) → IsSound s k → set < 2 ^ s.limits.harts
    → set ≢ 0 → IsKept s k (restricted t set k)
kept_restricted s t set k sound below some =
    let harts = s.limits.harts in
    record {
      running = λ h. refl;
      pages = refl;
      given = refl;
      sound = record {
        tables = tables_allowed harts t set k.threads k.scheduling sound.tables;
        allowed = restricted_allowed harts t set k.threads k.scheduling sound.tables below some sound.allowed;
        console = sound.console;
      };
      held = held_beside s.limits.harts k _ refl refl refl refl;
    }

-- actions, masks or pending signals that are of the same threads
pub kept_signalled : (s : Setting) (g : Signalling) (k : Kernel) → IsSound s k → KeepsThreads k.signals g → IsKept s k (signalled g k)
kept_signalled s g k sound keeps = kept_tables s k (signalled g k) sound refl refl refl refl (held_signalled s.limits.harts g k keeps)

-- the thread on hart h leaves it: it is ready, it waits, or it is gone
pub moved_left : (s : Setting) (h t : ℕ) (k : Kernel) → IsSound s k → running_on h k.threads ≡ Some t
    → IsMoved s h k (left t k)
moved_left s h t k sound at = record {
  others = left_others s.limits.harts h t k.threads k.scheduling sound.tables at;
  pages = refl;
  given = refl;
  sound = sound_still s k (left t k) sound (tables_left s.limits.harts h t k.threads k.scheduling sound.tables at) refl refl;
  held = held_left s.limits.harts t k;
}

pub moved_waited : (s : Setting) (h t at : ℕ) (k : Kernel) → IsSound s k → running_on h k.threads ≡ Some t
    → IsMoved s h k (waited t at k)
moved_waited s h t at k sound runs = record {
  others = waited_others s.limits.harts h t at k.threads k.scheduling sound.tables runs;
  pages = refl;
  given = refl;
  sound = sound_still s k (waited t at k) sound (tables_waited s.limits.harts h t at k.threads k.scheduling sound.tables runs) refl refl;
  held = held_waited s.limits.harts t at k;
}

pub moved_gone : (s : Setting) (h t : ℕ) (k : Kernel) → IsSound s k → running_on h k.threads ≡ Some t
    → IsMoved s h k (gone t k)
moved_gone s h t k sound at =
    let harts = s.limits.harts in
    record {
      others = ended_others harts h t k.threads k.scheduling sound.tables at;
      pages = refl;
      given = refl;
      sound = record {
        tables = tables_ended harts h t k.threads k.scheduling sound.tables at;
        allowed = ended_allowed harts t k.threads k.scheduling sound.allowed;
        console = sound.console;
      };
      held = held_gone s.limits.harts t k;
    }
