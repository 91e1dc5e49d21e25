-- What holds of the rows and the waiters is kept by each change.
use Rattle.std.proofs.Common.{ℕ, ◌+◌, ◌-◌, ◌<◌, ◌≡◌, ◌^◌, false, not, List, [], ◌∷◌, ◌++◌, map, filter, Some, refl, sym, ap, ◌∙◌, subst}
use Rattle.kernel_threads.specs.Rows.{state_at, threads_in, is_row, stage_if, table_in, new_row}
use Rattle.kernel_threads.specs.Waits.{HaveAddresses, IsKept, numbers_of, is_waiter}
use Rattle.kernel_threads.specs.declared.rows.Row.{Row}
use Rattle.kernel_threads.specs.declared.rows.Stage.{Stage}
use Rattle.kernel_threads.specs.declared.rows.Stage.TheVariants as stage
use Rattle.kernel_threads.specs.declared.waiters.Waiter.{Waiter}
use Rattle.kernel_threads.proofs.Addresses.{numbers_without, numbers_push, addresses_moved, addresses_child, addresses_kept, addresses_ended, addresses_woken, addresses_waiting}
use Rattle.kernel_threads.proofs.Viewed.{of_live, moved_threads, moved_table, IsRowChange, rows_threads, rows_table, grown_threads, grown_table, ended_threads, ended_table, woken_threads, woken_table, waiter_threads, waiter_table}
use Rattle.mach_types.proofs.Laws.{is_waiting}
use Rattle.mach_types.specs.Kernel.Threads.{Thread, Threads, state_of, is_full, without, with_woken, with_waiter}
use Rattle.mach_types.specs.declared.events.Hart.{Hart}
use Rattle.mach_types.specs.declared.threads.Saved.{Saved}
use Rattle.mach_types.specs.declared.threads.ThreadState.{ThreadState}
use Rattle.mach_types.specs.declared.threads.ThreadState.TheVariants.{Running}

module _ (rows changed : List Row) (given : ℕ) (ws : List Waiter) (kept : IsKept rows given ws) where
  abbrev threads : Threads
  threads = of_live (threads_in rows) given (numbers_of ws)

  pub kept_moved : (n : ℕ) (st : Stage) (s : ThreadState) → changed ≡ map (stage_if n st) rows → is_waiting (Some (state_at st)) ≡ false
      → state_of n threads ≡ Some s → is_waiting (Some s) ≡ false → IsKept changed given ws
  kept_moved n st s e new was old = record {
    table = moved_table rows changed given (numbers_of ws) n st (table_in rows given (numbers_of ws)) s e refl kept.table new was old;
    addresses = subst (λ (ts : Threads). HaveAddresses ts ws) (sym (moved_threads rows changed given (numbers_of ws) n st (table_in rows given (numbers_of ws)) e refl))
        (addresses_moved threads n (state_at st) (ap is_waiting was ∙ old) ws kept.addresses);
  }

  pub kept_rows : (f : Row → Row) (g : Thread → Thread) → IsRowChange f g → changed ≡ map f rows → IsKept changed given ws
  kept_rows f g is e = record {
    table = rows_table rows changed given (numbers_of ws) f g is e kept.table;
    addresses = subst (λ (ts : Threads). HaveAddresses ts ws) (sym (rows_threads rows changed given (numbers_of ws) f g is e (table_in rows given (numbers_of ws)) refl))
        (addresses_kept threads g is.keeps ws kept.addresses);
  }

  pub kept_grown : (start : Saved) → changed ≡ rows ++ new_row (given + 1) start ∷ [] → given < 2 ^ 31 - 1
      → is_full threads ≡ false → IsKept changed (given + 1) ws
  kept_grown start e room free = record {
    table = grown_table rows changed given (numbers_of ws) start e kept.table room free;
    addresses = subst (λ (ts : Threads). HaveAddresses ts ws) (sym (grown_threads rows changed given (numbers_of ws) start (table_in rows given (numbers_of ws)) e refl))
        (addresses_child threads kept.table.threads ws kept.addresses);
  }

  module _ (later : List Waiter) where
    pub kept_ended : (n : ℕ) → changed ≡ filter (λ row. not (is_row n row)) rows → later ≡ filter (λ w. not (is_waiter n w)) ws → IsKept changed given later
    kept_ended n e f =
        let g = numbers_without n ws later f in
        record {
          table = ended_table rows changed given (numbers_of ws) (numbers_of later) n e g kept.table;
          addresses = subst (λ (ts : Threads). HaveAddresses ts later)
              (sym (ended_threads rows changed given (numbers_of ws) (numbers_of later) n (table_in rows given (numbers_of ws)) e g refl))
              (subst (HaveAddresses (without n threads)) (sym f) (addresses_ended threads n ws kept.addresses));
        }

    pub kept_woken : (n : ℕ) (saved : Saved) → changed ≡ map (stage_if n (stage.Ready saved)) rows → later ≡ filter (λ w. not (is_waiter n w)) ws → IsKept changed given later
    kept_woken n saved e f =
        let g = numbers_without n ws later f in
        record {
          table = woken_table rows changed given (numbers_of ws) (numbers_of later) n saved e g kept.table;
          addresses = subst (λ (ts : Threads). HaveAddresses ts later)
              (sym (woken_threads rows changed given (numbers_of ws) (numbers_of later) n saved (table_in rows given (numbers_of ws)) e g refl))
              (subst (HaveAddresses (with_woken n threads)) (sym f) (addresses_woken threads n ws kept.addresses));
        }

    pub kept_waiter : (n at : ℕ) (saved : Saved) (hart : Hart) → changed ≡ map (stage_if n (stage.Waiting at saved)) rows → later ≡ ws ++ record { number = n; at = at } ∷ []
        → state_of n threads ≡ Some (Running hart) → IsKept changed given later
    kept_waiter n at saved hart e f was =
        let g : numbers_of later ≡ numbers_of ws ++ n ∷ [] = numbers_push n at ws later f in
        record {
          table = waiter_table rows changed given (numbers_of ws) (numbers_of later) n at saved (table_in rows given (numbers_of ws)) hart e g refl kept.table was;
          addresses = subst (λ (ts : Threads). HaveAddresses ts later)
              (sym (waiter_threads rows changed given (numbers_of ws) (numbers_of later) n at saved (table_in rows given (numbers_of ws)) e g refl))
              (subst (HaveAddresses (with_waiter n at threads)) (sym f) (addresses_waiting threads n at hart was ws kept.addresses));
        }
