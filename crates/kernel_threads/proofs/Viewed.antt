-- A change of the rows is the change of the threads, and of what is saved, that it stands for.
use Rattle.std.proofs.Common.{ℕ, ◌+◌, ◌-◌, ◌<◌, ◌≡◌, ◌^◌, Bool, true, false, not, cond, eqb, List, [], ◌∷◌, ◌++◌, map, filter, Some, is_some, refl, sym, ap, ◌∙◌, subst}
use Rattle.std.proofs.lemmas.List.{map_push}
use Rattle.kernel_threads.specs.Rows.{state_at, kept_at, thread_in, saved_in, threads_in, all_saved_in, is_row, stage_if, table_in, new_row}
use Rattle.kernel_threads.specs.Table.{Table, IsTable, is_of, saved_if, with_saved, forget, has_saved, wants_saved}
use Rattle.kernel_threads.specs.declared.rows.Row.{Row}
use Rattle.kernel_threads.specs.declared.rows.Stage.{Stage}
use Rattle.kernel_threads.specs.declared.rows.Stage.TheVariants as stage
use Rattle.mach_types.proofs.Laws.{map_commutes, map_stays, map_filters, is_waiting, IsThreads-child, IsThreads-without, IsThreads-with_state, IsThreads-with_rows, IsThreads-woken, IsThreads-waiter, KeepsRows}
use Rattle.mach_types.specs.Kernel.Threads.{IsThreads, Thread, Threads, is_running_state, is_thread, state_of, state_if, with_state, with_rows, with_child, is_full, without, with_waiter, with_woken, no_waiter}
use Rattle.mach_types.specs.declared.events.Hart.{Hart}
use Rattle.mach_types.specs.declared.threads.Saved.{Saved}
use Rattle.mach_types.specs.declared.threads.ThreadState.{ThreadState}
use Rattle.mach_types.specs.declared.threads.ThreadState.TheVariants.{Ready, Running, Waiting}

abbrev pub of_live : List Thread → ℕ → List ℕ → Threads
of_live live given waiters = record { live = live; given = given; waiters = waiters }

pub stage_threads : (n : ℕ) (st : Stage) (rows : List Row) → threads_in (map (stage_if n st) rows) ≡ map (state_if n (state_at st)) (threads_in rows)
stage_threads n st rows =
    map_commutes thread_in (stage_if n st) (state_if n (state_at st))
    (λ row. elim (eqb row.number n) as (λ b. thread_in (cond b (record row { stage = st }) row) ≡ cond b (record (thread_in row) { state = state_at st }) (thread_in row)) [ true ↦ refl | false ↦ refl ])
    rows

pub stage_saved : (n : ℕ) (st : Stage) (rows : List Row) → all_saved_in (map (stage_if n st) rows) ≡ with_saved n (kept_at st) (all_saved_in rows)
stage_saved n st rows =
    map_commutes saved_in (stage_if n st) (saved_if n (kept_at st))
    (λ row. elim (eqb row.number n) as (λ b. saved_in (cond b (record row { stage = st }) row) ≡ cond b (row.number, kept_at st) (saved_in row)) [ true ↦ refl | false ↦ refl ])
    rows

-- a change of rows that is this one of their threads, of which no other table speaks, and keeps what is saved of each
pub record IsRowChange (f : Row → Row) (g : Thread → Thread) : Type 0 where
  pub thread : (row : Row) → thread_in (f row) ≡ g (thread_in row)
  pub saved : (row : Row) → saved_in (f row) ≡ saved_in row
  pub keeps : KeepsRows g

-- what is saved of a row is what its stage wants
abbrev numbered : ℕ → Bool → ℕ × Bool
numbered n b = (n, b)

stage_fits : (st : Stage) → is_some (kept_at st) ≡ not (is_running_state (state_at st))
stage_fits (stage.Ready kept) = refl
stage_fits (stage.Running h) = refl
stage_fits (stage.Waiting at kept) = refl

saved_fits : (rows : List Row) → map has_saved (all_saved_in rows) ≡ map wants_saved (threads_in rows)
saved_fits [] = refl
saved_fits (row ∷ rows) =
    let rest = saved_fits rows in
    let here = stage_fits row.stage in
    (λ i. numbered row.number (here i) ∷ rest i)

pub IsTable-rows : (rows : List Row) (given : ℕ) (waiters : List ℕ) → IsThreads (of_live (threads_in rows) given waiters) → IsTable (table_in rows given waiters)
IsTable-rows rows given waiters h = record { threads = h; saved = saved_fits rows }

-- the table after each change of the rows
module _ (rows changed : List Row) (given : ℕ) (waiters : List ℕ) where
  pub moved_threads : (n : ℕ) (st : Stage) (t : Table) → changed ≡ map (stage_if n st) rows → table_in rows given waiters ≡ t
      → of_live (threads_in changed) given waiters ≡ with_state n (state_at st) t.threads
  moved_threads n st t e v =
      ap (λ rs. of_live (threads_in rs) given waiters) e ∙ ap (λ live. of_live live given waiters) (stage_threads n st rows) ∙ ap (λ u. with_state n (state_at st) u.threads) v

  pub moved_saved : (n : ℕ) (st : Stage) (t : Table) → changed ≡ map (stage_if n st) rows → table_in rows given waiters ≡ t → all_saved_in changed ≡ with_saved n (kept_at st) t.saved
  moved_saved n st t e v = ap all_saved_in e ∙ stage_saved n st rows ∙ ap (λ u. with_saved n (kept_at st) u.saved) v

  pub moved_table : (n : ℕ) (st : Stage) (t : Table) (s : ThreadState) → changed ≡ map (stage_if n st) rows → table_in rows given waiters ≡ t → IsTable (table_in rows given waiters)
      → is_waiting (Some (state_at st)) ≡ false → state_of n t.threads ≡ Some s → is_waiting (Some s) ≡ false → IsTable (table_in changed given waiters)
  moved_table n st t s e v h new was old =
      let before : is_waiting (state_of n (of_live (threads_in rows) given waiters)) ≡ false = ap (λ (u : Table). is_waiting (state_of n u.threads)) v ∙ ap is_waiting was ∙ old in
      IsTable-rows changed given waiters
      (subst (λ (ts : Threads). IsThreads ts) (sym (moved_threads n st (table_in rows given waiters) e refl))
      (IsThreads-with_state n (state_at st) (of_live (threads_in rows) given waiters) h.threads new before))

  module _ (f : Row → Row) (g : Thread → Thread) (is : IsRowChange f g) (e : changed ≡ map f rows) where
    pub rows_threads : (t : Table) → table_in rows given waiters ≡ t → of_live (threads_in changed) given waiters ≡ with_rows g t.threads
    rows_threads t v =
        ap (λ rs. of_live (threads_in rs) given waiters) e ∙ ap (λ live. of_live live given waiters) (map_commutes thread_in f g is.thread rows)
        ∙ ap (λ u. with_rows g u.threads) v

    pub rows_saved : (t : Table) → table_in rows given waiters ≡ t → all_saved_in changed ≡ t.saved
    rows_saved t v = ap all_saved_in e ∙ map_stays saved_in f is.saved rows ∙ ap (λ u. u.saved) v

    pub rows_table : IsTable (table_in rows given waiters) → IsTable (table_in changed given waiters)
    rows_table h =
        IsTable-rows changed given waiters
        (subst (λ (ts : Threads). IsThreads ts) (sym (rows_threads (table_in rows given waiters) refl))
        (IsThreads-with_rows g is.keeps (of_live (threads_in rows) given waiters) h.threads))

  -- a new row
  pub grown_threads : (start : Saved) (t : Table) → changed ≡ rows ++ new_row (given + 1) start ∷ [] → table_in rows given waiters ≡ t
      → of_live (threads_in changed) (given + 1) waiters ≡ with_child t.threads
  grown_threads start t e v =
      ap (λ rs. of_live (threads_in rs) (given + 1) waiters) e
      ∙ ap (λ live. of_live live (given + 1) waiters) (map_push thread_in rows (new_row (given + 1) start))
      ∙ ap (λ u. with_child u.threads) v

  pub grown_table : (start : Saved) → changed ≡ rows ++ new_row (given + 1) start ∷ [] → IsTable (table_in rows given waiters)
      → given < 2 ^ 31 - 1 → is_full (of_live (threads_in rows) given waiters) ≡ false → IsTable (table_in changed (given + 1) waiters)
  grown_table start e h room free =
      IsTable-rows changed (given + 1) waiters
      (subst (λ (ts : Threads). IsThreads ts) (sym (grown_threads start (table_in rows given waiters) e refl))
      (IsThreads-child (of_live (threads_in rows) given waiters) h.threads free))

  -- a row less, and its number no longer among the waiters
  module _ (fewer : List ℕ) where
    pub ended_threads : (n : ℕ) (t : Table) → changed ≡ filter (λ row. not (is_row n row)) rows → fewer ≡ no_waiter n waiters → table_in rows given waiters ≡ t
        → of_live (threads_in changed) given fewer ≡ without n t.threads
    ended_threads n t e f v =
        ap (λ rs. of_live (threads_in rs) given fewer) e ∙ ap (λ live. of_live live given fewer) (map_filters thread_in (λ th. not (is_thread n th)) rows)
        ∙ ap (λ ws. of_live (filter (λ th. not (is_thread n th)) (threads_in rows)) given ws) f ∙ ap (λ u. without n u.threads) v

    pub ended_saved : (n : ℕ) (t : Table) → changed ≡ filter (λ row. not (is_row n row)) rows → table_in rows given waiters ≡ t → all_saved_in changed ≡ forget n t.saved
    ended_saved n t e v = ap all_saved_in e ∙ map_filters saved_in (λ pair. not (is_of n pair)) rows ∙ ap (λ u. forget n u.saved) v

    pub ended_table : (n : ℕ) → changed ≡ filter (λ row. not (is_row n row)) rows → fewer ≡ no_waiter n waiters → IsTable (table_in rows given waiters) → IsTable (table_in changed given fewer)
    ended_table n e f h =
        IsTable-rows changed given fewer
        (subst (λ (ts : Threads). IsThreads ts) (sym (ended_threads n (table_in rows given waiters) e f refl))
        (IsThreads-without n (of_live (threads_in rows) given waiters) h.threads))

    -- a thread that is woken
    pub woken_threads : (n : ℕ) (kept : Saved) (t : Table) → changed ≡ map (stage_if n (stage.Ready kept)) rows → fewer ≡ no_waiter n waiters → table_in rows given waiters ≡ t
        → of_live (threads_in changed) given fewer ≡ with_woken n t.threads
    woken_threads n kept t e f v =
        ap (λ rs. of_live (threads_in rs) given fewer) e ∙ ap (λ live. of_live live given fewer) (stage_threads n (stage.Ready kept) rows)
        ∙ ap (λ ws. of_live (map (state_if n Ready) (threads_in rows)) given ws) f ∙ ap (λ u. with_woken n u.threads) v

    pub woken_table : (n : ℕ) (kept : Saved) → changed ≡ map (stage_if n (stage.Ready kept)) rows → fewer ≡ no_waiter n waiters → IsTable (table_in rows given waiters) → IsTable (table_in changed given fewer)
    woken_table n kept e f h =
        IsTable-rows changed given fewer
        (subst (λ (ts : Threads). IsThreads ts) (sym (woken_threads n kept (table_in rows given waiters) e f refl))
        (IsThreads-woken n (of_live (threads_in rows) given waiters) h.threads))

    -- a thread that begins to wait
    pub waiter_threads : (n at : ℕ) (kept : Saved) (t : Table) → changed ≡ map (stage_if n (stage.Waiting at kept)) rows → fewer ≡ waiters ++ n ∷ [] → table_in rows given waiters ≡ t
        → of_live (threads_in changed) given fewer ≡ with_waiter n at t.threads
    waiter_threads n at kept t e f v =
        ap (λ rs. of_live (threads_in rs) given fewer) e ∙ ap (λ live. of_live live given fewer) (stage_threads n (stage.Waiting at kept) rows)
        ∙ ap (λ ws. of_live (map (state_if n (Waiting at)) (threads_in rows)) given ws) f ∙ ap (λ u. with_waiter n at u.threads) v

    pub waiter_table : (n at : ℕ) (kept : Saved) (t : Table) (hart : Hart) → changed ≡ map (stage_if n (stage.Waiting at kept)) rows → fewer ≡ waiters ++ n ∷ []
        → table_in rows given waiters ≡ t → IsTable (table_in rows given waiters) → state_of n t.threads ≡ Some (Running hart) → IsTable (table_in changed given fewer)
    waiter_table n at kept t hart e f v h was =
        let run : state_of n (of_live (threads_in rows) given waiters) ≡ Some (Running hart) = ap (λ (u : Table). state_of n u.threads) v ∙ was in
        IsTable-rows changed given fewer
        (subst (λ (ts : Threads). IsThreads ts) (sym (waiter_threads n at kept (table_in rows given waiters) e f refl))
        (IsThreads-waiter n at (of_live (threads_in rows) given waiters) hart h.threads run))
