-- clone(2): a child is new, and is ready.
use Rattle.sys_calls.proofs.Common.{cases_eq, ne_eqb, eq-eqb, ◌≡◌, ◌≢◌, ℕ, ◌+◌, Bool, true, false, cond, eqb, [], ◌∷◌, Option, Some, None, is_some, refl, sym, ap, ◌∙◌, list_any, option_map, option_map_or, Scheduling, is_of, with_thread, IsThreads, Thread, Threads, is_full, is_live, is_ready_state, running_on, with_child, with_clear, AreSaved, AreTables, Here, Kernel, Ready, Saved, argument, file_among, IsTable, Table, saved_of, with_start, next_is_new, cleared, had_child, next_number, ready_listed, inl, inr, thread_of, state_of-with_child_same, child_not_held, child_same}
use Rattle.kernel_threads.proofs.Laws.{saved_of-child, saved_of-with_start_other}
use Rattle.sys_calls.proofs.CallerTables.{cleared_runs, live_in}

-- the next number isn't held, nor ready
pub next_not_held : (parent u : ℕ) (k : Kernel) → AreTables k → is_full k.threads.threads ≡ false → u ≡ k.threads.threads.given + 1 → list_any (is_of u) k.ready.affinities ≡ false
next_not_held parent u k tables free is =
    ap (λ n. list_any (is_of n) k.ready.affinities) is ∙ child_not_held tables.0 parent k.threads.threads k.ready tables.1 free

pub next_unlisted : (parent u : ℕ) (k : Kernel) (s : Scheduling) → AreTables k → u ≡ k.threads.threads.given + 1 → s ≡ with_thread parent u k.ready → list_any (λ v. eqb v u) s.order ≡ false
next_unlisted parent u k s tables is after =
    let ts = k.threads.threads in
    let new : thread_of (ts.given + 1) ts ≡ None = next_is_new ts tables.1.threads in
    ap (λ (x : Scheduling). list_any (λ v. eqb v u) x.order) after ∙ ap (λ n. list_any (λ v. eqb v n) k.ready.order) is
    ∙ ready_listed tables.0 (ts.given + 1) ts k.ready tables.1
    ∙ ap (λ (o : Option Thread). option_map_or is_ready_state (option_map (λ th. th.state) o) false) new

-- a child lives
pub child_lives : (u : ℕ) (ts after : Threads) → IsThreads ts → u ≡ ts.given + 1 → after ≡ with_child ts → is_live u after ≡ true
child_lives u ts after holds is same =
    ap (is_live u) same ∙ ap (λ n. is_live n (with_child ts)) is ∙ live_in (ts.given + 1) (with_child ts) Ready (state_of-with_child_same ts holds)

-- who lives isn't the next one
pub lives_other : (t : ℕ) (ts : Threads) → IsThreads ts → is_live t ts ≡ true → t ≢ ts.given + 1
lives_other t ts holds live same =
    let none : is_live t ts ≡ false = ap (λ n. is_live n ts) same ∙ ap is_some (next_is_new ts holds) in
    let no : true ≡ false = sym live ∙ none in
    cc

-- the address that is set touches neither ids nor pages
pub asked_ids : (h : Here) (t : ℕ) (b : Bool) → (cond b (cleared (next_number h.kernel) (argument h t 4) (had_child t h.kernel)) (had_child t h.kernel)).ids ≡ h.kernel.ids
asked_ids h t true = refl
asked_ids h t false = refl

pub asked_pages : (h : Here) (t : ℕ) (b : Bool) → (cond b (cleared (next_number h.kernel) (argument h t 4) (had_child t h.kernel)) (had_child t h.kernel)).pages ≡ h.kernel.pages
asked_pages h t true = refl
asked_pages h t false = refl

-- who runs where
pub asked_runs : (j u at : ℕ) (ts : Threads) (b : Bool) → running_on j (cond b (with_clear u at ts) ts) ≡ running_on j ts
asked_runs j u at ts true = cleared_runs j u at ts
asked_runs j u at ts false = refl

pub child_runs : (j parent : ℕ) (k : Kernel) → AreTables k → is_full k.threads.threads ≡ false → running_on j (with_child k.threads.threads) ≡ running_on j k.threads.threads
child_runs j parent k tables free = child_same tables.0 parent k.threads.threads k.ready tables.1 free j

-- what is kept, with what the child starts with
pub kept_started : (file : ℕ → Saved) (t : ℕ) (x : Saved) (before after : Table) → IsTable before → t ≡ before.threads.given + 1 → after.saved ≡ with_start t x before.saved
    → AreSaved file before → AreSaved (λ u. file_among ((t, x) ∷ []) u (file u)) after
kept_started file t x before after holds is same all u y at =
    let there : saved_of u (with_start t x before.saved) ≡ Some y = ap (saved_of u) (sym same) ∙ at in
    elim (cases_eq t u) [
      | inl own ↦
          let first : saved_of t (with_start t x before.saved) ≡ Some x = ap (λ n. saved_of n (with_start n x before.saved)) is ∙ saved_of-child x before holds ∙ refl in
          let e : Some y ≡ Some x = sym there ∙ ap (λ n. saved_of n (with_start t x before.saved)) (sym own) ∙ first in
          rw (eq-eqb t u own) (cc)
      | inr ne ↦ rw (ne_eqb t u ne) (all u y (sym (saved_of-with_start_other t u (λ e. ne (sym e)) x before.saved) ∙ there))
    ]

pub quiet_started : (t u : ℕ) (x : Saved) (before after : Table) → t ≢ u → after.saved ≡ with_start u x before.saved → saved_of t before.saved ≡ None → saved_of t after.saved ≡ None
quiet_started t u x before after ne same none = ap (saved_of t) same ∙ saved_of-with_start_other u t ne x before.saved ∙ none
