-- The event take: what the interruption of the hart's thread comes to, if it is to restart, and the parts after it.
use Rattle.process.proofs.Common.{cond_both, ◌≡◌, ◌≢◌, ℕ, List, [], append-nil, refl, sym, ap, ◌∙◌, subst, Bool, true, false, cond, eqb, eq-eqb, Option, Some, None, slice_get, set, ne_eqb, option_and_then, option_map, option_or, interruption, pc_after, writes_of, AreSaved, Area, Done, End, Hart, HartState, Here, IsPlace, IsUncounted, IsWritten, Map, Outcome, Parts, Plain, Saved, Setting, Stand, Write, area_here, byte_in, can_write_in, counted, credit_of, done_of, file_among, files_interrupted, hart_at, hart_in, here_at, here_in_plain, interruption_here, is_writable, lost_unless, memory, refusal_of, runs, unless_waiting, done_take, done_take_by, killed_by, ended_by, NoRequest, only_took, took_and_interrupted, IsRestarted, noticed, restart_here, taken_or_noticed, taken_with, add-zero}
use Rattle.mach_types.specs.declared.events.Choice.TheVariants as asked
use Rattle.process.proofs.Entries.{uncounted_as}
use Rattle.process.proofs.Events.{AreBeside, lost_nothing}
use Rattle.process.proofs.HartStates.{beside, beside_unless, get_set_other, get_set_same, of_each, own_after}
use Rattle.process.proofs.Interruptions.{file_is, none_written}
use Rattle.process.proofs.Memory.{pages_written, readable_written}
use Rattle.process.proofs.Places.{goes_on, runs_there, was_not_stuck}
use Rattle.process.proofs.RunEvent.{file_other}
use Rattle.process.proofs.SignalEvent.{kept_running}

-- WHY A HART CAN'T

pub refusal_as : (here : Here) (x : HartState) (n k credit : ℕ) → x ≡ hart_in here n k credit
    → refusal_of asked.Take here ≡ cond (eqb x.requests 0) (Some NoRequest) (unless_waiting x.buffer)
refusal_as here x n k credit own = ap (λ (y : HartState). cond (eqb y.requests 0) (Some NoRequest) (unless_waiting y.buffer)) (sym own)

-- WHAT IT DOES

-- by what the interruption of the hart's thread came to, where there was one
abbrev pub done_with : Here → Option ℕ → Option Outcome → Done
done_with here None came = only_took here
done_with here (Some t) None = only_took here
done_with here (Some t) (Some o) = took_and_interrupted here t o

pub done_is : (here : Here) → done_of asked.Take here ≡ done_with here (runs here) (restart_here here)
done_is here = go here.restart (runs here)
  where
    go : (b : Bool) (r : Option ℕ) → done_take_by here b r ≡ done_with here r (cond b (option_map (interruption_here here) r) None)
    go false None = refl
    go false (Some t) = refl
    go true None = refl
    go true (Some t) = refl

-- nothing is interrupted
nothing_entered : (here : Here) (r : Option ℕ) → (done_with here r None).entered ≡ []
nothing_entered here None = refl
nothing_entered here (Some t) = refl

pub not_restarted : (here : Here) (m : Parts) → restart_here here ≡ None → IsRestarted here None m m
not_restarted here m none =
    let empty : (done_take here).entered ≡ [] =
    ap (λ (d : Done). d.entered) (done_is here ∙ ap (done_with here (runs here)) none) ∙ nothing_entered here (runs here) in
    record {
      comes = sym none;
      pages = subst (λ (ws : List Write). IsWritten ws m.pages m.pages) (sym empty) (none_written m.pages);
      harts = λ k.
          lost_nothing (eqb k here.hart) (slice_get m.harts.items k)
          ∙ ap (λ ws. option_map (lost_unless (eqb k here.hart) ws) (slice_get m.harts.items k)) (sym empty);
    }

pub not_asked : (here : Here) → here.restart ≡ false → restart_here here ≡ None
not_asked here lacks = ap (λ b. cond b (option_map (interruption_here here) (runs here)) None) lacks

pub none_runs : (here : Here) → runs here ≡ None → restart_here here ≡ None
none_runs here none =
    ap (λ r. cond here.restart (option_map (interruption_here here) r) None) none ∙ cond_both here.restart (option_map (interruption_here here) None) None (λ z. z ≡ None) (λ _. refl) (λ _. refl)

-- its thread t is
pub restarted : (here : Here) (t : ℕ) (o : Outcome) (area : Option Area) (pc : ℕ) (m m' : Parts) → here.restart ≡ true → runs here ≡ Some t
    → byte_in m.pages ≡ memory here → can_write_in m.pages ≡ is_writable here → area ≡ area_here here t → pc ≡ (here.file t).pc
    → o ≡ interruption (byte_in m.pages) (can_write_in m.pages) area pc → IsWritten (writes_of area o) m.pages m'.pages
    → ((k : ℕ) → slice_get m'.harts.items k ≡ option_map (lost_unless (eqb k here.hart) (writes_of area o)) (slice_get m.harts.items k)) → IsRestarted here (Some o) m m'
restarted here t o area pc m m' asks at bytes writable its there is pages harts =
    let same : o ≡ interruption_here here t = is ∙ rw (bytes, writable, its, there) refl in
    let comes : Some o ≡ restart_here here = ap Some same ∙ sym (rw (asks, at) refl) in
    let wrote : writes_of area o ≡ (done_take here).entered =
    ap (λ a. writes_of a o) its ∙ sym (ap (λ (d : Done). d.entered) (done_is here ∙ ap (done_with here (runs here)) (sym comes) ∙ ap (λ r. done_with here r (Some o)) at)) in
    record {
      comes = comes;
      pages = subst (λ (ws : List Write). IsWritten ws m.pages m'.pages) wrote pages;
      harts = λ k. harts k ∙ ap (λ ws. option_map (lost_unless (eqb k here.hart) ws) (slice_get m.harts.items k)) wrote;
    }

-- THE HARTS

-- an event that takes requests, and nothing more
abbrev done_so : Here → List (ℕ × Saved) → List Write → Option Outcome → Option End → Done
done_so here files ws came ended = record (only_took here) { files = files; entered = ws; interrupted = came; ended = ended }

-- the others lost what was written, and their barriers wait for this hart no longer
noticed_beside : (here : Here) (h k : ℕ) (files : List (ℕ × Saved)) (ws : List Write) (came : Option Outcome) (ended : Option End) (x : HartState) → k ≢ h
    → noticed h (lost_unless false ws x) ≡ beside k h (done_so here files ws came ended) x
noticed_beside here h k files ws came ended x ne = rw (ne_eqb h k (λ e. ne (sym e))) refl

take_beside : (here : Here) (h : ℕ) (files : List (ℕ × Saved)) (ws : List Write) (comes came : Option Outcome) (ended : Option End) (xs ys zs : List HartState) (x : HartState) → slice_get xs h ≡ Some x
    → ((k : ℕ) → slice_get ys k ≡ option_map (lost_unless (eqb k h) ws) (slice_get xs k))
    → ((k : ℕ) → slice_get zs k ≡ option_map (taken_or_noticed (eqb k h) h came) (slice_get ys k))
    → AreBeside h (done_so here files ws comes ended) (set xs h (taken_with came x)) zs
take_beside here h files ws comes came ended xs ys zs x at lost took k = took k ∙ ap (option_map (taken_or_noticed (eqb k h) h came)) (lost k) ∙ of_each
    (λ j. option_map (taken_or_noticed (eqb j h) h came) (option_map (lost_unless (eqb j h) ws) (slice_get xs j))
    ≡ option_map (beside_unless (eqb j h) j h (done_so here files ws comes ended)) (slice_get (set xs h (taken_with came x)) j)) h k own
    (λ ne.
    ap (λ b. option_map (taken_or_noticed b h came) (option_map (lost_unless b ws) (slice_get xs k))) (ne_eqb k h ne)
    ∙ other ne (slice_get xs k)
    ∙ ap (option_map (beside k h (done_so here files ws comes ended))) (sym (get_set_other xs h k (taken_with came x) ne))
    ∙ ap (λ b. option_map (beside_unless b k h (done_so here files ws comes ended)) (slice_get (set xs h (taken_with came x)) k)) (sym (ne_eqb k h ne)))
  where
    own : option_map (taken_or_noticed (eqb h h) h came) (option_map (lost_unless (eqb h h) ws) (slice_get xs h))
        ≡ option_map (beside_unless (eqb h h) h h (done_so here files ws comes ended)) (slice_get (set xs h (taken_with came x)) h)
    own = rw (eq-eqb h h refl, at, get_set_same xs h x (taken_with came x) at) refl

    other : k ≢ h → (o : Option HartState) → option_map (taken_or_noticed false h came) (option_map (lost_unless false ws) o) ≡ option_map (beside k h (done_so here files ws comes ended)) o
    other ne None = refl
    other ne (Some z) = ap Some (noticed_beside here h k files ws comes ended z ne)

-- the own hart: its thread, if one runs, goes on at this pc
took_own : (credit : ℕ) (s : Setting) (p : Plain) (h : ℕ) (came : Option Outcome) (ended : Option End) (x : HartState) → x ≡ hart_at s p h credit
    → counted (taken_with None x) ≡ own_after s p h (done_so (here_in_plain s p h) [] [] came ended) credit
took_own credit s p h came ended x at = rw (at, append-nil, add-zero (p.ran h)) refl

interrupted_own : (credit : ℕ) (s : Setting) (p : Plain) (h t : ℕ) (o : Outcome) (ended : Option End) (ws : List Write) (x : HartState) → x ≡ hart_at s p h credit → runs (here_in_plain s p h) ≡ Some t
    → counted (taken_with (Some o) x) ≡ own_after s p h (done_so (here_in_plain s p h) (files_interrupted (here_in_plain s p h) t o) ws (Some o) ended) credit
interrupted_own credit s p h t o ended ws x at runs =
    let file : record (p.file t) { pc = pc_after (p.file t).pc o } ≡ file_among (files_interrupted (here_in_plain s p h) t o) t (p.file t) =
    file_is (here_in_plain s p h) t o (p.file t) refl in
    rw (at, append-nil, add-zero (p.ran h), runs, ← file) refl

-- THE PARTS AFTER IT

-- what is known of the parts once hart h took its requests
pub record IsTaken (here : Here) (h : ℕ) (came : Option Outcome) (m m1 m2 : Parts) : Type 0 where
  pub restarted : IsRestarted here came m m1
  pub harts : (k : ℕ) → slice_get m2.harts.items k ≡ option_map (taken_or_noticed (eqb k h) h came) (slice_get m1.harts.items k)
  pub same_pages : m2.pages ≡ m1.pages
  pub same_kernel : m2.kernel ≡ m.kernel
  pub ended : m2.ended ≡ ended_by came m.ended

module _ (v : Stand) (m : Parts) (h : Hart) (place : IsPlace v m h.0) (free : refusal_of asked.Take (here_at v h.0) ≡ None) where
  abbrev here : Here
  here = here_at v h.0

  abbrev own_hart : HartState
  own_hart = hart_at v.setting v.plain h.0 (credit_of m.harts.items h.0)

  event_so : (files : List (ℕ × Saved)) (ws : List Write) (comes came : Option Outcome) (e : Option End) (m1 m2 : Parts) → done_of asked.Take here ≡ done_so here files ws comes e → IsTaken here h.0 came m m1 m2
      → e ≡ option_and_then killed_by came → counted (taken_with came own_hart) ≡ own_after v.setting v.plain h.0 (done_so here files ws comes e) (credit_of m.harts.items h.0)
      → AreSaved (λ u. file_among files u (v.plain.file u)) m.kernel.threads → IsUncounted v h.0 (done_of asked.Take here) m m2
  event_so files ws comes came e m1 m2 same is over own kept =
      let d = done_so here files ws comes e in
      let its : (done_take here).entered ≡ ws = ap (λ (z : Done). z.entered) same in
      let wrote : IsWritten ws m.pages m2.pages =
      subst (λ (n : Map). IsWritten ws m.pages n) (sym is.same_pages) (subst (λ (vs : List Write). IsWritten vs m.pages m1.pages) its is.restarted.pages) in
      uncounted_as v h.0 asked.Take d m m2 (taken_with came own_hart) place free same (record {
        own = own;
        harts = take_beside here h.0 files ws comes came e m.harts.items m1.harts.items m2.harts.items own_hart (place.tied.harts h.0 place.lt)
            (λ k. is.restarted.harts k ∙ ap (λ vs. option_map (lost_unless (eqb k h.0) vs) (slice_get m.harts.items k)) its) is.harts;
        pages = pages_written v.plain.kernel.pages v.setting.program.break_at v.plain.byte ws m.pages m2.pages place.tied.pages wrote;
        readable = readable_written ws m.pages m2.pages place.tied.readable wrote;
        tables = rw is.same_kernel place.tied.tables;
        ids = λ k u ne runs. refl;
        table = rw is.same_kernel place.tied.table;
        saved = rw is.same_kernel kept;
        ended = is.ended ∙ ap (λ o. option_or o m.ended) (sym over) ∙ ap (option_or e) (goes_on v m h.0 v.plain.kernel place (was_not_stuck v m h.0 place));
      })

  by_outcome : (r : Option ℕ) (came : Option Outcome) (m1 m2 : Parts) → runs here ≡ r → done_of asked.Take here ≡ done_with here r came → came ≡ restart_here here
      → IsTaken here h.0 came m m1 m2 → IsUncounted v h.0 (done_of asked.Take here) m m2
  by_outcome None None m1 m2 at same comes is = event_so [] [] None None None m1 m2 same is refl (took_own _ v.setting v.plain h.0 None None own_hart refl) place.tied.saved
  by_outcome None (Some o) m1 m2 at same comes is = let bad : Some o ≡ None = comes ∙ none_runs here at in absurd (cc)
  by_outcome (Some t) None m1 m2 at same comes is = event_so [] [] None None None m1 m2 same is refl (took_own _ v.setting v.plain h.0 None None own_hart refl) place.tied.saved
  by_outcome (Some t) (Some o) m1 m2 at same comes is =
      event_so (files_interrupted here t o) (writes_of (area_here here t) o) (Some o) (Some o) (killed_by o) m1 m2 same is refl
      (interrupted_own _ v.setting v.plain h.0 t o (killed_by o) (writes_of (area_here here t) o) own_hart refl at)
      (kept_running v.plain.file (λ u. file_among (files_interrupted here t o) u (v.plain.file u)) t h m.kernel.threads place.tied.table (runs_there v m h t place at)
      (λ u other. file_other here t u o (v.plain.file u) other) place.tied.saved)

  pub taken_event : (came : Option Outcome) (m1 m2 : Parts) → IsTaken here h.0 came m m1 m2 → IsUncounted v h.0 (done_of asked.Take here) m m2
  taken_event came m1 m2 is =
      by_outcome (runs here) came m1 m2 refl (done_is here ∙ ap (done_with here (runs here)) (sym is.restarted.comes)) is.restarted.comes is
