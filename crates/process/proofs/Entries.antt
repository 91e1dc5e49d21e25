-- The entry of an event, and an event that is known to have done this.
use Rattle.process.proofs.Common.{◌≡◌, ℕ, List, [], ◌∷◌, get_or, set, refl, sym, ap, subst, Option, Some, None, option_map, Choice, Hart, HartState, Parts, Plain, Setting, Stand, Store, counted, credit_of, done_of, entry_from, file_on, hart_at, here_at, here_in_plain, id_of, refusal_of, thread, Kind, Done, Here, runs, waiting_here, entry_in, final, number_of, pc_in, IsFit, IsAfter, IsPlace, IsUncounted, refusal_drain_of, refusal_preempt_by}
use Rattle.mach_types.specs.declared.events.Choice.TheVariants as asked
use Rattle.mach_types.specs.declared.events.Kind.TheVariants as kind
use Rattle.block_model.specs.Record.{Kernel}
use Rattle.process.proofs.Events.{AreBeside, IsChange, IsMade, IsQuiet, changed, none_beside, uncounted}
use Rattle.process.proofs.HartStates.{own_after}
use Rattle.process.proofs.Places.{fit_at, hart_is}

-- the entry of a hart's thread
entry_own : (here : Here) (h : Hart) (k : Kind) (o : Option ℕ) (x : HartState) → h.0 ≡ here.hart → x.running ≡ option_map thread o → x.pc ≡ (file_on here o).pc →
    entry_from h k x.running x.pc ≡ record { hart = record { 0 = here.hart }; kind = k; tid = record { 0 = number_of o }; pc = pc_in here o }
entry_own here h k None x hart running pc = rw (running, hart) refl
entry_own here h k (Some t) x hart running pc = rw (running, hart, pc) refl

pub entry_exec : (credit : ℕ) (s : Setting) (p : Plain) (h : Hart) (x : HartState) → x ≡ hart_at s p h.0 credit → entry_from h kind.Exec x.running x.pc ≡ entry_in asked.Exec (here_in_plain s p h.0)
entry_exec credit s p h x is = entry_own (here_in_plain s p h.0) h kind.Exec (runs (here_in_plain s p h.0)) x refl (ap (λ (y : HartState). y.running) is) (ap (λ (y : HartState). y.pc) is)

-- the entry of a hart of a place
pub entry_here : (v : Stand) (m : Parts) (h : Hart) (k : Kind) (x : HartState) → IsPlace v m h.0 → x ≡ get_or m.harts.items h.0 x
    → entry_from h k x.running x.pc ≡ record { hart = record { 0 = h.0 }; kind = k; tid = record { 0 = number_of (runs (here_at v h.0)) }; pc = pc_in (here_at v h.0) (runs (here_at v h.0)) }
entry_here v m h k x place value =
    let own = hart_is v m h.0 x place value in
    entry_own (here_at v h.0) h k (runs (here_at v h.0)) x refl (ap (λ (y : HartState). y.running) own) (ap (λ (y : HartState). y.pc) own)

-- where a thread can leave a hart, one runs there
pub leaver : (here : Here) → refusal_of asked.Preempt here ≡ None → (t : ℕ) × (runs here ≡ Some t)
leaver here free = go (runs here) refl free
  where
    go : (o : Option ℕ) → runs here ≡ o → refusal_preempt_by here o ≡ None → (t : ℕ) × (runs here ≡ Some t)
    go None at e = cc
    go (Some t) at e = (t, at)

-- where a store can enter memory, one waits
pub oldest : (here : Here) → refusal_of asked.Drain here ≡ None → (w : Store) × ((ws : List Store) × (waiting_here here ≡ w ∷ ws))
oldest here free = go (waiting_here here) refl free
  where
    go : (ws : List Store) → waiting_here here ≡ ws → refusal_drain_of ws ≡ None → (w : Store) × ((ws : List Store) × (waiting_here here ≡ w ∷ ws))
    go [] at e = cc
    go (w ∷ ws) at e = (w, (ws, at))

-- the parts after an event that is known to have done this
pub changed_as : (v : Stand) (h : ℕ) (c : Choice) (d : Done) (m m' : Parts) (y : HartState) → IsPlace v m h → refusal_of c (here_at v h) ≡ None → done_of c (here_at v h) ≡ d → IsChange v h d m m' y → IsAfter v h (done_of c (here_at v h)) m m'
changed_as v h c d m m' y place free same is =
    subst (λ e. IsAfter v h e m m') (sym same) (changed v h d m m' y place (subst (IsFit (here_at v h)) same (fit_at v m h c place free)) is)

pub uncounted_as : (v : Stand) (h : ℕ) (c : Choice) (d : Done) (m m' : Parts) (z : HartState) → IsPlace v m h → refusal_of c (here_at v h) ≡ None → done_of c (here_at v h) ≡ d
    → IsMade v h d m m' (counted z) z → IsUncounted v h (done_of c (here_at v h)) m m'
uncounted_as v h c d m m' z place free same is =
    subst (λ e. IsUncounted v h e m m') (sym same) (uncounted v h d m m' z place (subst (IsFit (here_at v h)) same (fit_at v m h c place free)) is)

-- one that ended the process, and changed of the parts nothing else but its hart
pub killed_as : (v : Stand) (h : ℕ) (c : Choice) (d : Done) (m m' : Parts) (z : HartState) → IsPlace v m h → refusal_of c (here_at v h) ≡ None → done_of c (here_at v h) ≡ d
    → IsQuiet d → d.entered ≡ [] → d.files ≡ [] → d.kernel ≡ v.plain.kernel → m' ≡ record m { harts = m'.harts; ended = final d.ended d.kernel }
    → m'.harts.items ≡ set m.harts.items h z → counted z ≡ own_after v.setting v.plain h d (credit_of m.harts.items h) → IsUncounted v h (done_of c (here_at v h)) m m'
killed_as v h c d m m' z place free same quiet silent kept still others harts own =
    let p = v.plain in
    uncounted_as v h c d m m' z place free same (record {
      own = own;
      harts = subst (AreBeside h d (set m.harts.items h z)) (sym harts) (none_beside h d (set m.harts.items h z) quiet silent);
      pages = rw (ap (λ (n : Parts). n.pages) others, still, silent) place.tied.pages;
      readable = rw (ap (λ (n : Parts). n.pages) others) place.tied.readable;
      tables = rw (ap (λ (n : Parts). n.kernel) others, still) place.tied.tables;
      ids = λ k u ne runs. ap (λ (r : Kernel). id_of u r.ids) still;
      table = rw (ap (λ (n : Parts). n.kernel) others) place.tied.table;
      saved = rw (ap (λ (n : Parts). n.kernel) others, kept) place.tied.saved;
      ended = ap (λ (n : Parts). n.ended) others;
    })
