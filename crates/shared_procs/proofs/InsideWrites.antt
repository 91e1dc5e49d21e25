-- What a process of a pair writes to the segment lies in it, where it has no page beside the segment.
use Rattle.mach_types.specs.declared.events.Choice.TheVariants as asked
use Rattle.mach_types.specs.declared.signals.TheConstants.{SIGBUS, SIGSEGV}
use Rattle.rv_inst.specs.declared.effects.Effect.TheVariants as effect
use Rattle.block_model.proofs.Laws.{MayEnter}
use Rattle.shared_procs.proofs.Common.{◌≡◌, ℕ, zero, suc, ◌+◌, ◌-◌, ◌/◌, ◌%◌, ◌++◌, Bool, true, false, cond, eqb, inl, inr, List, [], ◌∷◌, Option, Some, None, refl, sym, ap, ◌∙◌, subst, arith, all_stored, AllByRecursion, AllWritable, by_call, by_effect, by_outcome, call_writes, called_here, can_write, cases_lt, Choice, closing, cond_both, Done, done_drain_of, done_exec_by, done_of, each_byte, each_byte-fails, Effect, End, event_writes, false≢true, fault_by, fault_in, fetched, filter, has_handler, Here, is_call, is_in_segment, is_reserved, is_shared, is_storable, is_writable, Neighbour, next_effect, next_fault, or_in_segment, Outcome, outcome, outcome_of, Plain, reached, Regs, runs, SEGMENT_AT, SEGMENT_SIZE, Store, Stored, view_of_all, waiting_below, waiting_here, Write, Pages, permission_at}
use Rattle.shared_procs.proofs.Entered.{shared_both, stored_app}
use Rattle.shared_procs.proofs.PairEvents.{IsClear, hidden_writes}
use Rattle.shared_procs.proofs.PrivateReservations.{IsInside}
use Rattle.shared_procs.proofs.Segments.{inside_from, inside_to}

abbrev pub AreInside : List Write → Type 0
AreInside ws = AllByRecursion IsInside (filter is_shared ws)

all_both : (xs ys : List Write) → AllByRecursion IsInside xs → AllByRecursion IsInside ys → AllByRecursion IsInside (xs ++ ys)
all_both [] ys p q = q
all_both (x ∷ xs) ys p q = (p.0, all_both xs ys p.1 q)

pub inside_both : (ws vs : List Write) → AreInside ws → AreInside vs → AreInside (ws ++ vs)
inside_both ws vs one other = subst (AllByRecursion IsInside) (sym (shared_both ws vs)) (all_both (filter is_shared ws) (filter is_shared vs) one other)

module _ (p : Pages) (clear : IsClear p) (other : Neighbour) where
  -- right behind the segment no byte can be written
  not_behind : or_in_segment (Some other) (λ a. can_write (permission_at p a)) (SEGMENT_AT + SEGMENT_SIZE) ≡ false
  not_behind = ap can_write (clear ((SEGMENT_AT + SEGMENT_SIZE) / 4096) (omega arith, omega arith))

  store_inside : (w : Store) → MayEnter (Some other) p w → is_in_segment w.at ≡ true → IsInside (Stored w)
  store_inside w may is =
      let from = inside_from w.at is in
      let to = inside_to w.at is in (
        from,
        elim (cases_lt (SEGMENT_AT + SEGMENT_SIZE) (w.at + w.size)) [
          | inl past ↦
              let k = SEGMENT_AT + SEGMENT_SIZE - w.at in
              let there : w.at + k ≡ SEGMENT_AT + SEGMENT_SIZE = omega arith in
              let no = ap (or_in_segment (Some other) (λ a. can_write (permission_at p a))) there ∙ not_behind in
              absurd
              (false≢true
              (sym (each_byte-fails (or_in_segment (Some other) (λ a. can_write (permission_at p a))) w.at w.size k (omega arith) no) ∙ may))
          | inr within ↦ within
        ],
      )

  pub stores_inside : (ws : List Store) → AllByRecursion (MayEnter (Some other) p) ws → AreInside (all_stored ws)
  stores_inside [] may = tt
  stores_inside (w ∷ ws) may = by (is_in_segment w.at) refl (stores_inside ws may.1)
    where
      by : (b : Bool) → is_in_segment w.at ≡ b → AreInside (all_stored ws)
          → AllByRecursion IsInside (cond b (Stored w ∷ filter is_shared (all_stored ws)) (filter is_shared (all_stored ws)))
      by true is rest = (store_inside w may.0 is, rest)
      by false is rest = rest

-- the kernel writes on pages alone, of which none lies in the segment; an instruction, where it makes no fault
module _ (here : Here) (clear : IsClear here.kernel.pages) where
  pub kernel_inside : (ws : List Write) → AllWritable (is_writable here) ws → AreInside ws
  kernel_inside ws all = subst (AllByRecursion IsInside) (sym (hidden_writes here clear ws all)) tt

  -- AN INSTRUCTION

  -- an AMO, and an SC, makes no fault where each of its bytes can be written
  aligned_may : (aligned may : Bool) → cond aligned (cond may None (Some SIGSEGV)) (Some SIGBUS) ≡ None → may ≡ true
  aligned_may true true none = refl
  aligned_may true false none = cc
  aligned_may false may none = cc

  abbrev AllMay : List Store → Type 0
  AllMay ws = AllByRecursion (MayEnter here.beside here.kernel.pages) ws

  may_enter : (view : ℕ → Option ℕ) (regs : Regs) (pc : ℕ) (reserved : Option ℕ) (e : Effect) → fault_in (reached here) (is_storable here) e ≡ None
      → AllMay (outcome view regs pc reserved e).entered
  may_enter view regs pc reserved (effect.Amo op at size value rd) none =
      (aligned_may (eqb (at % size) 0) (each_byte (is_storable here) at size) none, tt)
  may_enter view regs pc reserved (effect.Sc at size value rd) none =
      cond_both (is_reserved reserved at) _ _ (λ (o : Outcome). AllMay o.entered)
      (λ made. (aligned_may (eqb (at % size) 0) (each_byte (is_storable here) at size) none, tt)) (λ made. tt)
  may_enter view regs pc reserved e none = tt

  module _ (other : Neighbour) (its : here.beside ≡ Some other) where
    all_inside_here : (ws : List Store) → AllMay ws → AreInside (all_stored ws)
    all_inside_here ws may =
        stores_inside here.kernel.pages clear other ws (subst (λ o. AllByRecursion (MayEnter o here.kernel.pages) ws) its may)

    abbrev IsDoneInside : Done → Type 0
    IsDoneInside d = AreInside d.entered

    effect_inside : (t : ℕ) (fault : Option ℕ) (o : Option Effect) → next_fault here t ≡ fault → next_effect here t ≡ o
        → AreInside (by_effect here t fault o).entered
    effect_inside t (Some signal) o faults is = cond_both (has_handler here t signal) _ _ IsDoneInside (λ handled. tt) (λ killed. tt)
    effect_inside t None None none is = tt
    effect_inside t None (Some e) none is =
        let f = here.file t in
        let no_fault : fault_in (reached here) (is_storable here) e ≡ None =
        sym (ap (fault_by (reached here) (is_storable here) f.pc (fetched here.setting.program.pages f.pc)) is) ∙ none in
        cond_both (is_call e) (by_call here (called_here here t)) (by_outcome here t (outcome_of here t e)) IsDoneInside
        (λ calls. kernel_inside (called_here here t).entered (call_writes here t))
        (λ calls. all_inside_here (outcome_of here t e).entered (may_enter (view_of_all here) f.file f.pc here.reserved e no_fault))

    exec_inside : (r : Option ℕ) → AreInside (done_exec_by here r).entered
    exec_inside None = tt
    exec_inside (Some t) = effect_inside t (next_fault here t) (next_effect here t) refl refl

    drain_inside : (ws : List Store) → AllMay ws → AreInside (done_drain_of here ws).entered
    drain_inside [] may = tt
    drain_inside (w ∷ ws) may = all_inside_here (w ∷ []) (may.0, tt)

    pub done_inside : (c : Choice) → AllMay (waiting_here here) → AreInside (done_of c here).entered
    done_inside asked.Exec within = exec_inside (runs here)
    done_inside asked.Drain within = drain_inside (waiting_here here) within
    done_inside c within = kernel_inside (done_of c here).entered (event_writes here c (λ e. cc) (λ e. cc))

    -- what waits on the harts of a process that ends
    below_may : (x : Plain) (n : ℕ) → ((k : ℕ) → AllMay (x.waiting k))
        → AreInside (all_stored (waiting_below x n))
    below_may x zero within = tt
    below_may x (suc n) within =
        subst AreInside (sym (stored_app (waiting_below x n) (x.waiting n)))
        (inside_both (all_stored (waiting_below x n)) (all_stored (x.waiting n)) (below_may x n within) (all_inside_here (x.waiting n) (within n)))

    pub closing_inside : (x : Plain) (harts : ℕ) (o : Option End) → ((k : ℕ) → AllMay (x.waiting k))
        → AreInside (all_stored (closing harts x o))
    closing_inside x harts None within = tt
    closing_inside x harts (Some e) within = below_may x harts within
