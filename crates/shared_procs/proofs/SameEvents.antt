-- An own event of a process beside another one: what it does hangs on the process alone, and on what it
-- learns.
use Rattle.mach_types.specs.Bytes.{overlay}
use Rattle.mach_types.specs.Kernel.Areas.{area_of, interruption}
use Rattle.mach_types.specs.declared.sequences.Outcome.TheVariants as comes_to
use Rattle.block_model.specs.Events.Take.{took_and_interrupted}
use Rattle.shared_procs.proofs.Common.{◌≡◌, ℕ, Bool, true, false, cond, [], Option, Some, None, is_some, refl, sym, ap, ◌∙◌, by_call, by_outcome, call_number, called, called_here, Choice, Done, done_of, done_take_by, Here, interruption_here, is_in_segment, is_inside_here, is_writable, killed_in_call, kind_of, learnt_of, Learnt, memory, only_took, option_map, view_of_all, waiting_here}
use Rattle.shared_procs.proofs.OwnDeeds.{Calls, Executes, Keeps, LetsGo, OwnDeeds, Takes, is_run, own_deeds}
use Rattle.shared_procs.proofs.PrivateReservations.{private}
use Rattle.shared_procs.proofs.SameCalls.{AreSame, Around, beside, pick, same_call_of}
use Rattle.shared_procs.proofs.SameOutcomes.{outcome_alike}

-- what an event did to its process: not the harts that its barrier is about, and neither a reservation in the
-- segment nor what an interruption came to
abbrev pub left_with : Done → Option ℕ → Done
left_with d r = record d { reserved = r; barrier = None; interrupted = None }

abbrev pub own_part : Done → Done
own_part d = left_with d (private d.reserved)

-- it is the same, where it began a barrier in both, or in neither
abbrev pub AreDone : Done → Done → Type 0
AreDone d e = is_some d.barrier ≡ is_some e.barrier → own_part d ≡ own_part e

module _ (x : Here) (p q : Around) where
  abbrev a : Here
  a = beside x p

  abbrev b : Here
  b = beside x q

  same_outside : (at : ℕ) → is_in_segment at ≡ false → view_of_all a at ≡ view_of_all b at
  same_outside at out = by (is_in_segment at) out
    where
      by : (c : Bool) → c ≡ false
          → option_map (overlay (waiting_here x) at) (cond c (Some (p.other.shared at)) (memory x at))
          ≡ option_map (overlay (waiting_here x) at) (cond c (Some (q.other.shared at)) (memory x at))
      by true is = absurd cc
      by false is = refl

  called_same : (t : ℕ) → AreSame (called_here a t) (called_here b t)
  called_same t =
      pick (is_inside_here x t) (killed_in_call a) (called a t) (killed_in_call b) (called b t)
      (λ waits. refl) (same_call_of x p q (call_number x t) t)

  module _ (none : x.kernel.areas ≡ []) where
    comes_to_nothing : (t : ℕ) → interruption_here x t ≡ comes_to.Nothing
    comes_to_nothing t =
        ap (λ areas. interruption (memory x) (is_writable x) (area_of t areas) (x.file t).pc) none

    -- a thread without an area goes on whether a restart is asked or not
    taken : (z : Around) (restart : Bool) (r : Option ℕ)
        → own_part (done_take_by (beside x z) restart r) ≡ own_part (only_took x)
    taken z false r = refl
    taken z true None = refl
    taken z true (Some t) = ap (λ o. own_part (took_and_interrupted (beside x z) t o)) (comes_to_nothing t)

    same_done : {d e : Done} → OwnDeeds x p q d e → AreDone d e
    same_done (Keeps d kept) waits = ap (left_with d) kept
    same_done (LetsGo d) waits = refl
    same_done (Executes t e kept same) waits =
        ap (λ o. left_with (by_outcome a t o) o.reserved)
        (outcome_alike (view_of_all a) (view_of_all b) same_outside (x.file t).file (x.file t).pc p.reserved
        q.reserved kept e (ap (λ (l : Learnt). l.read) same) (ap (λ (l : Learnt). l.succeeded) same))
    same_done (Calls t) waits = ap (λ c. left_with (by_call a c) (private None)) (called_same t waits)
    same_done (Takes r) waits = taken p p.restart r ∙ sym (taken q q.restart r)

    pub own_done : (c : Choice) → (is_run c ≡ false → private p.reserved ≡ private q.reserved)
        → learnt_of (kind_of c) a ≡ learnt_of (kind_of c) b → AreDone (done_of c a) (done_of c b)
    own_done c kept same = same_done (own_deeds x p q c kept same)
