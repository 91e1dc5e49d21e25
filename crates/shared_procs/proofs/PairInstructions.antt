-- An instruction of a thread of a process of a pair, over its pages and the segment.
use Rattle.rv_inst.specs.Sizes.{HasAccessSizes}
use Rattle.block_model.specs.Instruction as instruction
use Rattle.process.specs.ExecGates.{IsNextAt}
use Rattle.process.proofs.PairLaws.{IsPerforming, done_fault, performing_over}
use Rattle.shared_procs.proofs.Common.{◌≡◌, ℕ, Bool, false, not, inr, List, Option, Some, None, IfSome, get_or, refl, sym, ap, ◌∙◌, subst, done_of, Effect, file_on, Half, half, HartState, HasNext, Here, here_two, is_call, is_storable, IsActing, IsPerformedAt, IsPlace, IsPlanned, IsStep, IsTied, Next, next_effect, next_fault, Pair, PairSetting, Parts, plain_next, reached, reached_in, refusal_exec_by, refusal_of, runs, setting, stand, storable_in, Exec, HasStep, IsSteppedAt}
use Rattle.shared_procs.proofs.EventFacts.{IsQuiet, fault_by}
use Rattle.shared_procs.proofs.PairEvents.{made_unshared}
use Rattle.shared_procs.proofs.PairMemory.{reached_is, storable_is}

-- the next instruction that was read, where no condition fails
pub step_of : (s : PairSetting) (m : Pair) (p : Bool) (h : ℕ) (next : Next) (mine other : Parts) → IsPlace (stand s m p) mine h
    → IsTied (setting s (not p)) (half (not p) m) other → IsNextAt (here_two s m p h) next → IfSome next.effect HasAccessSizes
    → refusal_of Exec (here_two s m p h) ≡ None → IsStep s m p h next mine other
step_of s m p h next mine other place beside is sizes free = go (runs (here_two s m p h)) refl free
  where
    go : (o : Option ℕ) → runs (here_two s m p h) ≡ o → refusal_exec_by (here_two s m p h) o ≡ None → IsStep s m p h next mine other
    go None at e = cc
    go (Some t) at e = record {
      place = place;
      beside = beside;
      thread = t;
      at = at;
      effect = is.effect ∙ ap (λ o. instruction.next_effect (setting s p).program.pages (file_on (here_two s m p h) o)) at;
      fault = is.fault
          ∙ ap (λ o. instruction.next_fault (setting s p).program.pages (reached (here_two s m p h)) (is_storable (here_two s m p h)) (file_on (here_two s m p h) o)) at;
      sizes = sizes;
      free = free;
    }

-- an instruction other than a call: its hart, what it does there, and what it asks for
pub performing : (s : PairSetting) (m : Pair) (p : Bool) (h : ℕ) (mine : Half) (segment : List ℕ) (other : Parts) (x : HartState) (e : Effect)
    → IsActing s m p h mine segment → (step : IsStep s m p h (plain_next e) mine.parts other) → x ≡ get_or mine.parts.harts.items h x → is_call e ≡ false
    → IsPerforming (reached_in segment mine.parts.pages) (storable_in mine.parts.pages) (stand s m p) mine.parts h step.thread x e
performing s m p h mine segment other x e acting step value other_one =
    performing_over (reached_in segment mine.parts.pages) (storable_in mine.parts.pages) (stand s m p) mine.parts h step.thread x e
    (reached_is s m p h mine segment acting) (storable_is s m p h mine segment acting) acting.place value step.at (sym step.fault) (sym step.effect) step.free other_one

-- the same step, read as another one
pub step_as : (s : PairSetting) (m : Pair) (p : Bool) (h : ℕ) (next n : Next) (mine other : Parts) → next ≡ n → IsStep s m p h next mine other
    → IsStep s m p h n mine other
step_as s m p h next n mine other same step = subst (λ (x : Next). IsStep s m p h x mine other) same step

pub step_there : (h : ℕ) (next n : Next) (mine other : Half) (segment : List ℕ) → next ≡ n → HasNext h next mine other segment → HasStep h n mine.parts other.parts
step_there h next n mine other segment same has = record {
  setting = has.setting;
  pair = has.pair;
  process = has.process;
  step = step_as has.setting has.pair has.process h next n mine.parts other.parts same has.step;
}

pub performed_as : (h : ℕ) (next n : Next) (mine other : Half) (segment : List ℕ) (mine' other' : Parts) → next ≡ n → IsSteppedAt h n mine.parts other.parts mine' other'
    → IsPerformedAt h next mine other segment (record mine { parts = mine' }) (record other { parts = other' }) segment
performed_as h next n mine other segment mine' other' same steps s m p acting step =
    made_unshared s m p h (done_of Exec (here_two s m p h)) mine other (record mine { parts = mine' }) (record other { parts = other' }) segment
    (steps s m p (step_as s m p h next n mine.parts other.parts same step)) acting.holds refl refl

-- a next instruction that makes no fault is there
pub none_there : (s : PairSetting) (m : Pair) (p : Bool) (h : ℕ) (next : Next) (mine other : Parts) → IsStep s m p h next mine other → next.effect ≡ None
    → next.fault ≡ None → ⊥
none_there s m p h next mine other step effect fault =
    let here = here_two s m p h in
    let t = step.thread in
    let file = here.file t in
    let none : next_effect here t ≡ None = sym step.effect ∙ effect in
    let fails : next_fault here t ≡ Some (instruction.fetch_fault file.pc (instruction.fetched here.setting.program.pages file.pc)) =
    ap (instruction.fault_by (reached here) (is_storable here) file.pc (instruction.fetched here.setting.program.pages file.pc)) none in
    let bad : None ≡ Some (instruction.fetch_fault file.pc (instruction.fetched here.setting.program.pages file.pc)) =
    sym fault ∙ step.fault ∙ fails in
    absurd cc

-- a fault reads nothing of the other process
pub fault_planned : (s : PairSetting) (m : Pair) (p : Bool) (h : ℕ) (effect : Option Effect) (signal : ℕ) (mine other : Parts)
    → IsStep s m p h (record { effect = effect; fault = Some signal }) mine other
    → IsPlanned (stand s m p) h (record { effect = effect; fault = Some signal })
fault_planned s m p h effect signal mine other step = record {
  thread = step.thread;
  at = step.at;
  effect = step.effect;
  fault = step.fault;
  sizes = step.sizes;
  free = step.free;
  own = inr (λ e is none. absurd cc);
}

-- and writes nothing
pub fault_quiet : (here : Here) (t signal : ℕ) → runs here ≡ Some t → next_fault here t ≡ Some signal → IsQuiet (done_of Exec here)
fault_quiet here t signal at fault = subst IsQuiet (sym (done_fault here t signal at fault)) (fault_by here t signal)
