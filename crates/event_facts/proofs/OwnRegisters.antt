-- The registers of the thread that made an event: those that are seen after it, and where none is told.
use Rattle.std.proofs.Common.{◌≡◌, ℕ, List, [], ◌∷◌, refl, ap, ◌∙◌, eqb, Bool, true, false, cond, Option, Some, None}
use Rattle.std.proofs.lemmas.Bool.{eqb-true}
use Rattle.std.specs.List.{range_with_len}
use Rattle.mach_types.proofs.Laws.{eqb_same}
use Rattle.mach_types.specs.Registers.{register}
use Rattle.mach_types.specs.declared.registers.Regs.{Regs}
use Rattle.mach_types.specs.declared.sequences.Outcome.{Outcome}
use Rattle.mach_types.specs.declared.sequences.Outcome.TheVariants as comes_to
use Rattle.mach_types.specs.declared.threads.Saved.{Saved}
use Rattle.mach_types.specs.declared.threads.ThreadState.{ThreadState}
use Rattle.mach_types.specs.declared.threads.ThreadState.TheVariants.{Ready, Running, Waiting}
use Rattle.block_model.specs.Here.{Here}
use Rattle.block_model.specs.History.{file_among}
use Rattle.block_model.specs.Sequences.{files_interrupted}
use Rattle.fact_types.specs.declared.facts.Fact.{Fact}
use Rattle.fact_types.specs.declared.facts.Fact.TheVariants.{Register}
use Rattle.event_facts.specs.Calls.{is_it}
use Rattle.event_facts.specs.Facts.{changed_registers, register_fact, register_facts, registers_seen}
use Rattle.event_facts.specs.OtherRegisters.{where_off}
use Rattle.event_facts.proofs.Lists.{nothing_in_all}

-- where no register changed, none is told
none_changed : (r : Regs) → register_facts r r ≡ []
none_changed r =
    nothing_in_all (register_fact r r) (range_with_len 0 32) (λ n. ap (λ b. let l : List Fact = cond b [] (Register n (register r n) ∷ []) in l) (eqb_same (register r n)))

none_told : (r : Regs) (x : Saved) → x.file ≡ r → register_facts r x.file ≡ []
none_told r x same = ap (register_facts r) same ∙ none_changed r

-- wherever the thread is
off_told : (st : Option ThreadState) (r : Regs) (x : Saved) → x.file ≡ r → changed_registers r (where_off st x) ≡ []
off_told None r x same = refl
off_told (Some Ready) r x same = none_told r x same
off_told (Some (Running h)) r x same = refl
off_told (Some (Waiting at)) r x same = none_told r x same

pub none_seen : (runs : Option ℕ) (st : Option ThreadState) (t : ℕ) (r : Regs) (x : Saved) → x.file ≡ r → changed_registers r (registers_seen runs st t x) ≡ []
none_seen runs st t r x same = go (is_it t runs)
  where
    go : (b : Bool) → changed_registers r (cond b (Some x.file) (where_off st x)) ≡ []
    go true = none_told r x same
    go false = off_told st r x same

-- of one that runs on its hart all are seen
pub seen_there : (runs : Option ℕ) (st : Option ThreadState) (t : ℕ) (x : Saved) → runs ≡ Some t → registers_seen runs st t x ≡ Some x.file
seen_there runs st t x is =
    ap (λ q. registers_seen q st t x) is ∙ ap (λ b. let o : Option Regs = cond b (Some x.file) (where_off st x) in o) (eqb_same t)

-- an interruption sets no register but the pc
pub interrupted_same : (here : Here) (u t : ℕ) (o : Outcome) → (file_among (files_interrupted here u o) t (here.file t)).file ≡ (here.file t).file
interrupted_same here u t comes_to.Nothing = refl
interrupted_same here u t comes_to.Cleared = refl
interrupted_same here u t (comes_to.Aborted at) = go (eqb u t) refl
  where
    go : (b : Bool) → eqb u t ≡ b → (cond b (record (here.file u) { pc = at }) (here.file t)).file ≡ (here.file t).file
    go true is = ap (λ v. (here.file v).file) (eqb-true u t is)
    go false is = refl
interrupted_same here u t (comes_to.Killed why) = refl
