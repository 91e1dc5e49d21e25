-- What a thread sees and its next local step are the same at places that are the same.
use Rattle.std.proofs.Common.{◌≡◌, ℕ, ◌<◌, ◌/◌, inl, inr, Bool, cond, Option, Some, None, refl, sym, ap, ◌∙◌, subst}
use Rattle.std.specs.Option.{option_map}
use Rattle.mach_types.specs.declared.address_space.TheConstants.{PAGE_SIZE}
use Rattle.mach_types.specs.Kernel.Areas.{area_of, pointer_of}
use Rattle.mach_types.specs.Kernel.Pages.{can_read, can_write, permission_of}
use Rattle.mach_types.specs.Kernel.Signals.{Signalling, action_of, is_handler, next_for}
use Rattle.mach_types.specs.Kernel.Threads.{Threads, running_on, state_of}
use Rattle.mach_types.specs.Registers.{with_register}
use Rattle.mach_types.specs.declared.events.Choice.{Choice}
use Rattle.mach_types.specs.declared.sequences.Area.{Area}
use Rattle.mach_types.specs.declared.threads.Saved.{Saved}
use Rattle.mach_types.specs.declared.threads.ThreadState.{ThreadState}
use Rattle.mach_types.specs.declared.threads.ThreadState.TheVariants.{Ready, Running, Waiting}
use Rattle.rv_inst.specs.Execution.{is_readable, seen_byte, word_seen}
use Rattle.rv_inst.specs.Memory.{loaded}
use Rattle.rv_inst.specs.Words.{sum_64}
use Rattle.block_model.specs.Here.{is_storable, memory_in}
use Rattle.block_model.specs.Instruction.{next_effect, next_fault}
use Rattle.block_model.specs.Plain.{Plain, here_in_plain}
use Rattle.block_model.specs.Setting.{Setting}
use Rattle.block_model.specs.Sights.{effect_on, fault_on}
use Rattle.block_model.specs.Tables.{IsTables}
use Rattle.process.specs.Harts.{file_of, file_on}
use Rattle.local_steps.specs.LocalSteps.{IsLoadStep, IsLocalStep, IsStepAt, seen_by, seen_in}
use Rattle.local_steps.specs.Resting.{IsPast, LeavesAreas, RestsOutside, looked}
use Rattle.local_steps.specs.Runs.{next_of}
use Rattle.prompt_runs.specs.Owed.{traps, traps_by}
use Rattle.prompt_runs.specs.Prompt.{IsInTime, due}
use Rattle.same_places.specs.Places.{IsSamePlace}

-- a byte that is mapped alike can be read alike
readable : (o r : Option ℕ) (x y : ℕ) → r ≡ o → option_map (λ (n : ℕ). y) r ≡ option_map (λ (n : ℕ). x) o → cond (can_read r) (Some y) None ≡ cond (can_read o) (Some x) None
readable None None x y same byte = refl
readable (Some n) (Some k) x y same byte = λ i. cond (can_read (same i)) (byte i) None
readable None (Some k) x y same byte = absurd cc
readable (Some n) None x y same byte = absurd cc

module _ (s : Setting) (p q : Plain) (same : IsSamePlace s p q) where
  pub runs_too : (h t : ℕ) → running_on h p.kernel.threads ≡ Some t → running_on h q.kernel.threads ≡ Some t
  runs_too h t at = ap (running_on h) same.tables.threads ∙ at

  -- the file of a thread that runs
  pub file_same : (h t : ℕ) → h < s.limits.harts → running_on h p.kernel.threads ≡ Some t → q.file t ≡ p.file t
  file_same h t lt at =
      sym (ap (λ o. file_on (here_in_plain s q h) o) (runs_too h t at)) ∙ ap file_of (same.harts h lt) ∙ ap (λ o. file_on (here_in_plain s p h) o) at

  memory_same : memory_in q.kernel q.byte ≡ memory_in p.kernel p.byte
  memory_same = λ i a. readable (permission_of p.kernel.pages.runs (a / PAGE_SIZE)) (permission_of q.kernel.pages.runs (a / PAGE_SIZE)) (p.byte a) (q.byte a)
      (same.pages.permissions (a / PAGE_SIZE)) (same.pages.bytes a) i

  -- whether the next instruction of a hart's thread traps
  storable_same : (h : ℕ) → is_storable (here_in_plain s q h) ≡ is_storable (here_in_plain s p h)
  storable_same h = λ i a. can_write (same.pages.permissions (a / PAGE_SIZE) i)

  traps_by_thread : (h : ℕ) → h < s.limits.harts → (o : Option ℕ) → running_on h p.kernel.threads ≡ o
      → traps_by (effect_on (here_in_plain s q h) o) (fault_on (here_in_plain s q h) o) ≡ traps_by (effect_on (here_in_plain s p h) o) (fault_on (here_in_plain s p h) o)
  traps_by_thread h lt None at = refl
  traps_by_thread h lt (Some t) at = λ i. traps_by (next_effect s.program.pages (file_same h t lt at i)) (next_fault s.program.pages (memory_same i) (storable_same h i) (file_same h t lt at i))

  pub traps_same : (h : ℕ) → h < s.limits.harts → traps (here_in_plain s q h) ≡ traps (here_in_plain s p h)
  traps_same h lt =
      let here = here_in_plain s q h in
      ap (λ (ts : Threads). traps_by (effect_on here (running_on h ts)) (fault_on here (running_on h ts))) same.tables.threads ∙ traps_by_thread h lt (running_on h p.kernel.threads) refl

  -- and what comes in time
  pub in_time_same : (owed other : ℕ → Bool) (h : ℕ) (c : Choice) → h < s.limits.harts → other h ≡ owed h → IsInTime p owed h c → IsInTime q other h c
  in_time_same owed other h c lt is in_time owes apart =
      let awaited : q.awaits h ≡ p.awaits h = λ i. (same.harts h lt i).waits in
      let stores : due (q.waiting h) ≡ due (p.waiting h) = λ i. due (same.harts h lt i).buffer in
      in_time (sym is ∙ owes) (sym awaited ∙ apart) ∙ sym stores

  pub in_time_back : (owed other : ℕ → Bool) (h : ℕ) (c : Choice) → h < s.limits.harts → other h ≡ owed h → IsInTime q other h c → IsInTime p owed h c
  in_time_back owed other h c lt is in_time owes apart =
      let awaited : q.awaits h ≡ p.awaits h = λ i. (same.harts h lt i).waits in
      let stores : due (q.waiting h) ≡ due (p.waiting h) = λ i. due (same.harts h lt i).buffer in
      in_time (is ∙ owes) (awaited ∙ apart) ∙ stores

  module _ (tables : IsTables s.limits.harts p.kernel.threads p.kernel.scheduling) where
    seen_so : (t : ℕ) (o : Option ThreadState) → state_of t p.kernel.threads ≡ o → seen_in q o ≡ seen_in p o
    seen_so t None is = memory_same
    seen_so t (Some Ready) is = memory_same
    seen_so t (Some (Waiting at)) is = memory_same
    seen_so t (Some (Running k)) is = λ i. seen_byte ((same.harts k.0 (tables.below t k is) i).buffer) (memory_same i)

    -- the bytes as a thread sees them
    pub seen_same : (t : ℕ) → seen_by t q ≡ seen_by t p
    seen_same t = ap (λ (ts : Threads). seen_in q (state_of t ts)) same.tables.threads ∙ seen_so t (state_of t p.kernel.threads) refl

    load_same : (private : ℕ → ℕ → Bool) (t : ℕ) (g : Saved) → q.file t ≡ p.file t → IsLoadStep s private t g p → IsLoadStep s private t g q
    load_same private t g file load =
        let seen = seen_same t in
        record {
          at = load.at;
          size = load.size;
          is_signed = load.is_signed;
          rd = load.rd;
          is = ap (λ (f : Saved). next_effect s.program.pages f) file ∙ load.is;
          own = load.own;
          can_read = ap (λ (byte : ℕ → Option ℕ). is_readable byte load.at load.size) seen ∙ load.can_read;
          leaves = load.leaves ∙ (λ i. record {
            file = with_register ((sym file) i).file load.rd (loaded (word_seen ((sym seen) i) load.at load.size) load.size load.is_signed);
            pc = sum_64 ((sym file) i).pc 4;
          });
        }

    -- its next step
    pub step_same : (private : ℕ → ℕ → Bool) (t : ℕ) (g : Saved) → q.file t ≡ p.file t → IsStepAt s private t g p → IsStepAt s private t g q
    step_same private t g file (inl local) = inl (subst (λ (f : Saved). IsLocalStep s f g) (sym file) local)
    step_same private t g file (inr load) = inr (load_same private t g file load)

    -- and that it rests outside
    pub rests_same : (threads : ℕ → Type 0) (t : ℕ) (g : Saved) → q.file t ≡ p.file t → RestsOutside threads t g p → RestsOutside threads t g q
    rests_same threads t g file rests =
        let seen = seen_same t in
        let has = λ (area : Area) (is : area_of t q.kernel.areas ≡ Some area). sym (ap (area_of t) same.tables.areas) ∙ is in
        record {
          may = rests.may;
          before = λ area is. subst (λ (f : Saved). IsPast (looked (seen_by t q) area) f.pc) (sym file)
              (subst (λ (byte : ℕ → Option ℕ). IsPast (looked byte area) (p.file t).pc) (sym seen) (rests.before area (has area is)));
          after = λ area is. subst (λ (byte : ℕ → Option ℕ). IsPast (looked byte area) g.pc) (sym seen) (rests.after area (has area is));
        }

-- an event leaves areas alone at places that are the same
module _ (s : Setting) (threads : ℕ → Type 0) (private : ℕ → ℕ → Bool) (p q : Plain) (a : ℕ × Choice) (same : IsSamePlace s p q)
    (tables : IsTables s.limits.harts p.kernel.threads p.kernel.scheduling) (next : IsSamePlace s (next_of s p a) (next_of s q a))
    (next_tables : IsTables s.limits.harts (next_of s p a).kernel.threads (next_of s p a).kernel.scheduling) where
  seen : (t : ℕ) → seen_by t q ≡ seen_by t p
  seen t = seen_same s p q same tables t

  seen_next : (t : ℕ) → seen_by t (next_of s q a) ≡ seen_by t (next_of s p a)
  seen_next t = seen_same s (next_of s p a) (next_of s q a) next next_tables t

  runs_back : (h t : ℕ) → running_on h q.kernel.threads ≡ Some t → running_on h p.kernel.threads ≡ Some t
  runs_back h t at = sym (ap (running_on h) same.tables.threads) ∙ at

  pub calm_same : LeavesAreas s threads private p a → LeavesAreas s threads private q a
  calm_same calm = (
    λ is t signal may at pending.
        ap (λ (g : Signalling). is_handler (action_of signal g)) same.tables.signals
        ∙ calm.0 is t signal may (runs_back a.0 t at) (sym (ap (next_for t) same.tables.signals) ∙ pending),
    λ t area may is other.
        elim (calm.1 t area may (sym (ap (area_of t) same.tables.areas) ∙ is) (λ exec at. other exec (runs_too s p q same a.0 t at))) [
          | inl stays ↦ inl (ap (λ (byte : ℕ → Option ℕ). looked byte area) (seen_next t) ∙ stays ∙ ap (λ (byte : ℕ → Option ℕ). looked byte area) (sym (seen t)))
          | inr null ↦ inr (ap (λ (byte : ℕ → Option ℕ). pointer_of byte area) (seen_next t) ∙ null)
        ],
    λ t b may own other.
        ap (λ (byte : ℕ → Option ℕ). byte b) (seen_next t) ∙ calm.2 t b may own (λ exec at. other exec (runs_too s p q same a.0 t at))
        ∙ ap (λ (byte : ℕ → Option ℕ). byte b) (sym (seen t)),
  )
