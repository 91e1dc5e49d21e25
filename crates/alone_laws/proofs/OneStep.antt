-- What one instruction of a thread does, where it uses bytes that can be used: what it would do alone.
use Rattle.std.proofs.Common.{◌≡◌, ℕ, ◌<◌, List, [], ◌∷◌, refl, ap, ◌∙◌, Bool, true, false, eqb}
use Rattle.std.proofs.Common.{Some}
use Rattle.mach_types.specs.Bytes.{each_byte, word_at}
use Rattle.mach_types.specs.Events.{choice_with}
use Rattle.mach_types.specs.declared.events.Kind.TheVariants as kind
use Rattle.mach_types.specs.declared.registers.Regs.{Regs}
use Rattle.mach_types.specs.declared.threads.Saved.{Saved}
use Rattle.mach_types.specs.declared.user_memory.Store.{Store}
use Rattle.mach_types.specs.Registers.{register}
use Rattle.rv_inst.specs.Meaning.{meaning}
use Rattle.rv_inst.specs.Memory.{loaded}
use Rattle.rv_inst.specs.Words.{sum_64}
use Rattle.rv_inst.specs.declared.effects.Effect.{Effect}
use Rattle.rv_inst.specs.declared.effects.Effect.TheVariants as effect
use Rattle.rv_inst.specs.declared.instruction.Inst.{Inst}
use Rattle.alone.specs.Alone.{IsWithin, next_stand}
use Rattle.alone.specs.Temps.{IsAt, IsLike, put}
use Rattle.alone.proofs.Laws.{at_load, at_next, at_store, effect_there, word_unchanged}
use Rattle.block_model.specs.History.{Event, History, file, running}
use Rattle.block_model.specs.Run.{IsRunHistory}
use Rattle.block_model.specs.Setting.{Setting}
use Rattle.block_model.proofs.Laws.{has_registers, step_of}
use Rattle.alone_laws.specs.Spans.{IsUsable, alone_from, code_of, seen_at}
use Rattle.alone_laws.proofs.Steps.{standing_exec, standing_start}

module _ (s : Setting) (h t : ℕ) (e : Event) (before : History) (run : IsRunHistory s (e ∷ before))
    (own : e.entry.hart.0 ≡ h) (executes : e.entry.kind ≡ kind.Exec) (runs : running s h before ≡ Some t)
    (words : ℕ → Bool) (usable : IsUsable s words before) (may : ℕ → Bool)
    (at : ℕ) (pc : (file s t before).pc ≡ at)
    (i : Inst) (there : code_of s.program.pages at ≡ Some i) where
  abbrev old : Regs
  old = (file s t before).file

  -- the thread runs on, at another pc, with other registers of those that may change
  pub record IsStepped (to : ℕ) (temps : ℕ → ℕ) : Type 0 where
    pub runs_on : running s h (e ∷ before) ≡ Some t
    pub goes_to : (file s t (e ∷ before)).pc ≡ to
    pub like : IsLike may old temps (file s t (e ∷ before)).file

  stands_here : IsAt may old at (register old) [] (alone_from s h t before 0)
  stands_here = record {
    pc = pc;
    like = record {
      temp = λ r is. refl;
      rest = λ r is. refl;
      many = has_registers s before run.0 t;
    };
    executed = refl;
  }

  stepped : (does : Effect) (to : ℕ) (temps : ℕ → ℕ) (stores : List Store)
      → ((f : Regs) → IsLike may old (register old) f → meaning i f at ≡ does) → IsWithin words does
      → IsAt may old to temps stores
      (next_stand (code_of s.program.pages) (seen_at s h before) (alone_from s h t before 0))
      → IsStepped to temps
  stepped does to temps stores means within now =
      let next = standing_exec s words h t before e before (alone_from s h t before 0) does
      (step_of s e before run) own (ap (λ k. choice_with k e.entry) executes) usable
      (effect_there (code_of s.program.pages) may old at (register old) [] (alone_from s h t before 0) i does
      stands_here there means) within
      (standing_start s words h t before runs) in
      record {
        runs_on = next.runs;
        goes_to = ap (λ (f : Saved). f.pc) next.file ∙ now.pc;
        like = record {
          temp = λ r is. ap (λ (f : Saved). register f.file r) next.file ∙ now.like.temp r is;
          rest = λ r is. ap (λ (f : Saved). register f.file r) next.file ∙ now.like.rest r is;
          many = has_registers s (e ∷ before) run t;
        };
      }

  -- by an instruction that sets a register, by a load, and by a store
  pub step_next : (rd v to : ℕ) → ((f : Regs) → IsLike may old (register old) f → meaning i f at ≡ effect.Next rd v
      to)
      → may rd ≡ true → eqb rd 0 ≡ false → rd < 32 → IsStepped to (put rd v (register old))
  step_next rd v to means may_change some low =
      stepped (effect.Next rd v to) to (put rd v (register old)) [] means tt
      (at_next (code_of s.program.pages) (seen_at s h before) may old at (register old) []
      (alone_from s h t before 0) i rd v to stands_here there means may_change some low)

  pub step_load : (from size rd v to : ℕ) (is_signed : Bool)
      → ((f : Regs) → IsLike may old (register old) f → meaning i f at ≡ effect.Load from size is_signed rd)
      → each_byte words from size ≡ true → word_at (seen_at s h before) from size ≡ Some v
      → may rd ≡ true → eqb rd 0 ≡ false → rd < 32 → sum_64 at 4 ≡ to
      → IsStepped to (put rd (loaded v size is_signed) (register old))
  step_load from size rd v to is_signed means within reads may_change some low on =
      stepped (effect.Load from size is_signed rd) to (put rd (loaded v size is_signed) (register old)) [] means
      within
      (at_load (code_of s.program.pages) (seen_at s h before) may old at (register old) []
      (alone_from s h t before 0) i from size rd v to is_signed stands_here there means
      (word_unchanged (seen_at s h before) from size ∙ reads) may_change some low on)

  pub step_store : (into size v to : ℕ)
      → ((f : Regs) → IsLike may old (register old) f → meaning i f at ≡ effect.Store into size v)
      → each_byte words into size ≡ true → sum_64 at 4 ≡ to → IsStepped to (register old)
  step_store into size v to means within on =
      stepped (effect.Store into size v) to (register old) (record { at = into; size = size; value = v } ∷ []) means
      within
      (at_store (code_of s.program.pages) (seen_at s h before) may old at (register old) []
      (alone_from s h t before 0) i into size v to stands_here there means on)
