-- A thread that walks along a path stands on it.
use Rattle.std.proofs.Common.{◌≡◌, ℕ, ◌<◌, arith, Bool, true, Some}
use Rattle.std.proofs.lemmas.Bool.{ne_eqb}
use Rattle.mach_types.specs.Kernel.Areas.{is_inside}
use Rattle.mach_types.specs.declared.sequences.Seq.{Seq}
use Rattle.rv_inst.specs.declared.effects.Effect.{Effect}
use Rattle.alone.specs.Alone.{IsWithin, effect_at}
use Rattle.block_model.specs.History.{History, running}
use Rattle.block_model.specs.Run.{IsRunHistory}
use Rattle.block_model.specs.Setting.{Setting}
use Rattle.block_model.proofs.Laws.{step_of}
use Rattle.alone_laws.specs.Spans.{IsStanding, alone_from, code_of}
use Rattle.alone_laws.specs.Stretches.{Walks, begins, drains, executes, other, takes}
use Rattle.alone_laws.proofs.Steps.{standing_apart, standing_drain, standing_exec, standing_start}
use Rattle.alone_laws.proofs.Steps.{standing_take}

module _ (s : Setting) (words : ℕ → Bool) (range : Seq) (h t : ℕ) (begun : History)
    (runs : running s h begun ≡ Some t)
    (keeps : (n : ℕ) → ((k : ℕ) → k < n → is_inside range (alone_from s h t begun k).file.pc ≡ true)
    → is_inside range (alone_from s h t begun n).file.pc ≡ true
    → (does : Effect) × (effect_at (code_of s.program.pages) (alone_from s h t begun n).file ≡ Some does)
    × IsWithin words does) where
  -- as long as it is inside the range before each of its instructions
  abbrev StaysIn : ℕ → Type 0
  StaysIn n = (k : ℕ) → k < n → is_inside range (alone_from s h t begun k).file.pc ≡ true

  pub walked : (before : History) (n : ℕ) → IsRunHistory s before → Walks s words h begun before n → StaysIn n
      → IsStanding s words h t begun before (alone_from s h t begun n)
  walked before n run begins inside = standing_start s words h t begun runs
  walked before n run (other e rest m apart left was) inside =
      standing_apart s words h t begun e rest (alone_from s h t begun m) (step_of s e rest run)
      (ne_eqb e.entry.hart.0 h apart) left (walked rest m run.0 was inside)
  walked before n run (drains e rest m own is was) inside =
      standing_drain s words h t begun e rest (alone_from s h t begun m) (step_of s e rest run) own is
      (walked rest m run.0 was inside)
  walked before n run (takes e rest m own is quiet was) inside =
      standing_take s words h t begun e rest (alone_from s h t begun m) (step_of s e rest run) own is quiet
      (walked rest m run.0 was inside)
  walked before n run (executes e rest m own is usable was) inside =
      let does = keeps m (λ k lt. inside k (omega arith)) (inside m (omega arith)) in
      standing_exec s words h t begun e rest (alone_from s h t begun m) does.0 (step_of s e rest run) own is
      usable does.1 does.2
      (walked rest m run.0 was (λ k lt. inside k (omega arith)))
