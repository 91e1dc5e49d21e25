-- What is read of a hart says whether its thread settles.
use Rattle.std.proofs.Common.{◌≡◌, ℕ, ◌&&◌, Bool, true, false, Option, Some, None, refl, sym, ap, ◌∙◌, subst}
use Rattle.std.specs.Option.{option_and_then, option_map_or}
use Rattle.mach_types.specs.Kernel.Areas.{area_of}
use Rattle.mach_types.specs.Kernel.Threads.{running_on}
use Rattle.mach_types.specs.declared.sequences.Area.{Area}
use Rattle.mach_types.specs.declared.threads.Saved.{Saved}
use Rattle.rv_inst.specs.declared.effects.Effect.{Effect}
use Rattle.block_model.specs.Here.{Here, runs, view}
use Rattle.block_model.specs.Instruction.{next_effect}
use Rattle.block_model.specs.Plain.{Plain, here_in_plain}
use Rattle.block_model.specs.Sequences.{area_here}
use Rattle.block_model.specs.Setting.{Setting}
use Rattle.block_model.specs.Tables.{IsTables}
use Rattle.block_model.proofs.Laws.{running_is}
use Rattle.local_steps.specs.LocalSteps.{IsLocalStep, local_after, seen_by, seen_in}
use Rattle.local_steps.specs.Resting.{IsPast, RestsOutside, looked}
use Rattle.settling.specs.Glances.{glance_in, is_past}
use Rattle.settling.specs.LocalFiles.{local_file}
use Rattle.settling.specs.Settles.{MaySettle, are_past, is_settling_by, is_settling_here}
use Rattle.settling.proofs.Descriptors.{past_is}

pub both : (a b : Bool) → a && b ≡ true → (a ≡ true) × (b ≡ true)
both true true is = (refl, refl)
both true false is = cc
both false b is = cc

-- a local step, by its effect
step_by : (s : Setting) (f g : Saved) (o : Option Effect) → next_effect s.program.pages f ≡ o → option_and_then (λ e. local_after e f) o ≡ Some g → IsLocalStep s f g
step_by s f g None is leaves = cc
step_by s f g (Some e) is leaves = record { effect = e; is = is; leaves = leaves }

module _ (s : Setting) (p : Plain) (h : ℕ) (tables : IsTables s.limits.harts p.kernel.threads p.kernel.scheduling) where
  abbrev here : Here
  here = here_in_plain s p h

  seen_here : (t : ℕ) → running_on h p.kernel.threads ≡ Some t → seen_by t p ≡ view here
  seen_here t at = ap (λ o. seen_in p o) (running_is s.limits.harts h t p.kernel.threads p.kernel.scheduling tables at)

  past_there : (t : ℕ) (pc : ℕ) (area : Area) → running_on h p.kernel.threads ≡ Some t → is_past (glance_in (view here) area) pc ≡ true → IsPast (looked (seen_by t p) area) pc
  past_there t pc area at past = subst (λ (byte : ℕ → Option ℕ). IsPast (looked byte area) pc) (sym (seen_here t at)) (past_is (view here) area pc past)

  rests_by : (t : ℕ) (g : Saved) (o : Option Area) → area_of t p.kernel.areas ≡ o → running_on h p.kernel.threads ≡ Some t
      → option_map_or (λ area. are_past (view here) area (p.file t).pc g.pc) o true ≡ true
      → (threads : ℕ → Bool) → threads t ≡ true → RestsOutside (λ u. threads u ≡ true) t g p
  rests_by t g None none at past threads may = record {
    may = may;
    before = λ area is. let bad : None ≡ Some area = sym none ∙ is in absurd cc;
    after = λ area is. let bad : None ≡ Some area = sym none ∙ is in absurd cc;
  }
  rests_by t g (Some own) has at past threads may =
      let two = both (is_past (glance_in (view here) own) (p.file t).pc) (is_past (glance_in (view here) own) g.pc) past in
      record {
        may = may;
        before = λ area is.
            let same : own ≡ area = (let e : Some own ≡ Some area = sym has ∙ is in cc) in
            subst (λ (x : Area). IsPast (looked (seen_by t p) x) (p.file t).pc) same (past_there t (p.file t).pc own at two.0);
        after = λ area is.
            let same : own ≡ area = (let e : Some own ≡ Some area = sym has ∙ is in cc) in
            subst (λ (x : Area). IsPast (looked (seen_by t p) x) g.pc) same (past_there t g.pc own at two.1);
      }

  by_file : (t : ℕ) (o : Option Saved) → local_file s.program.pages (p.file t) ≡ o → running_on h p.kernel.threads ≡ Some t
      → option_map_or (λ g. option_map_or (λ area. are_past (view here) area (p.file t).pc g.pc) (area_here here t) true) o false ≡ true → MaySettle s p h
  by_file t None none at is = cc
  by_file t (Some g) leaves at is = record {
    thread = t;
    file = g;
    runs = at;
    local = step_by s (p.file t) g (next_effect s.program.pages (p.file t)) refl leaves;
    rests = rests_by t g (area_of t p.kernel.areas) refl at is;
  }

  by_thread : (o : Option ℕ) → running_on h p.kernel.threads ≡ o → is_settling_by here o ≡ true → MaySettle s p h
  by_thread None at is = cc
  by_thread (Some t) at is = by_file t (local_file s.program.pages (p.file t)) refl at is

  pub may_settle : is_settling_here here ≡ true → MaySettle s p h
  may_settle is = by_thread (runs here) refl is
