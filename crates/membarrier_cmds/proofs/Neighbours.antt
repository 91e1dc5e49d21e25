-- Barriers beside a process of which no thread runs, and of two processes that are named in the other order.
use Rattle.std.proofs.Common.{◌≡◌, ℕ, ℤ, pos, zero, suc, ◌+◌, ◌^◌, Bool, true, false, not, ◌&&◌, ◌||◌, cond, eqb, Option, Some, None, refl, sym, ap, ◌∙◌}
use Rattle.std.specs.Option.{option_map_or}
use Rattle.mach_types.specs.Kernel.Barriers.{answer_of, asked, barrier_at, command, harts_that, is_about, is_target, refusal, targets}
use Rattle.mach_types.specs.Kernel.PairBarriers.{answer_beside, command_two, concerned, is_concerned}
use Rattle.mach_types.specs.Kernel.Scheduling.{has_hart}
use Rattle.mach_types.specs.declared.barriers.Answer.TheVariants.{Value}
use Rattle.mach_types.specs.declared.barriers.BarrierCommand.{BarrierCommand}
use Rattle.mach_types.specs.declared.barriers.BarrierCommand.TheVariants.{Query, Global, GlobalExpedited, RegisterGlobalExpedited, PrivateExpedited, RegisterPrivateExpedited, PrivateExpeditedRseq, RegisterPrivateExpeditedRseq, GetRegistrations}
use Rattle.mach_types.specs.declared.barriers.Registered.{Registered}
use Rattle.mach_types.specs.declared.errors.TheConstants.{EINVAL}
use Rattle.membarrier_cmds.proofs.HartSets.{has_hart-none, harts_that-same, targets-same}

one_alone : (own others : Bool) → others ≡ false → own ≡ own || others
one_alone true others none = refl
one_alone false true none = cc
one_alone false false none = refl

-- a process that is registered, beside one of which no thread runs, and one that isn't
registered_alone : (mine own other others : Bool) → mine ≡ true → others ≡ false → own ≡ mine && own || other && others
registered_alone true true other others is none = refl
registered_alone true false false others is none = refl
registered_alone true false true true is none = cc
registered_alone true false true false is none = refl
registered_alone false own other others is none = cc

unregistered_alone : (mine own other others : Bool) → mine ≡ false → others ≡ false → false ≡ mine && own || other && others
unregistered_alone true own other others is none = cc
unregistered_alone false own false others is none = refl
unregistered_alone false own true true is none = cc
unregistered_alone false own true false is none = refl

-- a barrier that is about no hart has no target
not_there : (b c d : Bool) → b ≡ false → b && c && d ≡ false
not_there true c d is = cc
not_there false c d is = refl

no_targets : (flags : ℕ) (cpu : ℤ) (here n : ℕ) → harts_that (is_target flags cpu here 0) n ≡ 0
no_targets flags cpu here zero = refl
no_targets flags cpu here (suc n) =
    ap (λ m. m + cond (is_target flags cpu here 0 n) (2 ^ n) 0) (no_targets flags cpu here n)
    ∙ ap (λ b. 0 + cond b (2 ^ n) 0) (not_there (has_hart 0 n) (not (eqb n here)) (is_about flags cpu n) (has_hart-none n))

module _ (mine other : Registered) (flags : ℕ) (cpu : ℤ) (here own harts : ℕ) where
  -- the targets of a command, of those of one process
  abbrev set : ℕ → ℕ
  set about = targets flags cpu here about harts

  global : set own ≡ set (concerned Global mine other own 0 harts)
  global =
      targets-same (λ h. is_concerned Global mine other (has_hart own h) (has_hart 0 h)) own
      (λ h. one_alone (has_hart own h) (has_hart 0 h) (has_hart-none h)) flags cpu here harts

  expedited : mine.global ≡ true → set own ≡ set (concerned GlobalExpedited mine other own 0 harts)
  expedited is =
      targets-same (λ h. is_concerned GlobalExpedited mine other (has_hart own h) (has_hart 0 h)) own
      (λ h. registered_alone mine.global (has_hart own h) other.global (has_hart 0 h) is (has_hart-none h)) flags cpu here harts

  none_expedited : mine.global ≡ false → 0 ≡ set (concerned GlobalExpedited mine other own 0 harts)
  none_expedited is =
      sym (no_targets flags cpu here harts)
      ∙ targets-same (λ h. is_concerned GlobalExpedited mine other (has_hart own h) (has_hart 0 h)) 0
      (λ h. has_hart-none h ∙ unregistered_alone mine.global (has_hart own h) other.global (has_hart 0 h) is (has_hart-none h))
      flags cpu here harts

  by_registration : (is : Bool) → mine.global ≡ is
      → barrier_at (set (concerned GlobalExpedited mine other own 0 harts)) false
      ≡ cond is (barrier_at (set own) false) (Value (pos 0))
  by_registration true is = ap (λ s. barrier_at s false) (sym (expedited is))
  by_registration false is = ap (λ s. barrier_at s false) (sym (none_expedited is))

  same_answer : (c : BarrierCommand)
      → answer_beside mine (set (concerned c mine other own 0 harts)) c ≡ answer_of mine (set own) c
  same_answer Query = refl
  same_answer Global = ap (λ s. barrier_at s false) (sym global)
  same_answer GlobalExpedited = by_registration mine.global refl
  same_answer RegisterGlobalExpedited = refl
  same_answer PrivateExpedited =
      ap (λ s. answer_of mine s PrivateExpedited)
      (sym (targets-same (λ h. has_hart own h) own (λ h. refl) flags cpu here harts))
  same_answer RegisterPrivateExpedited = refl
  same_answer PrivateExpeditedRseq =
      ap (λ s. answer_of mine s PrivateExpeditedRseq)
      (sym (targets-same (λ h. has_hart own h) own (λ h. refl) flags cpu here harts))
  same_answer RegisterPrivateExpeditedRseq = refl
  same_answer GetRegistrations = refl

  same_found : (o : Option BarrierCommand)
      → option_map_or (λ c. answer_beside mine (set (concerned c mine other own 0 harts)) c) o (refusal EINVAL)
      ≡ option_map_or (answer_of mine (set own)) o (refusal EINVAL)
  same_found None = refl
  same_found (Some c) = same_answer c

  pub nobody_runs : (cmd : ℤ) → command_two mine other cmd flags cpu here own 0 harts ≡ command mine cmd flags cpu here own harts
  nobody_runs cmd = same_found (asked cmd flags)

-- one of two, in either order
either_order : (a b : Bool) → a || b ≡ b || a
either_order true true = refl
either_order true false = refl
either_order false true = refl
either_order false false = refl

module _ (mine other : Registered) (a b harts : ℕ) where
  pub global_alike : concerned Global mine other a b harts ≡ concerned Global other mine b a harts
  global_alike =
      harts_that-same (λ h. has_hart a h || has_hart b h) (λ h. has_hart b h || has_hart a h) harts
      (λ h low. either_order (has_hart a h) (has_hart b h))

  pub expedited_alike : concerned GlobalExpedited mine other a b harts ≡ concerned GlobalExpedited other mine b a harts
  expedited_alike =
      harts_that-same (λ h. mine.global && has_hart a h || other.global && has_hart b h)
      (λ h. other.global && has_hart b h || mine.global && has_hart a h) harts
      (λ h low. either_order (mine.global && has_hart a h) (other.global && has_hart b h))
