-- A call of a process beside another one: what it does hangs on the process alone, but that membarrier(2)
-- waits or not, and for which harts.
use Rattle.std.specs.Prelude.{pos}
use Rattle.mach_types.specs.Kernel.Barriers.{answer_of, barrier_at}
use Rattle.mach_types.specs.Kernel.PairBarriers.{answer_beside}
use Rattle.mach_types.specs.declared.barriers.BarrierCommand.TheVariants.{Global, GlobalExpedited, PrivateExpedited, PrivateExpeditedRseq}
use Rattle.mach_types.specs.declared.errors.TheConstants.{EINVAL, EPERM}
use Rattle.block_model.specs.Calls.{own_call_of}
use Rattle.block_model.specs.Calls.Beside.{membarrier_beside}
use Rattle.shared_procs.proofs.Common.{◌≡◌, ℕ, Bool, true, false, ap, cond, eqb, Option, Some, None, is_some, refl, Answer, answers, argument, asked, BarrierCommand, Begin, call_of, CallDone, concerned, Here, int_argument, Neighbour, option_map_or, refusal, Registered, running_harts, signed_32, targets, Value}

-- a call but for the harts that its barrier is about
abbrev pub but_barrier : CallDone → CallDone
but_barrier c = record c { barrier = None }

-- all else is the same, where both begin a barrier, or neither does
abbrev pub AreSame : CallDone → CallDone → Type 0
AreSame c e = is_some c.barrier ≡ is_some e.barrier → but_barrier c ≡ but_barrier e

pub pick : (b : Bool) (x y u v : CallDone) → AreSame x u → AreSame y v → AreSame (cond b x y) (cond b u v)
pick true x y u v p q = p
pick false x y u v p q = q

-- what stands at a hart of a process beside it: the hart's reservation, its requests of barriers, and the
-- other process
pub record Around : Type 0 where
  pub reserved : Option ℕ
  pub requests : ℕ
  pub restart : Bool
  pub awaits : Option ℕ
  pub other : Neighbour

-- a place with these in their stead
abbrev pub beside : Here → Around → Here
beside x p =
    record x { reserved = p.reserved; requests = p.requests; restart = p.restart; awaits = p.awaits; beside = Some p.other }

module _ (x : Here) (p q : Around) where
  abbrev a : Here
  a = beside x p

  abbrev b : Here
  b = beside x q

  -- MEMBARRIER

  abbrev Alike : ℕ → Answer → Answer → Type 0
  Alike t m n = AreSame (answers a t m) (answers b t n)

  same_answer : (t : ℕ) (n : Answer) → Alike t n n
  same_answer t (Value n) waits = refl
  same_answer t (Begin harts restart) waits = refl

  at_harts : (t g h : ℕ) (restart : Bool) → Alike t (barrier_at g restart) (barrier_at h restart)
  at_harts t g h restart = by (eqb g 0) (eqb h 0)
    where
      by : (c d : Bool) → Alike t (cond c (Value (pos 0)) (Begin g restart)) (cond d (Value (pos 0)) (Begin h restart))
      by true true waits = refl
      by true false waits = absurd cc
      by false true waits = absurd cc
      by false false waits = refl

  by_registration : (t : ℕ) (own : Bool) (g h : ℕ) (restart : Bool)
      → Alike t (cond own (barrier_at g restart) (refusal EPERM)) (cond own (barrier_at h restart) (refusal EPERM))
  by_registration t true g h restart = at_harts t g h restart
  by_registration t false g h restart = same_answer t (refusal EPERM)

  by_command : (t : ℕ) (mine : Registered) (g h : ℕ) (c : BarrierCommand) → Alike t (answer_beside mine g c) (answer_beside mine h c)
  by_command t mine g h Global = at_harts t g h false
  by_command t mine g h GlobalExpedited = at_harts t g h false
  by_command t mine g h PrivateExpedited = by_registration t mine.private g h false
  by_command t mine g h PrivateExpeditedRseq = by_registration t mine.rseq g h true
  by_command t mine g h c = same_answer t (answer_of mine g c)

  by_asked : (t : ℕ) (mine : Registered) (f g : BarrierCommand → ℕ) (o : Option BarrierCommand)
      → Alike t (option_map_or (λ c. answer_beside mine (f c) c) o (refusal EINVAL)) (option_map_or (λ c. answer_beside mine (g c) c) o (refusal EINVAL))
  by_asked t mine f g None = same_answer t (refusal EINVAL)
  by_asked t mine f g (Some c) = by_command t mine (f c) (g c) c

  same_barrier : (t : ℕ) → AreSame (membarrier_beside p.other a t) (membarrier_beside q.other b t)
  same_barrier t =
      let harts = x.setting.limits.harts in
      let mine = x.kernel.barriers in
      let flags = int_argument x t 1 in
      let cpu = signed_32 (argument x t 2) in
      let running = running_harts x.kernel.threads harts in
      let about : Neighbour → BarrierCommand → ℕ =
      λ n c. targets flags cpu x.hart (concerned c mine n.registered running n.running harts) harts in
      by_asked t mine (about p.other) (about q.other) (asked (signed_32 (argument x t 0)) flags)

  -- EACH CALL

  module _ (n t : ℕ) where
    -- a call but membarrier(2) and rseq(2) asks nothing of what stands at the hart
    same_own_call : own_call_of n a t ≡ own_call_of n b t
    same_own_call = refl

    pub same_call_of : AreSame (call_of n a t) (call_of n b t)
    same_call_of =
        pick (eqb n 283) _ _ _ _ (same_barrier t)
        (pick (eqb n 293) _ _ _ _ (λ waits. refl) (λ waits. ap but_barrier same_own_call))
