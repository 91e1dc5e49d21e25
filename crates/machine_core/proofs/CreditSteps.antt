-- A machine that executes one instruction of a hart on credit: the first of the hart's stretch.
use Rattle.machine_core.proofs.Common.{◌≡◌, ℕ, ◌<◌, ◌++◌, [], ◌∷◌, refl, sym, ap, ◌∙◌, subst, true, false, get_or, Some, None, option_map, same_Some, Hart, HartState, Entry, Inside, IsMachine, Option, past_of, setting_of, Tid, IsChosen, has_ended, goes_on, executed, IsBlockRun, next_entry, Parts, with_item, gone_on_credit, stretch_from}
use Rattle.machine_core.proofs.AdvanceAnswers.{all_of}
use Rattle.machine_core.proofs.MachineCredits.{IsSettled}
use Rattle.machine_core.proofs.StretchAppends.{has_room, on_way}
use Rattle.machine_core.proofs.StretchSteps.{one_on}

-- the thread of an entry that was made
thread_of : (h : Hart) (pc : ℕ) (o : Option Tid) (e : Entry) → option_map (λ t. executed h t pc) o ≡ Some e → (t : Tid) × (o ≡ Some t) × (executed h t pc ≡ e)
thread_of h pc None e is = cc
thread_of h pc (Some t) e is = (t, refl, same_Some (executed h t pc) e is)

-- the machine once it has executed one
pub record IsGoneOn (m : Inside) (h : Hart) (x : HartState) (e : Entry) : Type 0 where
  pub next : next_entry (setting_of m) m.seed h.0 (past_of m) ≡ Some e
  pub run : IsBlockRun (setting_of m) (m.log.items ++ e ∷ [])
  pub settled : IsSettled (setting_of m) m.seed (m.log.items ++ e ∷ []) (record m.parts { harts = with_item m.parts.harts h.0 (gone_on_credit m.code h.0 x) }) m.chooser m.chosen

pub gone_on : (m : Inside) (h : Hart) (x : HartState) (e : Entry) → IsMachine m → IsChosen (setting_of m) m.seed m.log.items → has_ended (setting_of m) (past_of m) ≡ false
    → h.0 < m.limits.harts → x ≡ get_or m.parts.harts.items h.0 x → option_map (λ t. executed h t x.pc) x.running ≡ Some e → x.waits ≡ None
    → goes_on m.code (stretch_from h.0 x) ≡ true → IsGoneOn m h x e
gone_on m h x e machine chosen goes lt value entry free credit =
    let s = setting_of m in
    let of = thread_of h x.pc x.running e entry in
    let way = on_way m h x of.0 machine chosen goes lt value of.1 free in
    let one = one_on s m.seed m.log.items m.parts m.chooser h of.0 x (stretch_from h.0 x) way (has_room m goes) refl refl credit in
    let chosen_so : m.chosen ≡ true = machine.chosen ∙ sym (all_of s m.seed m.log.items chosen) in
    let p : Parts = record m.parts { harts = with_item m.parts.harts h.0 (gone_on_credit m.code h.0 x) } in
    record {
      next = one.next ∙ ap Some of.2;
      run = subst (λ (f : Entry). IsBlockRun s (m.log.items ++ f ∷ [])) of.2 one.way.run;
      settled = subst (λ b. IsSettled s m.seed (m.log.items ++ e ∷ []) p m.chooser b) (sym chosen_so)
          (subst (λ (f : Entry). IsSettled s m.seed (m.log.items ++ f ∷ []) p m.chooser true) of.2 one.way.settled);
    }
