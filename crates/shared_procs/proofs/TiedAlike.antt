-- Parts that are tied to one plain machine are tied to another one whose harts and bytes are the same.
use Rattle.sys_calls.specs.Made.{AreSaved}
use Rattle.sys_calls.specs.Tables.{HoldsTables}
use Rattle.shared_procs.proofs.Common.{◌≡◌, ℕ, ◌<◌, Bool, true, false, ◌&&◌, cond, eqb, List, Some, refl, ap, ◌∙◌, subst, aside, credit_of, final, hart_at, here_in_plain, HoldsPages, IsTied, Kernel, lost_after, nothing, Parts, Plain, Saved, Setting, Write}

pub tied_as : (s : Setting) (p q : Plain) (m : Parts) → IsTied s p m → ((k c : ℕ) → k < s.limits.harts → hart_at s p k c ≡ hart_at s q k c)
    → p.kernel ≡ q.kernel → p.file ≡ q.file → p.ended ≡ q.ended → p.byte ≡ q.byte → IsTied s q m
tied_as s p q m tied harts kernel files ended bytes = record {
  all_harts = tied.all_harts;
  harts = λ k lt. tied.harts k lt ∙ ap Some (harts k (credit_of m.harts.items k) lt);
  pages =
      subst (λ (r : Kernel). HoldsPages r.pages s.program.break_at q.byte m.pages) kernel
      (subst (λ (f : ℕ → ℕ). HoldsPages p.kernel.pages s.program.break_at f m.pages) bytes tied.pages);
  readable = tied.readable;
  tables = subst (HoldsTables m.kernel) kernel tied.tables;
  table = tied.table;
  saved = subst (λ (f : ℕ → Saved). AreSaved f m.kernel.threads) files tied.saved;
  ended = tied.ended ∙ (λ i. final (ended i) (kernel i));
}

-- an event of another process that is seen by nothing but what it wrote
and_false : (b : Bool) → b && false ≡ false
and_false true = refl
and_false false = refl

pub quietly_aside : (s : Setting) (y : Plain) (m : Parts) (h : ℕ) (ws : List Write) → IsTied s (aside h (nothing (here_in_plain s y h)) ws y) m
    → IsTied s (record y { reserved = λ k. lost_after ws (y.reserved k) }) m
quietly_aside s y m h ws tied =
    tied_as s (aside h (nothing (here_in_plain s y h)) ws y) (record y { reserved = λ k. lost_after ws (y.reserved k) }) m tied
    (λ k c lt. λ i.
    record (hart_at s (record y { reserved = λ k. lost_after ws (y.reserved k) }) k c) {
      requests = cond (and_false (eqb h k) i) 0 (y.requests k);
      restart = cond (and_false (eqb h k) i) false (y.restart k);
    })
    refl refl refl refl
