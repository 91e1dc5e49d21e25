-- Stretches that workers take along, and what comes of appending them.
use Rattle.std.proofs.Common.{◌≡◌, ℕ, ◌+◌, zero, suc, List, [], ◌∷◌, ◌++◌, refl, sym, ap, ◌∙◌, subst, append-nil, append_assoc, length-append, arith}
use Rattle.std.proofs.Common.{Option, Some, None}
use Rattle.std.specs.Prelude.{IfSome}
use Rattle.std.specs.Option.{option_and_then, option_map}
use Rattle.std.proofs.lemmas.List.Elements.{All-cons}
use Rattle.mach_types.specs.declared.events.Entry.{Entry}
use Rattle.mach_types.specs.declared.events.Hart.{Hart}
use Rattle.elf_load.specs.declared.image.ImagePage.{ImagePage}
use Rattle.machine_lock.specs.Logs.{Adds}
use Rattle.machine_lock.proofs.Laws.{adds_none}
use Rattle.block_model.specs.Deciding.{history}
use Rattle.block_model.specs.Setting.{Setting}
use Rattle.block_model.specs.Stretches.{IsStretchOf, Stretch, advanced, gone_on, lent, worked}
use Rattle.machine_core.specs.declared.stretches.Stretch.{Stretch as Lent}
use Rattle.machine_core.specs.Stretches.{stretch_of}
use Rattle.rule_runs.specs.Sharing.{Start, next_in}
use Rattle.rule_runs.proofs.Chosen.{hart_of_next}

-- a stretch that is lent now
stretch_lent : (s : Setting) (seed h : ℕ) (log : List Entry) (l : Stretch) → lent s seed h (history s log) ≡ Some l → IsStretchOf s seed h log l
stretch_lent s seed h log l began = record {
  lent_at = log;
  since = [];
  whole = append-nil log;
  first = l;
  began = began;
  times = 0;
  so_far = refl;
}

pub stretches_lent : (s : Setting) (seed h : ℕ) (log : List Entry) (o : Option Lent) → option_map stretch_of o ≡ lent s seed h (history s log)
    → IfSome o (λ x. IsStretchOf s seed h log (stretch_of x))
stretches_lent s seed h log None is = tt
stretches_lent s seed h log (Some x) is = stretch_lent s seed h log (stretch_of x) (sym is)

-- more attempts to go on
worked_more : (pages : List ImagePage) (a b n : ℕ) (l : Stretch) → n ≡ a + b → worked n pages l ≡ worked b pages (worked a pages l)
worked_more pages zero b n l sum = let same : n ≡ b = omega (arith, sum) in ap (λ (m : ℕ). worked m pages l) same
worked_more pages (suc a) b n l sum =
    let more : n ≡ suc (a + b) = omega (arith, sum) in
    ap (λ (m : ℕ). worked m pages l) more ∙ worked_more pages a b (a + b) (gone_on pages l) refl

-- it is one after so much more work too
pub stretch_worked : (s : Setting) (seed h : ℕ) (log : List Entry) (n : ℕ) (old new : Stretch)
    → new ≡ worked n s.program.pages old → IsStretchOf s seed h log old → IsStretchOf s seed h log new
stretch_worked s seed h log n old new work is = record {
  lent_at = is.lent_at;
  since = is.since;
  whole = is.whole;
  first = is.first;
  began = is.began;
  times = is.times + n;
  so_far = worked_more s.program.pages is.times n (is.times + n) is.first refl
      ∙ ap (worked n s.program.pages) is.so_far ∙ sym work;
}

-- so many entries of a hart, each the one that it makes next
module _ (start : Start) (hart : Hart) where
  adds_more : (log new : List Entry) (e : Entry) (n : ℕ) → next_in start log hart ≡ Some e
      → Adds (next_in start) hart n (log ++ e ∷ []) new → Adds (next_in start) hart (suc n) log new
  adds_more log new e n next adds =
      let own = hart_of_next start.setting start.seed hart (history start.setting log) e next in
      let one = length-append log (e ∷ []) in
      let counted = adds.counted in
      record {
        follows = record {
          rest = e ∷ adds.follows.rest;
          whole = sym (append_assoc log (e ∷ []) adds.follows.rest) ∙ adds.follows.whole;
          legal = (subst (λ (h : Hart). next_in start log h ≡ Some e) (sym own) next, adds.follows.legal);
        };
        counted = omega (arith, one, counted);
        own = All-cons (λ (x : Entry). x.hart ≡ hart) e adds.follows.rest own adds.own;
      }

  pub adds_advanced : (n : ℕ) (log new : List Entry) → advanced start.setting start.seed hart.0 n log ≡ Some new → Adds (next_in start) hart n log new
  adds_advanced zero log new is =
      let same : log ≡ new = cc in
      subst (Adds (next_in start) hart 0 log) same (adds_none (next_in start) hart log)
  adds_advanced (suc n) log new is =
      by_next (λ e made. adds_advanced n (log ++ e ∷ []) new made) (next_in start log hart) refl is
    where
      by_next : ((e : Entry) → advanced start.setting start.seed hart.0 n (log ++ e ∷ []) ≡ Some new → Adds (next_in start) hart n (log ++ e ∷ []) new)
          → (o : Option Entry) → next_in start log hart ≡ o
          → option_and_then (λ e. advanced start.setting start.seed hart.0 n (log ++ e ∷ [])) o ≡ Some new → Adds (next_in start) hart (suc n) log new
      by_next on None next made = absurd cc
      by_next on (Some e) next made = adds_more log new e n next (on e made)
