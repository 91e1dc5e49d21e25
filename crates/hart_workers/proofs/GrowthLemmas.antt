-- How a pass grows: by no turn, by one, by several in a row, and by those of two halves of it.
use Rattle.std.proofs.Common.{◌≡◌, ⊎_elim, length, append_assoc, append-nil, length-append, ℕ, ◌+◌, ◌-◌, ◌<◌, ◌≤◌, Bool, true, false, List, [], ◌∷◌, ◌++◌, refl, sym, ap, ◌∙◌, subst, arith}
use Rattle.std.proofs.lemmas.List.{append_cancel_left}
use Rattle.std.proofs.lemmas.List.Elements.{All-push}
use Rattle.std.specs.Prelude.{All, Option, Some}
use Rattle.mach_types.specs.declared.events.Advance.{Advance}
use Rattle.mach_types.specs.declared.events.Advance.TheVariants.{Ended, Made}
use Rattle.mach_types.specs.declared.events.Entry.{Entry}
use Rattle.mach_types.specs.declared.events.Hart.{Hart}
use Rattle.machine_lock.specs.declared.history.Origin.{Origin}
use Rattle.machine_lock.specs.Logs.{Adds, Advances, Follows}
use Rattle.machine_lock.specs.Numbers.{In, RisesFrom, Owns, merge, numbers_below}
use Rattle.machine_lock.specs.Passes.{PassView, IsSound}
use Rattle.machine_lock.specs.Rule.{Runs}
use Rattle.machine_lock.specs.Steps.{Got, Longer}
use Rattle.hart_workers.specs.Growth.{Looked, Grew}
use Rattle.hart_workers.specs.Worked.{GoesOn}
use Rattle.machine_lock.proofs.Laws.{append_two, ended_of_advance, follows_length, follows_of_advance, follows_on, follows_self, in_append, in_merge, in_numbers, merge_front, numbers_rise, rises_below, rises_higher, rises_tail, rises_weaker}

module _ (next : List Entry → Hart → Option Entry) (ended : List Entry → Bool) (hart : Hart) (old new : List Entry) (advance : Advance) where
  pub goes_on_follows : GoesOn next ended hart old new advance → Follows next old new
  goes_on_follows g = follows_on next old g.middle new g.appended.follows (follows_of_advance next ended hart g.middle new advance g.advanced)

  pub goes_on_ended : GoesOn next ended hart old new advance → advance ≡ Ended → ended new ≡ true
  goes_on_ended g is = ended_of_advance next ended hart g.middle new advance g.advanced is

-- one entry more of a hart that added some
pub adds_made : (next : List Entry → Hart → Option Entry) (ended : List Entry → Bool) (hart : Hart) (n : ℕ) (old middle new : List Entry) (e : Entry) → Adds next hart n old middle → Advances next ended hart middle new (Made e) → Adds next hart (n + 1) old new
adds_made next ended hart n old middle new e adds made =
    let goes : next middle e.hart ≡ Some e = subst (λ (h : Hart). next middle h ≡ Some e) (sym made.1) made.2 in
    let more : List Entry = adds.follows.rest ++ e ∷ [] in
    let long = length-append middle (e ∷ []) in
    let counted = adds.counted in
    let follows : Follows next old (middle ++ e ∷ []) = follows_on next old middle (middle ++ e ∷ []) adds.follows (record { rest = e ∷ []; whole = refl; legal = (goes, tt) }) in
    let rest : follows.rest ≡ more = append_cancel_left old follows.rest more (follows.whole ∙ (sym (ap (λ l. l ++ e ∷ []) adds.follows.whole) ∙ append_assoc old adds.follows.rest (e ∷ []))) in
    subst (Adds next hart (n + 1) old) (sym made.3) (record {
      follows = follows;
      counted = omega (arith, long, counted);
      own = subst (All (λ (x : Entry). x.hart ≡ hart)) (sym rest) (All-push (λ (x : Entry). x.hart ≡ hart) adds.follows.rest e adds.own made.1);
    })

module _ {M Setting : Type 0} (setting : M → Setting) (log : M → List Entry) (next : Setting → List Entry → Hart → Option Entry) (k : Origin M) where
  abbrev nx : List Entry → Hart → Option Entry
  nx = next (setting k.start.value)

  -- one turn, with whatever the machine's log gained in it
  pub grew_one : (p0 p1 p2 : PassView M) (m m' : M) → p0.out ≡ false → p1 ≡ record p0 { seen = log m; out = true } → p2 ≡ record p1 { seen = log m'; mine = p1.mine ++ numbers_below (length p1.seen) (length (log m')); out = false } → Got setting log next k p0.seen m → Runs setting log next k (log m) (log m') → Grew setting log next k p0 p2
  grew_one p0 p1 p2 m m' idle taken given got runs =
      let more : List ℕ = numbers_below (length (log m)) (length (log m')) in
      let seen : p2.seen ≡ log m' = ap (λ (p : PassView M). p.seen) given in
      let one = follows_length nx p0.seen (log m) got.later in
      let two = follows_length nx (log m) (log m') runs in record {
        later = subst (Runs setting log next k p0.seen) (sym seen) (follows_on nx p0.seen (log m) (log m') got.later runs);
        more = more;
        kept = λ i. record {
          turnstile = (ap (λ (p : PassView M). p.turnstile) given ∙ ap (λ (p : PassView M). p.turnstile) taken) i;
          seen = p2.seen;
          mine = (ap (λ (p : PassView M). p.mine) given ∙ ap (λ (p : PassView M). p.mine ++ numbers_below (length p.seen) (length (log m'))) taken) i;
          parts = (ap (λ (p : PassView M). p.parts) given ∙ ap (λ (p : PassView M). p.parts) taken) i;
          out = (ap (λ (p : PassView M). p.out) given ∙ sym idle) i;
        };
        rises = rises_weaker (length p0.seen) (length (log m)) more one (numbers_rise (length (log m)) (length (log m') - length (log m)));
        below = λ z i. let b = in_numbers z (length (log m)) (length (log m') - length (log m)) i in let e : length p2.seen ≡ length (log m') = ap length seen in omega arith;
      }

  -- no turn
  pub grew_self : (p : PassView M) → Grew setting log next k p p
  grew_self p = record {
    later = follows_self nx p.seen;
    more = [];
    kept = λ i. record { turnstile = p.turnstile; seen = p.seen; mine = (sym (append-nil p.mine)) i; parts = p.parts; out = p.out };
    rises = tt;
    below = λ z i. absurd i;
  }

  -- a look, and then turns
  pub grew_looked : (p q r : PassView M) → Looked setting log next k p q → Grew setting log next k q r → Grew setting log next k p r
  grew_looked p q r a b =
      let one = follows_length nx p.seen q.seen a.later in record {
        later = follows_on nx p.seen q.seen r.seen a.later b.later;
        more = b.more;
        kept = λ i. record {
          turnstile = (ap (λ (z : PassView M). z.turnstile) b.kept ∙ ap (λ (z : PassView M). z.turnstile) a.kept) i;
          seen = r.seen;
          mine = (ap (λ (z : PassView M). z.mine) b.kept ∙ ap (λ (z : PassView M). z.mine ++ b.more) a.kept) i;
          parts = (ap (λ (z : PassView M). z.parts) b.kept ∙ ap (λ (z : PassView M). z.parts) a.kept) i;
          out = (ap (λ (z : PassView M). z.out) b.kept ∙ ap (λ (z : PassView M). z.out) a.kept) i;
        };
        rises = rises_weaker (length p.seen) (length q.seen) b.more one b.rises;
        below = b.below;
      }

  -- turns, and then more turns
  pub grew_on : (p q r : PassView M) → Grew setting log next k p q → Grew setting log next k q r → Grew setting log next k p r
  grew_on p q r a b =
      let one = follows_length nx p.seen q.seen a.later in
      let two = follows_length nx q.seen r.seen b.later in record {
        later = follows_on nx p.seen q.seen r.seen a.later b.later;
        more = a.more ++ b.more;
        kept = λ i. record {
          turnstile = (ap (λ (z : PassView M). z.turnstile) b.kept ∙ ap (λ (z : PassView M). z.turnstile) a.kept) i;
          seen = r.seen;
          mine = (ap (λ (z : PassView M). z.mine) b.kept ∙ (ap (λ (z : PassView M). z.mine ++ b.more) a.kept ∙ append_assoc p.mine a.more b.more)) i;
          parts = (ap (λ (z : PassView M). z.parts) b.kept ∙ ap (λ (z : PassView M). z.parts) a.kept) i;
          out = (ap (λ (z : PassView M). z.out) b.kept ∙ ap (λ (z : PassView M). z.out) a.kept) i;
        };
        rises = append_two (length p.seen) (length q.seen) a.more b.more a.rises one a.below b.rises;
        below = λ z i. ⊎_elim (λ j. let c = a.below z j in omega arith) (λ j. b.below z j) (in_append z a.more b.more i);
      }

  -- the halves of a pass, which grew and were joined again
  pub grew_both : (p a b a' b' q : PassView M) (n : ℕ) → n < p.parts → IsSound a → a ≡ record p { parts = p.parts - n } → b ≡ record p { mine = []; parts = n } → Grew setting log next k a a' → Grew setting log next k b b'
      → q ≡ record a' { seen = q.seen; mine = merge a'.mine b'.mine; parts = a'.parts + b'.parts } → Longer setting log next k a'.seen b'.seen q.seen → IsSound q → Grew setting log next k p q
  grew_both p a b a' b' q n less sound left right ga gb joined longer owned =
      let sa : a.seen ≡ p.seen = ap (λ (z : PassView M). z.seen) left in
      let sb : b.seen ≡ p.seen = ap (λ (z : PassView M). z.seen) right in
      let la : length a.seen ≡ length p.seen = ap length sa in
      let lb : length b.seen ≡ length p.seen = ap length sb in
      let pm : a.mine ≡ p.mine = ap (λ (z : PassView M). z.mine) left in
      let am : a'.mine ≡ p.mine ++ ga.more = ap (λ (z : PassView M). z.mine) ga.kept ∙ ap (λ (l : List ℕ). l ++ ga.more) pm in
      let bm : b'.mine ≡ gb.more = ap (λ (z : PassView M). z.mine) gb.kept ∙ ap (λ (z : PassView M). z.mine ++ gb.more) right in
      let owns : Owns p.mine (length p.seen) = subst (λ (z : List ℕ × List Entry). Owns z.0 (length z.1)) {x = (a.mine, a.seen)} {y = (p.mine, p.seen)} (λ i. (pm i, sa i)) sound.owns in
      let more : List ℕ = merge ga.more gb.more in
      let above : (z : ℕ) → In z more → length p.seen ≤ z =
      λ z i. ⊎_elim (λ j. let c = rises_below (length a.seen) z ga.more ga.rises j in omega arith) (λ j. let c = rises_below (length b.seen) z gb.more gb.rises j in omega arith) (in_merge z ga.more gb.more i) in
      let mine : q.mine ≡ p.mine ++ more =
      ap (λ (z : PassView M). z.mine) joined ∙ (ap (λ (l : List ℕ). merge l b'.mine) am ∙ (ap (merge (p.mine ++ ga.more)) bm ∙ merge_front 0 (length p.seen) p.mine ga.more gb.more owns.rises owns.below above)) in
      let qa = follows_length nx a'.seen q.seen longer.first in
      let qb = follows_length nx b'.seen q.seen longer.second in
      let parts : q.parts ≡ p.parts =
      let x : a.parts ≡ p.parts - n = ap (λ (z : PassView M). z.parts) left in
      let y : b.parts ≡ n = ap (λ (z : PassView M). z.parts) right in
      let u : a'.parts ≡ a.parts = ap (λ (z : PassView M). z.parts) ga.kept in
      let v : b'.parts ≡ b.parts = ap (λ (z : PassView M). z.parts) gb.kept in
      let w : q.parts ≡ a'.parts + b'.parts = ap (λ (z : PassView M). z.parts) joined in
      omega arith in record {
        later = follows_on nx p.seen a'.seen q.seen (subst (λ (l : List Entry). Runs setting log next k l a'.seen) sa ga.later) longer.first;
        more = more;
        kept = λ i. record {
          turnstile = (ap (λ (z : PassView M). z.turnstile) joined ∙ (ap (λ (z : PassView M). z.turnstile) ga.kept ∙ ap (λ (z : PassView M). z.turnstile) left)) i;
          seen = q.seen;
          mine = mine i;
          parts = parts i;
          out = (ap (λ (z : PassView M). z.out) joined ∙ (ap (λ (z : PassView M). z.out) ga.kept ∙ ap (λ (z : PassView M). z.out) left)) i;
        };
        rises = rises_higher 0 (length p.seen) more (rises_tail 0 p.mine more (subst (RisesFrom 0) mine owned.owns.rises)) above;
        below = λ z i. ⊎_elim (λ j. let c = ga.below z j in omega arith) (λ j. let c = gb.below z j in omega arith) (in_merge z ga.more gb.more i);
      }

  -- where the run has ended at both of two logs, it has ended at the longer
  pub ended_of_both : (ended : List Entry → Bool) (xs ys l : List Entry) → ended xs ≡ true → ended ys ≡ true → Longer setting log next k xs ys l → ended l ≡ true
  ended_of_both ended xs ys l ex ey longer = ⊎_elim (λ (e : l ≡ xs). ap ended e ∙ ex) (λ (e : l ≡ ys). ap ended e ∙ ey) longer.one
