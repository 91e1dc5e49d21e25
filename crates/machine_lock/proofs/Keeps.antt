-- Each step of the turnstile keeps its rule.
use Rattle.std.proofs.Common.{◌≡◌, ◌≢◌, ◌⊎◌, inl, inr, ⊎_elim, ℕ, ◌+◌, ◌-◌, ◌%◌, ◌<◌, ◌≤◌, List, [], ◌∷◌, ◌++◌, length, get_or, set, sym, refl, ap, ◌∙◌, subst, arith, zero, suc, le_refl}
use Rattle.std.specs.Prelude.{Option, Some, None}
use Rattle.std.specs.Option.{unwrap_or}
use Rattle.std.proofs.Math.Nat.{mod-add-mod}
use mathlib.Core.Logic.{dite}
use mathlib.Core.Option as opt
use native.Mathlib.Decide.{dec_le, ℕ_discrete}
use lib.ListN.{get_elem?}
use lib.Seq.{set-get_or}
use Rattle.atomic_table.specs.Table.{State, Me, step, keeps, takes, gives, stepped, Allows, Splits, Joins, opening, Final, Seen, rest, put_back}
use Rattle.atomic_table.proofs.Lists.{at_set, set_again, at_snoc, at_longer, set_else, one_turn}
use Rattle.mach_types.specs.declared.events.Entry.{Entry}
use Rattle.mach_types.specs.declared.events.Hart.{Hart}
use Rattle.machine_lock.specs.declared.history.Origin.{Origin}
use Rattle.machine_lock.specs.declared.history.View.{View}
use Rattle.machine_lock.specs.declared.history.Stage.{Stage}
use Rattle.machine_lock.specs.declared.history.Stage.TheVariants.{Away, Waiting, Served}
use Rattle.machine_lock.specs.Rule.{tickets_of_word, Runs, Fits, Roster, Home, Out, Kept}
use Rattle.machine_lock.specs.Steps.{Got, Longer, Draws, Looks, Gives, Learns}
use Rattle.machine_lock.specs.Views.{tickets, Has, parts_of, tickets_of, opening_view, spent_view, staged, left_of, right_of, both_of, gave, drawn}
use Rattle.machine_lock.proofs.LogLemmas.{follows_self, follows_on, follows_between, follows_length}
use Rattle.machine_lock.specs.Numbers.{In, RisesFrom, Owns, numbers}
use Rattle.machine_lock.proofs.NumberLemmas.{in_merge, merge_rises, in_append, in_numbers, append_rises}
use Rattle.machine_lock.proofs.Totals.{total_set, total_snoc, total_le, total_one, total_two}

set_at : {A : Type 0} (l : List A) (i : ℕ) (a b : A) → get_elem? l i ≡ opt.some a → get_elem? (set l i b) i ≡ opt.some b
set_at [] i a b e = absurd (opt.some-ne-none a (sym e))
set_at (x ∷ xs) zero a b e = refl
set_at (x ∷ xs) (suc i) a b e = set_at xs i a b e

set_swap : {A : Type 0} (l : List A) (i j : ℕ) (a b : A) → i ≢ j → set (set l i a) j b ≡ set (set l j b) i a
set_swap [] i j a b ne = refl
set_swap (x ∷ xs) zero zero a b ne = absurd (ne refl)
set_swap (x ∷ xs) zero (suc j) a b ne = refl
set_swap (x ∷ xs) (suc i) zero a b ne = refl
set_swap (x ∷ xs) (suc i) (suc j) a b ne = ap (λ l. x ∷ l) (set_swap xs i j a b (λ e. ne (ap suc e)))

abbrev not_served : Stage → Type 0
not_served Away = Unit {0}
not_served (Waiting t) = Unit {0}
not_served (Served t) = ⊥

has_served : (t : ℕ) (st : Stage) → st ≡ Served t → Has t st
has_served t st e = subst (Has t) (sym e) refl

has_waiting : (t : ℕ) (st : Stage) → st ≡ Waiting t → Has t st
has_waiting t st e = subst (Has t) (sym e) refl

away_has : (t : ℕ) (st : Stage) → st ≡ Away → Has t st → ⊥
away_has t st e h = subst (Has t) e h

quiet : (t : ℕ) (st : Stage) → not_served st → st ≡ Served t → ⊥
quiet t st q e = subst not_served e q

mod_step : (n : ℕ) → (n % tickets_of_word + 1) % tickets_of_word ≡ (n + 1) % tickets_of_word
mod_step n = mod-add-mod n tickets_of_word 1

module _ {M Setting : Type 0} (setting : M → Setting) (log : M → List Entry) (next : Setting → List Entry → Hart → Option Entry) (k : Origin M) where
  abbrev V : Type 0
  V = View M

  abbrev St : Type 0
  St = State (Option M) V

  abbrev Mine : Type 0
  Mine = Me (Option M) V

  abbrev Rule : St → Type 0
  Rule = Kept setting log next k

  abbrev Ros : ℕ → ℕ → List Entry → ℕ → List V → Type 0
  Ros = Roster setting log next k

  abbrev Fit : List Entry → V → Type 0
  Fit = Fits setting log next k

  roster_set : (now given : ℕ) (all : List Entry) (n : ℕ) (vs : List V) → Ros now given all n vs → (id : ℕ) (v w : V) (now' given' : ℕ) (all' : List Entry) (n' : ℕ)
      → get_elem? vs id ≡ opt.some v → now' + given + tickets_of w ≡ given' + tickets_of v + now → n' + parts_of v ≡ n + parts_of w → tickets_of w ≤ parts_of w
      → ((t : ℕ) → Has t w.stage → (now' ≤ t) × (t < given'))
      → ((t : ℕ) → w.stage ≡ Served t → t ≡ now')
      → ((t : ℕ) → Has t w.stage → (j : ℕ) (x : V) → j ≢ id → get_elem? vs j ≡ opt.some x → Has t x.stage → ⊥)
      → ((a : Origin M) → w.origin ≡ Some a → Fit all' w)
      → ((j : ℕ) (x : V) (t : ℕ) → j ≢ id → get_elem? vs j ≡ opt.some x → Has t x.stage → (now' ≤ t) × (t < given'))
      → ((j : ℕ) (x : V) (t : ℕ) → j ≢ id → get_elem? vs j ≡ opt.some x → x.stage ≡ Served t → t ≡ now')
      → ((j : ℕ) (x : V) → j ≢ id → get_elem? vs j ≡ opt.some x → Fit all x → Fit all' x)
      → RisesFrom 0 w.mine
      → ((z : ℕ) → In z w.mine → z < length all')
      → ((z : ℕ) → In z w.mine → (j : ℕ) (x : V) → j ≢ id → get_elem? vs j ≡ opt.some x → In z x.mine → ⊥)
      → length all ≤ length all'
      → Ros now' given' all' n' (set vs id w)
  roster_set now given all n vs r id v w now' given' all' n' at counts parts share bound serve alone fit bounds serves fits rise inside owner longer =
      let tw = total_set tickets_of vs id v w at in let tp = total_set parts_of vs id v w at in let rc = r.count in let rp = r.parts in record {
        count = omega arith;
        parts = omega arith;
        share = λ j x e. ⊎_elim (λ (p : (j ≡ id) × (w ≡ x)). subst (λ (y : V). tickets y.stage ≤ y.parts) p.1 share) (λ (p : (j ≢ id) × (get_elem? vs j ≡ opt.some x)). r.share j x p.1) (at_set vs id j w x e);
        bounds = λ j x t e h. ⊎_elim (λ (p : (j ≡ id) × (w ≡ x)). bound t (subst (λ (y : V). Has t y.stage) (sym p.1) h)) (λ (p : (j ≢ id) × (get_elem? vs j ≡ opt.some x)). bounds j x t p.0 p.1 h) (at_set vs id j w x e);
        served = λ j x t e h. ⊎_elim (λ (p : (j ≡ id) × (w ≡ x)). serve t (ap (λ (y : V). y.stage) p.1 ∙ h)) (λ (p : (j ≢ id) × (get_elem? vs j ≡ opt.some x)). serves j x t p.0 p.1 h) (at_set vs id j w x e);
        apart = λ i j x y t e f h g. ⊎_elim
            (λ (p : (i ≡ id) × (w ≡ x)). ⊎_elim (λ (q : (j ≡ id) × (w ≡ y)). p.0 ∙ sym q.0)
            (λ (q : (j ≢ id) × (get_elem? vs j ≡ opt.some y)). absurd (alone t (subst (λ (z : V). Has t z.stage) (sym p.1) h) j y q.0 q.1 g)) (at_set vs id j w y f))
            (λ (p : (i ≢ id) × (get_elem? vs i ≡ opt.some x)). ⊎_elim (λ (q : (j ≡ id) × (w ≡ y)). absurd (alone t (subst (λ (z : V). Has t z.stage) (sym q.1) g) i x p.0 p.1 h))
            (λ (q : (j ≢ id) × (get_elem? vs j ≡ opt.some y)). r.apart i j x y t p.1 q.1 h g) (at_set vs id j w y f))
            (at_set vs id i w x e);
        rises = λ j x e. ⊎_elim (λ (p : (j ≡ id) × (w ≡ x)). subst (λ (y : V). RisesFrom 0 y.mine) p.1 rise) (λ (p : (j ≢ id) × (get_elem? vs j ≡ opt.some x)). r.rises j x p.1) (at_set vs id j w x e);
        past = λ j x z e i. ⊎_elim (λ (p : (j ≡ id) × (w ≡ x)). inside z (subst (λ (y : V). In z y.mine) (sym p.1) i)) (λ (p : (j ≢ id) × (get_elem? vs j ≡ opt.some x)). let b = r.past j x z p.1 i in omega arith) (at_set vs id j w x e);
        owners = λ i j x y z e f h g. ⊎_elim
            (λ (p : (i ≡ id) × (w ≡ x)). ⊎_elim (λ (q : (j ≡ id) × (w ≡ y)). p.0 ∙ sym q.0)
            (λ (q : (j ≢ id) × (get_elem? vs j ≡ opt.some y)). absurd (owner z (subst (λ (u : V). In z u.mine) (sym p.1) h) j y q.0 q.1 g)) (at_set vs id j w y f))
            (λ (p : (i ≢ id) × (get_elem? vs i ≡ opt.some x)). ⊎_elim (λ (q : (j ≡ id) × (w ≡ y)). absurd (owner z (subst (λ (u : V). In z u.mine) (sym q.1) g) i x p.0 p.1 h))
            (λ (q : (j ≢ id) × (get_elem? vs j ≡ opt.some y)). r.owners i j x y z p.1 q.1 h g) (at_set vs id j w y f))
            (at_set vs id i w x e);
        each = λ j x a e live. ⊎_elim (λ (p : (j ≡ id) × (w ≡ x)). subst (Fit all') p.1 (fit a (ap (λ (y : V). y.origin) p.1 ∙ live)))
            (λ (p : (j ≢ id) × (get_elem? vs j ≡ opt.some x)). fits j x p.0 p.1 (r.each j x a p.1 live)) (at_set vs id j w x e);
      }

  -- the same where the ticket, the history and what others know stay
  roster_calm : (now given : ℕ) (all : List Entry) (n : ℕ) (vs : List V) → Ros now given all n vs → (id : ℕ) (v w : V) (n' : ℕ) → get_elem? vs id ≡ opt.some v → v.stage ≡ Away → w.stage ≡ Away → n' + parts_of v ≡ n + parts_of w
      → ((a : Origin M) → w.origin ≡ Some a → Fit all w)
      → RisesFrom 0 w.mine
      → ((z : ℕ) → In z w.mine → z < length all)
      → ((z : ℕ) → In z w.mine → (j : ℕ) (x : V) → j ≢ id → get_elem? vs j ≡ opt.some x → In z x.mine → ⊥)
      → Ros now given all n' (set vs id w)
  roster_calm now given all n vs r id v w n' at va wa parts fit rise inside owner = let wv : tickets_of v ≡ 0 = ap tickets va in let ww : tickets_of w ≡ 0 = ap tickets wa in
      roster_set now given all n vs r id v w now given all n' at (omega arith) parts (omega arith)
      (λ t h. absurd (away_has t w.stage wa h))
      (λ t e. absurd (quiet t Away tt (sym wa ∙ e)))
      (λ t h. absurd (away_has t w.stage wa h))
      fit
      (λ j x t _ e h. r.bounds j x t e h)
      (λ j x t _ e h. r.served j x t e h)
      (λ j x _ _ f. f)
      rise
      inside
      owner
      (le_refl (length all))

  roster_snoc : (now given : ℕ) (all : List Entry) (n : ℕ) (vs : List V) → Ros now given all n vs → (w : V) → w.stage ≡ Away → ((a : Origin M) → w.origin ≡ Some a → Fit all w) → RisesFrom 0 w.mine → ((z : ℕ) → In z w.mine → ⊥) → Ros now given all (n + parts_of w) (vs ++ w ∷ [])
  roster_snoc now given all n vs r w wa fit rise none = let tw = total_snoc tickets_of vs w in let tp = total_snoc parts_of vs w in let ww : tickets_of w ≡ 0 = ap tickets wa in let rc = r.count in let rp = r.parts in record {
    count = omega arith;
    parts = omega arith;
    share = λ j x e. ⊎_elim (r.share j x) (λ (p : w ≡ x). subst (λ (y : V). tickets y.stage ≤ y.parts) p (omega arith)) (at_snoc vs w x j e);
    bounds = λ j x t e h. ⊎_elim (λ o. r.bounds j x t o h) (λ (p : w ≡ x). absurd (away_has t x.stage (ap (λ (y : V). y.stage) (sym p) ∙ wa) h)) (at_snoc vs w x j e);
    served = λ j x t e h. ⊎_elim (λ o. r.served j x t o h) (λ (p : w ≡ x). absurd (quiet t Away tt (sym wa ∙ (ap (λ (y : V). y.stage) p ∙ h)))) (at_snoc vs w x j e);
    apart = λ i j x y t e f h g. ⊎_elim
        (λ o. ⊎_elim (λ q. r.apart i j x y t o q h g) (λ (p : w ≡ y). absurd (away_has t y.stage (ap (λ (z : V). z.stage) (sym p) ∙ wa) g)) (at_snoc vs w y j f))
        (λ (p : w ≡ x). absurd (away_has t x.stage (ap (λ (z : V). z.stage) (sym p) ∙ wa) h)) (at_snoc vs w x i e);
    rises = λ j x e. ⊎_elim (λ o. r.rises j x o) (λ (p : w ≡ x). subst (λ (y : V). RisesFrom 0 y.mine) p rise) (at_snoc vs w x j e);
    past = λ j x z e i. ⊎_elim (λ o. r.past j x z o i) (λ (p : w ≡ x). absurd (none z (subst (λ (y : V). In z y.mine) (sym p) i))) (at_snoc vs w x j e);
    owners = λ i j x y z e f h g. ⊎_elim
        (λ o. ⊎_elim (λ q. r.owners i j x y z o q h g) (λ (p : w ≡ y). absurd (none z (subst (λ (u : V). In z u.mine) (sym p) g))) (at_snoc vs w y j f))
        (λ (p : w ≡ x). absurd (none z (subst (λ (u : V). In z u.mine) (sym p) h))) (at_snoc vs w x i e);
    each = λ j x a e live. ⊎_elim (λ o. r.each j x a o live) (λ (p : w ≡ x). subst (Fit all) p (fit a (ap (λ (y : V). y.origin) p ∙ live))) (at_snoc vs w x j e);
  }

  abbrev Slot : ℕ → List Entry → List (opt.Option (Option M)) → List V → Type 0
  Slot now all homes vs = Home setting log next k all homes vs ⊎ Out now homes vs

  slot_set : (now : ℕ) (all : List Entry) (homes : List (opt.Option (Option M))) (vs : List V) (id : ℕ) (v w : V) → get_elem? vs id ≡ opt.some v → not_served v.stage → not_served w.stage → Slot now all homes vs → Slot now all homes (set vs id w)
  slot_set now all homes vs id v w at qv qw = ⊎_elim
      (λ (h : Home setting log next k all homes vs). inl record {
        machine = h.machine;
        home = h.home;
        same = h.same;
        whole = h.whole;
        nobody = λ j x t e s. ⊎_elim (λ (p : (j ≡ id) × (w ≡ x)). quiet t w.stage qw (ap (λ (y : V). y.stage) p.1 ∙ s)) (λ (p : (j ≢ id) × (get_elem? vs j ≡ opt.some x)). h.nobody j x t p.1 s) (at_set vs id j w x e);
      })
      (λ (o : Out now homes vs). inr record {
        away = o.away;
        who = o.who;
        view = o.view;
        there = set_else vs id o.who w (λ is. quiet now v.stage qv (ap (λ (y : V). y.stage) (opt.some-injective v o.view (sym at ∙ (ap (get_elem? vs) (sym is) ∙ o.there))) ∙ o.served)) ∙ o.there;
        served = o.served;
      })

  slot_snoc : (now : ℕ) (all : List Entry) (homes : List (opt.Option (Option M))) (vs : List V) (w : V) → not_served w.stage → Slot now all homes vs → Slot now all homes (vs ++ w ∷ [])
  slot_snoc now all homes vs w qw = ⊎_elim
      (λ (h : Home setting log next k all homes vs). inl record {
        machine = h.machine;
        home = h.home;
        same = h.same;
        whole = h.whole;
        nobody = λ j x t e s. ⊎_elim (λ o. h.nobody j x t o s) (λ (p : w ≡ x). quiet t w.stage qw (ap (λ (y : V). y.stage) p ∙ s)) (at_snoc vs w x j e);
      })
      (λ (o : Out now homes vs). inr record { away = o.away; who = o.who; view = o.view; there = at_longer vs (w ∷ []) o.who o.view o.there; served = o.served })

  -- tickets that are out are fewer than 256
  few : (s : St) (r : Rule s) → r.given < r.now + tickets_of_word
  few s r = let ro = r.roster in let le = total_le tickets_of parts_of s.views ro.share in let c = ro.count in let p = ro.parts in let sm = r.small in omega arith

  served_fit : (now given : ℕ) (all : List Entry) (n : ℕ) (vs : List V) → Ros now given all n vs → (w : V) → w.stage ≡ Away → Fit all w → (t : ℕ) → w.stage ≡ Served t → w.seen ≡ all
  served_fit now given all n vs r w wa f t e = absurd (quiet t Away tt (sym wa ∙ e))

  pub draws : (slots id : ℕ) (me : Mine) → me.0.origin ≡ Some k → me.0.stage ≡ Away → 0 < me.0.parts
      → Allows Rule slots id me 0 (λ n. (n + 1) % tickets_of_word) (Draws setting log next (step slots 0 1 0 opt.none) me)
  draws slots id me live away part s r wide at small = let t : ℕ = r.given in let w : V = drawn me.0 t in let f = r.roster.each id me.0 k at live in
      let va : tickets_of me.0 ≡ 0 = ap tickets away in let c = r.roster.count in (
        w,
        keeps,
        tt,
        record {
          now = r.now;
          given = t + 1;
          all = r.all;
          words = ap (λ l. set l 0 ((get_or l 0 0 + 1) % tickets_of_word)) r.words ∙ ap (λ (z : ℕ). z ∷ r.now % tickets_of_word ∷ []) (mod_step t);
          small = r.small;
          roster = roster_set r.now t r.all k.seats s.views r.roster id me.0 w r.now (t + 1) r.all k.seats at (omega arith) refl part
              (λ u (h : t ≡ u). (omega arith, omega arith))
              (λ u e. absurd (quiet u (Waiting t) tt e))
              (λ u (h : t ≡ u) j x _ e g. let b = r.roster.bounds j x u e g in omega arith)
              (λ a e. record { origin = live; begins = f.begins; other_begins = f.other_begins; seen = f.seen; other = f.other; whole = λ u e. absurd (quiet u (Waiting t) tt e); mine = f.mine })
              (λ j x u _ e h. let b = r.roster.bounds j x u e h in (b.0, omega arith))
              (λ j x u _ e h. r.roster.served j x u e h)
              (λ j x _ _ g. g)
              (r.roster.rises id me.0 at)
              (λ z i. r.roster.past id me.0 z at i)
              (λ z i j y ne d g. ne (r.roster.owners j id y me.0 z d at g i))
              (le_refl (length r.all));
          slot = slot_set r.now r.all s.homes s.views id me.0 w at (subst not_served (sym away) tt) tt r.slot;
        },
        (t, ap (λ l. get_or l 0 0) r.words, refl),
      )

  -- a step that changes nothing
  same_rule : (s : St) (r : Rule s) (i id : ℕ) (me : Mine) → get_elem? s.views id ≡ opt.some me.0 → Rule (stepped s i (get_or s.words i 0) id me.1 me.0 keeps)
  same_rule s r i id me at = subst (λ (z : List ℕ × List V). Rule record { words = z.0; homes = s.homes; views = z.1 }) (λ i'. (sym (set-get_or s.words i 0) i', sym (set_again s.views id me.0 at) i')) r

  stage_is : (s : St) (id : ℕ) (v x : V) → get_elem? s.views id ≡ opt.some v → get_elem? s.views id ≡ opt.some x → v.stage ≡ x.stage
  stage_is s id v x a b = ap (λ (y : V). y.stage) (opt.some-injective v x (sym a ∙ b))

  about_is : (a b : Origin M) → Some a ≡ Some b → a ≡ b
  about_is a b e = ap (λ (o : Option (Origin M)). unwrap_or o a) e

  abbrev ticket_or : ℕ → Stage → ℕ
  ticket_or d Away = d
  ticket_or d (Waiting t) = t
  ticket_or d (Served t) = t

  pub looks : (slots id : ℕ) (me : Mine) (t : ℕ) → me.0.origin ≡ Some k → me.0.stage ≡ Waiting t
      → Allows Rule slots id me 1 (λ n. n) (Looks setting log next (step slots 1 0 0 opt.none) me)
  looks slots id me t live waiting s r wide at small = dite (ℕ_discrete x (t % tickets_of_word)) hit miss
    where
      x : ℕ
      x = get_or s.words 1 0

      found : x ≡ r.now % tickets_of_word
      found = ap (λ l. get_or l 1 0) r.words

      f : Fit r.all me.0
      f = r.roster.each id me.0 k at live

      mine : Has t me.0.stage
      mine = has_waiting t me.0.stage waiting

      miss : x ≢ t % tickets_of_word → (w : V) × (a : Rattle.atomic_table.specs.Table.Act (Option M)) × Rattle.atomic_table.specs.Table.Valid s.homes me.1 a × Rule (stepped s 1 x id me.1 w a) × Looks setting log next (step slots 1 0 0 opt.none) me x (w, Rattle.atomic_table.specs.Table.carried_after me.1 a)
      miss ne = (me.0, keeps, tt, same_rule s r 1 id me at, (λ k' t' lk wt. ((λ e. absurd (ne (e ∙ ap (λ (u : ℕ). u % tickets_of_word) (ap (ticket_or 0) (sym wt ∙ waiting))))), (λ _. refl))))

      hit : x ≡ t % tickets_of_word → (w : V) × (a : Rattle.atomic_table.specs.Table.Act (Option M)) × Rattle.atomic_table.specs.Table.Valid s.homes me.1 a × Rule (stepped s 1 x id me.1 w a) × Looks setting log next (step slots 1 0 0 opt.none) me x (w, Rattle.atomic_table.specs.Table.carried_after me.1 a)
      hit e = let b = r.roster.bounds id me.0 t at mine in let q = few s r in let now_t : r.now ≡ t = one_turn r.now t tickets_of_word b.0 (omega arith) (sym found ∙ e) in ⊎_elim
          (λ (h : Home setting log next k r.all s.homes s.views). let w : V = staged me.0 (log h.machine) (Served t) in let c = r.roster.count in let vw : tickets_of me.0 ≡ 1 = ap tickets waiting in
          let all_runs : Runs setting log next k r.all (log h.machine) = subst (Runs setting log next k r.all) (sym h.whole) (follows_self (next (setting k.start.value)) r.all) in
          let later = subst (Runs setting log next k me.0.seen) (sym h.whole) f.seen in
          let legal = follows_on (next (setting k.start.value)) (log k.start.value) me.0.seen (log h.machine) f.begins later in
          let back = subst (λ (l : List Entry). Runs setting log next k l r.all) (sym h.whole) (follows_self (next (setting k.start.value)) r.all) in (
            w,
            takes 0 (Some h.machine),
            ap (λ l. get_elem? l 0) h.home,
            record {
              now = r.now;
              given = r.given;
              all = r.all;
              words = set-get_or s.words 1 0 ∙ r.words;
              small = r.small;
              roster = roster_set r.now r.given r.all k.seats s.views r.roster id me.0 w r.now r.given r.all k.seats at (omega arith) refl (let sh = r.roster.share id me.0 at in omega arith)
                  (λ u (g : t ≡ u). (omega arith, omega arith))
                  (λ u g. ap (ticket_or 0) (sym g) ∙ sym now_t)
                  (λ u (g : t ≡ u) j y ne d hy. ne (r.roster.apart j id y me.0 t d at (subst (λ (z : ℕ). Has z y.stage) (sym g) hy) mine))
                  (λ a g. record { origin = live; begins = legal; other_begins = legal; seen = back; other = back; whole = λ u g. h.whole; mine = λ z i. inl (subst (λ (l : List Entry). z < length l) (sym h.whole) (r.roster.past id me.0 z at i)) })
                  (λ j y u _ d hy. r.roster.bounds j y u d hy)
                  (λ j y u _ d hy. r.roster.served j y u d hy)
                  (λ j y _ _ g. g)
                  (r.roster.rises id me.0 at)
                  (λ z i. r.roster.past id me.0 z at i)
                  (λ z i j y ne d g. ne (r.roster.owners j id y me.0 z d at g i))
                  (le_refl (length r.all));
              slot = inr record { away = ap (λ l. set l 0 opt.none) h.home; who = id; view = w; there = set_at s.views id me.0 w at; served = ap Served (sym now_t) };
            },
            (λ k' t' lk wt. let kk : k ≡ k' = about_is k k' (sym live ∙ lk) in let tt' : t ≡ t' = ap (ticket_or 0) (sym waiting ∙ wt) in (
              (λ _. (h.machine, ap (λ (u : ℕ). (staged me.0 (log h.machine) (Served u), (0, Some h.machine) ∷ me.1)) tt', subst (λ (z : Origin M). Got setting log next z me.0.seen h.machine) kk record { same = h.same; later = later; legal = legal })),
              (λ ne. absurd (ne (e ∙ ap (λ (u : ℕ). u % tickets_of_word) tt'))),
            )),
          ))
          (λ (o : Out r.now s.homes s.views). absurd (
          let same : id ≡ o.who = r.roster.apart id o.who me.0 o.view t at o.there mine (subst (λ (z : ℕ). Has z o.view.stage) now_t (has_served r.now o.view.stage o.served)) in
          quiet r.now (Waiting t) tt (sym waiting ∙ (stage_is s id me.0 o.view at (ap (get_elem? s.views) same ∙ o.there) ∙ o.served))))
          r.slot

  abbrev first_or : M → List (ℕ × Option M) → M
  first_or d [] = d
  first_or d (p ∷ ps) = unwrap_or p.1 d

  pub returns : (slots id : ℕ) (me : Mine) (x : M) (t : ℕ) → me.0.origin ≡ Some k → me.0.stage ≡ Served t → me.1 ≡ (0, Some x) ∷ rest me.1 → setting x ≡ setting k.start.value → Runs setting log next k me.0.seen (log x)
      → Allows Rule slots id me 1 (λ n. (n + 1) % tickets_of_word) (Gives setting log next (step slots 1 1 0 opt.none) me)
  returns slots id me x t live served holds same runs s r wide at small = let w : V = gave me.0 (log x) in let f = r.roster.each id me.0 k at live in let mine = has_served t me.0.stage served in
      let t_now : t ≡ r.now = r.roster.served id me.0 t at served in let whole : me.0.seen ≡ r.all = f.whole t served in let vw : tickets_of me.0 ≡ 1 = ap tickets served in let c = r.roster.count in
      let on : Runs setting log next k r.all (log x) = subst (λ (l : List Entry). Runs setting log next k l (log x)) whole runs in
      let nx = next (setting k.start.value) in let begins = follows_on nx (log k.start.value) me.0.seen (log x) f.begins runs in
      let seen_all : length me.0.seen ≡ length r.all = ap length whole in let grows : length me.0.seen ≤ length (log x) = follows_length nx me.0.seen (log x) runs in
      let added : List ℕ = numbers (length me.0.seen) (length (log x) - length me.0.seen) in
      let old_below : (z : ℕ) → In z me.0.mine → z < length me.0.seen = λ z i. let b = r.roster.past id me.0 z at i in omega arith in
      let new_inside : (z : ℕ) → In z (me.0.mine ++ added) → z < length (log x) = λ z i. ⊎_elim (λ o. let b = old_below z o in omega arith) (λ o. let b = in_numbers z (length me.0.seen) (length (log x) - length me.0.seen) o in omega arith) (in_append z me.0.mine added i) in
      let alone : (j : ℕ) (y : V) (u : ℕ) → j ≢ id → get_elem? s.views j ≡ opt.some y → Has u y.stage → u ≢ r.now = λ j y u ne d h is. ne (r.roster.apart j id y me.0 t d at (subst (λ (z : ℕ). Has z y.stage) (is ∙ sym t_now) h) mine) in (
        w,
        gives,
        tt,
        record {
          now = r.now + 1;
          given = r.given;
          all = log x;
          words = ap (λ l. set l 1 ((get_or l 1 0 + 1) % tickets_of_word)) r.words ∙ ap (λ (z : ℕ). r.given % tickets_of_word ∷ z ∷ []) (mod_step r.now);
          small = r.small;
          roster = roster_set r.now r.given r.all k.seats s.views r.roster id me.0 w (r.now + 1) r.given (log x) k.seats at (omega arith) refl (omega arith)
              (λ u h. absurd h)
              (λ u e. absurd (quiet u Away tt e))
              (λ u h. absurd h)
              (λ a e. record { origin = live; begins = begins; other_begins = begins; seen = follows_self nx (log x); other = follows_self nx (log x); whole = λ u e. absurd (quiet u Away tt e); mine = λ z i. inl (new_inside z i) })
              (λ j y u ne d h. let b = r.roster.bounds j y u d h in let n = alone j y u ne d h in (omega arith, b.1))
              (λ j y u ne d h. absurd (alone j y u ne d (has_served u y.stage h) (r.roster.served j y u d h)))
              (λ j y ne d g. record {
                origin = g.origin;
                begins = g.begins;
                other_begins = g.other_begins;
                seen = follows_on nx y.seen r.all (log x) g.seen on;
                other = follows_on nx y.other r.all (log x) g.other on;
                whole = λ u e. absurd (alone j y u ne d (has_served u y.stage e) (r.roster.served j y u d e));
                mine = g.mine;
              })
              (append_rises 0 (length me.0.seen) (length (log x) - length me.0.seen) me.0.mine (r.roster.rises id me.0 at) (omega arith) old_below)
              new_inside
              (λ z i j y ne d g. ⊎_elim (λ o. ne (r.roster.owners j id y me.0 z d at g o)) (λ o. let b = in_numbers z (length me.0.seen) (length (log x) - length me.0.seen) o in let p = r.roster.past j y z d g in omega arith) (in_append z me.0.mine added i))
              (omega arith);
          slot = ⊎_elim (λ (h : Home setting log next k r.all s.homes s.views). absurd (h.nobody id me.0 t at served))
              (λ (o : Out r.now s.homes s.views). inl record {
                machine = x;
                home = ap (put_back s.homes) holds ∙ ap (λ l. set l 0 (opt.some (Some x))) o.away;
                same = same;
                whole = refl;
                nobody = λ j y u d e. ⊎_elim (λ (p : (j ≡ id) × (w ≡ y)). quiet u Away tt (ap (λ (z : V). z.stage) p.1 ∙ e))
                    (λ (p : (j ≢ id) × (get_elem? s.views j ≡ opt.some y)). alone j y u p.0 p.1 (has_served u y.stage e) (r.roster.served j y u p.1 e)) (at_set s.views id j w y d);
              }) r.slot;
        },
        (λ x' is. ap (λ (z : M). (gave me.0 (log z), rest me.1)) (ap (first_or x) (sym holds ∙ is))),
      )

  pub learns : (slots id : ℕ) (me : Mine) → me.0.origin ≡ Some k → me.0.stage ≡ Away → Allows Rule slots id me 0 (λ n. n) (Learns setting log next (step slots 0 0 0 opt.none) me)
  learns slots id me live away s r wide at small = dite (dec_le (length me.0.other) (length me.0.seen))
      (λ le. go me.0.seen f.begins f.seen record { one = inl refl; first = follows_self nx me.0.seen; second = follows_between nx me.0.other me.0.seen r.all f.other f.seen le })
      (λ more. go me.0.other f.other_begins f.other record { one = inr refl; first = follows_between nx me.0.seen me.0.other r.all f.seen f.other (omega arith); second = follows_self nx me.0.other })
    where
      nx : List Entry → Hart → Option Entry
      nx = next (setting k.start.value)

      f : Fit r.all me.0
      f = r.roster.each id me.0 k at live

      go : (l : List Entry) → Runs setting log next k (log k.start.value) l → Runs setting log next k l r.all → Longer setting log next k me.0.seen me.0.other l
          → (w : V) × (a : Rattle.atomic_table.specs.Table.Act (Option M)) × Rattle.atomic_table.specs.Table.Valid s.homes me.1 a × Rule (stepped s 0 (get_or s.words 0 0) id me.1 w a) × Learns setting log next (step slots 0 0 0 opt.none) me (get_or s.words 0 0) (w, Rattle.atomic_table.specs.Table.carried_after me.1 a)
      go l begins seen longer = let w : V = staged me.0 l Away in let one = follows_length nx me.0.seen l longer.first in let two = follows_length nx me.0.other l longer.second in
          let below : (z : ℕ) → In z me.0.mine → z < length l = λ z i. ⊎_elim (λ (b : z < length me.0.seen). omega arith) (λ (b : z < length me.0.other). omega arith) (f.mine z i) in (
            w,
            keeps,
            tt,
            record {
              now = r.now;
              given = r.given;
              all = r.all;
              words = set-get_or s.words 0 0 ∙ r.words;
              small = r.small;
              roster = roster_calm r.now r.given r.all k.seats s.views r.roster id me.0 w k.seats at away refl refl
                  (λ a e. record { origin = live; begins = begins; other_begins = begins; seen = seen; other = seen; whole = λ u e. absurd (quiet u Away tt e); mine = λ z i. inl (below z i) })
                  (r.roster.rises id me.0 at)
                  (λ z i. r.roster.past id me.0 z at i)
                  (λ z i j y ne d g. ne (r.roster.owners j id y me.0 z d at g i));
              slot = slot_set r.now r.all s.homes s.views id me.0 w at (subst not_served (sym away) tt) tt r.slot;
            },
            (λ k' lk. (l, refl, subst (λ (z : Origin M). Longer setting log next z me.0.seen me.0.other l) (about_is k k' (sym live ∙ lk)) longer, record { rises = r.roster.rises id me.0 at; below = below })),
          )

  pub splits : (id : ℕ) (v : V) (n : ℕ) → v.origin ≡ Some k → v.stage ≡ Away → n < v.parts → Splits Rule id v (left_of n v) (right_of n v)
  splits id v n live away less s r at = let f = r.roster.each id v k at live in let ll : V = left_of n v in let rr : V = right_of n v in
      let tp = total_one parts_of s.views id v at in let rp = r.roster.parts in
      let fit : (u : V) → u.origin ≡ Some k → u.seen ≡ v.seen → u.other ≡ v.other → u.stage ≡ Away → ((z : ℕ) → In z u.mine → (z < length u.seen) ⊎ (z < length u.other)) → Fit r.all u = λ u a b c d mn. record {
        origin = a;
        begins = subst (Runs setting log next k (log k.start.value)) (sym b) f.begins;
        other_begins = subst (Runs setting log next k (log k.start.value)) (sym c) f.other_begins;
        seen = subst (λ (l : List Entry). Runs setting log next k l r.all) (sym b) f.seen;
        other = subst (λ (l : List Entry). Runs setting log next k l r.all) (sym c) f.other;
        whole = λ t e. absurd (quiet t Away tt (sym d ∙ e));
        mine = mn;
      } in
      let first = roster_calm r.now r.given r.all k.seats s.views r.roster id v ll (k.seats - n) at away away (omega arith) (λ a e. fit ll live refl refl away f.mine) (r.roster.rises id v at) (λ z i. r.roster.past id v z at i) (λ z i j y ne d g. ne (r.roster.owners j id y v z d at g i)) in
      let second = roster_snoc r.now r.given r.all (k.seats - n) (set s.views id ll) first rr refl (λ a e. fit rr live refl refl refl (λ z i. absurd i)) tt (λ z i. i) in
      let total_is : (k.seats - n) + n ≡ k.seats = omega arith in record {
        now = r.now;
        given = r.given;
        all = r.all;
        words = r.words;
        small = r.small;
        roster = subst (λ (z : ℕ). Ros r.now r.given r.all z (set s.views id ll ++ rr ∷ [])) total_is second;
        slot = slot_snoc r.now r.all s.homes (set s.views id ll) rr tt (slot_set r.now r.all s.homes s.views id v ll at (subst not_served (sym away) tt) (subst not_served (sym away) tt) r.slot);
      }

  abbrev is_none : Option (Origin M) → Type 0
  is_none None = Unit {0}
  is_none (Some _) = ⊥

  none_some : (a : Origin M) → None ≡ Some a → ⊥
  none_some a e = subst is_none e tt

  pub joins : (id : ℕ) (v : V) (other : ℕ) (w : V) → v.origin ≡ Some k → v.stage ≡ Away → w.origin ≡ Some k → w.stage ≡ Away → v.other ≡ v.seen → w.other ≡ w.seen → Joins Rule id v other w (both_of v w) spent_view
  joins id v other w vl va wl wa vo wo s r at ne there = let b : V = both_of v w in let f = r.roster.each id v k at vl in
      let was : get_elem? s.views other ≡ opt.some w = sym (set_else s.views id other b ne) ∙ there in let g = r.roster.each other w k was wl in
      let apart' : id ≢ other = λ e. ne (sym e) in let here : get_elem? (set s.views other spent_view) id ≡ opt.some v = set_else s.views other id spent_view apart' ∙ at in
      let pw = total_one parts_of s.views other w was in let rp = r.roster.parts in let less : (k.seats - parts_of w) + parts_of w ≡ k.seats = omega arith in
      let first = roster_calm r.now r.given r.all k.seats s.views r.roster other w spent_view (k.seats - parts_of w) was wa refl (omega arith) (λ a e. absurd (none_some a e)) tt (λ z i. absurd i) (λ z i. absurd i) in
      let second = roster_calm r.now r.given r.all (k.seats - parts_of w) (set s.views other spent_view) first id v b k.seats here va va (omega arith)
      (λ a e. record {
        origin = vl;
        begins = f.begins;
        other_begins = g.begins;
        seen = f.seen;
        other = g.seen;
        whole = λ t e. absurd (quiet t Away tt (sym va ∙ e));
        mine = λ z i. ⊎_elim
            (λ o. inl (⊎_elim (λ (b : z < length v.seen). b) (λ (b : z < length v.other). subst (λ (l : List Entry). z < length l) vo b) (f.mine z o)))
            (λ o. inr (⊎_elim (λ (b : z < length w.seen). b) (λ (b : z < length w.other). subst (λ (l : List Entry). z < length l) wo b) (g.mine z o))) (in_merge z v.mine w.mine i);
      })
      (merge_rises 0 v.mine w.mine (r.roster.rises id v at) (r.roster.rises other w was) (λ z i j. apart' (r.roster.owners id other v w z at was i j)))
      (λ z i. ⊎_elim (λ o. r.roster.past id v z at o) (λ o. r.roster.past other w z was o) (in_merge z v.mine w.mine i))
      (λ z i j y nj d h. ⊎_elim (λ (p : (j ≡ other) × (spent_view ≡ y)). subst (λ (u : V). In z u.mine) (sym p.1) h)
      (λ (p : (j ≢ other) × (get_elem? s.views j ≡ opt.some y)). ⊎_elim (λ o. nj (r.roster.owners j id y v z p.1 at h o)) (λ o. p.0 (r.roster.owners j other y w z p.1 was h o)) (in_merge z v.mine w.mine i)) (at_set s.views other j spent_view y d)) in
      subst (λ (l : List V). Rule record { words = s.words; homes = s.homes; views = l }) (set_swap s.views other id spent_view b ne) record {
        now = r.now;
        given = r.given;
        all = r.all;
        words = r.words;
        small = r.small;
        roster = second;
        slot = slot_set r.now r.all s.homes (set s.views other spent_view) id v b here (subst not_served (sym va) tt) (subst not_served (sym va) tt) (slot_set r.now r.all s.homes s.views other w spent_view was (subst not_served (sym wa) tt) tt r.slot);
      }

  at_only : (v x : V) (j : ℕ) → get_elem? (v ∷ []) j ≡ opt.some x → v ≡ x
  at_only v x zero e = opt.some-injective v x e
  at_only v x (suc j) e = absurd (opt.some-ne-none x (sym e))

  at_zero : (v x : V) (j : ℕ) → get_elem? (v ∷ []) j ≡ opt.some x → j ≡ 0
  at_zero v x zero e = refl
  at_zero v x (suc j) e = absurd (opt.some-ne-none x (sym e))

  pub opens : (m : M) → k.start.value ≡ m → k.seats < 256 → Rule (opening (0 ∷ 0 ∷ []) (Some m ∷ []) (opening_view log k))
  opens m is small = let v : V = opening_view log k in let nx = next (setting k.start.value) in let self = follows_self nx (log k.start.value) in record {
    now = 0;
    given = 0;
    all = log k.start.value;
    words = refl;
    small = small;
    roster = record {
      count = refl;
      parts = omega arith;
      share = λ j x e. subst (λ (y : V). tickets y.stage ≤ y.parts) (at_only v x j e) (omega arith);
      bounds = λ j x t e h. absurd (away_has t x.stage (ap (λ (y : V). y.stage) (sym (at_only v x j e))) h);
      served = λ j x t e h. absurd (quiet t Away tt (ap (λ (y : V). y.stage) (at_only v x j e) ∙ h));
      apart = λ i j x y t e d h g. at_zero v x i e ∙ sym (at_zero v y j d);
      rises = λ j x e. subst (λ (y : V). RisesFrom 0 y.mine) (at_only v x j e) tt;
      past = λ j x z e i. absurd (subst (λ (y : V). In z y.mine) (sym (at_only v x j e)) i);
      owners = λ i j x y z e d h g. at_zero v x i e ∙ sym (at_zero v y j d);
      each = λ j x a e live. subst (Fit (log k.start.value)) (at_only v x j e) record { origin = refl; begins = self; other_begins = self; seen = self; other = self; whole = λ t e. refl; mine = λ z i. absurd i };
    };
    slot = inl record { machine = m; home = refl; same = ap setting (sym is); whole = ap log (sym is); nobody = λ j x t e h. quiet t Away tt (ap (λ (y : V). y.stage) (at_only v x j e) ∙ h) };
  }

  pub closes : (id : ℕ) (v : V) (ws : List ℕ) (xs : List (Option M)) → v.origin ≡ Some k → v.stage ≡ Away → v.parts ≡ k.seats → Final (Seen Rule id v) ws xs → (m : M) × (get_elem? xs 0 ≡ opt.some (Some m)) × Got setting log next k v.seen m × Owns v.mine (length (log m))
  closes id v ws xs live away all_parts final = let s = final.0 in let r = final.1.0 in let at = final.1.1 in let nx = next (setting k.start.value) in let f = r.roster.each id v k at live in ⊎_elim
      (λ (h : Home setting log next k r.all s.homes s.views). let later = subst (Runs setting log next k v.seen) (sym h.whole) f.seen in (
        h.machine,
        final.4 0 (Some h.machine) (ap (λ l. get_elem? l 0) h.home),
        record { same = h.same; later = later; legal = follows_on nx (log k.start.value) v.seen (log h.machine) f.begins later },
        record { rises = r.roster.rises id v at; below = λ z i. subst (λ (l : List Entry). z < length l) (sym h.whole) (r.roster.past id v z at i) },
      ))
      (λ (o : Out r.now s.homes s.views). absurd (
      let other : id ≢ o.who = λ is. quiet r.now Away tt (sym away ∙ (stage_is s id v o.view at (ap (get_elem? s.views) is ∙ o.there) ∙ o.served)) in
      let two = total_two parts_of s.views id o.who v o.view at o.there other in let one : 1 ≤ parts_of o.view = subst (λ (z : Stage). tickets z ≤ o.view.parts) o.served (r.roster.share o.who o.view o.there) in
      let p = r.roster.parts in omega arith))
      r.slot

  -- what a look that finds the ticket says, over the view before the ticket was drawn
  pub served : (st : Rattle.atomic_table.specs.Table.Step (Option M)) (old before after : Mine) (t r ticket : ℕ) → old.0.origin ≡ Some k → old.1 ≡ [] → before ≡ (drawn old.0 t, old.1) → ticket ≡ t % tickets_of_word
      → Looks setting log next st before r after → r ≡ ticket → (x : M) × (after ≡ (staged old.0 (log x) (Served t), (0, Some x) ∷ [])) × Got setting log next k old.0.seen x
  served st old before after t r ticket live none is drawn look hit = let h = look k t (ap (λ (m : Mine). m.0.origin) is ∙ live) (ap (λ (m : Mine). m.0.stage) is) in let got = h.0 (hit ∙ drawn) in let x : M = got.0 in (
    x,
    got.1 ∙ (ap (λ (m : Mine). (staged m.0 (log x) (Served t), (0, Some x) ∷ m.1)) is ∙ ap (λ (l : List (ℕ × Option M)). (staged old.0 (log x) (Served t), (0, Some x) ∷ l)) none),
    subst (λ (m : Mine). Got setting log next k m.0.seen x) is got.2,
  )

  pub held : (m : Mine) (v : V) (o : Option M) → m ≡ (v, (0, o) ∷ []) → m.1 ≡ (0, o) ∷ rest m.1
  held m v o is = ap (λ (p : Mine). p.1) is ∙ ap (λ (p : Mine). (0, o) ∷ rest p.1) (sym is)

  option_of : Option M → List (ℕ × Option M) → Option M
  option_of d [] = d
  option_of d (p ∷ ps) = p.1

  -- what was exchanged is what was held
  pub was_held : (m : Mine) (v : V) (o found : Option M) → m ≡ (v, (0, o) ∷ []) → m.1 ≡ (0, found) ∷ rest m.1 → o ≡ found
  unfolding option_of
  was_held m v o found is e = ap (option_of o) (ap (λ (p : Mine). p.1) (sym is) ∙ e)

  -- the machine that was taken out is the one that stood there
  pub took : (m : Mine) (v : V) (x y : M) (found : Option M) → m ≡ (v, (0, Some x) ∷ []) → m.1 ≡ (0, found) ∷ rest m.1 → found ≡ Some y → x ≡ y
  took m v x y found is e some = ap (λ (o : Option M). unwrap_or o x) (was_held m v (Some x) found is e ∙ some)

  pub rest_none : (m : Mine) (v : V) (o : Option M) → m ≡ (v, (0, o) ∷ []) → ◌≡◌ {A = Mine} (m.0, (0, None) ∷ rest m.1) (v, (0, None) ∷ [])
  rest_none m v o is = ap (λ (p : Mine). (p.0, (0, None) ∷ rest p.1)) is
