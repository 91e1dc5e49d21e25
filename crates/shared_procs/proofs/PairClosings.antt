-- Both processes of a pair, and the segment, after an event: where it ended its process, with what waited on the process's harts.
use Rattle.std.proofs.lemmas.List.{length-set}
use Rattle.std.proofs.lemmas.Option.{same_Some, slice_get_past}
use Rattle.mach_types.specs.declared.limits.End.TheVariants as over
use Rattle.block_model.specs.Here.{writable_in}
use Rattle.process.proofs.Laws.{get_set_other, get_set_same}
use Rattle.shared_procs.proofs.Common.{◌≡◌, ◌≢◌, ℕ, suc, ◌<◌, ◌≤◌, ◌++◌, ◌||◌, Bool, true, false, not, cond, eqb, ltb, inl, inr, List, [], drop, length, append-nil, get_or, set, Option, Some, None, is_some, slice_get, refl, sym, ap, ◌∙◌, subst, arith, all_stored, AllByRecursion, apply, apply_two, AreBoth, AreEmptied, AreStorable, aside, can_write_in, cases_eq, cases_lt, Choice, closing, credit_of, Done, done_as, done_of, each_byte, End, ended_if, ends_by_process, filter, fit_at, fun_ext, Half, half, hart_at, hart_tied, HartState, has_ended, HaveEntered, HaveLost, here_two, HoldsPages, HoldsShared, is_in_segment, is_shared, is_stuck, IsCounted, IsPlace, IsStanding, IsTied, IsUncounted, le-ltb, lost_after, lt-ltb, MayEmpty, nat_tests, Neighbour, neighbour, option_map_or, option_or, or_in_segment, Pair, PairSetting, Parts, permission_in, Plain, refusal_of, Setting, setting, stand, stand_next, Store, waiting_below, writable_held, Write, written, emptied, lost_app}
use Rattle.shared_procs.proofs.Entered.{readable_kept, shared_app, shared_both, storable_kept, stored_app, written_app}
use Rattle.shared_procs.proofs.EventFacts.{does_so}
use Rattle.shared_procs.proofs.PairEnds.{ended_tells}
use Rattle.shared_procs.proofs.TiedAlike.{tied_as}
use Rattle.shared_procs.proofs.Halves.{below_same, open_so_far}

-- WHAT WAITS MAY ENTER MEMORY

-- where a process stands beside another one
pub may_empty : (s : Setting) (x : Plain) (o : Neighbour) (m : Parts) → IsStanding (record { setting = s; plain = x; beside = Some o }) → IsTied s x m
    → MayEmpty m
may_empty s x o m stands tied k z at =
    elim (cases_lt k (length m.harts.items)) [
      | inl listed ↦
          let all = tied.all_harts in
          let lt : k < s.limits.harts = omega (arith, listed, all) in
          let own : z ≡ hart_at s x k (credit_of m.harts.items k) =
          same_Some z (hart_at s x k (credit_of m.harts.items k)) (sym at ∙ tied.harts k lt) in
          let buffer : z.buffer ≡ x.waiting k = ap (λ (y : HartState). y.buffer) own in
          let storable_by : (ℕ → Bool) → ℕ → Bool = λ test a. is_in_segment a || test a in
          let can : storable_by (can_write_in m.pages) ≡ or_in_segment (Some o) (writable_in x.kernel) =
          ap storable_by (writable_held x.kernel s.program.break_at x.byte m.pages tied.pages tied.readable) in
          subst (λ (ws : List Store). AreStorable m.pages ws) (sym buffer)
          (subst (λ (test : ℕ → Bool). AllByRecursion (λ (w : Store). each_byte test w.at w.size ≡ true) (x.waiting k)) (sym can)
          ((stands.good k lt).within k))
      | inr past ↦ let none : None ≡ Some z = sym (slice_get_past m.harts.items k past) ∙ at in absurd cc
    ]

-- A HART

lt_suc_other : (k n : ℕ) → k ≢ n → ltb k (suc n) ≡ ltb k n
lt_suc_other k n ne = grind (arith, nat_tests, ne)

-- the harts of a list, with their own credits
listed : (s : Setting) (x : Plain) (k c : ℕ) (ys : List HartState) → slice_get ys k ≡ Some (hart_at s x k c)
    → slice_get ys k ≡ Some (hart_at s x k (credit_of ys k))
listed s x k c ys at =
    at ∙ ap (λ n. Some (hart_at s x k n)) (sym (ap (λ o. option_map_or (λ (y : HartState). y.credit) o 0) at))

-- a hart that holds nothing, where it is one of the first
abbrev by_place : Setting → Plain → ℕ → ℕ → Bool → HartState
by_place s x k c b = record (hart_at s x k c) { buffer = cond b [] (x.waiting k); reserved = cond b None (x.reserved k); waits = cond b None (x.awaits k) }

abbrev so_far : ℕ → Plain → Plain
so_far n x = record (emptied n x) { byte = λ a. written (all_stored (waiting_below x n)) a (x.byte a) }

-- a process of which no hart does
emptied_start : (s : PairSetting) (p : Bool) (x y : Plain) (shared : ℕ → ℕ) (mine other : Parts) (segment : List ℕ) → IsTied (setting s p) x mine
    → IsTied (setting s (not p)) y other → HoldsShared shared segment → AreEmptied s p 0 x y shared mine other segment
emptied_start s p x y shared mine other segment tied others holds = record {
  own =
      tied_as (setting s p) x (so_far 0 x) mine tied (λ k c lt. ap (by_place (setting s p) x k c) (sym (le-ltb k 0 (omega arith)))) refl refl refl refl;
  beside = others;
  holds = holds;
}

-- one hart more
module _ (s : PairSetting) (p : Bool) (n : ℕ) (x y : Plain) (shared : ℕ → ℕ) (mine mine' other other' : Parts) (segment segment' : List ℕ) (z : HartState)
    (was : AreEmptied s p n x y shared mine other segment) (in_list : n < length mine.harts.items) (value : z ≡ get_or mine.harts.items n z)
    (entered : HaveEntered z.buffer mine.pages segment mine'.pages segment') (lost : HaveLost z.buffer other other')
    (harts : mine'.harts.items ≡ set mine.harts.items n (record z { buffer = []; reserved = None; waits = None }))
    (kernel : mine'.kernel ≡ mine.kernel) (ended : mine'.ended ≡ mine.ended)
  where
    abbrev credit : ℕ → ℕ
    credit k = credit_of mine.harts.items k

    own_lt : n < s.limits.harts
    own_lt = let all = was.own.all_harts in omega (arith, all, in_list)

    own : z ≡ hart_at (setting s p) (so_far n x) n (credit n)
    own = hart_tied (setting s p) (so_far n x) mine n z was.own own_lt value

    buffer : z.buffer ≡ x.waiting n
    buffer = ap (λ (w : HartState). w.buffer) own ∙ ap (λ b. cond b [] (x.waiting n)) (le-ltb n n (omega arith))

    own_next : slice_get mine'.harts.items n ≡ Some (hart_at (setting s p) (so_far (suc n) x) n (credit n))
    own_next =
        ap (λ (xs : List HartState). slice_get xs n) harts
        ∙ get_set_same mine.harts.items n (hart_at (setting s p) (so_far n x) n (credit n)) (record z { buffer = []; reserved = None; waits = None })
        (was.own.harts n own_lt)
        ∙ ap (λ (w : HartState). Some (record w { buffer = []; reserved = None; waits = None })) own
        ∙ ap (λ b. Some (by_place (setting s p) x n (credit n) b)) (sym (lt-ltb n (suc n) (omega arith)))

    other_next : (k : ℕ) → k < s.limits.harts → k ≢ n → slice_get mine'.harts.items k ≡ Some (hart_at (setting s p) (so_far (suc n) x) k (credit k))
    other_next k lt ne =
        ap (λ (xs : List HartState). slice_get xs k) harts
        ∙ get_set_other mine.harts.items n k (record z { buffer = []; reserved = None; waits = None }) ne
        ∙ was.own.harts k lt
        ∙ ap (λ b. Some (by_place (setting s p) x k (credit k) b)) (sym (lt_suc_other k n ne))

    each_next : (k : ℕ) → k < s.limits.harts → slice_get mine'.harts.items k ≡ Some (hart_at (setting s p) (so_far (suc n) x) k (credit k))
    each_next k lt = elim (cases_eq k n) [
      | inl same ↦
          subst (λ j. slice_get mine'.harts.items j ≡ Some (hart_at (setting s p) (so_far (suc n) x) j (credit j))) (sym same) own_next
      | inr ne ↦ other_next k lt ne
    ]

    tied_next : IsTied (setting s p) (so_far (suc n) x) mine'
    tied_next = record {
      all_harts = ap length harts ∙ length-set mine.harts.items n (record z { buffer = []; reserved = None; waits = None }) ∙ was.own.all_harts;
      harts = λ k lt. listed (setting s p) (so_far (suc n) x) k (credit k) mine'.harts.items (each_next k lt);
      pages =
          subst (λ (f : ℕ → ℕ). HoldsPages x.kernel.pages (setting s p).program.break_at f mine'.pages)
          (fun_ext (λ a.
          written_app (all_stored (waiting_below x n)) (all_stored z.buffer) a (x.byte a)
          ∙ ap (λ (ws : List Write). written ws a (x.byte a)) (sym (stored_app (waiting_below x n) z.buffer))
          ∙ ap (λ (ws : List Store). written (all_stored (waiting_below x n ++ ws)) a (x.byte a)) buffer))
          (entered.pages x.kernel.pages (setting s p).program.break_at (so_far n x).byte was.own.pages);
      readable = readable_kept mine.pages mine'.pages entered.permissions was.own.readable;
      tables = rw kernel was.own.tables;
      table = rw kernel was.own.table;
      saved = rw kernel was.own.saved;
      ended = ended ∙ was.own.ended;
    }

    abbrev seen : List Store → List Write
    seen ws = filter is_shared (all_stored ws)

    seen_more : seen (waiting_below x n) ++ seen z.buffer ≡ seen (waiting_below x (suc n))
    seen_more = sym (shared_app (waiting_below x n) z.buffer) ∙ ap (λ (ws : List Store). seen (waiting_below x n ++ ws)) buffer

    pub emptied_next : AreEmptied s p (suc n) x y shared mine' other' segment'
    emptied_next = record {
      own = tied_next;
      beside =
          subst (λ (r : ℕ → Option ℕ). IsTied (setting s (not p)) (record y { reserved = r }) other')
          (fun_ext (λ k.
          lost_app (seen (waiting_below x n)) (seen z.buffer) (y.reserved k) ∙ ap (λ (ws : List Write). lost_after ws (y.reserved k)) seen_more))
          (lost (setting s (not p)) (record y { reserved = λ k. lost_after (seen (waiting_below x n)) (y.reserved k) }) was.beside);
      holds = λ a is.
          entered.shared (λ b. written (seen (waiting_below x n)) b (shared b)) was.holds a is
          ∙ written_app (seen (waiting_below x n)) (seen z.buffer) a (shared a)
          ∙ ap (λ (ws : List Write). written ws a (shared a)) seen_more;
    }

-- and what waits on the harts behind it may enter memory as before
pub may_still : (mine mine' : Parts) (n : ℕ) (z : HartState) → MayEmpty mine
    → mine'.harts.items ≡ set mine.harts.items n (record z { buffer = []; reserved = None; waits = None })
    → slice_get mine.harts.items n ≡ Some z → ((k : ℕ) → permission_in mine'.pages k ≡ permission_in mine.pages k) → MayEmpty mine'
may_still mine mine' n z may harts there same k w at =
    elim (cases_eq k n) [
      | inl own ↦
          let now : slice_get mine'.harts.items n ≡ Some (record z { buffer = []; reserved = None; waits = None }) =
          ap (λ (xs : List HartState). slice_get xs n) harts
          ∙ get_set_same mine.harts.items n z (record z { buffer = []; reserved = None; waits = None }) there in
          let is : Some w ≡ Some (record z { buffer = []; reserved = None; waits = None }) =
          sym at ∙ ap (slice_get mine'.harts.items) own ∙ now in
          let none : [] ≡ w.buffer = sym (ap (λ (y : HartState). y.buffer) (same_Some w (record z { buffer = []; reserved = None; waits = None }) is)) in
          subst (AreStorable mine'.pages) none tt
      | inr ne ↦
          storable_kept mine.pages mine'.pages w.buffer same
          (may k w
          (sym
          (ap (λ (xs : List HartState). slice_get xs k) harts
          ∙ get_set_other mine.harts.items n k (record z { buffer = []; reserved = None; waits = None }) ne)
          ∙ at))
    ]

-- THE PROCESS

-- how it ended
tells : (o q : Option End) (stuck : Bool) → q ≡ None → o ≢ Some over.Stuck
    → has_ended (option_or (option_or o q) (cond stuck (Some over.Stuck) None)) ≡ is_some o
tells None q stuck none fine =
    ap (λ (r : Option End). has_ended (option_or r (cond stuck (Some over.Stuck) None))) none ∙ ended_tells None stuck (λ is. absurd cc)
tells (Some e) q stuck none fine = ended_tells (Some e) stuck fine

-- both after an event
both_after : (s : PairSetting) (m : Pair) (p : Bool) (h : ℕ) (d : Done) (mine other : Half) (segment : List ℕ)
    → IsTied (setting s p) (ended_if d.ended (apply h d (half p m))) mine.parts
    → IsTied (setting s (not p)) (aside h d (filter is_shared d.entered) (half (not p) m)) other.parts
    → HoldsShared (λ a. written (filter is_shared d.entered) a (m.shared a)) segment → AreBoth s (apply_two h p d m) p mine other segment
both_after s m true h d mine other segment own beside holds = record { own = own; beside = beside; holds = holds }
both_after s m false h d mine other segment own beside holds = record { own = own; beside = beside; holds = holds }

module _ (s : PairSetting) (m : Pair) (p : Bool) (h : ℕ) (c : Choice) (mine mine1 mine2 : Parts) (place : IsPlace (stand s m p) mine h)
    (free : refusal_of c (here_two s m p h) ≡ None) (own : IsUncounted (stand s m p) h (done_of c (here_two s m p h)) mine mine1)
    (counted : IsCounted h mine1 mine2)
  where
    abbrev d : Done
    d = done_of c (here_two s m p h)

    abbrev q : Plain
    q = half p m

    abbrev x : Plain
    x = apply h d q

    tied_then : IsTied (setting s p) x mine2
    tied_then = (own.after mine2 counted).tied

    -- what waits then may enter memory
    pub may_then : MayEmpty mine2
    may_then =
        may_empty (setting s p) x (neighbour s m p) mine2
        (stand_next (stand s m p) h d (Some (neighbour s m p)) (λ can. refl) place.lt place.stands (fit_at (stand s m p) mine h c place free) d.entered) tied_then

    pub few_then : length mine2.harts.items ≤ 8
    few_then = let all = tied_then.all_harts in let few = place.limits.eight_harts in omega (arith, all, few)

    ended_is : has_ended mine2.ended ≡ is_some d.ended
    ended_is =
        ap has_ended tied_then.ended
        ∙ tells d.ended q.ended (is_stuck d.kernel.threads) (open_so_far q.ended (cond (is_stuck q.kernel.threads) (Some over.Stuck) None) place.goes)
        (ends_by_process (here_two s m p h) c).1

    module _ (other1 : Parts) (mine3 other3 : Half) (segment1 segment3 : List ℕ)
        (beside : IsTied (setting s (not p)) (aside h d (filter is_shared d.entered) (half (not p) m)) other1)
        (holds : HoldsShared (λ a. written (filter is_shared d.entered) a (m.shared a)) segment1)
      where
        abbrev y : Plain
        y = aside h d (filter is_shared d.entered) (half (not p) m)

        abbrev shared : ℕ → ℕ
        shared a = written (filter is_shared d.entered) a (m.shared a)

        abbrev deed : Option End → Done
        deed o = record d { entered = d.entered ++ all_stored (closing s.limits.harts q o) }

        -- it goes on
        after_none : d.ended ≡ None → mine3.parts ≡ mine2 → other3.parts ≡ other1 → segment3 ≡ segment1
            → AreBoth s (apply_two h p (done_as s m p h c) m) p mine3 other3 segment3
        after_none none mine_is other_is segment_is =
            let same : done_as s m p h c ≡ d = ap deed none ∙ ap (λ (ws : List Write). record d { entered = ws }) (append-nil d.entered) in
            subst (λ (e : Done). AreBoth s (apply_two h p e m) p mine3 other3 segment3) (sym same)
            (both_after s m p h d mine3 other3 segment3
            (subst (λ (o : Option End). IsTied (setting s p) (ended_if o x) mine3.parts) (sym none) (subst (IsTied (setting s p) x) (sym mine_is) tied_then))
            (subst (IsTied (setting s (not p)) y) (sym other_is) beside) (subst (HoldsShared shared) (sym segment_is) holds))

        -- or it ended, and what waited on its harts is as before the event
        waits_same : d.executed ≡ [] → d.drained ≡ 0 → (k : ℕ) → x.waiting k ≡ q.waiting k
        waits_same none few k = by (eqb h k)
          where
            by : (b : Bool) → cond b (drop d.drained (q.waiting k ++ d.executed)) (q.waiting k) ≡ q.waiting k
            by true =
                ap (λ n. drop n (q.waiting k ++ d.executed)) few
                ∙ ap (λ (ws : List Store). q.waiting k ++ ws) none
                ∙ append-nil (q.waiting k)
            by false = refl

        after_end : (e : End) → d.ended ≡ Some e → AreEmptied s p (length mine2.harts.items) x y shared mine3.parts other3.parts segment3
            → AreBoth s (apply_two h p (done_as s m p h c) m) p mine3 other3 segment3
        after_end e is emptied_all =
            let quietly = (does_so (here_two s m p h) c).quietly e is in
            let harts = s.limits.harts in
            let left = below_same x q (waits_same quietly.0 quietly.1) harts in
            let now : AreEmptied s p harts x y shared mine3.parts other3.parts segment3 =
            subst (λ n. AreEmptied s p n x y shared mine3.parts other3.parts segment3) tied_then.all_harts emptied_all in
            let both = deed (Some e) in
            let after : Plain = ended_if (Some e) (apply h both q) in
            let seen : filter is_shared d.entered ++ filter is_shared (all_stored (waiting_below x harts)) ≡ filter is_shared both.entered =
            sym (shared_both d.entered (all_stored (waiting_below x harts))) ∙ ap (λ (ws : List Store). filter is_shared (d.entered ++ all_stored ws)) left in
            subst (λ (f : Done). AreBoth s (apply_two h p f m) p mine3 other3 segment3) (sym (ap deed is))
            (both_after s m p h both mine3 other3 segment3
            (subst (λ (o : Option End). IsTied (setting s p) (ended_if o (apply h both q)) mine3.parts) (sym is)
            (tied_as (setting s p) (so_far harts x) after mine3.parts now.own (λ k c lt. ap (by_place (setting s p) x k c) (lt-ltb k harts lt)) refl refl refl
            (fun_ext (λ a.
            written_app d.entered (all_stored (waiting_below x harts)) a (q.byte a)
            ∙ ap (λ (ws : List Store). written (d.entered ++ all_stored ws) a (q.byte a)) left))))
            (subst (λ (r : ℕ → Option ℕ). IsTied (setting s (not p)) (record y { reserved = r }) other3.parts)
            (fun_ext (λ k.
            lost_app (filter is_shared d.entered) (filter is_shared (all_stored (waiting_below x harts))) ((half (not p) m).reserved k)
            ∙ ap (λ (ws : List Write). lost_after ws ((half (not p) m).reserved k)) seen))
            now.beside)
            (λ a inside.
            now.holds a inside
            ∙ written_app (filter is_shared d.entered) (filter is_shared (all_stored (waiting_below x harts))) a (m.shared a)
            ∙ ap (λ (ws : List Write). written ws a (m.shared a)) seen))

        pub after_any : (has_ended mine2.ended ≡ false → (mine3.parts ≡ mine2) × (other3.parts ≡ other1) × (segment3 ≡ segment1))
            → (has_ended mine2.ended ≡ true → AreEmptied s p 0 x y shared mine2 other1 segment1
            → AreEmptied s p (length mine2.harts.items) x y shared mine3.parts other3.parts segment3)
            → AreBoth s (apply_two h p (done_as s m p h c) m) p mine3 other3 segment3
        after_any lives ends = by d.ended refl
          where
            by : (o : Option End) → d.ended ≡ o → AreBoth s (apply_two h p (done_as s m p h c) m) p mine3 other3 segment3
            by None is = let all = lives (ended_is ∙ ap (λ (o : Option End). is_some o) is) in after_none is all.0 all.1 all.2
            by (Some e) is =
                after_end e is
                (ends (ended_is ∙ ap (λ (o : Option End). is_some o) is)
                (emptied_start s p x y shared mine2 other1 segment1 tied_then beside holds))
