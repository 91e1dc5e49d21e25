-- Stores of instructions that enter memory: one, none, and several, one after the other; and a process beside them.
use Rattle.std.proofs.lemmas.List.Elements.{filter-append}
use Rattle.mach_types.specs.Kernel.Pages.{can_read}
use Rattle.process.specs.Refinement.{IsReadable}
use Rattle.shared_procs.proofs.Common.{◌≡◌, ℕ, ◌++◌, ◌/◌, ◌||◌, Bool, true, false, List, [], ◌∷◌, drop, append_assoc, append-nil, Option, Some, None, IfSome, slice_get, refl, sym, ap, ◌∙◌, subst, all_stored, AllByRecursion, AreEntering, AreStorable, aside, can_write, Done, each_byte, filter, fun_ext, HaveEntered, HaveLost, here_in_plain, HoldsPages, is_in_segment, is_shared, IsTied, lost_after, Map, may_write, nothing, Parts, permission_in, Plain, Setting, storable_in, Store, Stored, Write, written, lost_app}
use Rattle.shared_procs.proofs.TiedAlike.{quietly_aside}

-- LISTS OF STORES

pub written_app : (ws vs : List Write) (a b : ℕ) → written vs a (written ws a b) ≡ written (ws ++ vs) a b
written_app [] vs a b = refl
written_app (w ∷ ws) vs a b = written_app ws vs a _

pub stored_app : (ss ts : List Store) → all_stored (ss ++ ts) ≡ all_stored ss ++ all_stored ts
stored_app [] ts = refl
stored_app (s ∷ ss) ts = ap (λ (ws : List Write). Stored s ∷ ws) (stored_app ss ts)

pub shared_both : (ws vs : List Write) → filter is_shared (ws ++ vs) ≡ filter is_shared ws ++ filter is_shared vs
shared_both ws vs = filter-append is_shared ws vs

pub shared_app : (ss ts : List Store) → filter is_shared (all_stored (ss ++ ts)) ≡ filter is_shared (all_stored ss) ++ filter is_shared (all_stored ts)
shared_app ss ts = ap (filter is_shared) (stored_app ss ts) ∙ shared_both (all_stored ss) (all_stored ts)

-- WHAT ENTERED MEMORY

-- none
pub entered_none : (m : Map) (segment : List ℕ) → HaveEntered [] m segment m segment
entered_none m segment = record { pages = λ ps lowest byte holds. holds; shared = λ shared holds. holds; permissions = λ n. refl }

-- some, and others behind them
pub entered_app : (ss ts : List Store) (m m1 m2 : Map) (segment segment1 segment2 : List ℕ) → HaveEntered ss m segment m1 segment1
    → HaveEntered ts m1 segment1 m2 segment2 → HaveEntered (ss ++ ts) m segment m2 segment2
entered_app ss ts m m1 m2 segment segment1 segment2 first then = record {
  pages = λ ps lowest byte holds.
      subst (λ (b : ℕ → ℕ). HoldsPages ps lowest b m2)
      (fun_ext (λ a.
      written_app (all_stored ss) (all_stored ts) a (byte a)
      ∙ ap (λ (ws : List Write). written ws a (byte a)) (sym (stored_app ss ts))))
      (then.pages ps lowest (λ a. written (all_stored ss) a (byte a)) (first.pages ps lowest byte holds));
  shared = λ shared holds a is.
      then.shared (λ b. written (filter is_shared (all_stored ss)) b (shared b)) (first.shared shared holds) a is
      ∙ written_app (filter is_shared (all_stored ss)) (filter is_shared (all_stored ts)) a (shared a)
      ∙ ap (λ (ws : List Write). written ws a (shared a)) (sym (shared_app ss ts));
  permissions = λ n. then.permissions n ∙ first.permissions n;
}

-- WHAT MAY STILL ENTER

storable_same : (m m' : Map) → ((n : ℕ) → permission_in m' n ≡ permission_in m n) → storable_in m' ≡ storable_in m
storable_same m m' same =
    let storable_by : (ℕ → Option ℕ) → ℕ → Bool = λ permission a. is_in_segment a || may_write (permission (a / 4096)) in
    ap storable_by (fun_ext same)

pub storable_kept : (m m' : Map) (ws : List Store) → ((n : ℕ) → permission_in m' n ≡ permission_in m n) → AreStorable m ws → AreStorable m' ws
storable_kept m m' ws same may =
    subst (λ (can : ℕ → Bool). AllByRecursion (λ (w : Store). each_byte can w.at w.size ≡ true) ws) (sym (storable_same m m' same)) may

pub readable_kept : (m m' : Map) → ((n : ℕ) → permission_in m' n ≡ permission_in m n) → IsReadable m → IsReadable m'
readable_kept m m' same readable n may = ap can_read (same n) ∙ readable n (sym (ap can_write (same n)) ∙ may)

-- the oldest of stores that may
pub oldest_may : (m : Map) (ws : List Store) (o : Option Store) → AreStorable m ws → o ≡ slice_get ws 0
    → IfSome o (λ w. each_byte (storable_in m) w.at w.size ≡ true)
oldest_may m ws o may is = subst (λ (q : Option Store). IfSome q (λ w. each_byte (storable_in m) w.at w.size ≡ true)) (sym is) (go ws may)
  where
    go : (ws : List Store) → AreStorable m ws → IfSome (slice_get ws 0) (λ w. each_byte (storable_in m) w.at w.size ≡ true)
    go [] may = tt
    go (w ∷ ws) may = may.0

-- A PROCESS BESIDE THEM

-- one that sees them where they lie in the segment
pub lost_shown : (h : ℕ) (ws : List Store) (other other' : Parts)
    → ((s : Setting) (y : Plain) (d : Done) → IsTied s y other → d.took ≡ false → d.barrier ≡ None
    → IsTied s (aside h d (filter is_shared (all_stored ws)) y) other')
    → HaveLost ws other other'
lost_shown h ws other other' shown s y tied =
    quietly_aside s y other' h (filter is_shared (all_stored ws)) (shown s y (nothing (here_in_plain s y h)) tied refl refl)

lost_both : (ss ts : List Store) (m m1 m2 : Parts) → HaveLost ss m m1 → HaveLost ts m1 m2 → HaveLost (ss ++ ts) m m2
lost_both ss ts m m1 m2 first then s y tied =
    subst (λ (r : ℕ → Option ℕ). IsTied s (record y { reserved = r }) m2)
    (fun_ext (λ k.
    lost_app (filter is_shared (all_stored ss)) (filter is_shared (all_stored ts)) (y.reserved k)
    ∙ ap (λ (ws : List Write). lost_after ws (y.reserved k)) (sym (shared_app ss ts))))
    (then s (record y { reserved = λ k. lost_after (filter is_shared (all_stored ss)) (y.reserved k) }) (first s y tied))

-- ONE AFTER THE OTHER

pub entering_more : (waited left : List Store) (w : Store) (m m1 m2 : Map) (segment segment1 segment2 : List ℕ) (other other1 other2 : Parts)
    → AreEntering waited left m segment other m1 segment1 other1 → Some w ≡ slice_get left 0
    → HaveEntered (w ∷ []) m1 segment1 m2 segment2 → HaveLost (w ∷ []) other1 other2
    → AreEntering waited (drop 1 left) m segment other m2 segment2 other2
entering_more waited [] w m m1 m2 segment segment1 segment2 other other1 other2 so at entered lost = cc
entering_more waited (v ∷ left) w m m1 m2 segment segment1 segment2 other other1 other2 so at entered lost =
    let same : w ≡ v = cc in
    record {
      gone = so.gone ++ w ∷ [];
      all = append_assoc so.gone (w ∷ []) left ∙ ap (λ (u : Store). so.gone ++ (u ∷ left)) same ∙ so.all;
      entered = entered_app so.gone (w ∷ []) m m1 m2 segment segment1 segment2 so.entered entered;
      lost = lost_both so.gone (w ∷ []) other other1 other2 so.lost lost;
      storable = storable_kept m1 m2 left entered.permissions so.storable.1;
    }

pub none_left : (left : List Store) → None ≡ slice_get left 0 → left ≡ []
none_left [] at = refl
none_left (v ∷ left) at = cc

-- until none is left
pub entering_end : (waited left : List Store) (m m' : Map) (segment segment' : List ℕ) (other other' : Parts)
    → AreEntering waited left m segment other m' segment' other' → None ≡ slice_get left 0 → HaveEntered waited m segment m' segment' × HaveLost waited other other'
entering_end waited left m m' segment segment' other other' so at =
    let all : so.gone ≡ waited = sym (append-nil so.gone) ∙ ap (λ (ws : List Store). so.gone ++ ws) (sym (none_left left at)) ∙ so.all in (
      subst (λ (ws : List Store). HaveEntered ws m segment m' segment') all so.entered,
      subst (λ (ws : List Store). HaveLost ws other other') all so.lost,
    )
