-- A thread that is interrupted on its way to a hart: what is written, and which harts lose reservations of it.
use Rattle.process.proofs.Common.{◌≡◌, ◌≢◌, ℕ, ◌+◌, ◌<◌, ◌^◌, List, [], ◌++◌, append-nil, refl, sym, ap, ◌∙◌, subst, Bool, true, false, not, cond, eqb, eq-eqb, Option, Some, None, is_some, set, slice_get, IfSome, option_map, ne_eqb, after_writes, each_byte, written, Words, interruption, is_inside, named, pc_after, words_entered, words_on, words_written, writes_of, Area, Done, HartState, Here, IsWritten, Outcome, Parts, Saved, Write, file_among, is_writable, lost_unless, next_id, IsAlike, Map, are_visible, byte_in, can_write_in, held_in, writable_is_visible, done_killed, done_run, done_running, lives_on, area_here, can_write_words, files_interrupted, interruption_here, words_to, IsChanged, IsReadied, IsWaiting, and_from, alike_holds}
use Rattle.sys_calls.proofs.AreaWords.{pass_each, writable_below, words_visible as area_words_visible}
use Rattle.sys_calls.proofs.KernelWrites.{twice, none_written as none_written_by}
use Rattle.mach_types.specs.Kernel.Areas.{are_words_writable, is_clearable, outcome_of, pointer_cleared}
use Rattle.mach_types.specs.declared.sequences.BadWhy.TheVariants as bad
use Rattle.mach_types.specs.declared.sequences.Named.{Named}
use Rattle.mach_types.specs.declared.sequences.Named.TheVariants as names
use Rattle.mach_types.specs.declared.sequences.Outcome.TheVariants as comes_to
use Rattle.process.proofs.Events.{AreBeside, HaveLost, IsQuiet, quietly}
use Rattle.process.proofs.HartStates.{get_set_other, get_set_same, of_each}
use Rattle.process.proofs.ReservationLosses.{lost_app}

-- HARTS

-- a hart that changed after the others lost what was written
begun_lost : (h : ℕ) (d : Done) (xs ys zs : List HartState) (x : HartState) (f : HartState → HartState) → slice_get xs h ≡ Some x
    → ((k : ℕ) → slice_get ys k ≡ option_map (lost_unless (eqb k h) d.entered) (slice_get xs k)) → IsChanged h f ys zs → HaveLost h d (set xs h (f x)) zs
begun_lost h d xs ys zs x f at lost changed k =
    of_each (λ j. slice_get zs j ≡ option_map (lost_unless (eqb j h) d.entered) (slice_get (set xs h (f x)) j)) h k own other
  where
    own : slice_get zs h ≡ option_map (lost_unless (eqb h h) d.entered) (slice_get (set xs h (f x)) h)
    own =
        let same = eq-eqb h h refl in
        let before : slice_get ys h ≡ Some x = lost h ∙ rw (same, at) refl in
        let after : slice_get zs h ≡ Some (f x) = changed h ∙ rw (same, before) refl in
        after ∙ sym (rw (same, get_set_same xs h x (f x) at) refl)

    other : k ≢ h → slice_get zs k ≡ option_map (lost_unless (eqb k h) d.entered) (slice_get (set xs h (f x)) k)
    other ne =
        let after : slice_get zs k ≡ slice_get ys k = changed k ∙ rw (ne_eqb k h ne) refl in
        after ∙ lost k ∙ ap (option_map (lost_unless (eqb k h) d.entered)) (sym (get_set_other xs h k (f x) ne))

pub begun_beside : (h : ℕ) (d : Done) (xs ys zs : List HartState) (x : HartState) (f : HartState → HartState) → IsQuiet d → slice_get xs h ≡ Some x
    → ((k : ℕ) → slice_get ys k ≡ option_map (lost_unless (eqb k h) d.entered) (slice_get xs k)) → IsChanged h f ys zs → AreBeside h d (set xs h (f x)) zs
begun_beside h d xs ys zs x f quiet at lost changed = quietly h d (set xs h (f x)) zs quiet (begun_lost h d xs ys zs x f at lost changed)

lost_both : (b : Bool) (ws vs : List Write) (x : HartState) → lost_unless b vs (lost_unless b ws x) ≡ lost_unless b (ws ++ vs) x
lost_both true ws vs x = refl
lost_both false ws vs x = ap (λ r. let y : HartState = record x { reserved = r } in y) (lost_app ws vs x.reserved)

pub lost_twice : (b : Bool) (ws vs : List Write) (o : Option HartState) → option_map (lost_unless b vs) (option_map (lost_unless b ws) o) ≡ option_map (lost_unless b (ws ++ vs)) o
lost_twice b ws vs None = refl
lost_twice b ws vs (Some x) = ap Some (lost_both b ws vs x)

-- PAGES

pub written_both : (ws vs : List Write) (m m1 m2 : Map) → IsWritten ws m m1 → IsWritten vs m1 m2 → IsWritten (ws ++ vs) m m2
written_both ws vs m m1 m2 first then = record {
  permissions = λ n. then.permissions n ∙ first.permissions n;
  held = λ a. then.held a ∙ ap (option_map (written vs a)) (first.held a) ∙ twice ws vs a (held_in m a);
  free = then.free ∙ first.free;
  break_at = then.break_at ∙ first.break_at;
  break_start = then.break_start ∙ first.break_start;
}

pub none_written : (m : Map) → IsWritten [] m m
none_written m = record {
  permissions = λ n. refl;
  held = λ a. none_written_by (held_in m a) a;
  free = refl;
  break_at = refl;
  break_start = refl;
}

-- writes to bytes that could be read, through any memory
pub written_by : (m m' : Map) (ws : List Write) → IsAlike m m' → are_visible m ws ≡ true → ((a : ℕ) → byte_in m' a ≡ after_writes ws (byte_in m) a) → IsWritten ws m m'
written_by m m' ws alike visible bytes = record {
  permissions = alike.permissions;
  held = alike_holds m m' ws alike visible bytes;
  free = alike.free;
  break_at = alike.break_at;
  break_start = alike.break_start;
}

-- THE POINTER

-- what an interruption comes to writes only where the pointer can be written
pub record IsClearing (m : Map) (area : Option Area) (o : Outcome) : Type 0 where
  pub visible : are_visible m (writes_of area o) ≡ true
  pub fits : writes_of area o ≢ [] → IfSome area (λ a. a.at + 8 < 2 ^ 64)

clears_nothing : (m : Map) (area : Area) (o : Outcome) → writes_of (Some area) o ≡ [] → IsClearing m (Some area) o
clears_nothing m area o none = record {
  visible = ap (are_visible m) none;
  fits = λ some. absurd (some none);
}

clears_pointer : (m : Map) (area : Area) (o : Outcome) → is_clearable (can_write_in m) area ≡ true → writes_of (Some area) o ≡ pointer_cleared (Some area) → IsClearing m (Some area) o
clears_pointer m area o may is = record {
  visible = ap (are_visible m) is ∙ and_from (each_byte (λ a. is_some (byte_in m a)) (area.at + 8) 8) true (writable_is_visible m (area.at + 8) 8 may) refl;
  fits = λ some. writable_below m (area.at + 8) 7 may;
}

clears : (m : Map) (area : Area) (pc : ℕ) (n : Named) → IsClearing m (Some area) (outcome_of (can_write_in m) area pc n)
clears m area pc names.Nothing = clears_nothing m area comes_to.Nothing refl
clears m area pc (names.Bad why) = clears_nothing m area (comes_to.Killed why) refl
clears m area pc (names.Good sequence) = go (is_clearable (can_write_in m) area) refl
  where
    inner : (b : Bool) → is_clearable (can_write_in m) area ≡ true → IsClearing m (Some area) (cond b (comes_to.Aborted sequence.abort) comes_to.Cleared)
    inner true may = clears_pointer m area (comes_to.Aborted sequence.abort) may refl
    inner false may = clears_pointer m area comes_to.Cleared may refl

    go : (b : Bool) → is_clearable (can_write_in m) area ≡ b
        → IsClearing m (Some area) (cond (not b) (comes_to.Killed bad.AreaBytes) (cond (is_inside sequence pc) (comes_to.Aborted sequence.abort) comes_to.Cleared))
    go true may = inner (is_inside sequence pc) may
    go false fails = clears_nothing m area (comes_to.Killed bad.AreaBytes) refl

pub clearing : (m : Map) (area : Option Area) (pc : ℕ) (o : Outcome) → o ≡ interruption (byte_in m) (can_write_in m) area pc → IsClearing m area o
clearing m None pc o is = subst (IsClearing m None) (sym is) (record { visible = refl; fits = λ some. absurd (some refl) })
clearing m (Some area) pc o is = subst (IsClearing m (Some area)) (sym is) (clears m area pc (named (byte_in m) area pc))

-- THE WORDS

pub record AreWords (m : Map) (area : Area) (w : Words) : Type 0 where
  pub visible : are_visible m (words_written area w) ≡ true
  pub fits : area.at + 24 < 2 ^ 64

pub words_visible : (m : Map) (area : Area) (w : Words) → are_words_writable (can_write_in m) area ≡ true → AreWords m area w
words_visible m area w may = record {
  visible = area_words_visible m area w may;
  fits = writable_below m (area.at + 24) 3 (pass_each (can_write_in m) area may).cid;
}

-- what is written where they were
pub words_there : (h : Here) (area : Area) (w : Words) (can_write : ℕ → Bool) (made : Bool) → is_writable h ≡ can_write → made ≡ are_words_writable can_write area
    → words_entered made area w ≡ words_to h (Some area) w
words_there h area w can_write made same is = ap (λ b. words_entered b area w) (is ∙ ap (λ (c : ℕ → Bool). are_words_writable c area) (sym same))

-- THE FILE

pub file_is : (here : Here) (t : ℕ) (o : Outcome) (x : Saved) → x ≡ here.file t → record x { pc = pc_after x.pc o } ≡ file_among (files_interrupted here t o) t (here.file t)
file_is here t (comes_to.Aborted at) x is = rw (eq-eqb t t refl, is) refl
file_is here t o x is = is

either_files : (here : Here) (t : ℕ) (o : Outcome) (b : Bool) → (cond b (done_running here t o) (done_killed here t o)).files ≡ files_interrupted here t o
either_files here t o true = refl
either_files here t o false = refl

-- READY

abbrev pub is_fatal : Outcome → Bool
is_fatal comes_to.Nothing = false
is_fatal comes_to.Cleared = false
is_fatal (comes_to.Aborted at) = false
is_fatal (comes_to.Killed why) = true

pub lives_by_words : (here : Here) (t : ℕ) (o : Outcome) → is_fatal o ≡ false → lives_on here t o ≡ can_write_words here (area_here here t)
lives_by_words here t (comes_to.Killed why) goes = cc
lives_by_words here t o goes = refl

no_words : (here : Here) (area : Option Area) (w : Words) → can_write_words here area ≡ false → words_to here area w ≡ []
no_words here None w fails = cc
no_words here (Some area) w fails = ap (λ b. words_entered b area w) fails

pub entered_by_words : (here : Here) (t : ℕ) (o : Outcome) (b : Bool) → can_write_words here (area_here here t) ≡ b
    → writes_of (area_here here t) o ++ words_to here (area_here here t) (words_on here.hart (next_id here.kernel.ids))
    ≡ (cond b (done_running here t o) (done_killed here t o)).entered
entered_by_words here t o true may = refl
entered_by_words here t o false fails =
    ap (λ ws. writes_of (area_here here t) o ++ ws) (no_words here (area_here here t) (words_on here.hart (next_id here.kernel.ids)) fails)
    ∙ append-nil (writes_of (area_here here t) o)

-- the words of an area are written, or can't be
told_entered : (m m' : Map) (area : Area) (w : Words) (r : Bool) → r ≡ are_words_writable (can_write_in m) area → IsAlike m m'
    → ((a : ℕ) → byte_in m' a ≡ after_writes (words_entered r area w) (byte_in m) a) → IsWritten (words_entered r area w) m m'
told_entered m m' area w true is alike bytes = written_by m m' (words_written area w) alike (words_visible m area w (sym is)).visible bytes
told_entered m m' area w false is alike bytes = written_by m m' [] alike refl bytes

pub told_pages : (h : Here) (m m' : Map) (o : Option Area) (area : Area) (w : Words) (r : Bool) → o ≡ Some area → is_writable h ≡ can_write_in m → r ≡ are_words_writable (can_write_in m) area
    → IsAlike m m' → ((a : ℕ) → byte_in m' a ≡ after_writes (words_entered r area w) (byte_in m) a) → IsWritten (words_to h o w) m m'
told_pages h m m' o area w r has same is alike bytes =
    subst (λ (ws : List Write). IsWritten ws m m') (words_there h area w (can_write_in m) r same is ∙ ap (λ z. words_to h z w) (sym has)) (told_entered m m' area w r is alike bytes)

pub told_answer : (h : Here) (m : Map) (o : Option Area) (area : Area) (r : Bool) → o ≡ Some area → is_writable h ≡ can_write_in m → r ≡ are_words_writable (can_write_in m) area → r ≡ can_write_words h o
told_answer h m o area r has same is = is ∙ ap (λ (c : ℕ → Bool). are_words_writable c area) (sym same) ∙ ap (can_write_words h) (sym has)

-- what is told of them
pub told_all : (h : Here) (m : Map) (o : Option Area) (area : Area) (w : Words) → o ≡ Some area → is_writable h ≡ can_write_in m → are_words_writable (can_write_in m) area ≡ true → words_written area w ≡ words_to h o w
told_all h m o area w has same may = words_there h area w (can_write_in m) true same (sym may) ∙ ap (λ z. words_to h z w) (sym has)

pub told_none : (h : Here) (m : Map) (o : Option Area) (area : Area) (w : Words) → o ≡ Some area → is_writable h ≡ can_write_in m → are_words_writable (can_write_in m) area ≡ false → [] ≡ words_to h o w
told_none h m o area w has same fails = words_there h area w (can_write_in m) false same (sym fails) ∙ ap (λ z. words_to h z w) (sym has)

-- a thread that lives through it, whose area got its words or has none, or whose process is killed since they couldn't be written
pub readied_told : (here : Here) (t h : ℕ) (o : Outcome) (made : Bool) (x y : Saved) (m m1 m2 : Parts) (a : Option Area) (n : ℕ) → IsWaiting here t h m.pages a x n
    → interruption (byte_in m.pages) (can_write_in m.pages) a x.pc ≡ o → is_fatal o ≡ false → y ≡ record x { pc = pc_after x.pc o } → made ≡ can_write_words here a
    → IsWritten (writes_of a o) m.pages m1.pages → IsWritten (words_to here a (words_on h n)) m1.pages m2.pages
    → ((k : ℕ) → slice_get m1.harts.items k ≡ option_map (lost_unless (eqb k h) (writes_of a o)) (slice_get m.harts.items k))
    → ((k : ℕ) → slice_get m2.harts.items k ≡ option_map (lost_unless (eqb k h) (words_to here a (words_on h n))) (slice_get m1.harts.items k))
    → IsReadied here t made y m m2
readied_told here t h o made x y m m1 m2 a n waits comes goes file is pages1 pages2 harts1 harts2 =
    let same : interruption_here here t ≡ o = rw (waits.bytes, waits.writable, waits.area, waits.file) at comes in
    let ws = writes_of a o in
    let vs = words_to here a (words_on h n) in
    let lives : can_write_words here (area_here here t) ≡ made = ap (can_write_words here) (sym waits.area) ∙ sym is in
    let all : ws ++ vs ≡ (done_run here t).entered =
    rw (waits.area, waits.hart, waits.id) (entered_by_words here t o made lives)
    ∙ sym (ap (λ b. (cond b (done_running here t o) (done_killed here t o)).entered) (lives_by_words here t o goes ∙ lives))
    ∙ sym (ap (λ p. (cond (lives_on here t p) (done_running here t p) (done_killed here t p)).entered) same) in
    record {
      lives = is ∙ ap (can_write_words here) waits.area ∙ sym (lives_by_words here t o goes) ∙ sym (ap (lives_on here t) same);
      file = file ∙ file_is here t o x waits.file
          ∙ sym (ap (λ fs. file_among fs t (here.file t)) (ap (λ p. (cond (lives_on here t p) (done_running here t p) (done_killed here t p)).files) same ∙ either_files here t o (lives_on here t o)));
      pages = subst (λ (us : List Write). IsWritten us m.pages m2.pages) all (written_both ws vs m.pages m1.pages m2.pages pages1 pages2);
      harts = λ k. harts2 k ∙ ap (option_map (lost_unless (eqb k h) vs)) (harts1 k) ∙ lost_twice (eqb k h) ws vs (slice_get m.harts.items k)
          ∙ ap (λ us. option_map (lost_unless (eqb k h) us) (slice_get m.harts.items k)) all
          ∙ ap (λ j. option_map (lost_unless (eqb k j) (done_run here t).entered) (slice_get m.harts.items k)) waits.hart;
    }
