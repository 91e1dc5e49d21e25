-- Where each area is kept and no signal has a handler, an event reaches no thread that rests.
use Rattle.std.proofs.Common.{◌≡◌, ◌≢◌, ℕ, ◌-◌, ◌||◌, inl, inr, Bool, true, false, not, cond, eqb, eqb-true, List, [], ◌∷◌, Option, Some, None, find, get_or, map, zero, suc, refl, sym, ap, ◌∙◌, ◌⊎◌}
use Rattle.std.specs.List.{list_all}
use Rattle.std.specs.Option.{option_map, option_map_or}
use Rattle.mach_types.specs.Kernel.Areas.{area_of, is_area_of, pointer_of}
use Rattle.mach_types.specs.Kernel.Signals.{Signalling, action_of, default_action, is_handler}
use Rattle.mach_types.specs.Kernel.Threads.{Threads, running_on, state_of}
use Rattle.mach_types.specs.declared.events.Choice.{Choice}
use Rattle.mach_types.specs.declared.events.Choice.TheVariants as asked
use Rattle.mach_types.specs.declared.events.Tid.{Tid}
use Rattle.mach_types.specs.declared.sequences.Area.{Area}
use Rattle.mach_types.specs.declared.signal_words.Action.{Action}
use Rattle.mach_types.specs.declared.threads.ThreadState.{ThreadState}
use Rattle.mach_types.specs.declared.threads.ThreadState.TheVariants.{Ready, Running, Waiting}
use Rattle.rv_inst.specs.Execution.{seen_byte}
use Rattle.hart_state.specs.declared.hart.HartState.{HartState}
use Rattle.page_map.specs.Map.{byte_in}
use Rattle.sys_calls.specs.Registered.{areas_by_number}
use Rattle.sys_calls.specs.declared.rseq_areas.RegisteredArea.{RegisteredArea}
use Rattle.block_model.specs.Plain.{Plain}
use Rattle.block_model.specs.Setting.{Setting}
use Rattle.block_model.specs.Tables.{IsTables}
use Rattle.process.specs.Refinement.{IsTied}
use Rattle.process.specs.declared.parts.Parts.{Parts}
use Rattle.process.proofs.Laws.{bytes_held}
use Rattle.local_steps.specs.LocalSteps.{seen_by, seen_in}
use Rattle.local_steps.specs.Resting.{LeavesAreas, looked}
use Rattle.local_steps.specs.Runs.{next_of}
use Rattle.same_places.specs.Places.{rested}
use Rattle.settling.specs.Edges.{IsEdge, own_thread}
use Rattle.settling.specs.Glances.{glance_in, is_same_glance, is_same_or_null, is_same_word, looked_of}
use Rattle.settling.specs.Looks.{is_kept, is_own, look_in, seen_in_parts, seen_in_state}
use Rattle.settling.specs.declared.areas.Glance.{Glance}
use Rattle.settling.specs.declared.edges.Look.{Look}
use Rattle.settling.proofs.Descriptors.{looked_is, pointer_is}
use Rattle.settling.proofs.Settling.{both}

-- WHAT A THREAD SEES

module _ (s : Setting) (p : Plain) (m : Parts) (tied : IsTied s p m) (tables : IsTables s.limits.harts p.kernel.threads p.kernel.scheduling) where
  memory_is : byte_in m.pages ≡ seen_in p None
  memory_is = bytes_held p.kernel s.program.break_at p.byte m.pages tied.pages

  seen_so : (t : ℕ) (o : Option ThreadState) → state_of t p.kernel.threads ≡ o → seen_in_state m o ≡ seen_in p o
  seen_so t None is = memory_is
  seen_so t (Some Ready) is = memory_is
  seen_so t (Some (Waiting at)) is = memory_is
  seen_so t (Some (Running k)) is =
      ap (λ (o : Option HartState). option_map_or (λ (x : HartState). seen_byte x.buffer (byte_in m.pages)) o (byte_in m.pages)) (tied.harts k.0 (tables.below t k is))
      ∙ ap (seen_byte (p.waiting k.0)) memory_is

  pub seen_is : (t : ℕ) → seen_in_parts t m ≡ seen_by t p
  seen_is t = ap (λ (ts : Threads). seen_in_state m (state_of t ts)) tied.tables.threads ∙ seen_so t (state_of t p.kernel.threads) refl

-- THE SAME WORDS

word_same : (x y : Option ℕ) → is_same_word x y ≡ true → x ≡ y
word_same None None is = refl
word_same None (Some y) is = cc
word_same (Some x) None is = cc
word_same (Some x) (Some y) is = ap Some (eqb-true x y is)

glance_same : (x y : Glance) → is_same_glance x y ≡ true → x ≡ y
glance_same x y is =
    let a = both _ (is_same_word x.abort y.abort) is in
    let b = both _ (is_same_word x.length y.length) a.0 in
    let c = both _ (is_same_word x.start y.start) b.0 in
    let d = both _ (is_same_word x.flags y.flags) c.0 in
    let e = both (eqb x.pointer y.pointer) (is_same_word x.version y.version) d.0 in
    λ i. record {
      pointer = eqb-true x.pointer y.pointer e.0 i;
      version = word_same x.version y.version e.1 i;
      flags = word_same x.flags y.flags d.1 i;
      start = word_same x.start y.start c.1 i;
      length = word_same x.length y.length b.1 i;
      abort = word_same x.abort y.abort a.1 i;
    }

either : (a b : Bool) → a || b ≡ true → (a ≡ true) ⊎ (b ≡ true)
either true b is = inl refl
either false b is = inr is

-- AREAS

-- what is kept of all areas is kept of that of a thread
abbrev look_of : Parts → ℕ → Area → Look
look_of m t area = record { tid = record { 0 = t }; area = area; glance = glance_in (seen_in_parts t m) area }

module _ (m m' : Parts) (own : Option Tid) (t : ℕ) (area : Area) where
  kept_by : (r : RegisteredArea) (rest : List RegisteredArea) (b : Bool) → eqb r.tid.0 t ≡ b
      → option_map (λ (x : ℕ × Area). x.1) (cond b (Some (r.tid.0, r.area)) (find (is_area_of t) (areas_by_number rest))) ≡ Some area
      → is_kept m' own (look_in m r) ≡ true → (area_of t (areas_by_number rest) ≡ Some area → is_kept m' own (look_of m t area) ≡ true)
      → is_kept m' own (look_of m t area) ≡ true
  kept_by r rest true same is kept later =
      let at : r.tid.0 ≡ t = eqb-true r.tid.0 t same in
      let its : r.area ≡ area = cc in
      let look : look_in m r ≡ look_of m t area = λ i. look_of m (at i) (its i) in
      sym (ap (is_kept m' own) look) ∙ kept
  kept_by r rest false same is kept later = later is

  kept_of : (items : List RegisteredArea) → area_of t (areas_by_number items) ≡ Some area → list_all (is_kept m' own) (map (look_in m) items) ≡ true
      → is_kept m' own (look_of m t area) ≡ true
  kept_of [] is kept = cc
  kept_of (r ∷ rest) is kept =
      let two = both (is_kept m' own (look_in m r)) (list_all (is_kept m' own) (map (look_in m) rest)) kept in
      kept_by r rest (eqb r.tid.0 t) refl is two.0 (λ has. kept_of rest has two.1)

-- HANDLERS

none_handles : (actions : List Action) (k : ℕ) → list_all (λ a. not (is_handler a)) actions ≡ true → is_handler (get_or actions k default_action) ≡ false
none_handles [] k all = refl
none_handles (a ∷ actions) zero all = not_true (is_handler a) (both (not (is_handler a)) _ all).0
  where
    not_true : (b : Bool) → not b ≡ true → b ≡ false
    not_true true is = cc
    not_true false is = refl
none_handles (a ∷ actions) (suc k) all = none_handles actions k (both (not (is_handler a)) _ all).1

-- AN EDGE

-- an instruction of the thread is its own
not_own : (c : Choice) (o : Option ℕ) (t : ℕ) → (c ≡ asked.Exec → o ≢ Some t) → is_own (own_thread c o) (record { 0 = t }) ≡ true → ⊥
not_own asked.Exec None t other own = cc
not_own asked.Exec (Some u) t other own = other refl (ap Some (eqb-true u t own))
not_own c o t other own = cc

pub leaves : (s : Setting) (p : Plain) (h : ℕ) (c : Choice) (before after : Parts) (threads : ℕ → Bool) → IsEdge s p h c before after
    → LeavesAreas s (λ t. threads t ≡ true) (λ t b. false) p (h, c)
leaves s p h c before after threads x = (
  λ is t signal may at next.
      ap (λ (g : Signalling). is_handler (action_of signal g)) (sym x.tied.tables.signals)
      ∙ none_handles before.kernel.signals.actions (signal - 1) x.unhandled,
  λ t area may has other.
      let own = own_thread c (running_on h p.kernel.threads) in
      let kept = kept_of before after own t area before.kernel.areas.items (ap (area_of t) x.tied.tables.areas ∙ has) x.kept in
      let was = seen_is s (rested p) before x.tied x.tables t in
      let now = seen_is s (rested (next_of s p (h, c))) after x.next x.next_tables t in
      let g = glance_in (seen_in_parts t before) area in
      let g' = glance_in (seen_in_parts t after) area in
      elim (either (is_own own (record { 0 = t })) (is_same_or_null g' g) kept) [
        | inl mine ↦ absurd (not_own c (running_on h p.kernel.threads) t other mine)
        | inr so ↦ elim (either (is_same_glance g' g) (eqb g'.pointer 0) so) [
          | inl same ↦ inl (ap (λ (byte : ℕ → Option ℕ). looked byte area) (sym now) ∙ looked_is (seen_in_parts t after) area ∙ ap looked_of (glance_same g' g same)
              ∙ sym (looked_is (seen_in_parts t before) area) ∙ ap (λ (byte : ℕ → Option ℕ). looked byte area) was)
          | inr null ↦ inr (ap (λ (byte : ℕ → Option ℕ). pointer_of byte area) (sym now) ∙ pointer_is (seen_in_parts t after) area ∙ eqb-true g'.pointer 0 null)
        ]
      ],
  λ t b may mine other. absurd cc,
)
