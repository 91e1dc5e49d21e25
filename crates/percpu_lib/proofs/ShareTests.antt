-- Tests of each event of a run on hart 0 that find from its history that a thread uses its area for a block and for
-- others: what SharesAreaWith asks of each event, by computation. They ask for more than it does.
use Rattle.std.proofs.Common.{◌≡◌, ◌≢◌, ℕ, zero, suc, ◌+◌, List, [], ◌∷◌, refl, sym, ap, ◌∙◌, arith, subst, Bool, true}
use Rattle.std.proofs.Common.{false, not, ◌&&◌, ◌||◌, ◌⊎◌, inl, inr, eqb, Option, Some}
use Rattle.std.specs.Prelude.{Contains}
use Rattle.std.proofs.lemmas.Bool.{and_from, and_parts, eqb-true, false≢true}
use Rattle.mach_types.specs.Bytes.{overlay, word_at}
use Rattle.mach_types.specs.Events.{is_instruction, is_kind}
use Rattle.mach_types.specs.Kernel.Areas.{descriptor_at, sequence_of}
use Rattle.mach_types.specs.declared.events.Kind.TheVariants as kind
use Rattle.mach_types.specs.declared.sequences.Area.{Area}
use Rattle.mach_types.specs.declared.sequences.Seq.{Seq}
use Rattle.mach_types.specs.declared.sequences.TheConstants.{RSEQ_CS}
use Rattle.mach_types.specs.declared.user_memory.Store.{Store}
use Rattle.block_model.specs.Here.{view}
use Rattle.block_model.specs.History.{Event, History, file, here_in_history, kernel, running}
use Rattle.block_model.specs.Run.{IsRunHistory}
use Rattle.block_model.specs.Setting.{Setting}
use Rattle.block_model.proofs.Laws.{IsStep, runs_apart, step_of}
use Rattle.alone_laws.specs.Pointers.{AlwaysDescribed, AreDescribed, KeepsPointer, LiesBeside, PointerIs, PointerKept}
use Rattle.alone_laws.specs.Pointers.{StoresTable, WritesPointer, has_area, has_had, pointer_at}
use Rattle.alone_laws.specs.Spans.{Leaves, seen_at}
use Rattle.alone_laws.specs.Uses.{Placed, is_before}
use Rattle.percpu_lib.specs.Forms.{Form, SharesAreaWith, placed_of}
use Rattle.percpu_lib.proofs.UseTests.{IsTested, are_beside, are_fine, begins_to_run, either, follows, implies}
use Rattle.percpu_lib.proofs.UseTests.{is_fine, is_just, just_is, not_both, not_named, not_own, on_own}
use Rattle.percpu_lib.proofs.UseTests.{only_hart, overlay_beside, own_hart, runs_there, strange_beside, strange_leaves, writes_beside, writes_leave}

-- the stores of an event are this one
abbrev is_store : ℕ → ℕ → List Store → Bool
is_store at value [] = false
is_store at value (w ∷ []) = eqb w.at at && (eqb w.size 8 && eqb w.value value)
is_store at value (w ∷ v ∷ ws) = false

store_is : (at value : ℕ) (ws : List Store) → is_store at value ws ≡ true
    → ws ≡ record { at = at; size = 8; value = value } ∷ []
store_is at value [] is = absurd (false≢true is)
store_is at value (w ∷ []) is =
    let one = and_parts (eqb w.at at) (eqb w.size 8 && eqb w.value value) is in
    let two = and_parts (eqb w.size 8) (eqb w.value value) one.1 in
    let place : w.at ≡ at = eqb-true w.at at one.0 in
    let size : w.size ≡ 8 = eqb-true w.size 8 two.0 in
    let number : w.value ≡ value = eqb-true w.value value two.1 in
    λ i. record { at = place i; size = size i; value = number i } ∷ []
store_is at value (w ∷ v ∷ ws) is = absurd (false≢true is)

-- a store of the descriptor's address just before the start of a block
abbrev stores_table : Setting → ℕ → ℕ → Event → History → Placed → Bool
stores_table s t area e before other =
    eqb ((file s t before).pc + 4) other.range.start && is_store (area + RSEQ_CS) other.table e.done.executed

abbrev stores_one : Setting → ℕ → ℕ → Event → History → List Placed → Bool
stores_one s t area e before [] = false
stores_one s t area e before (other ∷ rest) = stores_table s t area e before other || stores_one s t area e before rest

one_stored : (s : Setting) (t area : ℕ) (e : Event) (before : History) (all : List Placed)
    → stores_one s t area e before all ≡ true
    → (other : Placed) × Contains all other × StoresTable s other t area e before
one_stored s t area e before [] is = absurd (false≢true is)
one_stored s t area e before (first ∷ rest) is =
    by_way (λ later. one_stored s t area e before rest later) (either (stores_table s t area e before first) _ is)
  where
    by_way : (stores_one s t area e before rest ≡ true
        → (other : Placed) × Contains rest other × StoresTable s other t area e before)
        → (stores_table s t area e before first ≡ true) ⊎ (stores_one s t area e before rest ≡ true)
        → (other : Placed) × Contains (first ∷ rest) other × StoresTable s other t area e before
    by_way more (inl here) =
        let one = and_parts (eqb ((file s t before).pc + 4) first.range.start) _ here in (
          first,
          (0, omega arith, refl),
          record {
            pc = eqb-true ((file s t before).pc + 4) first.range.start one.0;
            executed = store_is (area + RSEQ_CS) first.table e.done.executed one.1;
          },
        )
    by_way more (inr later) =
        let found = more later in
        (found.0, (suc found.1.0, let within = found.1.1 in omega arith, found.1.2), found.2)

pub none_other : (other : Placed) → Contains [] other → ⊥
none_other other (k, lt, is) = omega arith

-- the descriptors of all of them name their sequences
abbrev is_same_range : Seq → Seq → Bool
is_same_range f g = eqb f.start g.start && (eqb f.length g.length && eqb f.abort g.abort)

same_range : (f g : Seq) → is_same_range f g ≡ true → f ≡ g
same_range f g is =
    let one = and_parts (eqb f.start g.start) _ is in
    let two = and_parts (eqb f.length g.length) _ one.1 in
    let start : f.start ≡ g.start = eqb-true f.start g.start one.0 in
    let long : f.length ≡ g.length = eqb-true f.length g.length two.0 in
    let handler : f.abort ≡ g.abort = eqb-true f.abort g.abort two.1 in
    λ i. record { start = start i; length = long i; abort = handler i }

abbrev all_described : (ℕ → Option ℕ) → List Placed → Bool
all_described byte [] = true
all_described byte (other ∷ rest) =
    is_same_range (sequence_of (descriptor_at byte other.table)) other.range && all_described byte rest

each_described : (byte : ℕ → Option ℕ) (all : List Placed) → all_described byte all ≡ true → (other : Placed)
    → Contains all other → sequence_of (descriptor_at byte other.table) ≡ other.range
each_described byte [] is other (k, lt, at) = absurd (omega arith)
each_described byte (first ∷ rest) is other (zero, lt, at) =
    let parts = and_parts (is_same_range (sequence_of (descriptor_at byte first.table)) first.range) _ is in
    subst (λ (x : Placed). sequence_of (descriptor_at byte x.table) ≡ x.range) at
    (same_range (sequence_of (descriptor_at byte first.table)) first.range parts.0)
each_described byte (first ∷ rest) is other (suc k, lt, at) =
    let parts = and_parts (is_same_range (sequence_of (descriptor_at byte first.table)) first.range) _ is in
    each_described byte rest parts.1 other (k, omega arith, at)

module _ (s : Setting) (form : Form) (tested : IsTested form) (at : ℕ) (area : Area) (t : ℕ) (others : List Placed) where
  abbrev b : Placed
  b = placed_of form at area

  abbrev runs_here : History → Bool
  runs_here before = runs_there s form tested at area t before

  abbrev starts_running : Event → History → Bool
  starts_running e before = begins_to_run s form tested at area t e before

  abbrev strange : Event → History → Bool
  strange e before = strange_beside s form tested at area t (area.at + 8) 8 e before

  -- the pointer is 0 where the thread runs on hart 0
  abbrev is_zero : History → Bool
  is_zero before = runs_here before && is_just (word_at (seen_at s 0 before) (area.at + RSEQ_CS) 8) 0

  abbrev spares_pointer : Event → Bool
  spares_pointer e = writes_beside (area.at + 8) 8 e.done.entered

  -- once the area was registered: it is the thread's, which runs on hart 0 or begins to run, or the event is
  -- another's and writes beside the pointer. The thread stores to the pointer just before the start alone, no
  -- signal is delivered, and what an instruction writes at once lies beside the pointer
  abbrev stores_well : Event → History → Bool
  stores_well e before =
      are_beside (area.at + 8) 8 e.done.executed
      || stores_one s t area.at e before (b ∷ others)

  abbrev runs_well : Event → History → Bool
  runs_well e before =
      runs_here before
      && (not (is_kind e.entry.kind kind.Signal)
      && (implies (is_instruction e.entry.kind) (spares_pointer e) && stores_well e before))

  abbrev writes_well : Event → History → Bool
  writes_well e before =
      has_area t area.at (kernel s before).areas
      && (runs_well e before || (starts_running e before || strange e before))

  abbrev is_new : Event → History → Bool
  is_new e before = not (has_had s t area.at before) && has_area t area.at e.done.kernel.areas

  abbrev stands_well : History → Bool
  stands_well before =
      runs_here before
      && all_described (view (here_in_history s before 0)) (b ∷ others)

  abbrev is_shared : Event → History → Bool
  is_shared e before =
      implies (is_new e before) (runs_here before && is_zero (e ∷ before))
      && (implies (has_had s t area.at before) (writes_well e before)
      && implies (is_before b (file s t before).pc) (stands_well before))

  abbrev pub shares_so : History → Bool
  shares_so [] = true
  shares_so (e ∷ before) = shares_so before && is_shared e before

  -- WHAT THEY FIND

  module _ (e : Event) (before : History) (step : IsStep s e before) (fine : is_fine s form tested at area t e before ≡ true)
      (shared : is_shared e before ≡ true) where
    parts : (implies (is_new e before) (runs_here before && is_zero (e ∷ before)) ≡ true)
        × (implies (has_had s t area.at before) (writes_well e before)
        && implies (is_before b (file s t before).pc) (stands_well before) ≡ true)
    parts = and_parts (implies (is_new e before) (runs_here before && is_zero (e ∷ before))) _ shared

    more : (implies (has_had s t area.at before) (writes_well e before) ≡ true)
        × (implies (is_before b (file s t before).pc) (stands_well before) ≡ true)
    more = and_parts (implies (has_had s t area.at before) (writes_well e before)) _ parts.1

    on_0 : e.entry.hart.0 ≡ 0
    on_0 = own_hart s form tested at area t e before step fine

    -- at the first registration
    first_zero : has_had s t area.at before ≡ false → has_area t area.at e.done.kernel.areas ≡ true
        → PointerIs s t area.at 0 (e ∷ before)
    first_zero none some =
        let new : is_new e before ≡ true =
        and_from (not (has_had s t area.at before)) (has_area t area.at e.done.kernel.areas) (ap not none) some in
        let one = and_parts (runs_here before) (is_zero (e ∷ before)) (follows (is_new e before) _ parts.0 new) in
        let two = and_parts (runs_here (e ∷ before)) _ one.1 in
        let zero_there = just_is (word_at (seen_at s 0 (e ∷ before)) (area.at + RSEQ_CS) 8) 0 two.1 in
        record {
          on_hart = λ h runs. subst (λ n. word_at (seen_at s n (e ∷ before)) (area.at + RSEQ_CS) 8 ≡ Some 0)
              (by_hart one.0 h runs (eqb e.entry.hart.0 h) refl) zero_there;
          off_hart = λ off. absurd (off 0 (just_is (running s 0 (e ∷ before)) t two.0));
        }
      where
        by_hart : runs_here before ≡ true → (h : ℕ) → running s h (e ∷ before) ≡ Some t → (c : Bool)
            → eqb e.entry.hart.0 h ≡ c → 0 ≡ h
        by_hart runs h now true own = sym on_0 ∙ eqb-true e.entry.hart.0 h own
        by_hart runs h now false apart =
            only_hart s form tested at area t e before step fine runs h (sym (runs_apart s h e before step apart) ∙ now)

    -- later
    abbrev How : Type 0
    How = (runs_well e before ≡ true) ⊎ ((starts_running e before ≡ true) ⊎ (strange e before ≡ true))

    well : has_had s t area.at before ≡ true → (has_area t area.at (kernel s before).areas ≡ true) × How
    well had =
        let one = and_parts (has_area t area.at (kernel s before).areas) _
        (follows (has_had s t area.at before) (writes_well e before) more.0 had) in
        (one.0, by_two (either (runs_well e before) (starts_running e before || strange e before) one.1))
      where
        by_two : (runs_well e before ≡ true) ⊎ (starts_running e before || strange e before ≡ true) → How
        by_two (inl runs) = inl runs
        by_two (inr rest) = inr (either (starts_running e before) (strange e before) rest)

    by_other : How → running s e.entry.hart.0 before ≢ Some t → (e.entry.kind ≡ kind.Run → e.entry.tid.0 ≢ t)
        → Leaves (pointer_at area.at) e.done.entered
    by_other (inl runs) apart begins =
        absurd (apart (on_own s form tested at area t e before step fine (and_parts (runs_here before) _ runs).0))
    by_other (inr (inl starts)) apart begins = absurd (not_named s form tested at area t e before step fine starts begins)
    by_other (inr (inr other)) apart begins =
        strange_leaves s form tested at area t e before step fine (area.at + 8) 8 other

    runs_so : How → running s e.entry.hart.0 before ≡ Some t
        → (not (is_kind e.entry.kind kind.Signal) ≡ true)
        × (implies (is_instruction e.entry.kind) (spares_pointer e) ≡ true) × (stores_well e before ≡ true)
    runs_so (inr (inl starts)) at_own =
        absurd (not_both s form tested at area t e before step fine starts e.entry.hart.0 at_own)
    runs_so (inr (inr other)) at_own =
        absurd (not_own s form tested at area t e before step fine (area.at + 8) 8 other at_own)
    runs_so (inl runs) at_own =
        let one = and_parts (runs_here before) _ runs in
        let two = and_parts (not (is_kind e.entry.kind kind.Signal)) _ one.1 in
        let three = and_parts (implies (is_instruction e.entry.kind) (spares_pointer e)) _ two.1 in
        (two.0, three.0, three.1)

    by_stores : stores_well e before ≡ true
        → ((a c : ℕ) → pointer_at area.at a ≡ true → overlay e.done.executed a c ≡ c)
        ⊎ ((other : Placed) × Contains (b ∷ others) other × StoresTable s other t area.at e before)
    by_stores is =
        by_way (either (are_beside (area.at + 8) 8 e.done.executed) _ is)
      where
        by_way : (are_beside (area.at + 8) 8 e.done.executed ≡ true) ⊎ (stores_one s t area.at e before (b ∷ others) ≡ true)
            → ((a c : ℕ) → pointer_at area.at a ≡ true → overlay e.done.executed a c ≡ c)
            ⊎ ((other : Placed) × Contains (b ∷ others) other × StoresTable s other t area.at e before)
        by_way (inl beside) = inl (λ a c has. overlay_beside (area.at + 8) 8 e.done.executed beside a c has)
        by_way (inr stores) = inr (one_stored s t area.at e before (b ∷ others) stores)

    writes : has_had s t area.at before ≡ true → WritesPointer s (b ∷ others) t area.at e before
    writes had =
        let how = (well had).1 in
        record {
          others = λ apart begins. by_other how apart begins;
          own = λ runs is.
              writes_leave (area.at + 8) 8 e.done.entered
              (follows (is_instruction e.entry.kind) (spares_pointer e) (runs_so how runs).1 (ap is_instruction is));
          stores = λ runs. by_stores (runs_so how runs).2;
          frame = λ ws runs is same. absurd (false≢true
              (sym (ap (λ k. not (is_kind k kind.Signal)) is) ∙ (runs_so how runs).0));
          elsewhere = λ its none other. absurd (false≢true (sym none ∙ (well had).0));
        }

    pub keeps_it : KeepsPointer s (b ∷ others) t area.at e before
    keeps_it = record { first = first_zero; later = writes }

    pub stand : (h : ℕ) → running s h before ≡ Some t → is_before b (file s t before).pc ≡ true
        → AreDescribed s (b ∷ others) h before
    stand h runs here =
        let one = and_parts (runs_here before) _
        (follows (is_before b (file s t before).pc) (stands_well before) more.1 here) in
        record {
          described = λ other has.
              subst (λ n. sequence_of (descriptor_at (view (here_in_history s before n)) other.table) ≡ other.range)
              (only_hart s form tested at area t e before step fine one.0 h runs)
              (each_described (view (here_in_history s before 0)) (b ∷ others) one.1 other has);
        }

  all_kept : (history : History) → IsRunHistory s history → are_fine s form tested at area t history ≡ true
      → shares_so history ≡ true
      → PointerKept s (b ∷ others) t area.at history × AlwaysDescribed s b (b ∷ others) t history
  all_kept [] run fine shared = (tt, tt)
  all_kept (e ∷ before) run fine shared =
      let fines = and_parts (are_fine s form tested at area t before) (is_fine s form tested at area t e before) fine in
      let shares = and_parts (shares_so before) (is_shared e before) shared in
      let earlier = all_kept before run.0 fines.0 shares.0 in
      let step = step_of s e before run in (
        (earlier.0, keeps_it e before step fines.1 shares.1),
        (earlier.1, stand e before step fines.1 shares.1),
      )

  pub all_shares : (history : History) → IsRunHistory s history → are_fine s form tested at area t history ≡ true
      → shares_so history ≡ true → ((other : Placed) → Contains others other → LiesBeside b other)
      → SharesAreaWith s history b t others
  all_shares history run fine shared beside =
      let all = all_kept history run fine shared in
      record {
        beside = beside;
        kept = all.0;
        described = all.1;
      }
