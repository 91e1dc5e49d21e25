-- What was stored in some bytes stays there as long as nothing else is stored in them, and once it has
-- entered memory every hart sees it.
use Rattle.std.proofs.Common.{◌≡◌, ◌≢◌, ℕ, zero, suc, ◌+◌, ◌≤◌, ◌-◌, List, [], ◌∷◌, ◌++◌, ◌⊎◌, length, drop}
use Rattle.std.proofs.Common.{eqb, arith, refl, sym, ap, ◌∙◌, subst, Bool, true, false, cond, inl, inr}
use Rattle.std.proofs.Common.{append-nil, append_assoc}
use Rattle.std.proofs.lemmas.Bool.{cases_eq, eqb-false, eqb-true, false≢true}
use Rattle.mach_types.specs.Bytes.{byte_of, overlay, written}
use Rattle.mach_types.specs.Events.{choice_of, choice_with, is_kind, kind_of}
use Rattle.mach_types.proofs.Laws.{kind_is_not}
use Rattle.mach_types.specs.declared.events.Choice.{Choice}
use Rattle.mach_types.specs.declared.events.Choice.TheVariants as asked
use Rattle.mach_types.specs.declared.events.Kind.{Kind}
use Rattle.mach_types.specs.declared.events.Kind.TheVariants as kind
use Rattle.mach_types.specs.declared.user_memory.Store.{Store}
use Rattle.block_model.specs.Events.{done_of}
use Rattle.block_model.specs.Events.Drain.{done_drain_of}
use Rattle.block_model.specs.Events.Run.{done_killed, done_running}
use Rattle.block_model.specs.Here.{Done, Here, waiting_here}
use Rattle.block_model.specs.History.{Event, History, byte, drains, here_in_history, is_of_hart, stores}
use Rattle.block_model.specs.History.{waiting}
use Rattle.block_model.specs.Run.{IsRunHistory}
use Rattle.block_model.specs.Sequences.{interruption_here}
use Rattle.block_model.specs.Setting.{Setting}
use Rattle.alone_laws.specs.Spans.{Leaves, sees}
use Rattle.block_model.proofs.Laws.{IsStep, drains_none, step_of}
use Rattle.alone_laws.proofs.Steps.{IsIdle, drain_idle, overlay_append, sees_apart, sees_idle}
use Rattle.fence_laws.specs.Kept.{AreBeside, AreQuiet, IsQuiet}

module _ (words : ℕ → Bool) where
  pub beside_append : (xs ys : List Store) → AreBeside words xs → AreBeside words ys
      → AreBeside words (xs ++ ys)
  beside_append [] ys p q = q
  beside_append (x ∷ xs) ys p q = (p.0, beside_append xs ys p.1 q)

  pub beside_drop : (n : ℕ) (xs : List Store) → AreBeside words xs → AreBeside words (drop n xs)
  beside_drop zero xs p = p
  beside_drop (suc n) [] p = p
  beside_drop (suc n) (x ∷ xs) p = beside_drop n xs p.1

  -- what waits later is of what waited, or of what came since
  beside_later : (m n : ℕ) → m ≤ n → (xs more : List Store) → AreBeside words (drop m xs)
      → AreBeside words more → AreBeside words (drop n (xs ++ more))
  beside_later zero n le xs more p q = beside_drop n (xs ++ more) (beside_append xs more p q)
  beside_later (suc m) zero le xs more p q = let no : ⊥ = omega arith in absurd no
  beside_later (suc m) (suc n) le [] more p q = beside_drop (suc n) more q
  beside_later (suc m) (suc n) le (x ∷ xs) more p q = beside_later m n (omega arith) xs more p q

  beside_entered : (xs : List Store) → AreBeside words (drop (length xs) xs)
  beside_entered [] = tt
  beside_entered (x ∷ xs) = beside_entered xs

  pub beside_leaves : (es : List Store) → AreBeside words es → (a b : ℕ) → words a ≡ true → overlay es a b ≡ b
  beside_leaves [] p a b has = refl
  beside_leaves (w ∷ ws) p a b has =
      ap (λ c. overlay ws a (cond c (byte_of w.value (a - w.at)) b)) (p.0 a has)
      ∙ beside_leaves ws p.1 a b has

  -- the stores of a hart, since a place
  stores_since : (h : ℕ) (place : History) (since : List Event) → AreQuiet words since
      → (more : List Store) × (stores h (since ++ place) ≡ stores h place ++ more) × AreBeside words more
  stores_since h place [] quiet = ([], sym (append-nil (stores h place)), tt)
  stores_since h place (e ∷ since) quiet = by_hart (stores_since h place since quiet.0) (is_of_hart h e) refl
    where
      by_hart :
          ((more : List Store) × (stores h (since ++ place) ≡ stores h place ++ more) × AreBeside words more)
          → (b : Bool) → is_of_hart h e ≡ b
          → (more : List Store) ×
          (cond (is_of_hart h e) (stores h (since ++ place) ++ e.done.executed)
          (stores h (since ++ place)) ≡ stores h place ++ more) × AreBeside words more
      by_hart rest true is = (
        rest.0 ++ e.done.executed,
        ap (λ c. cond c (stores h (since ++ place) ++ e.done.executed) (stores h (since ++ place))) is
            ∙ ap (λ (ws : List Store). ws ++ e.done.executed) rest.1
            ∙ append_assoc (stores h place) rest.0 e.done.executed,
        beside_append rest.0 e.done.executed rest.2 quiet.1.executed,
      )
      by_hart rest false is = (
        rest.0,
        ap
            (λ c. cond c (stores h (since ++ place) ++ e.done.executed) (stores h (since ++ place))) is
            ∙ rest.1,
        rest.2,
      )

  drains_since : (h : ℕ) (place : History) (since : List Event) → drains h place ≤ drains h (since ++ place)
  drains_since h place [] = omega arith
  drains_since h place (e ∷ since) = let old = drains_since h place since in by_hart old (is_of_hart h e)
    where
      by_hart : drains h place ≤ drains h (since ++ place) → (b : Bool)
          → drains h place ≤ cond b (drains h (since ++ place) + e.done.drained) (drains h (since ++ place))
      by_hart old true = omega arith
      by_hart old false = old

  -- no store to the bytes waits on a hart where none waited, or where all have entered
  pub others_beside : (h : ℕ) (place : History) (since : List Event) → AreQuiet words since
      → AreBeside words (waiting h place) → AreBeside words (waiting h (since ++ place))
  others_beside h place since quiet was =
      let all = stores_since h place since quiet in
      subst (λ (ws : List Store). AreBeside words (drop (drains h (since ++ place)) ws)) (sym all.1)
      (beside_later (drains h place) (drains h (since ++ place)) (drains_since h place since)
      (stores h place) all.0 was all.2)

  pub entered_beside : (h : ℕ) (place : History) (since : List Event) → AreQuiet words since
      → length (stores h place) ≤ drains h (since ++ place)
      → AreBeside words (waiting h (since ++ place))
  entered_beside h place since quiet entered =
      let all = stores_since h place since quiet in
      subst (λ (ws : List Store). AreBeside words (drop (drains h (since ++ place)) ws)) (sym all.1)
      (beside_later (length (stores h place)) (drains h (since ++ place)) entered (stores h place) all.0
      (beside_entered (stores h place)) all.2)

-- A STORE ENTERS MEMORY BY A DRAIN ALONE

pub run_executes : (here : Here) (t : ℕ) (b : Bool)
    → (cond b (done_running here t (interruption_here here t))
    (done_killed here t (interruption_here here t))).executed ≡ []
run_executes here t true = refl
run_executes here t false = refl

abbrev is_drain : Choice → Bool
is_drain c = is_kind (kind_of c) kind.Drain

not_drain : (c : Choice) → is_drain c ≡ false → c ≢ asked.Drain
not_drain c isnt same = false≢true (sym isnt ∙ ap is_drain same)

pub exec_drained : (s : Setting) (e : Event) (before : History) → IsStep s e before
    → choice_of e.entry ≡ asked.Exec → e.done.drained ≡ 0
exec_drained s e before step executes = drains_none s e before step
    (λ is. not_drain asked.Exec refl (sym executes ∙ ap (λ k. choice_with k e.entry) is))

-- whether an event is a drain
pub data IsDrainOrNot (k : Kind) (e : Event) : Type 0 where
  it_drains : e.entry.kind ≡ kind.Drain → choice_of e.entry ≡ asked.Drain → IsDrainOrNot k e
  it_does_not : e.entry.kind ≢ kind.Drain → choice_of e.entry ≢ asked.Drain → IsDrainOrNot k e

not_of : (e : Event) (k : Kind) → e.entry.kind ≡ k → is_kind k kind.Drain ≡ false
    → is_drain (choice_with k e.entry) ≡ false → IsDrainOrNot k e
not_of e k is isnt never =
    it_does_not (kind_is_not e.entry.kind k kind.Drain is isnt)
    (λ same. not_drain (choice_with k e.entry) never (sym (ap (λ j. choice_with j e.entry) is) ∙ same))

pub drain_or_not : (e : Event) (k : Kind) → e.entry.kind ≡ k → IsDrainOrNot k e
drain_or_not e kind.Drain is = it_drains is (ap (λ j. choice_with j e.entry) is)
drain_or_not e k is = not_of e k is refl refl

-- WHAT HARTS SEE

module _ (words : ℕ → Bool) (s : Setting) where
  -- a store that enters memory is one that waited
  pub drain_enters : (here : Here) (ws : List Store) → AreBeside words ws
      → Leaves words (done_drain_of here ws).entered
  drain_enters here [] p a b has = refl
  drain_enters here (w ∷ ws) p a b has = ap (λ c. cond c (byte_of w.value (a - w.at)) b) (p.0 a has)

  -- an event that stores nothing there leaves what its own hart sees
  pub quiet_own : (e : Event) (before : History) → IsRunHistory s (e ∷ before) → IsQuiet words e → (a : ℕ)
      → words a ≡ true
      → sees s e.entry.hart.0 (e ∷ before) a ≡ sees s e.entry.hart.0 before a
  quiet_own e before run quiet a has = by_drain (drain_or_not e e.entry.kind refl)
    where
      by_drain : IsDrainOrNot e.entry.kind e
          → sees s e.entry.hart.0 (e ∷ before) a ≡ sees s e.entry.hart.0 before a
      by_drain (it_drains is chosen) =
          let step = step_of s e before run in
          let here = here_in_history s before e.entry.hart.0 in
          let did : e.done ≡ done_drain_of here (waiting_here here) = step.did
          ∙ ap (λ c. done_of c here) chosen in
          sees_idle s e before a step
          (subst (IsIdle here) (sym did) (drain_idle here (waiting_here here) refl))
      by_drain (it_does_not other chosen) =
          let step = step_of s e before run in
          let h = e.entry.hart.0 in
          ap (λ (ws : List Store). overlay ws a (written e.done.entered a (byte s before a)))
          (step.waits ∙ ap (λ n. drop n (waiting h before ++ e.done.executed))
          (drains_none s e before step other))
          ∙ overlay_append (waiting h before) e.done.executed a (written e.done.entered a (byte s before a))
          ∙ beside_leaves words e.done.executed quiet.executed a
          (overlay (waiting h before) a (written e.done.entered a (byte s before a))) has
          ∙ ap (overlay (waiting h before) a) (quiet.entered chosen a (byte s before a) has)

  -- and what another hart sees, where no store to the bytes waits on its own
  pub quiet_other : (h : ℕ) (e : Event) (before : History) → IsRunHistory s (e ∷ before) → IsQuiet words e
      → eqb e.entry.hart.0 h ≡ false
      → AreBeside words (waiting e.entry.hart.0 before) → (a : ℕ) → words a ≡ true
      → sees s h (e ∷ before) a ≡ sees s h before a
  quiet_other h e before run quiet apart none a has = by_drain (drain_or_not e e.entry.kind refl)
    where
      by_drain : IsDrainOrNot e.entry.kind e → sees s h (e ∷ before) a ≡ sees s h before a
      by_drain (it_drains is chosen) =
          let here = here_in_history s before e.entry.hart.0 in
          let did : e.done ≡ done_drain_of here (waiting_here here) = (step_of s e before run).did
          ∙ ap (λ c. done_of c here) chosen in
          sees_apart s h e before a apart
          (ap (λ (d : Done). written d.entered a (byte s before a)) did
          ∙ drain_enters here (waiting_here here) none a (byte s before a) has)
      by_drain (it_does_not other chosen) = sees_apart s h e before a apart
          (quiet.entered chosen a (byte s before a) has)

  module _ (k : ℕ) (place : History) (others : (h : ℕ) → h ≢ k → AreBeside words (waiting h place)) where
    -- hart k goes on to see the bytes as at a place
    pub seen_since : (since : List Event) → IsRunHistory s (since ++ place) → AreQuiet words since → (a : ℕ)
        → words a ≡ true → sees s k (since ++ place) a ≡ sees s k place a
    seen_since [] run quiet a has = refl
    seen_since (e ∷ since) run quiet a has = by_hart (seen_since since run.0 quiet.0 a has)
        (eqb e.entry.hart.0 k) refl
      where
        by_hart : sees s k (since ++ place) a ≡ sees s k place a → (b : Bool) → eqb e.entry.hart.0 k ≡ b
            → sees s k (e ∷ since ++ place) a ≡ sees s k place a
        by_hart was true own =
            subst (λ h. sees s h (e ∷ since ++ place) a ≡ sees s h (since ++ place) a)
            (eqb-true e.entry.hart.0 k own) (quiet_own e (since ++ place) run quiet.1 a has) ∙ was
        by_hart was false apart =
            quiet_other k e (since ++ place) run quiet.1 apart
            (others_beside words e.entry.hart.0 place since quiet.0
            (others e.entry.hart.0 (eqb-false e.entry.hart.0 k apart))) a has ∙ was

    -- and so does every hart once the stores of hart k have entered memory
    pub seen_by_all : (since : List Event) → IsRunHistory s (since ++ place) → AreQuiet words since
        → length (stores k place) ≤ drains k (since ++ place)
        → (h a : ℕ) → words a ≡ true → sees s h (since ++ place) a ≡ sees s k place a
    seen_by_all since run quiet entered h a has =
        let later = since ++ place in
        by_same (cases_eq h k) ∙ sym
        (beside_leaves words (waiting k later) (entered_beside words k place since quiet entered) a
        (byte s later a) has)
        ∙ seen_since since run quiet a has
      where
        memory_seen : (j : ℕ) → AreBeside words (waiting j (since ++ place))
            → sees s j (since ++ place) a ≡ byte s (since ++ place) a
        memory_seen j none = beside_leaves words (waiting j (since ++ place)) none a
            (byte s (since ++ place) a) has

        by_same : (h ≡ k) ⊎ (h ≢ k) → sees s h (since ++ place) a ≡ byte s (since ++ place) a
        by_same (inl same) = memory_seen h
            (subst (λ j. AreBeside words (waiting j (since ++ place))) (sym same)
            (entered_beside words k place since quiet entered))
        by_same (inr other) = memory_seen h (others_beside words h place since quiet (others h other))
