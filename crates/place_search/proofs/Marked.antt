-- Which places are hopeless, by the marks of those from which a walk along the edges leads to an end.
use Rattle.std.proofs.Common.{◌≡◌, ◌≢◌, ℕ, ◌<◌, ◌≤◌, Bool, true, false, not, cond, List, [], ◌∷◌, length, Option, Some, None, IfSome, All, Contains, position, nat_lt, count_by, get_or, slice_index_or, refl, sym, ap, ◌∙◌, subst, arith}
use Rattle.std.proofs.lemmas.List.{get_or_default}
use Rattle.std.proofs.lemmas.List.Elements.{All-contains, All-weaker}
use Rattle.std.specs.List.{position_or_len}
use Rattle.std.proofs.lemmas.Bool.{ltb-false}
use Rattle.std.proofs.lemmas.List.Quantifiers.{position-Some}
use Rattle.std.proofs.lemmas.List.Sums.{fails_before_first, get_or-le-sum_by, sum_by-le}
use Rattle.mach_types.specs.declared.events.Entry.{Entry}
use Rattle.mach_types.specs.declared.limits.End.{End}
use Rattle.block_model.specs.Plain.{plain_over}
unfoldable use Rattle.block_model.specs.Plain.{plain_after}
use Rattle.block_model.specs.Setting.{Setting}
use Rattle.same_places.specs.FreeRuns.{IsFreeRun}
use Rattle.settled_places.specs.Edges.{AreBusyEdges, AreEdges, IsBusyEdge, IsEdge, log_by_number}
use Rattle.settled_places.specs.Endings.{CanEnd, HasLongWork, IsHopeless, IsWorkBounded}
use Rattle.prompt_runs.specs.Prompt.{IsSpokenOf}
use Rattle.search_reductions.specs.declared.signals.Signals.{Signals}
use Rattle.settled_places.specs.SettledSearch.{IsSettledSearch}
use Rattle.settled_places.specs.Walks.{AreRanks, ComesTo, GoesRound, IsTrap, ReachesEnd}
use Rattle.settled_places.specs.Walks.ComesTo.{Further, Here}
use Rattle.settled_places.specs.Walks.ReachesEnd.{Along, There}
use Rattle.found_outcomes.specs.Endless.{IsEndless}
use Rattle.found_outcomes.specs.Hopeless.{AreHopeless, IsToldOfEach}
use Rattle.graph_walks.specs.Circles.{HasBusyCircle, HasRanks, IsRanked, busy_targets, work_of}
use Rattle.graph_walks.specs.Walks.{AreMarks, IsMarked, IsWithin, Leads, targets}
use Rattle.graph_walks.specs.Walks.Leads.{Along as LeadsAlong, There as LeadsThere}
use Rattle.graph_walks.specs.declared.edge.Edge.{Edge}
use Rattle.graph_walks.proofs.Targets.{busy_target_has, has_busy_target, has_target, only as only_one, target_has}
use Rattle.place_search.specs.Graphs.{IsEndedAt, IsMade, IsTrue, IsWhole}
use Rattle.place_search.specs.SettlingSteps.{Ways, all_or_none, none_private}
use Rattle.place_search.specs.declared.graph.Graph.{Graph}

abbrev Logs : Type 0
Logs = List (List Entry)

-- OF ANSWERS

goes_or : (o : Option End) → (o ≢ None → ⊥) → o ≡ None
goes_or None ends = refl
goes_or (Some e) ends = absurd (ends (λ is. absurd cc))

not_marked : (b : Bool) → (b ≡ true → ⊥) → b ≡ false
not_marked true never = absurd (never refl)
not_marked false never = refl

marked_or : (b : Bool) → (b ≡ false → ⊥) → b ≡ true
marked_or true never = refl
marked_or false never = absurd (never refl)

-- where the first of some is looked for in vain, there is none
some_or : (b : Bool) (i : ℕ) → cond b (Some i) None ≡ None → b ≡ false
some_or true i is = absurd cc
some_or false i is = refl

abbrev ones : Bool → ℕ
ones b = cond b 1 0

counts_none : (test : Bool → Bool) (b : Bool) → test b ≡ false → ones (test b) ≤ 0
counts_none test b is = let none : ones (test b) ≡ 0 = ap ones is in omega (arith, none)

pub none_counted : (marks : List Bool) → position not marks ≡ None → count_by not marks ≡ 0
none_counted marks is =
    let past : length marks ≤ position_or_len not marks = ltb-false (position_or_len not marks) (length marks) (some_or (nat_lt (position_or_len not marks) (length marks)) (position_or_len not marks) is) in
    let none = sum_by-le (λ b. ones (not b)) 0 marks (λ k d lt. counts_none not (get_or marks k d) (fails_before_first not marks k d (omega (arith, lt, past)))) in
    omega (arith, none)

-- the laws of walks, as contracts say them
abbrev pub SomeCanEnd : Type 0
SomeCanEnd =
    (s : Setting) (signals : Signals) (threads : ℕ → Bool) (private : ℕ → ℕ → Bool) (logs : Logs) (edges : ℕ → List ℕ) (k : ℕ) → IsSettledSearch s signals threads private logs → AreEdges s signals threads private logs edges
    → k < length logs → ReachesEnd s logs edges k → CanEnd s signals (log_by_number logs k)

abbrev pub TrapsAreHopeless : Type 0
TrapsAreHopeless =
    (s : Setting) (signals : Signals) (threads : ℕ → Bool) (private : ℕ → ℕ → Bool) (logs : Logs) (edges : ℕ → List ℕ) (among : ℕ → Bool) (k : ℕ) → IsSettledSearch s signals threads private logs → AreEdges s signals threads private logs edges
    → IsTrap s logs edges among → k < length logs → among k ≡ true → IsHopeless s signals (log_by_number logs k)

abbrev pub EachCanEnd : Type 0
EachCanEnd =
    (s : Setting) (signals : Signals) (threads : ℕ → Bool) (private : ℕ → ℕ → Bool) (logs : Logs) (edges : ℕ → List ℕ) (log : List Entry) → IsSettledSearch s signals threads private logs → AreEdges s signals threads private logs edges
    → ((k : ℕ) → k < length logs → ReachesEnd s logs edges k) → IsFreeRun s log → IsSpokenOf signals s log → CanEnd s signals log

module _ (s : Setting) (ways : Ways) (logs : Logs) (g : Graph) (is_true : IsTrue s ways logs g) (whole : IsWhole s ways logs g) where
  abbrev edges : List Edge
  edges = g.edges.items

  abbrev to : ℕ → List ℕ
  to k = targets edges k

  abbrev at : ℕ → List Entry
  at k = log_by_number logs k

  made_at : (edge : Edge) → Contains edges edge → IsMade s ways logs edge
  made_at edge among = All-contains (IsMade s ways logs) edges edge is_true.edges among

  are_edges : AreEdges s ways.signals (all_or_none ways) none_private logs to
  are_edges = record {
    numbers = λ k j lt has. let x = target_has edges k j has in subst (λ (n : ℕ). n < length logs) x.to (made_at x.edge x.among).to;
    made = λ k j lt has.
        let x = target_has edges k j has in
        subst (λ (n : ℕ). IsEdge s ways.signals (all_or_none ways) none_private (at n) (at j)) x.from
        (subst (λ (n : ℕ). IsEdge s ways.signals (all_or_none ways) none_private (at x.edge.from) (at n)) x.to (made_at x.edge x.among).made);
    all = λ k h c lt opened free.
        let along = whole.edges k h c lt opened free in
        record { to = along.edge.to; listed = has_target edges along.edge k along.from along.among; leads = along.along.leads };
  }

  abbrev busy : ℕ → List ℕ
  busy k = busy_targets edges k

  are_busy : AreBusyEdges s ways.signals (all_or_none ways) none_private logs to busy
  are_busy = record {
    numbers = λ k j lt has. let x = (busy_target_has edges k j has).to in subst (λ (n : ℕ). n < length logs) x.to (made_at x.edge x.among).to;
    made = λ k j lt has.
        let x = busy_target_has edges k j has in
        subst (λ (n : ℕ). IsBusyEdge s ways.signals (all_or_none ways) none_private (at n) (at j)) x.to.from
        (subst (λ (n : ℕ). IsBusyEdge s ways.signals (all_or_none ways) none_private (at x.to.edge.from) (at n)) x.to.to ((made_at x.to.edge x.to.among).busy x.busy));
    all = λ k h c lt opened free.
        let along = whole.edges k h c lt opened free in
        record {
          edge = record { to = along.edge.to; listed = has_target edges along.edge k along.from along.among; leads = along.along.leads };
          told = λ some. has_busy_target edges along.edge k along.from (along.along.told.1 some) along.among;
        };
  }

  -- a walk to a place at which a run is over
  reaches : (k : ℕ) → Leads edges g.ended.items k → ReachesEnd s logs to k
  reaches k (LeadsThere among) = There (All-contains (IsEndedAt s logs) g.ended.items k is_true.ended among).over
  reaches k (LeadsAlong edge among from leads) = Along edge.to (has_target edges edge k from among) (reaches edge.to leads)

  module _ (marks : List Bool) (are : AreMarks edges g.ended.items marks) where
    abbrev lost : ℕ → Bool
    lost k = not (slice_index_or marks k false)

    -- a place that isn't marked
    unmarked : (k : ℕ) → lost k ≡ true → IsMarked marks k → ⊥
    unmarked k is marked = let bad : false ≡ true = sym (ap not marked) ∙ is in absurd cc

    lost_where : (k : ℕ) → (IsMarked marks k → ⊥) → lost k ≡ true
    lost_where k never = ap not (not_marked (slice_index_or marks k false) never)

    is_trap : IsTrap s logs to lost
    is_trap = record {
      goes = λ k lt is. goes_or (plain_over (plain_after s (at k))) (λ ends. unmarked k is ((are k).1 (LeadsThere (whole.ended k lt ends))));
      stays = λ k j lt is has.
          let x = target_has edges k j has in
          lost_where j (λ marked. unmarked k is ((are k).1 (LeadsAlong x.edge x.among x.from (subst (Leads edges g.ended.items) (sym x.to) ((are j).0 marked)))));
    }

    module _ (searched : IsSettledSearch s ways.signals (all_or_none ways) none_private logs) (size : length marks ≡ length logs) (some : SomeCanEnd) (traps : TrapsAreHopeless) (each : EachCanEnd) where
      hopeless_at : (k : ℕ) → k < length logs → slice_index_or marks k false ≡ false → IsHopeless s ways.signals (at k)
      hopeless_at k lt is = traps s ways.signals (all_or_none ways) none_private logs to lost k searched are_edges is_trap lt (ap not is)

      told : IsToldOfEach s ways.signals logs marks
      told = record {
        each = size;
        can_end = λ k lt is. some s ways.signals (all_or_none ways) none_private logs to k searched are_edges lt (reaches k ((are k).0 is));
        hopeless = λ k lt is. let here : k < length marks = omega arith in hopeless_at k lt (get_or_default marks k false true here ∙ is);
      }

      counted_zero : (k : ℕ) → count_by not marks ≡ 0 → k < length marks → slice_index_or marks k false ≡ true
      counted_zero k none lt = marked_or (slice_index_or marks k false)
          (λ unmarked.
          let one : ones (not (slice_index_or marks k false)) ≡ 1 = ap (λ (b : Bool). ones (not b)) unmarked in
          let few = get_or-le-sum_by (λ b. ones (not b)) marks k false lt in
          absurd (omega (arith, one, few)))

      first_hopeless : (k : ℕ) → position not marks ≡ Some k → IsHopeless s ways.signals (at k)
      first_hopeless k is =
          let first = position-Some not marks k false is in
          let lt = first.0 in
          let alone : slice_index_or marks k false ≡ false = not_marked (slice_index_or marks k false) (unmarked k first.1) in
          hopeless_at k (omega arith) alone

      hopeless_by : (n : ℕ) (nearest : List Entry) → n ≡ count_by not marks → (n ≢ 0 → IsHopeless s ways.signals nearest) → AreHopeless s ways.signals logs n nearest
      hopeless_by n nearest is first = record {
        counted = record { can = marks; told = told; counted = sym is };
        nearest_is = first;
        hopes = λ none log run spoken.
            each s ways.signals (all_or_none ways) none_private logs to log searched are_edges
            (λ k lt. let here : k < length marks = omega arith in reaches k ((are k).0 (counted_zero k (sym is ∙ none) here))) run spoken;
      }

      -- the first of them, where there is one
      pub hopeless_of : (n : ℕ) (nearest : List Entry) (o : Option ℕ) → n ≡ count_by not marks → position not marks ≡ o → IfSome o (λ k. nearest ≡ at k) → AreHopeless s ways.signals logs n nearest
      hopeless_of n nearest None is none log_is = hopeless_by n nearest is (λ some. absurd (some (is ∙ none_counted marks none)))
      hopeless_of n nearest (Some k) is first log_is = hopeless_by n nearest is (λ some. subst (IsHopeless s ways.signals) (sym log_is) (first_hopeless k first))

-- WHETHER SOME RUN EXECUTES INSTRUCTIONS WITHOUT END

-- the laws of what runs execute, as contracts say them
abbrev pub WorkIsBounded : Type 0
WorkIsBounded =
    (s : Setting) (signals : Signals) (threads : ℕ → Bool) (private : ℕ → ℕ → Bool) (logs : Logs) (edges busy : ℕ → List ℕ) (rank : ℕ → ℕ) → IsSettledSearch s signals threads private logs
    → AreEdges s signals threads private logs edges → AreBusyEdges s signals threads private logs edges busy → AreRanks logs edges busy rank → IsWorkBounded s signals

abbrev pub WorkIsEndless : Type 0
WorkIsEndless =
    (s : Setting) (signals : Signals) (threads : ℕ → Bool) (private : ℕ → ℕ → Bool) (logs : Logs) (edges busy : ℕ → List ℕ) → IsSettledSearch s signals threads private logs
    → AreEdges s signals threads private logs edges → AreBusyEdges s signals threads private logs edges busy → GoesRound logs edges busy → HasLongWork s signals

module _ (s : Setting) (ways : Ways) (logs : Logs) (g : Graph) (is_true : IsTrue s ways logs g) (whole : IsWhole s ways logs g)
    (searched : IsSettledSearch s ways.signals (all_or_none ways) none_private logs) where
  abbrev all_to : ℕ → List ℕ
  all_to = to s ways logs g is_true whole

  abbrev busy_to : ℕ → List ℕ
  busy_to = busy s ways logs g is_true whole

  -- along no edge does the rank of a node rise, and along a busy one it falls
  are_ranks : (ranks : HasRanks g.edges.items) → AreRanks logs all_to busy_to ranks.rank
  are_ranks ranks = record {
    stays = λ k j lt has.
        let x = target_has g.edges.items k j has in
        let falls = All-contains (IsRanked ranks.rank) g.edges.items x.edge ranks.each x.among in
        let from = ap ranks.rank x.from in
        let to = ap ranks.rank x.to in
        omega (arith, falls, from, to);
    falls = λ k j lt has.
        let x = busy_target_has g.edges.items k j has in
        let falls = All-contains (IsRanked ranks.rank) g.edges.items x.to.edge ranks.each x.to.among in
        let one : work_of x.to.edge ≡ 1 = ap (λ (b : Bool). cond b 1 0) x.busy in
        let from = ap ranks.rank x.to.from in
        let to = ap ranks.rank x.to.to in
        omega (arith, falls, one, from, to);
  }

  comes_to : (a k : ℕ) → Leads g.edges.items (a ∷ []) k → ComesTo all_to a k
  comes_to a k (LeadsThere among) = Here (sym (only_one a k among))
  comes_to a k (LeadsAlong edge among from leads) = Further edge.to (has_target g.edges.items edge k from among) (comes_to a edge.to leads)

  goes_round : HasBusyCircle g.edges.items → GoesRound logs all_to busy_to
  goes_round circle = record {
    from = circle.edge.from;
    visited = (made_at s ways logs g is_true whole circle.edge circle.among).from;
    to = circle.edge.to;
    listed = has_busy_target g.edges.items circle.edge circle.edge.from refl circle.busy circle.among;
    back = comes_to circle.edge.from circle.edge.to circle.back;
  }

  pub endless_of : (endless : Bool) → (endless ≡ true → HasBusyCircle g.edges.items) → (endless ≡ false → HasRanks g.edges.items) → WorkIsBounded → WorkIsEndless → IsEndless s ways.signals endless
  endless_of true circle ranked bounded long =
      long s ways.signals (all_or_none ways) none_private logs all_to busy_to searched (are_edges s ways logs g is_true whole) (are_busy s ways logs g is_true whole) (goes_round (circle refl))
  endless_of false circle ranked bounded long =
      let ranks = ranked refl in
      bounded s ways.signals (all_or_none ways) none_private logs all_to busy_to ranks.rank searched (are_edges s ways logs g is_true whole) (are_busy s ways logs g is_true whole) (are_ranks ranks)

-- both places of each edge, and each that is noted as ended, are among those that are counted
pub edges_within : (s : Setting) (ways : Ways) (logs : Logs) (g : Graph) (n : ℕ) (edges : List Edge) → edges ≡ g.edges.items → n ≡ length logs → IsTrue s ways logs g → All (IsWithin n) edges
edges_within s ways logs g n edges are is is_true =
    subst (λ (es : List Edge). All (IsWithin n) es) (sym are)
    (All-weaker (IsMade s ways logs) (IsWithin n) (λ e made. let from = made.from in let to = made.to in record { from = omega arith; to = omega arith }) g.edges.items is_true.edges)

pub ends_within : (s : Setting) (ways : Ways) (logs : Logs) (g : Graph) (n : ℕ) (ends : List ℕ) → ends ≡ g.ended.items → n ≡ length logs → IsTrue s ways logs g → All (λ k. k < n) ends
ends_within s ways logs g n ends are is is_true =
    subst (λ (ks : List ℕ). All (λ k. k < n) ks) (sym are)
    (All-weaker (IsEndedAt s logs) (λ k. k < n) (λ k ended. let lt = ended.visited in omega arith) g.ended.items is_true.ended)
