-- Where the events of places lead, as more is visited and more edges are found.
use Rattle.std.proofs.Common.{◌≡◌, ◌≢◌, ℕ, ◌+◌, ◌<◌, Bool, List, [], ◌∷◌, ◌++◌, append_assoc, append-nil, length, None, sym, ap, ◌∙◌, subst, arith, All, Contains, length-append}
use Rattle.std.proofs.lemmas.List.Elements.{All-nil, All-push, All-weaker, Contains-append_left}
use Rattle.mach_types.specs.declared.events.Choice.{Choice}
use Rattle.mach_types.specs.declared.events.Entry.{Entry}
use Rattle.block_model.specs.Plain.{plain_over}
unfoldable use Rattle.block_model.specs.Plain.{plain_after}
use Rattle.block_model.specs.Setting.{Setting}
use Rattle.graph_walks.specs.declared.edge.Edge.{Edge}
use Rattle.settled_places.specs.Edges.{IsBusyEdge, IsEdge, log_by_number}
use Rattle.place_search.specs.Graphs.{IsEndedAt, IsMade, IsTrue, IsWithMore, LeadsAlong, LeadsSo}
use Rattle.place_search.specs.Logs.{log_at, logs_of}
use Rattle.place_search.specs.SettlingSteps.{Ways, all_or_none, none_private}
use Rattle.place_search.specs.Visiting.{IsMore}
use Rattle.place_search.specs.declared.graph.Graph.{Graph}
use Rattle.place_search.specs.declared.row.Row.{Row}
use Rattle.place_search.specs.declared.visited.Visited.{Visited}
use Rattle.place_search.proofs.Logs.{logs_length, stays_at}

abbrev Logs : Type 0
Logs = List (List Entry)

-- MORE PLACES

pub number_stays : (rows rows' more : List Row) (k : ℕ) → rows' ≡ rows ++ more → k < length (logs_of rows) → log_by_number (logs_of rows) k ≡ log_by_number (logs_of rows') k
number_stays rows rows' more k is there =
    let size = logs_length rows in
    sym (ap (λ (r : List Row). log_at r k) is ∙ stays_at rows more k (omega arith))

pub below_stays : (rows rows' more : List Row) (k : ℕ) → rows' ≡ rows ++ more → k < length (logs_of rows) → k < length (logs_of rows')
below_stays rows rows' more k is there =
    let size = logs_length rows in
    let size' = logs_length rows' in
    let all : length rows' ≡ length rows + length more = ap (λ (r : List Row). length r) is ∙ length-append rows more in
    omega arith

abbrev pub along_stays : (s : Setting) (ways : Ways) (v v' : Visited) (g g' : Graph) (place : ℕ) (log : List Entry) (h : ℕ) (c : Choice) → IsMore v v' → IsWithMore g g'
    → LeadsAlong s ways (logs_of v.rows.items) g.edges.items place log h c → LeadsAlong s ways (logs_of v'.rows.items) g'.edges.items place log h c
along_stays s ways v v' g g' place log h c more grown along = record {
  edge = along.edge;
  among = subst (λ (es : List Edge). Contains es along.edge) (sym grown.edges) (Contains-append_left g.edges.items grown.more_edges along.edge along.among);
  from = along.from;
  to = below_stays v.rows.items v'.rows.items more.more_rows along.edge.to more.rows along.to;
  along = subst (λ (other : List Entry). LeadsSo s ways along.edge.busy log other h c) (number_stays v.rows.items v'.rows.items more.more_rows along.edge.to more.rows along.to) along.along;
}

-- MORE EDGES

pub same_graph : (g : Graph) → IsWithMore g g
same_graph g = record { more_edges = []; edges = sym (append-nil g.edges.items); more_ended = []; ended = sym (append-nil g.ended.items) }

pub equal_graph : (g g' : Graph) → g' ≡ g → IsWithMore g g'
equal_graph g g' is = subst (λ (x : Graph). IsWithMore g x) (sym is) (same_graph g)

pub more_graph : (a b c : Graph) → IsWithMore a b → IsWithMore b c → IsWithMore a c
more_graph a b c first second = record {
  more_edges = first.more_edges ++ second.more_edges;
  edges = second.edges ∙ ap (λ (es : List Edge). es ++ second.more_edges) first.edges ∙ append_assoc a.edges.items first.more_edges second.more_edges;
  more_ended = first.more_ended ++ second.more_ended;
  ended = second.ended ∙ ap (λ (ks : List ℕ). ks ++ second.more_ended) first.ended ∙ append_assoc a.ended.items first.more_ended second.more_ended;
}

made_stays : (s : Setting) (ways : Ways) (v v' : Visited) (edge : Edge) → IsMore v v' → IsMade s ways (logs_of v.rows.items) edge → IsMade s ways (logs_of v'.rows.items) edge
made_stays s ways v v' edge more made =
    let from = number_stays v.rows.items v'.rows.items more.more_rows edge.from more.rows made.from in
    let to = number_stays v.rows.items v'.rows.items more.more_rows edge.to more.rows made.to in
    record {
      from = below_stays v.rows.items v'.rows.items more.more_rows edge.from more.rows made.from;
      to = below_stays v.rows.items v'.rows.items more.more_rows edge.to more.rows made.to;
      made = subst (λ (l : List Entry). IsEdge s ways.signals (all_or_none ways) none_private l (log_by_number (logs_of v'.rows.items) edge.to)) from
          (subst (λ (l : List Entry). IsEdge s ways.signals (all_or_none ways) none_private (log_by_number (logs_of v.rows.items) edge.from) l) to made.made);
      busy = λ on.
          subst (λ (l : List Entry). IsBusyEdge s ways.signals (all_or_none ways) none_private l (log_by_number (logs_of v'.rows.items) edge.to)) from
          (subst (λ (l : List Entry). IsBusyEdge s ways.signals (all_or_none ways) none_private (log_by_number (logs_of v.rows.items) edge.from) l) to (made.busy on));
    }

ended_stays : (s : Setting) (v v' : Visited) (k : ℕ) → IsMore v v' → IsEndedAt s (logs_of v.rows.items) k → IsEndedAt s (logs_of v'.rows.items) k
ended_stays s v v' k more ended = record {
  visited = below_stays v.rows.items v'.rows.items more.more_rows k more.rows ended.visited;
  over = subst (λ (l : List Entry). plain_over (plain_after s l) ≢ None) (number_stays v.rows.items v'.rows.items more.more_rows k more.rows ended.visited) ended.over;
}

-- as more is visited
pub graph_stays : (s : Setting) (ways : Ways) (v v' : Visited) (g g' : Graph) → IsMore v v' → g' ≡ g → IsTrue s ways (logs_of v.rows.items) g → IsTrue s ways (logs_of v'.rows.items) g'
graph_stays s ways v v' g g' more is true_then =
    subst (IsTrue s ways (logs_of v'.rows.items)) (sym is)
    (record {
      edges = All-weaker (IsMade s ways (logs_of v.rows.items)) (IsMade s ways (logs_of v'.rows.items)) (λ e made. made_stays s ways v v' e more made) g.edges.items true_then.edges;
      ended = All-weaker (IsEndedAt s (logs_of v.rows.items)) (IsEndedAt s (logs_of v'.rows.items)) (λ k ended. ended_stays s v v' k more ended) g.ended.items true_then.ended;
    })

-- as an edge is found
pub edge_added : (s : Setting) (ways : Ways) (logs : Logs) (g g' : Graph) (edge : Edge) → g'.edges.items ≡ g.edges.items ++ edge ∷ [] → g'.ended.items ≡ g.ended.items → IsMade s ways logs edge → IsTrue s ways logs g
    → IsTrue s ways logs g'
edge_added s ways logs g g' edge edges ended made true_then = record {
  edges = subst (All (IsMade s ways logs)) (sym edges) (All-push (IsMade s ways logs) g.edges.items edge true_then.edges made);
  ended = subst (All (IsEndedAt s logs)) (sym ended) true_then.ended;
}

pub edge_more : (g g' : Graph) (edge : Edge) → g'.edges.items ≡ g.edges.items ++ edge ∷ [] → g'.ended.items ≡ g.ended.items → IsWithMore g g'
edge_more g g' edge edges ended = record { more_edges = edge ∷ []; edges = edges; more_ended = []; ended = ended ∙ sym (append-nil g.ended.items) }

-- as a place is found at which a run is over
pub end_added : (s : Setting) (ways : Ways) (logs : Logs) (g g' : Graph) (k : ℕ) → g'.edges.items ≡ g.edges.items → g'.ended.items ≡ g.ended.items ++ k ∷ [] → IsEndedAt s logs k → IsTrue s ways logs g → IsTrue s ways logs g'
end_added s ways logs g g' k edges ended over true_then = record {
  edges = subst (All (IsMade s ways logs)) (sym edges) true_then.edges;
  ended = subst (All (IsEndedAt s logs)) (sym ended) (All-push (IsEndedAt s logs) g.ended.items k true_then.ended over);
}

pub end_more : (g g' : Graph) (k : ℕ) → g'.edges.items ≡ g.edges.items → g'.ended.items ≡ g.ended.items ++ k ∷ [] → IsWithMore g g'
end_more g g' k edges ended = record { more_edges = []; edges = edges ∙ sym (append-nil g.edges.items); more_ended = k ∷ []; ended = ended }

-- NO EDGES

pub no_edges : (s : Setting) (ways : Ways) (logs : Logs) (g : Graph) → g.edges.items ≡ [] → g.ended.items ≡ [] → IsTrue s ways logs g
no_edges s ways logs g edges ended = record {
  edges = subst (All (IsMade s ways logs)) (sym edges) (All-nil (IsMade s ways logs));
  ended = subst (All (IsEndedAt s logs)) (sym ended) (All-nil (IsEndedAt s logs));
}

-- as memory is short
pub same_items : (g g' : Graph) → g'.edges.items ≡ g.edges.items → g'.ended.items ≡ g.ended.items → IsWithMore g g'
same_items g g' edges ended = record { more_edges = []; edges = edges ∙ sym (append-nil g.edges.items); more_ended = []; ended = ended ∙ sym (append-nil g.ended.items) }

pub same_true : (s : Setting) (ways : Ways) (logs : Logs) (g g' : Graph) → g'.edges.items ≡ g.edges.items → g'.ended.items ≡ g.ended.items → IsTrue s ways logs g → IsTrue s ways logs g'
same_true s ways logs g g' edges ended true_then = record {
  edges = subst (All (IsMade s ways logs)) (sym edges) true_then.edges;
  ended = subst (All (IsEndedAt s logs)) (sym ended) true_then.ended;
}
