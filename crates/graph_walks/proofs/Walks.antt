-- Marks along edges.
use Rattle.std.proofs.Common.{◌≡◌, ◌⊎◌, ◌<◌, ◌-◌, ◌+◌, ℕ, Bool, true, false, cond, List, length, All, Contains, refl, sym, ap, ◌∙◌, subst, set, inl, inr, arith}
use Rattle.std.proofs.lemmas.Bool.{cases_eq}
use Rattle.std.proofs.lemmas.List.{get_or-set_other}
use Rattle.std.proofs.lemmas.List.Elements.{All-contains}
use Rattle.std.proofs.lemmas.List.Sums.{count_by-le-length}
use Rattle.graph_walks.specs.Walks.{AreClosed, AreLed, IsClosedAt, IsMarked, Leads, count_marks}
use Rattle.graph_walks.specs.Walks.Leads.{There, Along}
use Rattle.graph_walks.specs.declared.edge.Edge.{Edge}

-- the node that an edge leaves is marked, after the one to which it leads
pub led_before : (edges : List Edge) (ends : List ℕ) (marks : List Bool) (edge : Edge) → Contains edges edge → IsMarked marks edge.to → AreLed edges ends marks
    → AreLed edges ends (set marks edge.from true)
led_before edges ends marks edge among there led k is =
    elim (cases_eq k edge.from) [
      | inl same ↦ Along edge among (sym same) (led edge.to there)
      | inr other ↦ led k (sym (get_or-set_other marks edge.from k true false other) ∙ is)
    ]

-- where only ends are marked
pub ends_led : (edges : List Edge) (ends : List ℕ) (marks : List Bool) → ((k : ℕ) → IsMarked marks k → Contains ends k) → AreLed edges ends marks
ends_led edges ends marks only k is = There (only k is)

-- once no edge leads from another node to a marked one, each walk to an end is marked from its beginning on
pub walks_marked : (edges : List Edge) (ends : List ℕ) (marks : List Bool) → All (IsMarked marks) ends → AreClosed edges marks → (k : ℕ) → Leads edges ends k → IsMarked marks k
walks_marked edges ends marks all closed k (There among) = All-contains (IsMarked marks) ends k all among
walks_marked edges ends marks all closed k (Along edge among from leads) =
    subst (IsMarked marks) from (All-contains (IsClosedAt marks) edges edge closed among (walks_marked edges ends marks all closed edge.to leads))

-- a round leaves fewer nodes unmarked, or it is the last
pub fewer_left : (marks marks' : List Bool) (going going' : Bool) → going ≡ true → length marks' ≡ length marks → (going' ≡ true → count_marks marks < count_marks marks') → (going' ≡ false → marks' ≡ marks)
    → length marks' - count_marks marks' + cond going' 1 0 < length marks - count_marks marks + cond going 1 0
fewer_left marks marks' true true on size more same =
    let few = count_by-le-length (λ b. b) marks' in
    let next = more refl in
    omega (arith, few, next)
fewer_left marks marks' true false on size more same =
    let is = ap count_marks (same refl) in
    omega (arith, is)
fewer_left marks marks' false going' on size more same = absurd cc
