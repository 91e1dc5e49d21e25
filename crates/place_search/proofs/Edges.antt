-- An event that reaches no thread that has settled.
use Rattle.std.proofs.Common.{◌≡◌, ℕ, ◌&&◌, Bool, true, false, List, ◌∷◌, [], ◌++◌, Option, map, refl, sym, ap, ◌∙◌, subst}
use Rattle.std.specs.List.{list_all}
use Rattle.mach_types.specs.Kernel.Threads.{running_on}
use Rattle.mach_types.specs.declared.events.Choice.{Choice}
use Rattle.mach_types.specs.declared.events.Entry.{Entry}
use Rattle.mach_types.specs.declared.events.Tid.{Tid}
use Rattle.block_model.specs.Plain.{Plain}
unfoldable use Rattle.block_model.specs.Plain.{plain_after}
use Rattle.block_model.specs.Run.{IsBlockRun}
use Rattle.block_model.specs.Setting.{Setting}
use Rattle.block_model.specs.Tables.{IsTables}
use Rattle.process.specs.Refinement.{IsTied}
use Rattle.process.specs.declared.parts.Parts.{Parts}
use Rattle.same_places.specs.Places.{rested}
use Rattle.same_places.specs.Trying.{IsLonger}
use Rattle.local_steps.specs.Resting.{LeavesAreas}
use Rattle.settled_places.specs.Settling.{settles_of}
use Rattle.settling.specs.Edges.{IsEdge, own_thread}
use Rattle.settling.specs.Looks.{is_kept, look_in}
use Rattle.settling.specs.declared.edges.Look.{Look}
use Rattle.place_search.specs.Searching.{HasSights}
use Rattle.place_search.specs.SettlingSteps.{Ways, all_or_none, none_private}
use Rattle.place_search.specs.Sights.{is_left}
use Rattle.place_search.specs.declared.visiting.Reached.{Reached}
use Rattle.place_search.proofs.Steps.{tables_at}

both : (a b : Bool) → a && b ≡ true → (a ≡ true) × (b ≡ true)
both true true is = (refl, refl)
both true false is = cc
both false b is = cc

abbrev pub EdgesAreLeft : Type 0
EdgesAreLeft =
    (s : Setting) (p : Plain) (h : ℕ) (c : Choice) (before after : Parts) (threads : ℕ → Bool) → IsEdge s p h c before after → LeavesAreas s (λ t. threads t ≡ true) (λ t b. false) p (h, c)

edge : (s : Setting) (from : Reached) (h : ℕ) (c : Choice) (e : Entry) (m : Parts) (own : Option Tid) → IsBlockRun s from.log.items → (sees : HasSights s from) → IsLonger s from.log.items h c e m
    → own ≡ own_thread c (running_on h (plain_after s from.log.items).kernel.threads) → is_left from.sights m own ≡ true → IsEdge s (plain_after s from.log.items) h c sees.parts m
edge s from h c e m own run sees longer own_is left =
    let two = both from.sights.unhandled (list_all (is_kept m own) from.sights.looks.items) left in
    record {
      tied = sees.stands;
      tables = tables_at s from.log.items run;
      next = subst (λ (p : Plain). IsTied s (rested p) m) longer.next longer.stands;
      next_tables = subst (λ (p : Plain). IsTables s.limits.harts p.kernel.threads p.kernel.scheduling) longer.next (tables_at s (from.log.items ++ e ∷ []) longer.run);
      unhandled = sym sees.sights.unhandled ∙ two.0;
      kept = sym (ap (λ (o : Option Tid). list_all (is_kept m o) (map (look_in sees.parts) sees.parts.kernel.areas.items)) own_is)
          ∙ sym (ap (λ (all : List Look). list_all (is_kept m own) all) sees.sights.looks) ∙ two.1;
    }

calm_if : (s : Setting) (settle : Bool) (from : Reached) (h : ℕ) (c : Choice) (e : Entry) (m : Parts) (own : Option Tid) → IsBlockRun s from.log.items → HasSights s from → IsLonger s from.log.items h c e m
    → own ≡ own_thread c (running_on h (plain_after s from.log.items).kernel.threads) → (settle ≡ true → is_left from.sights m own ≡ true) → EdgesAreLeft
    → LeavesAreas s (settles_of (λ t. settle)) none_private (plain_after s from.log.items) (h, c)
calm_if s true from h c e m own run sees longer own_is left law =
    law s (plain_after s from.log.items) h c sees.parts m (λ t. true) (edge s from h c e m own run sees longer own_is (left refl))
calm_if s false from h c e m own run sees longer own_is left law = (
  λ is t signal may at next. let bad : false ≡ true = may in absurd cc,
  λ t area may has other. let bad : false ≡ true = may in absurd cc,
  λ t b may mine other. let bad : false ≡ true = may in absurd cc,
)

pub calm_by : (s : Setting) (ways : Ways) (from : Reached) (h : ℕ) (c : Choice) (e : Entry) (m : Parts) (own : Option Tid) → IsBlockRun s from.log.items → HasSights s from → IsLonger s from.log.items h c e m
    → own ≡ own_thread c (running_on h (plain_after s from.log.items).kernel.threads) → (ways.settle ≡ true → is_left from.sights m own ≡ true) → EdgesAreLeft
    → LeavesAreas s (settles_of (all_or_none ways)) none_private (plain_after s from.log.items) (h, c)
calm_by s ways from h c e m own run sees longer own_is left law = calm_if s ways.settle from h c e m own run sees longer own_is left law
