-- A machine after an event, with the credits and the generators that follow it.
use Rattle.machine_core.proofs.Common.{vec_capacity, subst, ◌≡◌, ℕ, ◌<◌, List, [], ◌∷◌, ◌++◌, length, refl, sym, ap, ◌∙◌, arith, Bool, true, false, cond, Option, Some, None, is_some, slice_get, set, option_map, option_map_or, InRange, Choice, Entry, Hart, HartState, History, Inside, Parts, Setting, Sight, credit_of, draws, hart_at, seen_if, Generator, generator_in, next_generator, all_chosen, credit_at, has_ended, history, over_at, Plain, plain_after, length-history, followed, generators_after, is_followed, IsTied, IsMachine, generator_at, past_of, seen, setting_of, IsBlockRun, ◌≤◌, lt-leb, same_length, mapped_is}
use Rattle.std.specs.declared.alloc.Global.{Global}
use Rattle.std.specs.declared.vec.Vec.{Vec}
use Rattle.std.proofs.lemmas.List.{length-set}
use Rattle.machine_core.proofs.ChoiceCredits.{IsFollowing, chosen_after, credit_after, generator_after}
use Rattle.machine_core.proofs.Readings.{over_read}
use Rattle.machine_core.proofs.MachineSteps.{IsStep}

-- a run that goes on, with room for one more entry, hasn't ended
pub not_ended : (s : Setting) (before : History) → over_at s before ≡ None → length before < s.limits.steps → has_ended s before ≡ false
unfolding has_ended
not_ended s before goes room = rw (goes, lt-leb s.limits.steps (length before) room) refl

pub machine_goes : (m : Inside) → IsMachine m → m.parts.ended ≡ None → length m.log.items < m.limits.steps → has_ended (setting_of m) (past_of m) ≡ false
machine_goes m machine goes room =
    let long = length-history (setting_of m) m.log.items in
    not_ended (setting_of m) (past_of m) (sym (over_read m machine) ∙ goes) (omega (arith, long, room))

-- a hart differs by its credit alone
credit_alone : (sight : Option Sight) (generators : List Generator) (s : Setting) (p : Plain) (h : ℕ) (c : Choice) (k credit : ℕ)
    → followed sight generators h c k (hart_at s p k credit) ≡ hart_at s p k (followed sight generators h c k (hart_at s p k credit)).credit
credit_alone None generators s p h c k credit = refl
credit_alone (Some seen) generators s p h c k credit = refl

-- nothing is done to what is there, as where nothing was seen of its hart
pub mapped_itself : (o : Option HartState) → o ≡ option_map (λ x. x) o
mapped_itself None = refl
mapped_itself (Some x) = refl

-- parts that are tied stay so, whatever the credits are
pub tied_with : (s : Setting) (p : Plain) (m m' : Parts) (sight : Option Sight) (generators : List Generator) (h : ℕ) (c : Choice) → IsTied s p m
    → ((k : ℕ) → slice_get m'.harts.items k ≡ option_map (followed sight generators h c k) (slice_get m.harts.items k))
    → m'.pages ≡ m.pages → m'.kernel ≡ m.kernel → m'.ended ≡ m.ended → IsTied s p m'
tied_with s p m m' sight generators h c tied harts pages kernel ended = record {
  all_harts = same_length m.harts.items m'.harts.items (λ k. ap is_some (harts k) ∙ mapped_is (followed sight generators h c k) (slice_get m.harts.items k)) ∙ tied.all_harts;
  harts = λ k lt.
      let x : HartState = hart_at s p k (credit_of m.harts.items k) in
      let at : slice_get m'.harts.items k ≡ Some (followed sight generators h c k x) = harts k ∙ ap (option_map (followed sight generators h c k)) (tied.harts k lt) in
      let credit : credit_of m'.harts.items k ≡ (followed sight generators h c k x).credit = ap (λ o. option_map_or (λ (y : HartState). y.credit) o 0) at in
      at ∙ (ap Some (credit_alone sight generators s p h c k (credit_of m.harts.items k)) ∙ ap (λ n. Some (hart_at s p k n)) (sym credit));
  pages = rw pages tied.pages;
  readable = rw pages tied.readable;
  tables = rw kernel tied.tables;
  table = rw kernel tied.table;
  saved = rw kernel tied.saved;
  ended = ended ∙ tied.ended;
}

-- what is known after an event
pub record IsSettled (s : Setting) (seed : ℕ) (log : List Entry) (m : Parts) (words : List Generator) (all : Bool) : Type 0 where
  pub tied : IsTied s (plain_after s log) m
  pub chosen : all ≡ all_chosen s seed (history s log)
  pub credits : (k : ℕ) → k < s.limits.harts → credit_of m.harts.items k ≡ credit_at s seed k (history s log)
  pub generators : all ≡ true → (k : ℕ) → k < s.limits.harts → generator_in words k ≡ generator_at s seed k (history s log)
  pub held : length words ≡ 8

still_eight : (sight : Option Sight) (h : ℕ) (generators : List Generator) → length generators ≡ 8 → length (generators_after sight h generators) ≡ 8
still_eight None h generators eight = eight
still_eight (Some x) h generators eight = go (draws x)
  where
    go : (b : Bool) → length (cond b (set generators h (next_generator (generator_in generators h))) generators) ≡ 8
    go true = length-set generators h (next_generator (generator_in generators h)) ∙ eight
    go false = eight

-- an event is followed by the credits and generators
pub settled_next : (s : Setting) (seed : ℕ) (log : List Entry) (m : Parts) (words : List Generator) (chosen : Bool) (h : Hart) (c : Choice) (e : Entry) (p p' : Parts) (sight : Option Sight)
    → IsSettled s seed log m words chosen → InRange s.limits → has_ended s (history s log) ≡ false → h.0 < s.limits.harts → IsStep (record { setting = s; seed = seed; log = log }) h c e p
    → ((k : ℕ) → credit_of p.harts.items k ≡ credit_of m.harts.items k)
    → sight ≡ seen_if chosen s seed h.0 (history s log)
    → ((k : ℕ) → slice_get p'.harts.items k ≡ option_map (followed sight words h.0 c k) (slice_get p.harts.items k))
    → p'.pages ≡ p.pages → p'.kernel ≡ p.kernel → p'.ended ≡ p.ended
    → IsSettled s seed (log ++ e ∷ []) p' (generators_after sight h.0 words) (is_followed sight words h.0 c)
settled_next s seed log m words chosen h c e p p' sight so_far limits going lt step credits sees harts pages kernel ended =
    let is : IsFollowing s seed log h.0 c e chosen words = record {
      goes = going;
      lt = lt;
      hart = ap (λ (x : Hart). x.0) step.hart;
      choice = step.choice;
      so_far = so_far.chosen;
      generator = so_far.generators;
    } in
    let next : is_followed sight words h.0 c ≡ all_chosen s seed (history s (log ++ e ∷ [])) = rw sees (chosen_after s seed log h.0 c e chosen words is) in
    record {
      tied = tied_with s (plain_after s (log ++ e ∷ [])) p p' sight words h.0 c step.tied harts pages kernel ended;
      chosen = next;
      credits = λ k below.
          let x : HartState = hart_at s (plain_after s (log ++ e ∷ [])) k (credit_of p.harts.items k) in
          let at : slice_get p'.harts.items k ≡ Some (followed sight words h.0 c k x) = harts k ∙ ap (option_map (followed sight words h.0 c k)) (step.tied.harts k below) in
          let shown : x.credit ≡ credit_at s seed k (history s log) = credits k ∙ so_far.credits k below in
          ap (λ o. option_map_or (λ (y : HartState). y.credit) o 0) at
          ∙ rw sees (credit_after s seed log h.0 c e chosen words is k x shown);
      generators = λ followed k below.
          let was : is_followed (seen_if chosen s seed h.0 (history s log)) words h.0 c ≡ true = ap (λ o. is_followed o words h.0 c) (sym sees) ∙ followed in
          rw sees (generator_after s seed log h.0 c e chosen words is (omega (arith, lt, limits.eight_harts, so_far.held)) was k below);
      held = still_eight sight h.0 words so_far.held;
    }

-- what is known of a machine
pub machine_settled : (m : Inside) → IsMachine m → IsSettled (setting_of m) m.seed m.log.items m.parts m.chooser m.chosen
machine_settled m machine = record {
  tied = machine.tied;
  chosen = machine.chosen;
  credits = machine.credits;
  generators = machine.generators;
  held = machine.held;
}

-- a machine with this log, which has room
pub machine_so : (m : Inside) (log : List Entry) → m.log.items ≡ log → IsBlockRun (setting_of m) log → IsSettled (setting_of m) m.seed log m.parts m.chooser m.chosen
    → InRange m.limits → m.limits.steps ≤ vec_capacity m.log → IsMachine m
machine_so m log is run set limits room = record {
  run = rw is run;
  tied = rw is set.tied;
  chosen = rw is set.chosen;
  credits = rw is set.credits;
  generators = rw is set.generators;
  held = set.held;
  limits = limits;
  room = room;
}

-- a machine that made an event is one again, once its entry is appended, and its credits and generators follow
pub machine_next : (m : Inside) (h : Hart) (c : Choice) (e : Entry) (p : Parts) (harts : Vec HartState Global) (log : Vec Entry Global) (words : List Generator) (all : Bool) (sight : Option Sight)
    → IsMachine m → has_ended (setting_of m) (past_of m) ≡ false → h.0 < m.limits.harts → IsStep (seen m) h c e p
    → ((k : ℕ) → credit_of p.harts.items k ≡ credit_of m.parts.harts.items k)
    → sight ≡ seen_if (all_chosen (setting_of m) m.seed (past_of m)) (setting_of m) m.seed h.0 (past_of m)
    → ((k : ℕ) → slice_get harts.items k ≡ option_map (followed sight m.chooser h.0 c k) (slice_get p.harts.items k))
    → words ≡ generators_after sight h.0 m.chooser → all ≡ is_followed sight m.chooser h.0 c → log.items ≡ m.log.items ++ e ∷ [] → vec_capacity m.log ≤ vec_capacity log
    → IsMachine (record m { parts = record p { harts = harts }; log = log; chooser = words; chosen = all })
machine_next m h c e p harts log words all sight machine goes lt step credits sees follows of_words of_all items room =
    let p' : Parts = record p { harts = harts } in
    let saw : sight ≡ seen_if m.chosen (setting_of m) m.seed h.0 (past_of m) = sees ∙ ap (λ b. seen_if b (setting_of m) m.seed h.0 (past_of m)) (sym machine.chosen) in
    let is = settled_next (setting_of m) m.seed m.log.items m.parts m.chooser m.chosen h c e p p' sight (machine_settled m machine) machine.limits goes lt step credits saw follows refl refl refl in
    let set = subst (λ (x : List Generator × Bool). IsSettled (setting_of m) m.seed (m.log.items ++ e ∷ []) p' x.0 x.1) (λ i. (sym of_words i, sym of_all i)) is in
    machine_so _ (m.log.items ++ e ∷ []) items step.run set machine.limits (omega (arith, machine.room, room))
