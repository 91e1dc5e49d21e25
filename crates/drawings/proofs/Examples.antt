-- Worked examples: how many harts are open, which hart comes next, and how stretches begin and go on. The words of these seeds were
-- computed apart from the definitions.
use Rattle.std.proofs.Common.{◌≡◌, ℕ, zero, suc, [], ◌∷◌, replicate, Option, Some, None, true, false, refl}
use Rattle.std.specs.Option.{option_map}
use Rattle.mach_types.specs.declared.events.Choice.{Choice}
use Rattle.mach_types.specs.declared.events.Choice.TheVariants as asked
use Rattle.mach_types.specs.declared.events.Sight.{Sight}
use Rattle.rand_core.specs.Steps.{stream_of, word_bytes, u32_at}
use Rattle.rand_core.specs.Stream.{fill_bytes}
use Rattle.chooser.proofs.Sights.{idle}
use Rattle.chooser.specs.Generators.{first_generator, next_generator, word}
use Rattle.draw_policies.specs.declared.aims.Aim.TheVariants as means
use Rattle.draw_policies.specs.declared.policies.Policy.{Policy}
use Rattle.draw_policies.specs.declared.policies.Policy.TheVariants as policy
use Rattle.drawings.specs.Drawings.{draw, event_of, kept_after}
use Rattle.drawings.specs.Scenes.{Scene, may_begin}
use Rattle.drawings.specs.Starts.{start}
use Rattle.drawings.specs.declared.drawing.Drawing.{Drawing}
use Rattle.drawings.specs.declared.drawing.DrawnEvent.{DrawnEvent}

-- a hart whose thread may execute an instruction that touches registers alone
abbrev running : Sight
running = record idle { idle = false; exec_enabled = true; local = true }

-- one that must wait for its own store, and one that must wait for those of others
abbrev held_up : Sight
held_up = record running { stores = 1; exec_enabled = false; local = false }

abbrev held_up_by_others : Sight
held_up_by_others = record held_up { stores = 0 }

-- hart 0 is seen so, and hart 1 so
abbrev seen_of : Sight → Sight → ℕ → Sight
seen_of first second zero = first
seen_of first second (suc h) = second

-- two harts of which this is seen, with threads 1 and 2 ready that may run on both
abbrev two_harts : Sight → Sight → Scene
two_harts first second = record {
  harts = 2;
  sight = seen_of first second;
  is_inside = λ h. false;
  traps = λ h. false;
  scheduling = record { order = 1 ∷ 2 ∷ []; affinities = (1, 3) ∷ (2, 3) ∷ [] };
}

abbrev starting : Policy → ℕ → Drawing
starting p seed = start p 2 seed 100

abbrev next : Scene → Drawing → Option DrawnEvent
next scene d = option_map event_of (draw scene d)

abbrev event : ℕ → Choice → Option DrawnEvent
event h c = Some (record { hart = record { 0 = h }; choice = c })

abbrev runs : ℕ → Choice
runs t = asked.Run (record { 0 = t })

-- a thread of harts 0 and 2 begins on those that are open, and one of hart 2 alone begins there anyway
pub open_hart : may_begin 2 0 5 ≡ true
open_hart = refl

pub closed_hart : may_begin 2 2 5 ≡ false
closed_hart = refl

pub closed_hart_of_its_own : may_begin 2 2 4 ≡ true
closed_hart_of_its_own = refl

-- of seed 1 the second word is 965 modulo 1,000, and its place is 1 of two harts, 0 of two threads and 3 of four stays. By it a stretch
-- of which 970 of 1,000 words say that it goes on does so, and its hart runs a thread
abbrev third_stay : ℕ → Drawing
third_stay seed = record (starting policy.Stretch seed) { stretch = 2 }

pub stretch_goes_on : next (two_harts idle idle) (third_stay 1) ≡ event 0 (runs 1)
unfolding draw first_generator word next_generator fill_bytes stream_of word_bytes u32_at
stretch_goes_on = refl

-- the first stretch ends at once: the next one is hart 1's, and has the last of the four stays
pub stretch_begins : next (two_harts idle idle) (starting policy.Stretch 1) ≡ event 1 (runs 1)
unfolding draw first_generator word next_generator fill_bytes stream_of word_bytes u32_at
stretch_begins = refl

abbrev after_one : Scene → Drawing → Drawing
after_one scene d = kept_after (draw scene d) d

pub stretch_has_an_owner : (after_one (two_harts idle idle) (starting policy.Stretch 1)).owner ≡ record { 0 = 1 }
unfolding draw first_generator word next_generator fill_bytes stream_of word_bytes u32_at
stretch_has_an_owner = refl

pub stretch_has_a_stay : (after_one (two_harts idle idle) (starting policy.Stretch 1)).stretch ≡ 3
unfolding draw first_generator word next_generator fill_bytes stream_of word_bytes u32_at
stretch_has_a_stay = refl

-- `spread` draws the hart by each word. The policy `one` needs no word for its harts, so it takes the first: place 1 of two threads
pub spread_draws_the_hart : next (two_harts idle idle) (starting policy.Spread 1) ≡ event 1 (runs 1)
unfolding draw first_generator word next_generator fill_bytes stream_of word_bytes u32_at
spread_draws_the_hart = refl

pub one_opens_hart_0 : next (two_harts idle idle) (starting policy.One 1) ≡ event 0 (runs 2)
unfolding draw first_generator word next_generator fill_bytes stream_of word_bytes u32_at
one_opens_hart_0 = refl

-- a hart that is held up by the stores of others can't act, so the other does
pub held_up_hart_stands : next (two_harts held_up_by_others running) (third_stay 1) ≡ event 1 asked.Exec
unfolding draw first_generator word next_generator fill_bytes stream_of word_bytes u32_at
held_up_hart_stands = refl

-- the stretch is still hart 0's, so that goes on as soon as it can. In the fair end, where a hart goes on by 969 of 1,000 words, the
-- stretch is hart 1's from then on
pub stretch_outlasts_it : (after_one (two_harts held_up_by_others running) (third_stay 1)).owner ≡ record { 0 = 0 }
unfolding draw first_generator word next_generator fill_bytes stream_of word_bytes u32_at
stretch_outlasts_it = refl

pub stay_outlasts_it : (after_one (two_harts held_up_by_others running) (third_stay 1)).stretch ≡ 2
unfolding draw first_generator word next_generator fill_bytes stream_of word_bytes u32_at
stay_outlasts_it = refl

pub fair_stretch_does_not : (after_one (two_harts held_up_by_others running) (start policy.Stretch 2 1 0)).owner ≡ record { 0 = 1 }
unfolding draw first_generator word next_generator fill_bytes stream_of word_bytes u32_at
fair_stretch_does_not = refl

pub none_can_act : next (two_harts held_up_by_others held_up_by_others) (third_stay 1) ≡ None
unfolding draw first_generator word next_generator fill_bytes stream_of word_bytes u32_at
none_can_act = refl

-- on credit hart 0 goes on without a word. Inside a sequence it doesn't, and by the word of `spread` hart 1 acts
abbrev on_credit : Drawing
on_credit = record (starting policy.Spread 1) { last = record { 0 = 0 }; credit = 2 }

pub credit_is_used : next (two_harts running running) on_credit ≡ event 0 asked.Exec
unfolding draw
credit_is_used = refl

pub not_in_a_sequence : next (record (two_harts running running) { is_inside = λ h. true }) on_credit ≡ event 1 asked.Exec
unfolding draw first_generator word next_generator fill_bytes stream_of word_bytes u32_at
not_in_a_sequence = refl

-- where it means to let a signal be delivered, and one can be, that comes before its credit: by the word its stretch goes on
abbrev signalled : Sight
signalled = record running { deliverable = true }

abbrev owing : Drawing
owing = record (third_stay 1) { credit = 2; aims = Some means.Signal ∷ replicate 7 None }

pub signal_comes_before_credit : next (two_harts signalled running) owing ≡ event 0 asked.Signal
unfolding draw first_generator word next_generator fill_bytes stream_of word_bytes u32_at
signal_comes_before_credit = refl

pub store_comes_before_signal : next (two_harts (record signalled { stores = 1 }) running) owing ≡ event 0 asked.Drain
unfolding draw first_generator word next_generator fill_bytes stream_of word_bytes u32_at
store_comes_before_signal = refl

-- where none can be delivered right behind the event, none is meant any more once another hart acts
abbrev not_owing : Drawing
not_owing = record (starting policy.Spread 1) { aims = Some means.Signal ∷ replicate 7 None }

pub aim_is_settled : (kept_after (draw (two_harts running running) not_owing) not_owing).aims
    ≡ None ∷ Some means.Signal ∷ replicate 6 None
unfolding draw first_generator word next_generator fill_bytes stream_of word_bytes u32_at
aim_is_settled = refl

-- by the rule both harts are open, the last hart goes on where it can and else the first that can, and no word is drawn
abbrev by_rule : Drawing
by_rule = starting policy.Rule 1

pub rule_begins_at_hart_0 : next (two_harts idle idle) by_rule ≡ event 0 (runs 1)
unfolding draw
rule_begins_at_hart_0 = refl

pub rule_goes_on : next (two_harts running running) (record by_rule { last = record { 0 = 1 }; owner = record { 0 = 1 } }) ≡ event 1 asked.Exec
unfolding draw
rule_goes_on = refl

pub rule_takes_the_first : next (two_harts running held_up_by_others) (record by_rule { last = record { 0 = 1 }; owner = record { 0 = 1 } })
    ≡ event 0 asked.Exec
unfolding draw
rule_takes_the_first = refl

pub rule_draws_no_word : (kept_after (draw (two_harts running running) by_rule) by_rule).generator ≡ by_rule.generator
unfolding draw
rule_draws_no_word = refl

-- of seed 2 the second word is 248 modulo 1,000: the fair end begins with the stretch under way, whichever stay that had
pub fair_end_has_one_stay : next (two_harts idle idle) (start policy.Stall 2 2 0) ≡ event 0 (runs 1)
unfolding draw first_generator word next_generator fill_bytes stream_of word_bytes u32_at
fair_end_has_one_stay = refl
