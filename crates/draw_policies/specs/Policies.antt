-- The policies of drawn runs (own): five that are taken in turn by the seed, the rule, which draws no word, and the fair one by which
-- each run goes on after some time. A policy is a record of weights.
use Rattle.std.specs.Prelude.{ℕ, ◌%◌, ◌==◌, true, false, List, [], ◌∷◌, Option, Some, None, if◌then◌else◌, replicate, codes}
use Rattle.std.specs.Str.{bytes_eq}
use Rattle.draw_policies.specs.declared.policies.Policies.{Policies}
use Rattle.draw_policies.specs.declared.policies.Policies.TheVariants.{All, Only}
use Rattle.draw_policies.specs.declared.policies.Policy.{Policy}
use Rattle.draw_policies.specs.declared.policies.Policy.TheVariants as policy
use Rattle.draw_policies.specs.declared.policies.Weights.{Weights}

-- the five in turn
abbrev pub policy_of_seed : ℕ → Policy
policy_of_seed seed =
    if seed % 5 == 0 then policy.One
    else if seed % 5 == 1 then policy.Stretch
    else if seed % 5 == 2 then policy.Short
    else if seed % 5 == 3 then policy.Stall
    else policy.Spread

-- the policy that draws the run of a seed: that of its turn, or the only one
abbrev pub policy_for : Policies → ℕ → Policy
policy_for All seed = policy_of_seed seed
policy_for (Only p) seed = p

-- the word of a policy
abbrev pub word_of : Policy → List ℕ
word_of policy.One = codes "one"
word_of policy.Stretch = codes "stretch"
word_of policy.Short = codes "short"
word_of policy.Stall = codes "stall"
word_of policy.Spread = codes "spread"
word_of policy.Rule = codes "rule"
word_of policy.Fair = codes "fair"

-- the policies that a word names: all in turn, one of the five, or the rule
abbrev pub policies_of_word : List ℕ → Option Policies
policies_of_word word =
    if bytes_eq word (codes "all") then Some All
    else if bytes_eq word (word_of policy.One) then Some (Only policy.One)
    else if bytes_eq word (word_of policy.Stretch) then Some (Only policy.Stretch)
    else if bytes_eq word (word_of policy.Short) then Some (Only policy.Short)
    else if bytes_eq word (word_of policy.Stall) then Some (Only policy.Stall)
    else if bytes_eq word (word_of policy.Spread) then Some (Only policy.Spread)
    else if bytes_eq word (word_of policy.Rule) then Some (Only policy.Rule)
    else None

-- weights of which three differ by the policy, and the others are those of most: how often a stretch goes on, a thread leaves its hart,
-- and the oldest store of a hart enters memory. All stretches have the same stay
abbrev pub drawn : ℕ → ℕ → ℕ → Weights
drawn stay preempt drain = record {
  stays = replicate 4 stay;
  lasting = false;
  preempt = preempt;
  drain = drain;
  take = 50;
  signal = 50;
  credit = 256;
  alone = false;
  draws = true;
}

-- each stretch has one of four stays, and belongs to its hart until it ends, also while that hart can't act; requests are taken at once
abbrev pub stretched : List ℕ → ℕ → Weights
stretched stays preempt = record (drawn 0 preempt 20) { stays = stays; lasting = true; take = 1000 }

-- how often a policy does what, in thousandths of the words that could let it happen; and whether it draws words. The rule draws none,
-- and the word 0 stands for each: a hart goes on for as long as it can, then the first that can; its requests are taken and its signals
-- delivered at once, and its stores enter memory where the next event needs it
abbrev pub weights_of : Policy → Weights
weights_of policy.One = record (drawn 0 15 250) { take = 20; signal = 20; credit = 0; alone = true }
weights_of policy.Stretch = stretched (0 ∷ 800 ∷ 970 ∷ 997 ∷ []) 30
weights_of policy.Short = drawn 800 10 30
weights_of policy.Stall = stretched (0 ∷ 900 ∷ 990 ∷ 999 ∷ []) 20
weights_of policy.Spread = drawn 0 30 30
weights_of policy.Rule = record (drawn 1000 0 0) { take = 1000; signal = 1000; credit = 0; draws = false }
weights_of policy.Fair = record (drawn 969 8 1000) { take = 1000; signal = 125; credit = 0 }
