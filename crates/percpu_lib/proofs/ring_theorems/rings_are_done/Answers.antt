use Rattle.std.proofs.Common.{◌++◌}
use Rattle.block_model.specs.Deciding.{history}
use Rattle.percpu_lib.specs.RingKinds.{ring_form_of}
use Rattle.percpu_lib.proofs.RingLaws.{few_words, ring_comes_to_end, ring_formed}
use Rattle.percpu_lib.proofs.ShareLaw.{outside_before}
use Rattle.percpu_lib.proofs.ring_theorems.rings_are_done.Goals as goal

pub returns : goal.returns
returns c = record {
  few = few_words;
  shared = λ k count s log stretch p at area h t others some few run held can shares runs pc calm many.
      ring_comes_to_end count some few p k s at area h t log stretch run held can
      (outside_before s (ring_form_of k count p) at area t (ring_formed k count few p)
      (history s (log ++ stretch)) held others run.allowed shares can)
      runs pc calm many;
  outside = λ k count s log stretch p at area h t some few run held can outside runs pc calm many.
      ring_comes_to_end count some few p k s at area h t log stretch run held can outside runs pc calm many;
}
