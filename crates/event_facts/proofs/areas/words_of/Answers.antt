use Rattle.event_facts.specs.declared.areas.AreaWords.{AreaWords}
use Rattle.event_facts.proofs.areas.words_of.Goals as goal

pub returns : goal.returns
returns c = λ h i.
    let x : AreaWords = record {
      cpu_id_start = c.number_of-cpu_id_start.ensures h i;
      cpu_id = c.number_of-cpu_id.ensures h i;
      rseq_cs = c.number_of-rseq_cs.ensures h i;
      flags = c.number_of-flags.ensures h i;
      node_id = c.number_of-node_id.ensures h i;
      mm_cid = c.number_of-mm_cid.ensures h i;
    } in
    x
