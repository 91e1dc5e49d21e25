use Rattle.block_model.proofs.theorems.record_is_sound.Goals as goal
use Rattle.block_model.proofs.Entries.{given_in}
use Rattle.block_model.proofs.Runs.{paged_pages, sound_record}

pub returns : goal.returns
returns c = record {
  ready = λ s log t run. (sound_record s log run.allowed).tables.ready t;
  rising = λ s log run. (sound_record s log run.allowed).tables.threads.rising;
  given = λ s log run. (sound_record s log run.allowed).tables.threads.given;
  fit = λ s log run. given_in s log run.allowed;
  few = λ s log run. (sound_record s log run.allowed).tables.threads.few;
  affinity = λ s log t run some live. (sound_record s log run.allowed).allowed some t live;
  console = λ s log run. (sound_record s log run.allowed).console;
  code = λ s log n laid run. (paged_pages s log laid run.allowed).code n;
  code_stays = λ s log n laid run is. (paged_pages s log laid run.allowed).same n is;
  frames = λ s log laid run. (paged_pages s log laid run.allowed).frames;
}
