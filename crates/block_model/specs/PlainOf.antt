-- The plain machine's state as it is read by looking back through a log.
use Rattle.std.specs.Prelude.{length}
use Rattle.block_model.specs.Setting.{Setting}
use Rattle.block_model.specs.History.{History, awaits, waiting, byte, file, reservation, kernel, ended, events, ran, requests, restart}
use Rattle.block_model.specs.Plain.{Plain}

-- the plain state that is read out of a history
abbrev pub plain_of : Setting → History → Plain
plain_of s before = record {
  waiting = λ h. waiting h before;
  reserved = λ h. reservation h before;
  requests = λ h. requests h before;
  restart = λ h. restart h before;
  awaits = λ h. awaits h before;
  events = λ h. events h before;
  ran = λ h. ran h before;
  file = λ t. file s t before;
  byte = λ a. byte s before a;
  kernel = kernel s before;
  made = length before;
  ended = ended before;
}
