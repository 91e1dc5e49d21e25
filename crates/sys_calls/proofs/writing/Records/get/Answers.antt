-- The record as a rule reads it.
use Rattle.sys_calls.proofs.Common.{◌≡◌, ℕ, ◌+◌, ◌*◌, Option, unwrap_or, ap, ◌∙◌, Here, byte_in, memory, number_at, word_at}
use Rattle.sys_calls.proofs.writing.Records.get.Goals as goal

there : (h : Here) (byte : ℕ → Option ℕ) (at size : ℕ) → byte ≡ memory h → unwrap_or (word_at byte at size) 0 ≡ number_at h at size
there h byte at size same = ap (λ (b : ℕ → Option ℕ). unwrap_or (word_at b at size) 0) same

pub returns-clause-at : goal.returns-clause-at
returns-clause-at c = λ h same. c.number_at.ensures ∙ there h (byte_in c.args.pages.now) (c.args.self.at + 16 * c.args.index) 8 same

pub returns-clause-len : goal.returns-clause-len
returns-clause-len c = λ h same. c.number_at-2.ensures ∙ there h (byte_in c.args.pages.now) (c.args.self.at + 16 * c.args.index + 8) 8 same
