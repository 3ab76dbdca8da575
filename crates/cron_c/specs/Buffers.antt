-- What is written into a buffer that may be too short. A text is laid over it as far as it fits,
-- and its whole length is returned.
use Rattle.std.specs.Prelude.{◌≡◌, ℕ, zero, suc, ◌+◌, List, [], ◌∷◌, length}
use Rattle.cron_c.specs.declared.buffer.Sink.{Sink}
use Rattle.cron_c.specs.declared.status.Status.{Status}
use Rattle.cron_c.specs.declared.status.Status.TheVariants.{Refused, Untold}

-- a buffer after bytes were laid over it from a place on, as far as they fit
unfoldable pub laid_over : ℕ → List ℕ → List ℕ → List ℕ
laid_over at bytes [] = []
laid_over (suc at) bytes (x ∷ xs) = x ∷ laid_over at bytes xs
laid_over zero [] (x ∷ xs) = x ∷ xs
laid_over zero (b ∷ bs) (x ∷ xs) = b ∷ laid_over zero bs xs

-- a `Sink` takes a text: its length grows by the text's, and what fits of the text is laid over its
-- buffer
pub record Takes (old : Sink) (text : List ℕ) (new : Sink) : Type 0 where
  pub counted : new.length ≡ old.length + length text
  pub laid : new.buffer.now ≡ laid_over old.length text old.buffer.now
  pub lent : new.buffer.ghost_name ≡ old.buffer.ghost_name

-- The message that refuses a text is laid over a buffer, and `size` is its whole length; or it
-- can't be formatted.
abbrev pub TellsRefusal : List ℕ → List ℕ → List ℕ → ℕ → Status → Type 0
TellsRefusal told before after size Refused = (after ≡ laid_over 0 told before) × (size ≡ length told)
TellsRefusal told before after size Untold = size ≡ 0
TellsRefusal told before after size _ = ⊥
