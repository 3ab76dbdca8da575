-- Calls one after another.
use Rattle.std.proofs.Common.{◌≡◌, ◌<◌, ℕ, Bool, true, false, List, [], ◌∷◌, ◌++◌, ◌||◌, Result, length, refl, ap, ◌∙◌, subst}
use Rattle.cron_writer.proofs.Sending.{both_ways}
use Rattle.std.specs.Prelude.{drop, ⊤}
use Rattle.std.specs.declared.io.Error.{Error}
use Rattle.cron_writer.specs.Watching.{is_failed_write}
use Rattle.cron_writer.specs.Calls.{Call, IsWritten, AreWrites, AreTries, AreTried, AreWritesFlushed, HandsOn, HandsOnFlushed, taken}

-- no write
pub no_write : {W : Type 0} (writes : W → List ℕ → Result ℕ Error → W → Type 0) (w : W) (mark : Bool) → AreWrites writes w mark w mark
no_write writes w mark = ([], (refl, refl))

-- one write of some byte, where no call has failed
pub one_write : {W : Type 0} (writes : W → List ℕ → Result ℕ Error → W → Type 0) (old new : W) (was failed : Bool) (piece : List ℕ)
    (answer : Result ℕ Error) → was ≡ false → 0 < length piece
    → writes old piece answer new → failed ≡ is_failed_write answer piece
    → IsWritten writes (record { piece = piece; answer = answer } ∷ []) old was new failed
one_write writes old new was failed piece answer fresh some call mark = (fresh, some, (new, call, (refl, mark)))

-- writes after writes
pub written_on : {W : Type 0} (writes : W → List ℕ → Result ℕ Error → W → Type 0) (one other : List Call) (old mid new : W) (was mark failed : Bool)
    → IsWritten writes one old was mid mark → IsWritten writes other mid mark new failed → IsWritten writes (one ++ other) old was new failed
written_on writes [] other old mid new was mark failed h k =
    subst (λ w. IsWritten writes other w was new failed) h.0 (subst (λ m. IsWritten writes other mid m new failed) h.1 k)
written_on writes (c ∷ cs) other old mid new was mark failed h k =
    let (fresh, some, (next, call, more)) = h in
    (fresh, some, (next, call, written_on writes cs other next mid new (is_failed_write c.answer c.piece) mark failed more k))

pub writes_on : {W : Type 0} (writes : W → List ℕ → Result ℕ Error → W → Type 0) (old mid new : W) (was mark failed : Bool)
    → AreWrites writes old was mid mark → AreWrites writes mid mark new failed → AreWrites writes old was new failed
writes_on writes old mid new was mark failed (one, h) (other, k) = (one ++ other, written_on writes one other old mid new was mark failed h k)

-- one more try, of what is left
pub tries_on : (text : List ℕ) (calls : List Call) (left : List ℕ) (answer : Result ℕ Error) → AreTries text calls left
    → AreTries text (calls ++ record { piece = left; answer = answer } ∷ []) (drop (taken answer) left)
tries_on text [] left answer h = (h, subst (λ t. drop (taken answer) left ≡ drop (taken answer) t) h refl)
tries_on text (c ∷ cs) left answer h = (h.0, tries_on (drop (taken c.answer) text) cs left answer h.1)

-- one more write of a text
pub tried_on : {W : Type 0} (writes : W → List ℕ → Result ℕ Error → W → Type 0) (old mid new : W) (was mark failed : Bool) (text left next : List ℕ)
    (answer : Result ℕ Error) → next ≡ drop (taken answer) left → AreTried writes old was mid mark text left → mark ≡ false → 0 < length left
    → writes mid left answer new → failed ≡ (mark || is_failed_write answer left) → AreTried writes old was new failed text next
tried_on writes old mid new was mark failed text left next answer is (calls, h) fresh some call marked =
    let last = one_write writes mid new mark failed left answer fresh some call (marked ∙ ap (λ m. m || is_failed_write answer left) fresh) in (
      calls ++ record { piece = left; answer = answer } ∷ [],
      (written_on writes calls _ old mid new was mark failed h.0 last, rw is (tries_on text calls left answer h.1)),
    )

-- what was handed on was written
pub handed_on : {W : Type 0} (writes : W → List ℕ → Result ℕ Error → W → Type 0) (old new : W) (was failed : Bool) (text : List ℕ)
    → HandsOn writes old was new failed text → AreWrites writes old was new failed
handed_on writes old new was failed text (left, h) = (h.0.0, h.0.1.0)

-- nothing is handed on where a call had failed
pub nothing_handed : {W : Type 0} (writes : W → List ℕ → Result ℕ Error → W → Type 0) (w : W) (mark : Bool) (text : List ℕ) → mark ≡ true
    → HandsOn writes w mark w mark text
nothing_handed writes w mark text off = (text, (([], ((refl, refl), refl)), λ fresh. absurd (both_ways mark off fresh)))

-- what was handed on and flushed was written and flushed
pub handed_flushed :
    {W : Type 0} (writes : W → List ℕ → Result ℕ Error → W → Type 0) (flushes : W → Result ⊤ Error → W → Type 0) (old new : W) (was failed : Bool)
    (text : List ℕ) → HandsOnFlushed writes flushes old was new failed text → AreWritesFlushed writes flushes old was new failed
handed_flushed writes flushes old new was failed text (last, mark, h, flushed) = (last, mark, handed_on writes old last was mark text h, flushed)
