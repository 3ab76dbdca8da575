-- Canonical texts that are read back.
use Rattle.std.proofs.Common.{◌≡◌, ◌∙◌, ◌≤◌, ℕ, List, [], ◌∷◌, ap, arith, length, refl, subst, take}
use Rattle.std.proofs.lemmas.Str.{IsUtf8-from_ascii}
use Rattle.std.specs.Str.{IsUtf8}
use Rattle.cron_units.specs.Sets.{Sets}
use Rattle.cron_text.specs.Meaning.{Means}
use Rattle.cron_text.proofs.FilledLemmas.{means_sets}
use Rattle.cron_text.proofs.MeaningLemmas.{means_once}
use Rattle.cron_canonical.specs.Short.{sets_text}
use Rattle.cron_canonical.proofs.ShortMeaning.{short_forms_are_ascii}
use Rattle.cron_c.specs.Buffers.{laid_over}
use Rattle.cron_c.specs.Calls.{Parses}
use Rattle.cron_c.specs.Canonical.{CanonicalIsReadBack}
use Rattle.cron_c.specs.Statuses.{code_of}
use Rattle.cron_c.specs.Structs.{sets_of}
use Rattle.cron_c.specs.declared.schedule.CronSchedule.{CronSchedule}
use Rattle.cron_c.specs.declared.status.Status.{Status}
use Rattle.cron_c.specs.declared.status.Status.TheVariants.{Done, Refused, NotUtf8, Untold}

-- the front of a buffer is what was laid over it, where that fits
front_laid : (bytes room : List ℕ) → length bytes ≤ length room → take (length bytes) (laid_over 0 bytes room) ≡ bytes
unfolding laid_over
front_laid [] [] fits = refl
front_laid [] (x ∷ room) fits = refl
front_laid (b ∷ bytes) [] fits = absurd (omega arith)
front_laid (b ∷ bytes) (x ∷ room) fits = ap (λ (t : List ℕ). b ∷ t) (front_laid bytes room (omega arith))

-- a text that means sets is read into a struct that says them
read_as : (text : List ℕ) (s : Sets) (old new : CronSchedule) (before after : List ℕ) (needed : ℕ) (status : Status) → IsUtf8 text → Means text s
    → Parses text old new before after needed status → (status ≡ Done) × (sets_of new ≡ s)
read_as text s old new before after needed Done utf8 means h = (refl, means_once text (sets_of new) s h.1 means)
read_as text s old new before after needed Refused utf8 means h = absurd (h.2.nothing s means)
read_as text s old new before after needed NotUtf8 utf8 means h = absurd (h.0 utf8)
read_as text s old new before after needed Untold utf8 means h = absurd (h.2.nothing s means)
read_as text s old new before after needed status utf8 means h = absurd h

pub canonical_is_read_back : CanonicalIsReadBack
canonical_is_read_back c room text size old new before after needed number written fits answer =
    let s = sets_of c in
    let told : take size text ≡ sets_text s =
    ap (λ (n : ℕ). take n text) written.2 ∙ (ap (take (length (sets_text s))) written.1
    ∙ front_laid (sets_text s) room (subst (λ (n : ℕ). n ≤ length room) written.2 fits)) in
    let utf8 = IsUtf8-from_ascii (sets_text s) (short_forms_are_ascii s (means_sets (sets_text s) s written.0)) in
    let says = subst (λ (t : List ℕ). Parses t old new before after needed answer.0) told answer.1 in
    let read = read_as (sets_text s) s old new before after needed answer.0 utf8 written.0 says in
    (answer.2 ∙ ap code_of read.0, read.1)
