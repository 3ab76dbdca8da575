-- Lines that are gathered, and handed on together.
use Rattle.std.proofs.Common.{◌≡◌, ℕ, Bool, true, false, Option, List, [], ◌∷◌, ◌++◌, Result, refl, sym, ap, ◌∙◌, subst, append_assoc, append-nil}
use Rattle.std.proofs.KnownBytes.{Appends-nil}
use Rattle.std.specs.declared.io.Error.{Error}
use Rattle.cron_writer.specs.Calls.{AreGathered, Gathers}
use Rattle.cron_writer.specs.declared.watched.Watched.{Watched}
use Rattle.cron_writer.specs.Watching.{has_failed, IsFrontSent, IsGathered, IsKept, IsSent}
use Rattle.cron_writer.proofs.Sending.{both_ways, front_more, nothing_sent}

pub nothing_gathered : (c : Option (List ℕ)) (failed : Bool) → IsGathered c c failed [] []
nothing_gathered c failed =
    record { front = (nothing_sent c failed).front; rest = λ _. record { sent = []; cut = refl; appended = Appends-nil c } }

-- a line is kept with those that were kept before it
pub kept_on : (origin now : Option (List ℕ)) (failed : Bool) (old were kept text line : List ℕ) → were ≡ old → kept ≡ were ++ line
    → IsGathered origin now failed old text → IsGathered origin now failed kept (text ++ line)
kept_on origin now failed old were kept text line same more g =
    record {
      front = front_more origin now text line g.front;
      rest = λ fresh. record {
        sent = (g.rest fresh).sent;
        cut = ap (λ (t : List ℕ). t ++ line) (g.rest fresh).cut
            ∙ (append_assoc (g.rest fresh).sent old line ∙ ap (λ (t : List ℕ). (g.rest fresh).sent ++ t)
            (sym (more ∙ ap (λ (t : List ℕ). t ++ line) same)));
        appended = (g.rest fresh).appended;
      };
    }

-- what was sent is gathered, and nothing of it is kept
pub sent_all : (origin now : Option (List ℕ)) (failed : Bool) (kept text : List ℕ) → kept ≡ [] → IsSent origin now failed text
    → IsGathered origin now failed kept text
sent_all origin now failed kept text none s =
    record {
      front = s.front;
      rest = λ fresh. record {
        sent = text;
        cut = sym (ap (λ (t : List ℕ). text ++ t) none ∙ append-nil text);
        appended = s.whole fresh;
      };
    }

-- a text that is a beginning of the whole, where a call has failed
pub gathered_part : (origin now : Option (List ℕ)) (failed : Bool) (kept whole part rest : List ℕ) → whole ≡ part ++ rest → failed ≡ true
    → IsGathered origin now failed kept part → IsGathered origin now failed kept whole
gathered_part origin now failed kept whole part rest e f g =
    rw e (record { front = front_more origin now part rest g.front; rest = λ fresh. absurd (both_ways failed f fresh) })

-- all that was gathered was sent, but what is kept
kept_sent : (origin old : Option (List ℕ)) (kept text : List ℕ) (k : IsKept origin old kept text) → IsSent origin old false k.sent
kept_sent origin old kept text k =
    record { front = record { sent = k.sent; kept_back = []; cut = sym (append-nil k.sent); appended = k.appended }; whole = λ _. k.appended }

-- what was kept is handed on, where no call has failed before
pub rest_sent : (origin old new : Option (List ℕ)) (failed fails : Bool) (handed kept text : List ℕ) → handed ≡ kept
    → IsGathered origin old failed kept text → (failed ≡ true → (new ≡ old) × (fails ≡ true))
    → ((before : List ℕ) → IsSent origin old failed before → IsSent origin new fails (before ++ handed)) → IsSent origin new fails text
rest_sent origin old new true fails handed kept text same g off on =
    record {
      front = subst (λ (c : Option (List ℕ)). IsFrontSent origin c text) (sym (off refl).0) g.front;
      whole = λ fresh. absurd (both_ways fails (off refl).1 fresh);
    }
rest_sent origin old new false fails handed kept text same g off on =
    let sent : List ℕ = (g.rest refl).sent in
    let is_text : sent ++ handed ≡ text = ap (λ (t : List ℕ). sent ++ t) same ∙ sym (g.rest refl).cut in
    subst (λ (t : List ℕ). IsSent origin new fails t) is_text (on sent (kept_sent origin old kept text (g.rest refl)))

-- one more line is gathered
pub gathered_on :
    {W : Type 0} (writes : W → List ℕ → Result ℕ Error → W → Type 0) (lines : List (List ℕ)) (line : List ℕ) (old mid new : Watched W)
    (was held kept : List ℕ) → AreGathered writes lines old mid was held → has_failed mid ≡ false → Gathers writes mid new held kept line
    → AreGathered writes (lines ++ line ∷ []) old new was kept
gathered_on {W} writes [] line old mid new was held kept (same, none) fresh g = (
  ap has_failed (sym same) ∙ fresh,
  (
    new,
    kept,
    subst (λ (w : Watched W). Gathers writes w new was kept line) same
        (subst (λ (h : List ℕ). Gathers writes mid new h kept line) none g),
    (refl, refl),
  ),
)
gathered_on writes (first ∷ lines) line old mid new was held kept (begun, (next, there, one, more)) fresh g =
    (begun, (next, there, one, gathered_on writes lines line next mid new there held kept more fresh g))
