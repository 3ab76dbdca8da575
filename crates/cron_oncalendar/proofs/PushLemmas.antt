-- Pieces that are pushed one after another.
use Rattle.std.proofs.Common.{◌≡◌, ℕ, List, [], ◌∷◌, ◌++◌, sym, ap, ◌∙◌, append_assoc, append-nil, Result, Ok, Err, OnOk}
use Rattle.cron_oncalendar.specs.Inner.Written.{Pushes}

pub if_ok : {A E : Type 0} (r : Result A E) (P Q : Type 0) → (P → Q) → OnOk r P → OnOk r Q
if_ok (Ok x) P Q f p = f p
if_ok (Err e) P Q f p = tt

-- a piece, and then more
pub pushed_on : (old mid new p q : List ℕ) → mid ≡ old ++ p → new ≡ mid ++ q → new ≡ old ++ (p ++ q)
pushed_on old mid new p q e f = f ∙ (ap (λ (t : List ℕ). t ++ q) e ∙ append_assoc old p q)

-- three pieces with a byte between each two
pub three_pushed : (P Q R S : List ℕ → Type 0) (byte : ℕ) (old first then second next new : List ℕ)
    → ((p q r : List ℕ) → P p → Q q → R r → S (p ++ byte ∷ (q ++ byte ∷ r))) → Pushes P old first → then ≡ first ++ byte ∷ []
    → Pushes Q then second → next ≡ second ++ byte ∷ [] → Pushes R next new → Pushes S old new
three_pushed P Q R S byte old first then second next new joined a b c d e =
    let rest = c.piece ++ byte ∷ e.piece in
    record {
      piece = a.piece ++ byte ∷ rest;
      pushed = pushed_on old first new a.piece (byte ∷ rest) a.pushed (pushed_on first then new (byte ∷ []) rest b
          (pushed_on then second new c.piece (byte ∷ e.piece) c.pushed (pushed_on second next new (byte ∷ []) e.piece d e.pushed)));
      is = joined a.piece c.piece e.piece a.is c.is e.is;
    }

pub nothing_pushed : (P : List ℕ → Type 0) (old : List ℕ) → P [] → Pushes P old old
nothing_pushed P old p = record { piece = []; pushed = sym (append-nil old); is = p }

pub piece_pushed : (P Q : List ℕ → Type 0) (old new : List ℕ) → ((piece : List ℕ) → P piece → Q piece) → Pushes P old new → Pushes Q old new
piece_pushed P Q old new f h = record { piece = h.piece; pushed = h.pushed; is = f h.piece h.is }
