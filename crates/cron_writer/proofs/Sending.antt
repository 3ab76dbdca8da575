-- A text that is handed on piece by piece.
use Rattle.std.proofs.Common.{◌≡◌, ℕ, Bool, true, false, Option, List, [], ◌++◌, refl, sym, ap, ◌∙◌, append_assoc}
use Rattle.std.specs.Io.KnownBytes.{Appends}
use Rattle.std.proofs.KnownBytes.{Appends-nil, Appends-trans}
use Rattle.cron_writer.specs.Watching.{IsFrontSent, IsSent}

pub both_ways : (b : Bool) → b ≡ true → b ≡ false → ⊥
both_ways b p q = cc

-- a beginning of a text is one of a longer text
pub front_more : (old new : Option (List ℕ)) (text more : List ℕ) → IsFrontSent old new text → IsFrontSent old new (text ++ more)
front_more old new text more f =
    record {
      sent = f.sent;
      kept_back = f.kept_back ++ more;
      cut = ap (λ (t : List ℕ). t ++ more) f.cut ∙ append_assoc f.sent f.kept_back more;
      appended = f.appended;
    }

pub nothing_sent : (c : Option (List ℕ)) (failed : Bool) → IsSent c c failed []
nothing_sent c failed =
    record { front = record { sent = []; kept_back = []; cut = refl; appended = Appends-nil c }; whole = λ _. Appends-nil c }

-- a text is handed on after another
pub sent_on : (origin old new : Option (List ℕ)) (failed : Bool) (before text : List ℕ) → Appends origin old before → IsSent old new failed text
    → IsSent origin new failed (before ++ text)
sent_on origin old new failed before text a s =
    record {
      front = record {
        sent = before ++ s.front.sent;
        kept_back = s.front.kept_back;
        cut = ap (λ (t : List ℕ). before ++ t) s.front.cut ∙ sym (append_assoc before s.front.sent s.front.kept_back);
        appended = Appends-trans origin old new before s.front.sent a s.front.appended;
      };
      whole = λ fresh. Appends-trans origin old new before text a (s.whole fresh);
    }

-- nothing more is handed on once a call has failed
pub sent_off : (origin now : Option (List ℕ)) (failed : Bool) (before text : List ℕ) → failed ≡ true → IsSent origin now failed before
    → IsSent origin now failed (before ++ text)
sent_off origin now failed before text f s =
    record { front = front_more origin now before text s.front; whole = λ fresh. absurd (both_ways failed f fresh) }

-- a text that is a beginning of the whole, where a call has failed
pub sent_part : (origin now : Option (List ℕ)) (failed : Bool) (whole sent rest : List ℕ) → whole ≡ sent ++ rest → failed ≡ true
    → IsSent origin now failed sent → IsSent origin now failed whole
sent_part origin now failed whole sent rest e f s = rw e (sent_off origin now failed sent rest f s)
